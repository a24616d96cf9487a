-- "Tally": what a sheet is after an answer, and the reply.
use Rattle.std.specs.Prelude.{ℕ, ◌-◌, ◌^◌, Bool, false, ◌&&◌, ◌||◌, ◌≡◌, List, [], ◌∷◌, eqb, leb, Ok, Err}
use Rattle.terms.specs.Choice.{pick, tab, any}
use Rattle.terms.specs.Checks.{Check, passed, or_else, when, if_less, if_same, range, table}
use Rattle.terms.specs.Refusals.{number_of}
use Rattle.terms.specs.Codes.{kind_number}
use Rattle.terms.specs.Group.{boxes, group_wrong}
use Rattle.records.specs.Vl.{view_of}
use Rattle.records.specs.Contents.{code_wrong}
use Rattle.rules.specs.Lists.{for_logging, for_proof, kind_of}
use Rattle.rules.specs.System.{how_many}
use Rattle.terms.specs.declared.Decision.{Decision}
use Rattle.terms.specs.declared.Decision.TheVariants.{Commit as commit, Abort as abort}
use Rattle.terms.specs.declared.Kind.{Kind}
use Rattle.terms.specs.declared.Kind.TheVariants.{Votes as votes, Logs as logs}
use Rattle.sheet.specs.declared.Sheet.{Sheet}
use Rattle.sheet.specs.declared.Reply.{Reply}
use Rattle.sheet.specs.declared.Reply.TheVariants.{Votes, Logs, Repeat, Refused}
use Rattle.sheet.specs.Masks.{has, with_box}

-- what is lacking of the kind's thresholds: "four for votes, and for logs the proof of each decision"; "answers Repeat"; a refusal's number
abbrev pub reply_values : Reply → List ℕ
reply_values (Votes v) = 1 ∷ v.commit_list ∷ v.abort_list ∷ v.commit_proof ∷ v.abort_proof ∷ []
reply_values (Logs v) = 2 ∷ v.commit ∷ v.abort ∷ 0 ∷ 0 ∷ []
reply_values Repeat = 3 ∷ 0 ∷ 0 ∷ 0 ∷ 0 ∷ []
reply_values (Refused r) = 4 ∷ number_of r ∷ 0 ∷ 0 ∷ 0 ∷ []

-- a sheet with no box on it; A5: "a tally sheet of kind 2 is for one view"
abbrev pub empty_sheet : Kind → ℕ → Sheet
empty_sheet k v = record { kind = kind_number k; view = view_of (kind_number k) v; commits = 0; aborts = 0 }

-- box numbers "0 to n − 1"
abbrev pub numbers : ℕ → List ℕ
numbers n = tab (λ b. b) 0 n

-- "a box under both answers"
unfoldable pub twice : Sheet → ℕ → Bool
twice s b = has s.commits b && has s.aborts b

-- 16: "in a lent tally sheet: a kind not 1 or 2, a box n or more, or a box under both answers"
unfoldable pub sheet_damaged : ℕ → Sheet → Check
sheet_damaged f s =
    or_else (if_same s.kind 0 table)
    (or_else (if_less 2 s.kind table)
    (or_else (when (leb (2 ^ boxes f) s.commits) table)
    (or_else (when (leb (2 ^ boxes f) s.aborts) table)
    (when (any (twice s) (numbers (boxes f))) table))))

-- "It checks 14, 16"
unfoldable pub sheet_wrong : ℕ → Sheet → Check
sheet_wrong f s = or_else (group_wrong f) (sheet_damaged f s)

-- "then box n or more (5), then answer not 1 or 2 (8)"
abbrev pub given_wrong : ℕ → ℕ → ℕ → Check
given_wrong f number answer = or_else (when (leb (boxes f) number) range) (code_wrong answer)

unfoldable pub answer_wrong : Sheet → ℕ → ℕ → ℕ → Check
answer_wrong s f number answer = or_else (sheet_wrong f s) (given_wrong f number answer)

-- "A box already on the sheet"
unfoldable pub on : Sheet → ℕ → Bool
on s b = has s.commits b || has s.aborts b

-- "the box joins under its answer and nothing else on the sheet changes"
unfoldable pub joined : Sheet → ℕ → ℕ → Sheet
joined s b answer =
    pick (eqb answer 1)
    (record { kind = s.kind; view = s.view; commits = with_box s.commits b; aborts = s.aborts })
    (record { kind = s.kind; view = s.view; commits = s.commits; aborts = with_box s.aborts b })

-- the boxes under a decision, and how many of the group's they are
abbrev pub under : Decision → Sheet → ℕ
under commit s = s.commits
under abort s = s.aborts

unfoldable pub counted : ℕ → Decision → Sheet → ℕ
counted f d s = how_many (has (under d s)) (boxes f)

-- A1: "The tally tells the same number for each threshold it has not reached"; of one that is reached 0 is lacking
unfoldable pub lacking_by : Kind → ℕ → Sheet → Reply
lacking_by votes f s =
    Votes
    (record {
      commit_list = for_logging f commit - counted f commit s;
      abort_list = for_logging f abort - counted f abort s;
      commit_proof = for_proof f votes commit - counted f commit s;
      abort_proof = for_proof f votes abort - counted f abort s;
    })
lacking_by logs f s =
    Logs (record { commit = for_proof f logs commit - counted f commit s; abort = for_proof f logs abort - counted f abort s })

unfoldable pub lacking_on : ℕ → Sheet → Reply
lacking_on f s = lacking_by (kind_of s.kind) f s

-- "A refusal returns its number only. .. tally .. stay unchanged."; "A box already on the sheet then answers Repeat, sheet unchanged"
unfoldable pub sheet_by : Check → Sheet → ℕ → ℕ → Sheet
sheet_by (Ok _) s number answer = pick (on s number) s (joined s number answer)
sheet_by (Err r) s number answer = s

unfoldable pub sheet_after : Sheet → ℕ → ℕ → ℕ → Sheet
sheet_after s f number answer = sheet_by (answer_wrong s f number answer) s number answer

-- the reply is of the sheet with the answer on it
unfoldable pub reply_by : Check → Sheet → ℕ → ℕ → ℕ → Reply
reply_by (Ok _) s f number answer = pick (on s number) Repeat (lacking_on f (joined s number answer))
reply_by (Err r) s f number answer = Refused r

unfoldable pub reply_to : Sheet → ℕ → ℕ → ℕ → Reply
reply_to s f number answer = reply_by (answer_wrong s f number answer) s f number answer

-- what a sheet has reached as it is, with no answer given: 14, 16, or what is lacking, by the definition that a reply has
unfoldable pub reached_by : Check → Sheet → ℕ → Reply
reached_by (Ok _) s f = lacking_on f s
reached_by (Err r) s f = Refused r

unfoldable pub reached_of : Sheet → ℕ → Reply
reached_of s f = reached_by (sheet_wrong f s) s f

-- the reply to an answer that joins is what the sheet has reached with it
abbrev pub RepliesReached : Type 0
RepliesReached =
    (s : Sheet) (f number answer : ℕ) → answer_wrong s f number answer ≡ passed → on s number ≡ false
    → reply_to s f number answer ≡ reached_of (sheet_after s f number answer) f
