-- From a sheet to a list: the boxes under a decision, in rising order.
use Rattle.std.specs.Prelude.{ℕ, zero, suc, ◌-◌, Bool, ◌≡◌, List, [], ◌∷◌, ◌++◌, Result, Ok, Err}
use Rattle.terms.specs.Choice.{pick}
use Rattle.terms.specs.Checks.{Check, passed, or_else}
use Rattle.terms.specs.Group.{boxes}
use Rattle.terms.specs.declared.Decision.{Decision}
use Rattle.terms.specs.declared.Decision.TheVariants.{Commit as commit, Abort as abort}
use Rattle.terms.specs.declared.Kind.{Kind}
use Rattle.terms.specs.declared.Kind.TheVariants.{Votes as votes, Logs as logs}
use Rattle.terms.specs.declared.Refusal.{Refusal}
use Rattle.terms.specs.declared.Refusal.TheVariants.{TooFew}
use Rattle.records.specs.declared.Pair.{Pair}
use Rattle.records.specs.declared.VoteList.{VoteList}
use Rattle.records.specs.Contents.{code_wrong}
use Rattle.records.specs.Vl.{Vl, held_list, no_list, view_of}
use Rattle.terms.specs.Codes.{decision_number}
use Rattle.rules.specs.Lists.{decision_of, for_logging, for_proof, kind_of, lacking}
use Rattle.rules.specs.Calls.{Act, needing, refuse}
use Rattle.sheet.specs.declared.Sheet.{Sheet}
use Rattle.sheet.specs.declared.Reply.{Reply}
use Rattle.sheet.specs.declared.Reply.TheVariants.{Votes, Logs}
use Rattle.sheet.specs.Masks.{has}
use Rattle.sheet.specs.Sheets.{counted, lacking_on, sheet_wrong, under}

-- the boxes below n that pass a test, in rising order, each with this answer
unfoldable pub listed : (ℕ → Bool) → ℕ → ℕ → List Pair
listed p answer zero = []
listed p answer (suc n) = listed p answer n ++ pick (p n) (record { number = n; answer = answer } ∷ []) []

-- "A list names one decision; only entries with that answer are counted": a list of just these; A5: "a list of kind 2 carries its view"
unfoldable pub list_for : ℕ → ℕ → ℕ → ℕ → ℕ → Vl
list_for kind view answer m n = record { kind = kind; decision = answer; view = view_of kind view; pairs = listed (has m) answer n }

-- a sheet that is refused gives no list
unfoldable pub list_by : Check → Sheet → ℕ → Decision → Vl
list_by (Ok _) s f d = list_for s.kind s.view (decision_number d) (under d s) (boxes f)
list_by (Err r) s f d = no_list

unfoldable pub list_from : Sheet → ℕ → Decision → Vl
list_from s f d = list_by (sheet_wrong f s) s f d

-- the same by a decision's number: "14, 16", then "decision .. not 1 or 2" (8)
unfoldable pub listing_wrong : Sheet → ℕ → ℕ → Check
listing_wrong s f decision = or_else (sheet_wrong f s) (code_wrong decision)

unfoldable pub listing_of : Sheet → ℕ → ℕ → Result VoteList Refusal
listing_of s f decision = or_else (listing_wrong s f decision) (Ok (held_list (list_from s f (decision_of decision))))

-- the threshold that a box asks of a list in an LG, and in a DC
unfoldable pub lg_need : ℕ → Vl → ℕ
lg_need f l = for_logging f (decision_of l.decision)

unfoldable pub dc_need : ℕ → Vl → ℕ
dc_need f l = for_proof f (kind_of l.kind) (decision_of l.decision)

-- how many counted answers a list then lacks; 0 where the box does not answer 11
unfoldable pub lg_lacks : ℕ → Vl → ℕ
lg_lacks f l = lacking (lg_need f l) l

unfoldable pub dc_lacks : ℕ → Vl → ℕ
dc_lacks f l = lacking (dc_need f l) l

-- what boxes tell of the lists from a sheet, as a reply
unfoldable pub boxes_tell : Kind → ℕ → Sheet → Reply
boxes_tell votes f s =
    Votes
    (record {
      commit_list = lg_lacks f (list_from s f commit);
      abort_list = lg_lacks f (list_from s f abort);
      commit_proof = dc_lacks f (list_from s f commit);
      abort_proof = dc_lacks f (list_from s f abort);
    })
boxes_tell logs f s = Logs (record { commit = dc_lacks f (list_from s f commit); abort = dc_lacks f (list_from s f abort) })

-- A1: "The tally tells the same number": the reply of a sheet that is in order is what boxes tell of the lists from it
abbrev pub TellsAsBoxes : Type 0
TellsAsBoxes = (s : Sheet) (f : ℕ) → sheet_wrong f s ≡ passed → lacking_on f s ≡ boxes_tell (kind_of s.kind) f s

-- what a box does where so many answers are lacking: with none it goes on to a, else it refuses with 11 and tells how many
unfoldable pub with_lacking : ℕ → Act → Act
with_lacking zero a = a
with_lacking (suc k) a = refuse (TooFew (suc k))

-- the same from the box's side: with the list from a sheet that is in order, in an LG (one of votes) or in a DC, a box goes on where the
-- sheet lacks 0 of that threshold, and refuses with 11 and k where it lacks k
abbrev pub BoxesTellTheSame : Type 0
BoxesTellTheSame =
    (s : Sheet) (f : ℕ) (d : Decision) (a : Act)
    → sheet_wrong f s ≡ passed
    → (needing (lg_need f (list_from s f d)) (list_from s f d) a ≡ with_lacking (for_logging f d - counted f d s) a)
    × (needing (dc_need f (list_from s f d)) (list_from s f d) a ≡ with_lacking (for_proof f (kind_of s.kind) d - counted f d s) a)
