-- A6, "Planners sizing a box want a figure": which PRs carry a number, and that it "is never above 33 × (H + 1)".
use Rattle.std.specs.Prelude.{ℕ, ◌+◌, ◌*◌, ◌≤◌, Bool, true, false, ◌≡◌, List, T, length}
use Rattle.std.proofs.Math.Option.{some}
use Rattle.records.specs.declared.Mark.TheVariants.{PR}
use Rattle.std.specs.Prelude.{Ok}
use Rattle.records.specs.Cutting.{tx_part}
use Rattle.rules.specs.Answers.{Answer, Decided, Done, Elected, Found, Logged, Raised, Refused, Settled, Visited, Vote, Voted}
use Rattle.rules.specs.Answers.{settled, unsettled, unvisited, unvoted, visited, vote_abort, vote_commit, waiting}
use Rattle.rules.specs.Bodies.{stamp_of}
use Rattle.rules.specs.Table.{Box, Entry, Told, find}
use Rattle.rules.specs.Act.{EntryPoint, act, mark_by}

-- the number that an answer carries
unfoldable pub number_in : Answer → Visited
number_in (Voted v n) = n
number_in (Decided d) = unvisited
number_in (Logged d v) = unvisited
number_in (Elected d v l) = unvisited
number_in Done = unvisited
number_in Raised = unvisited
number_in (Found c u) = unvisited
number_in (Refused r) = unvisited

-- "33 × (H + 1)", "With H entries held"
abbrev pub figure_of : List Entry → ℕ
figure_of t = 33 * (length t + 1)

-- "already decided or voted on": a commit or an abort; a waiting vote is asked again
unfoldable pub answered : Settled → Vote → Bool
answered (settled d) v = true
answered unsettled vote_commit = true
answered unsettled (vote_abort r) = true
answered unsettled waiting = false
answered unsettled unvoted = false

-- a message that is taken for a PR, by its own mark or since a PR is due: any bytes, any numbers beside them, any table
module _ (told : Told) (x : Box) (p : EntryPoint) (m : List ℕ) where
  abbrev pub IsPR : Type 0
  IsPR = mark_by p m ≡ Ok PR

  abbrev pub said : Answer
  said = (act p told x m).answer

  -- its stamp is held, decided or voted on
  pub record Already : Type 0 where
    pub entry : Entry
    pub at : find (stamp_of (tx_part m)) x.table ≡ some entry
    pub already : T (answered entry.decided entry.vote)

  pub record Figure : Type 0 where
    -- "never above" it
    pub never_above : (n : ℕ) → number_in said ≡ visited n → n ≤ figure_of x.table
    -- "an answer for an entry already decided or voted on" carries no number
    pub none_again : Already → number_in said ≡ unvisited
    -- and every other vote carries one
    pub every_other : (v : Vote) → said ≡ Voted v unvisited → Already

-- the claim
abbrev pub Figures : Type 0
Figures = (told : Told) (x : Box) (p : EntryPoint) (m : List ℕ) → IsPR told x p m → Figure told x p m
