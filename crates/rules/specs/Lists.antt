-- "Group and thresholds": which of the five thresholds is due, and the lists that meet it.
use Rattle.std.specs.Prelude.{ℕ, ◌+◌, ◌-◌, ◌≤◌, ◌≡◌, Bool, true, false, List, [], ◌∷◌, eqb, leb}
use Rattle.terms.specs.Choice.{pick}
use Rattle.terms.specs.Group.{commit_list, abort_list, commit_proof, abort_proof, log_proof}
use Rattle.records.specs.declared.Pair.{Pair}
use Rattle.records.specs.Vl.{Vl}
use Rattle.rules.specs.Answers.{Decision, Kind, abort, commit, logs, votes}

-- "kind (1 votes, 2 logs)"; other codes are refused with 8 before this is asked
unfoldable pub kind_of : ℕ → Kind
kind_of n = pick (eqb n 1) votes logs

-- "decision (1 commit, 2 abort)"; likewise
unfoldable pub decision_of : ℕ → Decision
decision_of n = pick (eqb n 1) commit abort

-- "commit list for logging: 3f + 1 commit votes"; "abort list for logging: f + 1 abort votes"
abbrev pub for_logging : ℕ → Decision → ℕ
for_logging f commit = commit_list f
for_logging f abort = abort_list f

-- "commit proof from votes: 5f + 1 commit votes"; "abort proof from votes: 3f + 1"; "proof from logs: 4f + 1 equal logged decisions"
abbrev pub for_proof : ℕ → Kind → Decision → ℕ
for_proof f votes commit = commit_proof f
for_proof f votes abort = abort_proof f
for_proof f logs commit = log_proof f
for_proof f logs abort = log_proof f

-- a test as a count
unfoldable pub bit : Bool → ℕ
bit true = 1
bit false = 0

-- how many pairs have this answer
unfoldable pub tally : ℕ → List Pair → ℕ
tally d [] = 0
tally d (p ∷ ps) = bit (eqb p.answer d) + tally d ps

-- "A list names one decision; only entries with that answer are counted"
unfoldable pub meets : ℕ → Vl → Bool
meets need l = leb need (tally l.decision l.pairs)

-- A1: "how many counted answers are lacking"
unfoldable pub lacking : ℕ → Vl → ℕ
lacking need l = need - tally l.decision l.pairs

-- "from 1 up to the threshold", where a list misses it; and 0 where it is met
abbrev pub LacksSome : Type 0
LacksSome = (need : ℕ) (l : Vl) → meets need l ≡ false → (1 ≤ lacking need l) × (lacking need l ≤ need)

abbrev pub LacksNone : Type 0
LacksNone = (need : ℕ) (l : Vl) → meets need l ≡ true → lacking need l ≡ 0
