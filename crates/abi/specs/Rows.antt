-- An answer as five numbers: which answer it is, then this paper's number and values for it, then zeros.
use Rattle.std.specs.Prelude.{ℕ, ◌+◌, ◌*◌, ◌≡◌, List, [], ◌∷◌, Ok, Err}
use Rattle.terms.specs.Checks.{Check}
use Rattle.terms.specs.Group.{boxes, commit_list, abort_list, commit_proof, abort_proof, log_proof}
use Rattle.rules.specs.Answers.{answer_values}
use Rattle.rules.specs.declared.Answer.{Answer}
use Rattle.rules.specs.declared.Answer.TheVariants.{Voted, Decided, Logged, Done, Found, Refused, Elected, Raised}
use Rattle.rules.specs.Calls.{Act}
use Rattle.rules.specs.Act.{marks_after}
use Rattle.rules.specs.declared.Told.{Told}
use Rattle.engine.specs.Outcome.{Kept, table_by}
use Rattle.sheet.specs.declared.Sheet.{Sheet}

abbrev pub answer_number : Answer → ℕ
answer_number (Voted v n) = 1
answer_number (Decided d) = 2
answer_number (Logged d v) = 3
answer_number Done = 4
answer_number (Found c u) = 5
answer_number (Refused r) = 6
answer_number (Elected d v l) = 7
answer_number Raised = 8

-- at most four values, zeros behind them
abbrev pub four : List ℕ → List ℕ
four [] = 0 ∷ 0 ∷ 0 ∷ 0 ∷ []
four (a ∷ []) = a ∷ 0 ∷ 0 ∷ 0 ∷ []
four (a ∷ b ∷ []) = a ∷ b ∷ 0 ∷ 0 ∷ []
four (a ∷ b ∷ c ∷ []) = a ∷ b ∷ c ∷ 0 ∷ []
four (a ∷ b ∷ c ∷ d ∷ more) = a ∷ b ∷ c ∷ d ∷ []

abbrev pub answer_row : Answer → List ℕ
answer_row a = answer_number a ∷ four (answer_values a)

-- what a call leaves, as the engine's, the answer as its row
abbrev pub LeavesRow : Act → Kept → List ℕ → Kept → Type 0
LeavesRow a x row y = (row ≡ answer_row a.answer) × (y.table ≡ table_by x.table a.change) × (y.marks ≡ marks_after x.marks a.change)

-- what a box is told, as four numbers
abbrev pub told_of : ℕ → ℕ → ℕ → ℕ → Told
told_of f capacity clock delta = record { f = f; capacity = capacity; clock = clock; delta = delta }

-- the sheet that is lent as a kind and two masks; its view is the caller's, and no answer looks at it
abbrev pub sheet_of : ℕ → ℕ → ℕ → Sheet
sheet_of kind commits aborts = record { kind = kind; view = 0; commits = commits; aborts = aborts }

-- the sheet that is lent with its view
abbrev pub sheet_with : ℕ → ℕ → ℕ → ℕ → Sheet
sheet_with kind view commits aborts = record { kind = kind; view = view; commits = commits; aborts = aborts }

-- the leader's sheet that is lent as a view and two masks
abbrev pub election_sheet : ℕ → ℕ → ℕ → Sheet
election_sheet view commits aborts = record { kind = 2; view = view; commits = commits; aborts = aborts }

-- n and the five thresholds, in the order of the paper's table
abbrev pub group_row : ℕ → List ℕ
group_row f = boxes f ∷ commit_list f ∷ abort_list f ∷ commit_proof f ∷ abort_proof f ∷ log_proof f ∷ []

-- the row lent for them afterwards: a refusal leaves it as it was
unfoldable pub thresholds_by : Check → ℕ → List ℕ → List ℕ
thresholds_by (Ok _) f out = group_row f
thresholds_by (Err r) f out = out

-- a version as one number, which grows with it; and the library's
abbrev pub version_number : ℕ → ℕ → ℕ → ℕ
version_number major minor patch = major * 1000000 + minor * 1000 + patch

abbrev pub version : ℕ
version = version_number 0 7 0
