-- Answers that arrive one after another, in any order and with any repeats, and what a sheet counts of them.
use Rattle.std.specs.Prelude.{ℕ, Bool, not, ◌&&◌, ◌≡◌, List, [], ◌∷◌, eqb, is_err}
use Rattle.terms.specs.Choice.{pick}
use Rattle.terms.specs.Checks.{passed}
use Rattle.terms.specs.Group.{boxes, group_wrong}
use Rattle.terms.specs.declared.Decision.{Decision}
use Rattle.terms.specs.declared.Kind.{Kind}
use Rattle.terms.specs.Codes.{decision_number}
use Rattle.rules.specs.System.{how_many}
use Rattle.sheet.specs.declared.Sheet.{Sheet}
use Rattle.sheet.specs.Sheets.{counted, empty_sheet, given_wrong, sheet_after}

pub record Arrival : Type 0 where
  pub number : ℕ
  pub answer : ℕ

-- "takes one answer at a time": the sheet after all of them, the first in front
unfoldable pub sheet_from : Sheet → ℕ → List Arrival → Sheet
sheet_from s f [] = s
sheet_from s f (a ∷ more) = sheet_from (sheet_after s f a.number a.answer) f more

-- an answer that is not refused with 5 or 8
unfoldable pub valid : ℕ → Arrival → Bool
valid f a = not (is_err (given_wrong f a.number a.answer))

-- the first valid answer of box b; 0 where it has given none
unfoldable pub first_of : ℕ → ℕ → List Arrival → ℕ
first_of f b [] = 0
first_of f b (a ∷ more) = pick (valid f a && eqb a.number b) a.answer (first_of f b more)

-- "Counting answers, not boxes" does not happen: a sheet counts for each decision the boxes whose first valid answer was that one
abbrev pub CountsBoxes : Type 0
CountsBoxes =
    (f : ℕ) (k : Kind) (view : ℕ) (more : List Arrival) (d : Decision)
    → group_wrong f ≡ passed
    → counted f d (sheet_from (empty_sheet k view) f more) ≡ how_many (λ b. eqb (first_of f b more) (decision_number d)) (boxes f)
