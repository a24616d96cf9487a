-- The entry point where a certain mark is due: what stands in the mark's place where none of the six is due matters nowhere.
use Rattle.std.specs.Prelude.{ℕ, List, Result, Ok, Err, ◌≡◌, refl}
use Rattle.records.specs.declared.Mark.{Mark}
use Rattle.terms.specs.declared.Refusal.{Refusal}
use Rattle.rules.specs.declared.Told.{Told}
use Rattle.rules.specs.Calls.{Act}
use Rattle.rules.specs.Act.{due, due_mark, mark_by, act_by}
use Rattle.engine.specs.Outcome.{Kept, called}

-- a mark that is due is the mark that is due
pub due_again : {E : Type 0} (k : Result Mark E) → due_mark (due_mark k) ≡ due_mark k
unfolding due_mark
due_again (Ok k) = refl
due_again (Err r) = refl

-- so a refusal in its place is the 2 that it is told as
pub due_told : (k : Result Mark Refusal) (told : Told) (x : Kept) (m : List ℕ) → called (due (due_mark k)) told x m ≡ called (due k) told x m
unfolding called act_by mark_by
due_told k told x m = rw (due_again k) refl
