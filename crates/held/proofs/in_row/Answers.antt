use Rattle.held.proofs.Found.{told_of}
use lib.ListN.{length}
use mathlib.Core.List.{List}
use Prim.Native.Nat.{ℕ}
use mathlib.Core.Path.{ap}
use Rattle.held.proofs.in_row.Goals as goal

pub returns : goal.returns
returns c = told_of _ _ _ _ (ap (λ (b : List ℕ). length b) c.body_of-body.ensures) c.state_of.ensures
