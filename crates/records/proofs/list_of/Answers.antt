use Prim.Native.Nat.{ℕ, ◌+◌}
use mathlib.Core.Path.{refl, ap}
use Rattle.records.proofs.Held.{list_held}
use native.Mathlib.Omega.{arith}
use Rattle.records.proofs.list_of.Goals as goal

pub returns : goal.returns
returns c = (list_held _ _ _ _ _ _ _ refl refl c.view_of.ensures c.wide-count.ensures.0 (ap (λ (n : ℕ). 5 + n) c.view_len.ensures.0) c.pairs_of.ensures, omega arith)
