use Rattle.std.proofs.Common.{◌≡◌, ◌+◌, ◌≤◌, count_by, drop}
use lib.Dec.{leb}
use Rattle.steps.proofs.reach.Given as goal

abbrev pub invariant-loop-b : goal.invariant-loop-b
invariant-loop-b l = (l.found ≤ l.b-index) × (l.found + count_by (λ b. leb l.v.0 b.view.0) (drop l.b-index l.listed) ≡ count_by (λ b. leb l.v.0 b.view.0) l.listed)
