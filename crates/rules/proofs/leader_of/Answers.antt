use Prim.Native.Nat.{◌+◌, ◌%◌}
use native.Mathlib.Omega.{arith}
use Rattle.rules.proofs.Leading.{leader_rest, rest_small}
use Rattle.rules.proofs.leader_of.Goals as goal

pub overflow_add-result : goal.overflow_add-result
overflow_add-result c = omega (arith, rest_small c.args.g.f c.args.stamp.0 c.n-n.result c.n-n.ensures)

pub overflow_cast-result-2 : goal.overflow_cast-result-2
overflow_cast-result-2 c = omega (arith, rest_small c.args.g.f (c.args.view.0 + c.args.stamp.0 % c.n-n.result) c.n-n.result c.n-n.ensures)

pub returns : goal.returns
returns c = rw c.n-n.ensures (leader_rest _ _ _)
