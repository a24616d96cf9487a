use Rattle.std.proofs.Common.{refl, arith}
use Rattle.low.proofs.Moving.{copied_moved, copy_more, copy_none, moved_same}
use Rattle.low.proofs.move_row.Goals as goal

pub returns-then-free-i : goal.returns-then-free-i
returns-then-free-i c = moved_same c.args.t.now c.args.i c.args.free c.if-free-i.true

pub loop-j-init : goal.loop-j-init
loop-j-init c = copy_none (omega arith) (omega arith)

pub loop-j-preserved : goal.loop-j-preserved
loop-j-preserved c = copy_more c.loop-j.invariant (omega arith)

pub returns : goal.returns
returns c = copied_moved c.loop-j.invariant c.args.i c.args.free (omega arith) refl refl
