use lib.Dec.{lit<}
use lib.Pow.{shl_exact}
use Rattle.sheet.specs.Masks.{with_box}
use Rattle.sheet.proofs.Masks.{room, clear}
use native.Mathlib.Omega.{arith}
use Rattle.sheet.proofs.with_box.Goals as goal

pub overflow_add-result : goal.overflow_add-result
overflow_add-result c = omega (arith, shl_exact {a = 1} 1 c.args.b 32 (lit< tt) (omega arith), room c.args.b 32 c.args.m c.requires.0 c.ranges.m.fits (clear c.args.m c.args.b c.requires.1))

pub returns : goal.returns
unfolding with_box
returns c = omega (arith, shl_exact {a = 1} 1 c.args.b 32 (lit< tt) (omega arith))
