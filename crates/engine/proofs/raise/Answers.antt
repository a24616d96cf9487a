use Rattle.engine.proofs.Raised.{keep_mark, new_mark}
use native.Mathlib.Omega.{arith}
use Rattle.engine.proofs.raise.Goals as goal

pub returns-then-marks-i : goal.returns-then-marks-i
returns-then-marks-i c = new_mark _ _ _ (omega arith)

pub returns-else-marks-i : goal.returns-else-marks-i
returns-else-marks-i c = keep_mark _ _ _ (omega arith)
