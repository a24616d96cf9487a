use native.Mathlib.Nat.{one-mul}
use lib.Dec.{lit<}
use lib.Pow.{shl_exact}
use native.Mathlib.Omega.{arith}
use Rattle.sheet.proofs.mask_wide.Goals as goal

pub returns : goal.returns
returns c = rw (shl_exact {a = 1} 1 c.args.n 32 (lit< tt) (omega arith), one-mul)
