use Rattle.scans.specs.Keys.{with_key}
use lib.Dec.{lit<}
use lib.Pow.{shl_exact}
use Prim.Native.Nat.{◌%◌}
use native.Mathlib.Nat.{one-mul}
use native.Mathlib.Omega.{arith}
use Rattle.scans.proofs.add_key.Goals as goal

pub returns : goal.returns
unfolding with_key
returns c = let k = c.args.k.0 in rw (shl_exact {a = 1} 1 (k % 64) 64 (lit< tt) (omega arith), one-mul)
