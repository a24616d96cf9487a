use mathlib.Core.Path.{◌≡◌}
use lib.ListN.{length}
use Prim.Native.Nat.{◌+◌, ◌*◌}
use Rattle.records.specs.Numbers.{num_at}
use Rattle.scans.specs.Keys.{lacks}
use Rattle.scans.proofs.Skipping.{NoneYet}
use Rattle.scans.proofs.add_keys.Given as goal

abbrev pub invariant-loop-j : goal.invariant-loop-j
invariant-loop-j l = (length l.keys ≡ 8) × NoneYet (lacks l.keys) (λ i. num_at 2 (l.p + i * 10) l.s) l.n l.j
