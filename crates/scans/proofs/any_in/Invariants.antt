use Prim.Native.Nat.{◌+◌, ◌*◌}
use Rattle.terms.specs.Choice.{any}
use Rattle.terms.proofs.Scans.{Rest}
use Rattle.records.specs.Numbers.{num_at}
use Rattle.scans.specs.Keys.{in_keys, keys_at}
use Rattle.scans.proofs.any_in.Given as goal

abbrev pub invariant-loop-j : goal.invariant-loop-j
invariant-loop-j l = Rest (in_keys l.keys) (λ i. num_at 2 (l.p + i * 10) l.s) l.n (any (in_keys l.keys) (keys_at l.s l.p l.n)) l.j
