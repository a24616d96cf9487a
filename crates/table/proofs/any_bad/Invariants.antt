use Prim.Native.Nat.{◌-◌}
use Rattle.terms.specs.Choice.{any, tab}
use Rattle.terms.proofs.Scans.{Rest}
use Rattle.table.specs.Table.{row_at, row_bad}
use Rattle.table.proofs.any_bad.Given as goal

abbrev pub invariant-loop-i : goal.invariant-loop-i
invariant-loop-i l = Rest row_bad (row_at l.t) l.n (any row_bad (tab (row_at l.t) 0 l.n)) l.i

abbrev pub decreases-loop-i : goal.decreases-loop-i
decreases-loop-i l = l.n - l.i
