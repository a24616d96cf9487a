use Rattle.std.proofs.Common.{◌-◌}
use Rattle.terms.specs.Choice.{any, tab}
use Rattle.terms.proofs.Scans.{Rest}
use Rattle.table.specs.Table.{row_at, row_bad}
use Rattle.table.proofs.bad_from.Given as goal

abbrev pub invariant-loop-i : goal.invariant-loop-i
invariant-loop-i l = Rest row_bad (row_at l.t) l.n (any row_bad (tab (row_at l.t) l.from (l.n - l.from))) l.i
