use Rattle.std.proofs.Common.{◌+◌, ◌-◌}
use Rattle.terms.specs.Choice.{tab}
use Rattle.table.specs.Table.{entry_at, place}
use Rattle.table.proofs.Looking.{Seek}
use Rattle.table.proofs.place_from.Given as goal

abbrev pub invariant-loop-i : goal.invariant-loop-i
invariant-loop-i l = Seek l.s.0 (entry_at l.t) l.n (l.from + place l.s.0 (tab (entry_at l.t) l.from (l.n - l.from))) l.i
