use Rattle.table.specs.Table.{entries, entry_at}
use Rattle.rules.specs.Low.{open_up_to}
use Rattle.terms.proofs.Scans.{Rest}
use Rattle.terms.specs.Choice.{any}
use Rattle.low.proofs.any_open.Given as goal

abbrev pub invariant-loop-i : goal.invariant-loop-i
invariant-loop-i l = Rest (open_up_to l.low.0) (entry_at l.t) l.n (any (open_up_to l.low.0) (entries l.t l.n)) l.i
