use Rattle.std.proofs.Common.{◌≡◌, Bool}
use Rattle.terms.specs.Choice.{any}
use Rattle.rules.specs.Table.{Entry}
use Rattle.rules.specs.Visits.{through}
use Rattle.table.specs.Table.{entries, entry_at, entry_of}
use Rattle.scans.specs.declared.Row.{Row}
use Rattle.scans.proofs.Visits.{Pass}
use Rattle.scans.proofs.Rows.up_to.Given as goal

abbrev pub invariant-loop-i : goal.invariant-loop-i
invariant-loop-i g l =
    (P : Entry → Bool) → ((e : Row) (x : Bool) → goal.F-post g l.fn.passes e x → x ≡ P (entry_of e.bytes.now))
    → Pass P (entry_at l.self.bytes.now) l.self.n (any P (entries l.self.bytes.now l.self.n)) (through P (entries l.self.bytes.now l.self.n)) l.i
