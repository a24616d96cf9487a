use Rattle.std.proofs.Common.{◌≡◌, Bool}
use Rattle.terms.specs.Choice.{any}
use Rattle.terms.proofs.Scans.{Rest}
use Rattle.records.specs.declared.Read.{Read}
use Rattle.records.specs.Tx.{read_at}
use Rattle.rules.specs.Bodies.{reads_of}
use Rattle.scans.proofs.Body.any_read.Given as goal

abbrev pub invariant-loop-j : goal.invariant-loop-j
invariant-loop-j g l =
    (P : Read → Bool) → ((r : Read) (x : Bool) → goal.F-post g l.fn.passes r x → x ≡ P r) → Rest P (read_at l.self.bytes.now 12) l.j-end (any P (reads_of l.self.bytes.now)) l.j
