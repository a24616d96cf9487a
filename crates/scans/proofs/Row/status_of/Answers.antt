use mathlib.Core.Path.{sym, ◌∙◌}
use Rattle.scans.proofs.Waiting.{status_commit, status_lacks, status_abort, status_open}
use Rattle.std.proofs.Common.{rules}
use Rattle.scans.proofs.Row.status_of.Goals as goal

pub returns-then-writes_key : goal.returns-then-writes_key
returns-then-writes_key c = status_commit c.args.k.0 c.args.self.bytes.now c.in-1.is (rw (← c.tx.ensures) (sym c.writes_key.ensures ∙ c.if-writes_key.true))

pub returns-else-writes_key : goal.returns-else-writes_key
returns-else-writes_key c = status_lacks c.args.k.0 c.args.self.bytes.now c.in-1.is (rw (← c.tx.ensures) (sym c.writes_key.ensures ∙ c.if-writes_key.false))

pub returns-in-2 : goal.returns-in-2
returns-in-2 c = status_abort c.args.k.0 c.args.self.bytes.now c.in-2.is

pub returns-in_default : goal.returns-in_default
returns-in_default c = status_open c.args.k.0 c.args.self.bytes.now (search rules) (search rules)
