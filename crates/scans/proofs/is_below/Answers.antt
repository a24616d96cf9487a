use borrow.Author.Tests.{eq-eqb, ne_eqb}
use Rattle.scans.specs.Visits.{read_below}
use Rattle.scans.proofs.is_below.Goals as goal

pub returns-then-k-p : goal.returns-then-k-p
unfolding read_below
returns-then-k-p c = rw (eq-eqb c.args.k.0 c.args.p.key.0 c.if-k-p.true)

pub returns-else-k-p : goal.returns-else-k-p
unfolding read_below
returns-else-k-p c = rw (ne_eqb c.args.k.0 c.args.p.key.0 c.if-k-p.false)
