use Rattle.std.proofs.Common.{rules}
use Rattle.arrays.specs.Arrays.{lent_tx, lent_read, lent_write}
use Rattle.arrays.proofs.Made.{made}
use Rattle.arrays.proofs.tx.Goals as goal

pub returns : goal.returns
unfolding lent_tx
returns c = rw (
  made (lent_read c.args.reads.now c.args.versions.now) c.from_fn.ensures.items (λ i y f h. search rules),
  made (lent_write c.args.writes.now c.args.values.now) c.from_fn-2.ensures.items (λ i y f h. search rules),
)
