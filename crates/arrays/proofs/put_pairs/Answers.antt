use Rattle.std.proofs.Common.{rules}
use Rattle.records.specs.Vl.{pairs_in}
use Rattle.arrays.proofs.Made.{made}
use Rattle.arrays.proofs.put_pairs.Goals as goal

pub returns : goal.returns
returns c = (
  made (λ j. (pairs_in c.args.pairs.now j).number) c.from_fn.ensures.items (λ i y f h. search rules),
  made (λ j. (pairs_in c.args.pairs.now j).answer) c.from_fn-2.ensures.items (λ i y f h. search rules),
)
