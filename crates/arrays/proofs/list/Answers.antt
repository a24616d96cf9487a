use Rattle.std.proofs.Common.{rules}
use Rattle.arrays.specs.Arrays.{lent_list, lent_pair}
use Rattle.arrays.proofs.Made.{made}
use Rattle.arrays.proofs.list.Goals as goal

pub returns : goal.returns
unfolding lent_list
returns c = rw (made (lent_pair c.args.numbers.now c.args.answers.now) c.from_fn.ensures.items (λ i y f h. search rules))
