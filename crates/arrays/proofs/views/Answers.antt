use Rattle.std.proofs.Common.{rules}
use Rattle.arrays.specs.Arrays.{lent_views, lent_ballot}
use Rattle.arrays.proofs.Made.{made}
use Rattle.arrays.proofs.views.Goals as goal

pub returns : goal.returns
unfolding lent_views
returns c = rw (made (lent_ballot c.args.numbers.now c.args.answers.now c.args.views.now) c.from_fn.ensures.items (λ i y f h. search rules))
