use Rattle.std.proofs.Common.{rules}
use Rattle.records.specs.Views.{ballots_in}
use Rattle.arrays.proofs.Made.{made}
use Rattle.arrays.proofs.put_ballots.Goals as goal

pub returns : goal.returns
returns c = (
  made (λ j. (ballots_in c.args.ballots.now j).number) c.from_fn.ensures.items (λ i y f h. search rules),
  made (λ j. (ballots_in c.args.ballots.now j).answer) c.from_fn-2.ensures.items (λ i y f h. search rules),
  made (λ j. (ballots_in c.args.ballots.now j).view.0) c.from_fn-3.ensures.items (λ i y f h. search rules),
)
