use mathlib.Core.Path.{refl}
use Rattle.records.specs.Vl.{pair_at}
use Rattle.records.proofs.pair_at.Goals as goal

pub returns : goal.returns
unfolding pair_at
returns c = refl
