use Rattle.sheet.specs.Masks.{has}
use mathlib.Core.Path.{refl}
use Rattle.sheet.proofs.has_box.Goals as goal

pub returns : goal.returns
unfolding has
returns c = refl
