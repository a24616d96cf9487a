use Rattle.std.proofs.Common.{arith, refl}
use Rattle.rules.specs.System.{how_many}
use Rattle.sheet.proofs.Masks.{count_yes, count_no}
use Rattle.sheet.proofs.counted.Goals as goal
use Rattle.sheet.proofs.counted.Goals.{then-has_box, else-has_box}

pub loop-b-init : goal.loop-b-init
unfolding how_many
loop-b-init c = (omega arith, refl)

pub loop-b-preserved : goal.loop-b-preserved
loop-b-preserved c =
    elim c.if-has_box.branch [
      | then-has_box w ↦ (omega arith, rw w.boxes-is (count_yes _ _ _ (cc) (cc)))
      | else-has_box w ↦ (omega arith, rw w.boxes-is (count_no _ _ _ (cc) (cc)))
    ]
