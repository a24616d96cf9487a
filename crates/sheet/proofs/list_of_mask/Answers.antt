use Rattle.std.proofs.Common.{◌≡◌, arith}
use Rattle.sheet.proofs.Below.{noted_none, noted_yes, noted_no}
use Rattle.sheet.proofs.Listed.{listed_none, listed_yes, listed_no, noted_list}
use Rattle.sheet.proofs.list_of_mask.Goals as goal
use Rattle.sheet.proofs.list_of_mask.Goals.{then-has_box, else-has_box}

pub loop-b-init : goal.loop-b-init
loop-b-init c = noted_none (listed_none _ _)

pub loop-b-preserved : goal.loop-b-preserved
loop-b-preserved c =
    elim c.if-has_box.branch [
      | then-has_box w ↦ rw (w.pairs-is, w.count-is) (noted_yes c.loop-b.invariant _ (omega arith) (listed_yes _ _ _ (cc)))
      | else-has_box w ↦ rw (w.pairs-is, w.count-is) (noted_no c.loop-b.invariant (listed_no _ _ _ (cc)))
    ]

pub returns : goal.returns
returns c = let e : c.loop-b.b ≡ c.args.n = omega arith in rw (← e) (noted_list _ _ _ _ _ _ _ _ c.own_view.ensures c.loop-b.invariant)
