use Rattle.std.proofs.Common.{◌≡◌, arith}
use Rattle.terms.specs.Group.{boxes}
use Rattle.sheet.proofs.Below.{noted_none, noted_yes, noted_no}
use Rattle.election.proofs.Heights.{told_none, told_yes, told_no, told_held}
use Rattle.election.proofs.list_told.Goals as goal
use Rattle.election.proofs.list_told.Goals.{then-has_box, else-has_box}

pub loop-b-init : goal.loop-b-init
loop-b-init c = noted_none (told_none _ _)

pub loop-b-preserved : goal.loop-b-preserved
loop-b-preserved c =
    elim c.if-has_box.branch [
      | then-has_box w ↦ rw (w.ballots-is, w.count-is) (noted_yes c.loop-b.invariant _ (let l = c.loop-b.invariant.within in omega arith) (told_yes _ _ _ (cc)))
      | else-has_box w ↦ rw (w.ballots-is, w.count-is) (noted_no c.loop-b.invariant (told_no _ _ _ (cc)))
    ]

pub returns : goal.returns
returns c = let e : c.loop-b.b ≡ boxes c.args.g.f = omega (arith, c.n-b-end.ensures) in told_held _ _ _ _ _ (rw e at c.loop-b.invariant)
