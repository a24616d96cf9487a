use Rattle.std.proofs.Common.{◌≡◌, arith}
use Rattle.terms.specs.Group.{boxes}
use Rattle.sheet.proofs.Below.{noted_none, noted_yes, noted_no}
use Rattle.election.proofs.Gathering.{listed_none, listed_yes, listed_no, listed_full, unled_held}
use Rattle.election.proofs.lowest.Goals as goal
use Rattle.election.proofs.lowest.Goals.{then-count-need+then-on_sheet, else-count-need, else-count-need-via-then-count-need+else-on_sheet, else-count-need-via-else-count-need}

pub loop-b-init : goal.loop-b-init
loop-b-init c = noted_none (listed_none _ _)

pub loop-b-preserved : goal.loop-b-preserved
loop-b-preserved c =
    elim c.if-count-need.branch [
      | then-count-need+then-on_sheet w ↦ rw (w.ballots-is, w.count-is) (noted_yes c.loop-b.invariant _ (let l = c.loop-b.invariant.within in omega arith) (listed_yes _ _ _ _ (omega (arith, c.loop-b.invariant.counts)) (cc) (cc)))
      | else-count-need w ↦
          rw (w.ballots-is, w.count-is)
          (noted_no c.loop-b.invariant
          (elim w.else-count-need.branch [
            | else-count-need-via-then-count-need+else-on_sheet v ↦ listed_no _ _ _ (cc)
            | else-count-need-via-else-count-need v ↦ listed_full _ _ _ (omega (arith, c.loop-b.invariant.counts))
          ]))
    ]

pub returns-clause-listed : goal.returns-clause-listed
returns-clause-listed c = let e : c.loop-b.b ≡ boxes c.args.g.f = omega arith in unled_held _ _ (cc) (rw e at c.loop-b.invariant)
