use Rattle.std.proofs.Common.{◌≡◌, ◌∙◌, count_by, arith}
use Rattle.std.proofs.lemmas.List.Sums.{count_by-le-length}
use lib.Dec.{leb}
use Rattle.steps.proofs.Tallying.{counted_all, reach_counts}
use Rattle.steps.proofs.reach.Goals as goal

pub returns : goal.returns
returns c =
    let e : c.loop-b.found ≡ count_by (λ b. leb c.args.v.0 b.view.0) c.args.listed.now =
    counted_all (λ b. leb c.args.v.0 b.view.0) c.args.listed.now _ _ c.loop-b.invariant.1 (omega arith) in
    let s = count_by-le-length (λ b. leb c.args.v.0 b.view.0) c.args.listed.now in
    (e ∙ reach_counts c.args.v.0 c.args.listed.now, omega arith)
