use Rattle.std.proofs.Common.{◌≡◌, arith, sym, ◌∙◌}
use Rattle.table.proofs.Looking.{seek_end, place_found, place_go}
use Rattle.table.proofs.place_from.Goals as goal

pub returns-then-has_stamp : goal.returns-then-has_stamp
returns-then-has_stamp c = (place_found c.args.t.now c.loop-i.invariant (omega arith) (sym c.has_stamp.ensures ∙ c.if-has_stamp.true), omega arith)

pub loop-i-preserved : goal.loop-i-preserved
loop-i-preserved c = place_go c.args.t.now c.loop-i.invariant (omega arith) (sym c.has_stamp.ensures ∙ c.if-has_stamp.false)

pub returns : goal.returns
returns c = (let z : c.args.n ≡ c.loop-i.i = omega arith in z ∙ seek_end c.loop-i.invariant (omega arith), omega arith)
