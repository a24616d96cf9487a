use Rattle.std.proofs.Common.{◌<◌, arith}
use Rattle.terms.proofs.Scans.{more}
use Rattle.records.proofs.Places.{fill_none, fill_all}
use Rattle.records.proofs.padded.Goals as goal

pub loop-j-init : goal.loop-j-init
loop-j-init g c f p = fill_none _ c.requires.few

pub loop-j-preserved : goal.loop-j-preserved
loop-j-preserved g c f p =
    let i = c.loop-j.invariant f p in
    let k : c.loop-j.j < c.args.n = omega arith in
    more i k (p c.loop-j.j _ k c.at.ensures)

pub returns : goal.returns
returns g c f p = let i = c.loop-j.invariant f p in fill_all _ i (omega arith)
