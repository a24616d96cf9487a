use Rattle.table.specs.Table.{entries}
use Rattle.scans.proofs.Written.{found_is}
use Rattle.scans.proofs.found.Goals as goal

pub returns : goal.returns
returns c = let a = c.args in found_is a.h.now a.k.0 a.s.0 (entries a.t.now a.n) c.fold_of.result c.newest_or-x.result c.fold_of.ensures c.newest_or-x.ensures
