use Rattle.table.specs.Table.{entries}
use Rattle.scans.proofs.Written.{writers_are}
use Rattle.scans.proofs.Rows.newest_or.Goals as goal

pub returns : goal.returns
returns c = let a = c.args in rw (c.unwrap_or.ensures, c.unwrap_or-2.ensures) (writers_are a.other c.no_version.result a.k.0 a.s.0 (entries a.self.bytes.now a.self.n) c.best_writers-x.result c.best_writers-x.ensures c.no_version.ensures)
