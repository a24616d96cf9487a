use Rattle.records.proofs.Bytes.{sets_all}
use Rattle.table.specs.Table.{codes_of}
use Rattle.table.proofs.put_codes.Goals as goal

pub returns : goal.returns
returns c = let p = sets_all c.args.s.now (codes_of c.args.x) c.requires in cc
