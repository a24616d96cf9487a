use Rattle.std.proofs.Common.{rules, arith}
use Rattle.terms.proofs.Checks.{chain}
use Rattle.terms.proofs.Scans.{tab_take}
use Rattle.records.specs.Vl.{list_in, zero_pair}
use Rattle.records.specs.Contents.{list_wrong}
use Rattle.contents.proofs.list_wrong.Goals as goal

pub returns-in_err-refuse_if : goal.returns-in_err-refuse_if
unfolding list_wrong list_in chain
returns-in_err-refuse_if c = let a = tab_take zero_pair c.args.l.pairs c.args.l.count (omega arith) in rw a (search rules)

pub returns : goal.returns
unfolding list_wrong list_in chain
returns c = let a = tab_take zero_pair c.args.l.pairs c.args.l.count (omega arith) in rw a (search rules)
