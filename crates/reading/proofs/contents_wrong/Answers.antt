use Rattle.terms.proofs.Checks.{chain}
use Rattle.std.proofs.Common.{rules}
use Rattle.reading.proofs.Cuts.{rd_is, other_has, parts_cut, rd_long}
use Rattle.reading.proofs.Due.{contents_by, rd_contents}
use Rattle.reading.proofs.contents_wrong.Goals as goal

pub rd_key-requires : goal.rd_key-requires
unfolding chain
rd_key-requires c = rd_long _ (rw (rd_is c.args.mark c.eq.ensures c.if-eq.true) at c.requires)

pub rd_stamp-requires : goal.rd_stamp-requires
unfolding chain
rd_stamp-requires c = rd_long _ (rw (rd_is c.args.mark c.eq.ensures c.if-eq.true) at c.requires)

pub returns-then-eq : goal.returns-then-eq
unfolding chain
returns-then-eq c = rw (rd_is c.args.mark c.eq.ensures c.if-eq.true, ← rd_contents c.args.g.f c.args.m.now) (search rules)

pub tx_wrong_in-requires : goal.tx_wrong_in-requires
unfolding chain
tx_wrong_in-requires c = let p = parts_cut _ c.args.mark (other_has c.args.mark c.eq.ensures c.if-eq.false) c.requires in (p.0, p.1)

pub returns-in_err-tx_wrong_in : goal.returns-in_err-tx_wrong_in
unfolding chain
returns-in_err-tx_wrong_in c = rw (← contents_by c.args.g.f c.args.m.now c.args.mark (other_has c.args.mark c.eq.ensures c.if-eq.false)) (search rules)

pub list_wrong_behind-requires : goal.list_wrong_behind-requires
unfolding chain
list_wrong_behind-requires c = parts_cut _ c.args.mark (other_has c.args.mark c.eq.ensures c.if-eq.false) c.requires

pub returns : goal.returns
unfolding chain
returns c = rw (← contents_by c.args.g.f c.args.m.now c.args.mark (other_has c.args.mark c.eq.ensures c.if-eq.false)) (search rules)
