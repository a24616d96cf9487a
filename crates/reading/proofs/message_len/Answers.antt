use Rattle.terms.proofs.Checks.{chain}
use Rattle.std.proofs.Common.{arith}
use Rattle.reading.proofs.Cuts.{rd_is, other_has, message_long, parts_cut, len_by, rd_whole, tx_long, tx_there, list_short}
use Rattle.reading.proofs.message_len.Goals as goal

pub returns-then-eq : goal.returns-then-eq
unfolding chain
returns-then-eq c = rw (rd_is c.args.mark c.eq.ensures c.if-eq.true) (rd_whole _)

pub behind-requires : goal.behind-requires
unfolding chain
behind-requires c = message_long _ c.args.mark c.requires

pub tx_len-requires : goal.tx_len-requires
unfolding chain
tx_len-requires c = let p = parts_cut _ c.args.mark (other_has c.args.mark c.eq.ensures c.if-eq.false) c.requires in rw c.behind.ensures (tx_long _ p.1)

pub list_part_of-requires : goal.list_part_of-requires
unfolding chain
list_part_of-requires c = let p = parts_cut _ c.args.mark (other_has c.args.mark c.eq.ensures c.if-eq.false) c.requires in (p.0, p.1)

pub list_len-requires : goal.list_len-requires
unfolding chain
list_len-requires c = let p = parts_cut _ c.args.mark (other_has c.args.mark c.eq.ensures c.if-eq.false) c.requires in rw c.list_part_of.ensures p.2

pub overflow_add-result-2 : goal.overflow_add-result-2
unfolding chain
overflow_add-result-2 c =
    let p = parts_cut _ c.args.mark (other_has c.args.mark c.eq.ensures c.if-eq.false) c.requires in
    let a = tx_there _ p.1 in
    let b = list_short c.args.mark _ p.2 in
    rw (c.tx_len.ensures, c.list_len.ensures, c.behind.ensures, c.list_part_of.ensures) (omega arith)

pub returns : goal.returns
unfolding chain
returns c =
    rw (c.tx_len.ensures, c.list_len.ensures, c.behind.ensures, c.list_part_of.ensures)
    (len_by _ c.args.mark (other_has c.args.mark c.eq.ensures c.if-eq.false))
