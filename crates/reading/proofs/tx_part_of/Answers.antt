use Rattle.terms.proofs.Checks.{chain}
use Rattle.std.proofs.Common.{◌≤◌, length, length-take, arith}
use Rattle.records.specs.Tx.{tx_len}
use Rattle.reading.proofs.Cuts.{tx_long, tx_there, part_is}
use Rattle.reading.proofs.tx_part_of.Goals as goal

pub tx_len-n-requires : goal.tx_len-n-requires
unfolding chain
tx_len-n-requires c = rw c.behind-s.ensures (tx_long _ c.requires.1)

pub slice_bounds-result-end : goal.slice_bounds-result-end
unfolding chain
slice_bounds-result-end c = let l : tx_len c.behind-s.result.now ≤ length c.behind-s.result.now = rw c.behind-s.ensures (tx_there _ c.requires.1).2 in simp length-take (omega arith)

pub returns : goal.returns
unfolding chain
returns c = part_is c.args.m.now c.requires.1 _ _ c.behind-s.ensures c.tx_len-n.ensures
