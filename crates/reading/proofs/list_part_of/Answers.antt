use Rattle.terms.proofs.Checks.{chain}
use Rattle.reading.proofs.Cuts.{tx_long, tx_there, rest_is}
use Rattle.reading.proofs.list_part_of.Goals as goal

pub tx_len-requires : goal.tx_len-requires
unfolding chain
tx_len-requires c = rw c.behind-s.ensures (tx_long _ c.requires.1)

pub behind-requires : goal.behind-requires
unfolding chain
behind-requires c = rw (c.tx_len.ensures, c.behind-s.ensures) (tx_there _ c.requires.1).2

pub returns : goal.returns
unfolding chain
returns c = rw (c.behind.ensures, c.tx_len.ensures, c.behind-s.ensures) (rest_is c.args.m.now)
