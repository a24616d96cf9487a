use Rattle.terms.proofs.Checks.{chain}
use Rattle.std.proofs.Common.{rules}
use Rattle.reading.proofs.Cuts.{rd_is, other_has, rest_by, rd_rest}
use Rattle.reading.proofs.rest_cut.Goals as goal

pub returns-then-eq : goal.returns-then-eq
unfolding chain
returns-then-eq c = rw (rd_is c.args.mark c.eq.ensures c.if-eq.true, ← rd_rest c.args.m.now) (search rules)

pub returns-in_err-tx_cut : goal.returns-in_err-tx_cut
unfolding chain
returns-in_err-tx_cut c = rw (← rest_by c.args.m.now c.args.mark (other_has c.args.mark c.eq.ensures c.if-eq.false)) (search rules)

pub returns : goal.returns
unfolding chain
returns c = rw (← rest_by c.args.m.now c.args.mark (other_has c.args.mark c.eq.ensures c.if-eq.false)) (search rules)
