use Rattle.std.proofs.Common.{rules}
use Rattle.terms.proofs.Checks.{chain}
use Rattle.low.proofs.Open.{low_is}
use Rattle.low.proofs.low_wrong.Goals as goal

pub any_open-requires : goal.any_open-requires
any_open-requires c = rw (c.rows.ensures, c.count_of.ensures.0) c.requires.1

pub returns-in_err-refuse_if : goal.returns-in_err-refuse_if
unfolding chain
returns-in_err-refuse_if c = λ marks. rw (← low_is c.args.t.now c.args.low.0 marks) (search rules)

pub returns : goal.returns
unfolding chain
returns c = λ marks. rw (← low_is c.args.t.now c.args.low.0 marks) (search rules)
