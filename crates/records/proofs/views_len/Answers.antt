use Rattle.records.proofs.Held.{ballots_few}
use native.Mathlib.Omega.{arith}
use Rattle.records.proofs.views_len.Goals as goal

pub overflow_mul-result : goal.overflow_mul-result
overflow_mul-result c = let m = ballots_few c.ballot_len.result c.wide.result 255 (omega arith) (omega arith) in omega arith

pub overflow_add-result-2 : goal.overflow_add-result-2
overflow_add-result-2 c = let m = ballots_few c.ballot_len.result c.wide.result 255 (omega arith) (omega arith) in omega arith

pub returns : goal.returns
returns c = rw (c.ballot_len.ensures.0, c.wide.ensures.0, c.count_at-at.ensures.0)
