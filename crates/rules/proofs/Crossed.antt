-- Two decisions in either order on one lent table, by computation and by the theorem.
use Prim.Native.Nat.{ℕ}
use mathlib.Core.Path.{refl}
use native.Mathlib.Omega.{arith}
use Rattle.rules.specs.Answers.{apart_from_number}
use Rattle.rules.specs.Order.{NeedsNew, next, of_rules, replies, reply}
use Rattle.rules.specs.Crossed.{Crossed, aborted, aborting, calls, committed, committing, later_answers, later_calls, later_messages, lent_three}
use Rattle.rules.specs.Crossed.{low_answers, low_calls, three}
use Rattle.rules.proofs.Running.{running}
use Rattle.rules.proofs.Order.{decisions_commute}

one : NeedsNew of_rules lent_three (committing 8)
unfolding running reply lent_three three committing
one = record { new = refl; taken = refl }

other : NeedsNew of_rules lent_three (aborting 5)
unfolding running reply lent_three three aborting
other = record { new = refl; taken = refl }

unfoldable crossing : ℕ
unfolding lent_three three committing aborting committed aborted calls later_messages later_calls later_answers low_calls low_answers
crossing = 0

pub crossed : Crossed
unfolding running reply next replies apart_from_number crossing
crossed = record {
  one_new = one;
  other_new = other;
  either = decisions_commute lent_three (committing 8) (aborting 5) refl refl (λ q. omega arith) (λ _ _. (omega arith, omega arith));
  this_way = refl;
  that_way = refl;
  answers_this_way = refl;
  answers_that_way = refl;
  low_this_way = refl;
  low_that_way = refl;
  one_alone = refl;
  other_alone = refl;
  other_second = refl;
  one_second = refl;
}
