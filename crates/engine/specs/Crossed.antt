-- A9 of calls is not empty: the rules' two decisions on a table of zeros, in either order. The bytes differ, the answers do not.
use Rattle.std.specs.Prelude.{◌≡◌, List, [], ◌∷◌}
use Rattle.terms.specs.declared.Refusal.TheVariants.{Full, Table}
use Rattle.terms.specs.declared.Decision.TheVariants.{Commit as commit, Abort as abort}
use Rattle.rules.specs.declared.Reason.TheVariants.{NoVersion}
use Rattle.rules.specs.declared.Answer.{Answer}
use Rattle.rules.specs.declared.Answer.TheVariants.{Decided, Done, Refused}
use Rattle.rules.specs.Cases.{aborts, commits, found, logs0}
use Rattle.rules.specs.Vectors.{elects, logs_in}
use Rattle.rules.specs.Order.{EitherOrder, NeedsNew, replies}
use Rattle.rules.specs.Crossed.{aborting, committing, later_calls}
use Rattle.engine.specs.Outcome.{Kept}
use Rattle.engine.specs.Busy.{zeros}
use Rattle.engine.specs.Order.{next_by, of_calls, reply_by}

-- what the later calls are answered
unfoldable pub later_answered : List Answer
later_answered =
    Decided abort ∷ aborts NoVersion ∷ commits ∷ found 70 7 0 0 ∷ logs0 commit ∷ elects commit 1 5
    ∷ logs_in commit 2 ∷ Done ∷ commits ∷ found 50 7 0 0 ∷ commits ∷ []

-- what is kept when both were taken
unfoldable pub this_way : Kept
this_way = next_by (next_by (zeros 8) (committing 8)) (aborting 5)

unfoldable pub that_way : Kept
that_way = next_by (next_by (zeros 8) (aborting 5)) (committing 8)

pub record CrossedCalls : Type 0 where
  pub one_new : NeedsNew of_calls (zeros 8) (committing 8)
  pub other_new : NeedsNew of_calls (zeros 8) (aborting 5)
  pub either : EitherOrder of_calls (zeros 8) (committing 8) (aborting 5)
  pub bytes_differ : this_way.table ≡ that_way.table → ⊥
  pub answers_this_way : replies of_calls this_way later_calls ≡ later_answered
  pub answers_that_way : replies of_calls that_way later_calls ≡ later_answered
  -- with room for one, the second is refused with 13, whichever it is
  pub other_second : reply_by (next_by (zeros 8) (committing 1)) (aborting 1) ≡ Refused Full
  pub one_second : reply_by (next_by (zeros 8) (aborting 1)) (committing 1) ≡ Refused Full
  -- why room is asked for the other's entry too: a decision that is held needs none, but told a capacity that the other's entry passes it is refused
  -- with 16 behind it
  pub held_first : reply_by (next_by (zeros 8) (committing 8)) (committing 1) ≡ Done
  pub held_second : reply_by this_way (committing 1) ≡ Refused Table
