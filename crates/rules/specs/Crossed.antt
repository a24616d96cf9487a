-- A9 is not empty: on a lent table that holds one stamp twice, two decisions for stamps that it does not hold, in either order.
use Rattle.std.specs.Prelude.{ℕ, ◌≡◌, List, [], ◌∷◌, ◌++◌}
use Rattle.terms.specs.declared.Refusal.TheVariants.{Full, Old}
use Rattle.records.specs.declared.Mark.TheVariants.{DC as marked_dc}
use Rattle.std.specs.Prelude.{Ok}
use Rattle.rules.specs.Answers.{Answer, Decided, Done, NoVersion, Raised, Refused, abort, commit, settled, unsettled, unvoted, vote_commit, votes}
use Rattle.rules.specs.Answers.{waiting}
use Rattle.rules.specs.Table.{Box, Entry}
use Rattle.rules.specs.Act.{due, raising, receive}
use Rattle.rules.specs.Order.{Call, EitherOrder, NeedsNew, next, of_rules, replies, reply}
use Rattle.rules.specs.Cases.{DC, LG, PR, RD, aborts, commits, elections, found, iv, ld, line, logs0, reads, seen, write, tx, writes}
use Rattle.rules.specs.Vectors.{elects, entry, logs_in, marked}

-- 50 is held twice, undecided and committed, and 60 waits for it
unfoldable pub three : List Entry → List Entry
three es =
    entry (writes 50 3) vote_commit unsettled unsettled
    ∷ entry (tx 50 [] (write 3 9 ∷ [])) unvoted unsettled (settled commit)
    ∷ entry (reads 60 3 50) waiting unsettled unsettled
    ∷ es

unfoldable pub lent_three : Box
lent_three = marked (three []) 0

-- 70 commits, by the entry point for any message; 65 aborts, where a DC is due, with another clock and δ
unfoldable pub committing : ℕ → Call
committing capacity =
    record { entry = receive; told = record { f = 1; capacity = capacity; clock = 100; delta = 10 }; message = DC (writes 70 5) votes commit 6 }

unfoldable pub aborting : ℕ → Call
aborting capacity =
    record { entry = due (Ok marked_dc); told = record { f = 1; capacity = capacity; clock = 0; delta = 3 }; message = DC (writes 65 5) votes abort 4 }

unfoldable pub committed : Entry
committed = entry (writes 70 5) unvoted unsettled (settled commit)

unfoldable pub aborted : Entry
aborted = entry (writes 65 5) unvoted unsettled (settled abort)

-- later calls, of each mark
unfoldable pub calls : List (List ℕ) → List Call
calls [] = []
calls (m ∷ ms) = record { entry = receive; told = line; message = m } ∷ calls ms

unfoldable pub later_messages : List (List ℕ)
later_messages =
    PR (writes 65 5) ∷ PR (reads 80 5 65) ∷ PR (reads 81 5 70) ∷ RD 5 90 ∷ LG (writes 82 5) commit 4 ∷ iv (writes 82 5) (seen 0 4 0)
    ∷ ld (writes 82 5) 0 commit 2 (elections 0 5 commit 2) ∷ DC (writes 50 3) votes commit 6 ∷ PR (reads 60 3 50) ∷ RD 3 90 ∷ PR (writes 83 6) ∷ []

unfoldable pub later_calls : List Call
later_calls = calls later_messages

unfoldable pub later_answers : List Answer
later_answers =
    Decided abort ∷ aborts NoVersion ∷ commits ∷ found 70 7 0 0 ∷ logs0 commit ∷ elects commit 1 5
    ∷ logs_in commit 2 ∷ Done ∷ commits ∷ found 50 7 0 0 ∷ Refused Full ∷ []

-- A11: 50 and 60 are decided, 50 twice, and the low mark is raised over all five: of 50 the first folds
unfoldable pub low_calls : List Call
low_calls =
    calls (DC (writes 50 3) votes commit 6 ∷ DC (reads 60 3 50) votes commit 6 ∷ [])
    ++ (record { entry = raising 70; told = line; message = [] }
    ∷ calls (RD 3 90 ∷ RD 5 90 ∷ PR (reads 80 5 70) ∷ PR (reads 81 5 65) ∷ PR (writes 65 5) ∷ []))

unfoldable pub low_answers : List Answer
low_answers = Done ∷ Done ∷ Raised ∷ found 50 7 0 0 ∷ found 70 7 0 0 ∷ commits ∷ aborts NoVersion ∷ Refused Old ∷ []

pub record Crossed : Type 0 where
  -- both need a new entry, and with capacities of 8 and 5 there is room for both
  pub one_new : NeedsNew of_rules lent_three (committing 8)
  pub other_new : NeedsNew of_rules lent_three (aborting 5)
  pub either : EitherOrder of_rules lent_three (committing 8) (aborting 5)
  -- the tables differ
  pub this_way : (next (next lent_three (committing 8)) (aborting 5)).table ≡ three (committed ∷ aborted ∷ [])
  pub that_way : (next (next lent_three (aborting 5)) (committing 8)).table ≡ three (aborted ∷ committed ∷ [])
  -- the answers do not
  pub answers_this_way : replies of_rules (next (next lent_three (committing 8)) (aborting 5)) later_calls ≡ later_answers
  pub answers_that_way : replies of_rules (next (next lent_three (aborting 5)) (committing 8)) later_calls ≡ later_answers
  pub low_this_way : replies of_rules (next (next lent_three (committing 8)) (aborting 5)) low_calls ≡ low_answers
  pub low_that_way : replies of_rules (next (next lent_three (aborting 5)) (committing 8)) low_calls ≡ low_answers
  -- with room for one, the second is refused with 13, whichever it is
  pub one_alone : reply lent_three (committing 4) ≡ Done
  pub other_alone : reply lent_three (aborting 4) ≡ Done
  pub other_second : reply (next lent_three (committing 4)) (aborting 4) ≡ Refused Full
  pub one_second : reply (next lent_three (aborting 4)) (committing 4) ≡ Refused Full
