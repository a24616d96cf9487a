-- What the scans count: a read of an entry at one key written here, and what comes behind test 2.
use Rattle.std.specs.Prelude.{ℕ, ◌+◌, Bool, ◌&&◌, List, Option as Maybe, Some, None, eqb, ltb}
use Rattle.terms.specs.Choice.{any, pick}
use Rattle.records.specs.declared.Read.{Read}
use Rattle.records.specs.Tx.{read_key, read_version}
use Rattle.rules.specs.declared.Reason.TheVariants.{Overwritten, ReadMark, Undercuts}
use Rattle.rules.specs.declared.Vote.{Vote}
use Rattle.rules.specs.declared.Vote.TheVariants.{Abort as vote_abort}
use Rattle.rules.specs.Bodies.{Body}
use Rattle.rules.specs.Table.{Box, Entry}
use Rattle.rules.specs.Tests.{test3, test4, test5}
use Rattle.rules.specs.Visits.{through, unless, visits3, visits4}

-- the entries gone through where a test fails, or none
abbrev pub fails_up_to : Bool → ℕ → Maybe ℕ
fails_up_to fails n = pick fails (Some n) None

-- up to the first that passes
abbrev pub up_to : (Entry → Bool) → List Entry → Maybe ℕ
up_to p es = fails_up_to (any p es) (through p es)

-- whether a read is of the key, at a version below the stamp
unfoldable pub read_below : ℕ → ℕ → Read → Bool
read_below k s r = eqb k (read_key r) && ltb (read_version r) s

-- ---- behind test 2
-- the first vote where tests 1 and 2 pass, w the vote of the waiting rule
unfoldable pub later_vote : Box → Body → Vote → Vote
later_vote x b w = pick (test3 x b) (vote_abort Overwritten) (pick (test4 x b) (vote_abort Undercuts) (pick (test5 x b) (vote_abort ReadMark) w))

-- the entries visited there, n of them by the waiting rule
unfoldable pub later_visits : Box → Body → ℕ → ℕ
later_visits x b n = visits3 x b + unless (test3 x b) (visits4 x b + unless (test4 x b) (unless (test5 x b) n))
