-- What the scans say: the tests at one read and at one entry, and what the newest writers wrote.
use Rattle.std.specs.Prelude.{ℕ, Bool, false, ◌&&◌, List, [], ◌∷◌, Option as Maybe, Some, None, eqb, ltb, get_or}
use Rattle.std.proofs.Math.Option.{Option, some, none}
use Rattle.terms.specs.Choice.{pick}
use Rattle.records.specs.declared.Read.{Read}
use Rattle.records.specs.declared.Write.{Write}
use Rattle.records.specs.Tx.{read_key, read_version, write_key}
use Rattle.rules.specs.declared.Reason.TheVariants.{Dependency}
use Rattle.rules.specs.declared.Vote.{Vote}
use Rattle.rules.specs.declared.Vote.TheVariants.{Waiting as waiting, Commit as vote_commit, Abort as vote_abort}
use Rattle.rules.specs.Bodies.{Body, stamp_of, writes_key, writes_of}
use Rattle.rules.specs.declared.Version.{Version}
use Rattle.rules.specs.Table.{Box, Entry, box_with, find, fold_at, live, no_version}
use Rattle.rules.specs.Tests.{Status, bad, pending, fine, is_folded, is_low, is_pending, live_writer, undercut, status_of}
use Rattle.rules.specs.Calls.{newest, value_at, version_of, version_or, is_committed, is_undecided}
use Rattle.table.specs.Table.{box_from}
use Rattle.scans.specs.declared.Bests.{Bests}
use Rattle.scans.specs.declared.Standing.{Standing}
use Rattle.scans.specs.declared.Standing.TheVariants.{Fine, Pending, Bad}
use Rattle.scans.specs.declared.Writers.{Writers}

-- tests 2 and 3, the waiting rule and RD look at low mark, folds and entries, and not at the read marks
abbrev pub over : List ℕ → List Entry → Box
over h es = box_from h es []

-- test 4 looks at the entries only, test 5 at the read marks only
abbrev pub entries_only : List Entry → Box
entries_only es = box_with es [] 0 []

abbrev pub marks_only : List ℕ → Box
marks_only marks = box_with [] marks 0 []

-- ---- tests
-- whether a version read is older
unfoldable pub older : ℕ → Read → Bool
older low r = ltb (read_version r) low

-- tests 3 and 4 at one read, where the stamps are in order
unfoldable pub below : Body → Read → Bool
below b r = writes_key b (read_key r) && ltb (read_version r) (stamp_of b)

-- test 3 at one entry
unfoldable pub hit3 : Body → Entry → Bool
hit3 b e = live e && undercut b e.body

-- test 4 at one entry
unfoldable pub hit4 : Body → Entry → Bool
hit4 b e = live e && undercut e.body b

-- test 5 at one write
unfoldable pub marked : List ℕ → ℕ → Write → Bool
marked ms s w = ltb s (get_or ms (write_key w) 0)

-- ---- what a version read is to test 2 and to the waiting rule
abbrev pub standing_of : Status → Standing
standing_of fine = Fine
standing_of pending = Pending
standing_of bad = Bad

-- the worse of two
abbrev pub worse : Standing → Standing → Standing
worse Bad s = Bad
worse Pending Bad = Bad
worse Pending Pending = Pending
worse Pending Fine = Pending
worse Fine s = s

-- the worst of all reads, d what stood before them
unfoldable pub worst : (Read → Standing) → Standing → List Read → Standing
worst f d [] = d
worst f d (r ∷ rs) = worst f (worse d (f r)) rs

-- "any bad: abort, reason 6. Else any undecided: wait. Else commit."
abbrev pub vote_by : Standing → Vote
vote_by Fine = vote_commit
vote_by Pending = waiting
vote_by Bad = vote_abort Dependency

-- A11: a version at or below the low mark, by the folds alone: fine where it is 0 or its key's folded one, else bad
unfoldable pub low_standing : List Version → Read → Standing
low_standing folds r = pick (eqb (read_version r) 0) Fine (pick (eqb (fold_at folds (read_key r)).stamp.0 (read_version r)) Fine Bad)

-- a version read, as `by` says of the entry that has it, or of none
unfoldable pub looked : (Option Entry → Standing) → Box → Read → Standing
looked by x r =
    pick (eqb (read_version r) 0) Fine
    (pick (is_low x r) (pick (is_folded x r) Fine Bad) (by (find (read_version r) x.table)))

-- test 2 and the waiting rule by one look-up: bad where test 2 fails, else as undecided as the version is
unfoldable pub named_by : ℕ → Option Entry → Standing
named_by k o = pick (live_writer k o) (pick (is_pending (status_of k o)) Pending Fine) Bad

abbrev pub named : Box → Read → Standing
named x r = looked (named_by (read_key r)) x r

-- ---- the newest writers
abbrev pub committed : Entry → Bool
committed e = is_committed e.decided

abbrev pub undecided : Entry → Bool
undecided e = is_undecided e.decided && live e

-- what a writer that was found wrote, or none
unfoldable pub best_of : ℕ → Option Entry → Maybe Version
best_of k none = None
best_of k (some e) = Some (record { stamp = record { 0 = stamp_of e.body }; value = value_at k (writes_of e.body) })

-- whether what was found is above a stamp
abbrev pub above : ℕ → Maybe Version → Bool
above s None = false
above s (Some v) = ltb s v.stamp.0

-- the newer of an entry and of what was newest behind it
unfoldable pub newer_by : ℕ → ℕ → Entry → Maybe Version → Maybe Version
newer_by k s e x =
    pick (writes_key e.body k && ltb (stamp_of e.body) s)
    (pick (above (stamp_of e.body) x) x (best_of k (some e))) x

-- both halves, one entry more in front
unfoldable pub next_bests : ℕ → ℕ → Entry → Bests → Bests
next_bests k s e x =
    record {
      committed = pick (committed e) (newer_by k s e x.committed) x.committed;
      undecided = pick (undecided e) (newer_by k s e x.undecided) x.undecided;
    }

unfoldable pub bests_of : ℕ → ℕ → List Entry → Bests
bests_of k s es = record { committed = best_of k (newest committed k s es); undecided = best_of k (newest undecided k s es) }

-- "of the committed writer with the highest stamp strictly below, and likewise of the live undecided one", g where no committed one is
unfoldable pub writers_or : Version → ℕ → ℕ → List Entry → Writers
writers_or g k s es = record { committed = version_or k g (newest committed k s es); undecided = version_of k (newest undecided k s es) }

abbrev pub newest_writers : ℕ → ℕ → List Entry → Writers
newest_writers k s es = writers_or no_version k s es
