-- The five tests of PR, and the waiting rule.
use Rattle.std.specs.Prelude.{ℕ, Bool, true, false, not, ◌&&◌, ◌||◌, eqb, ltb, leb, get_or}
use Rattle.std.proofs.Math.Option.{Option, some, none}
use Rattle.terms.specs.Choice.{any, pick}
use Rattle.records.specs.declared.Read.{Read}
use Rattle.records.specs.Tx.{read_key, read_version, write_key}
use Rattle.rules.specs.Answers.{Ahead, Dependency, NoVersion, Overwritten, ReadMark, Undercuts}
use Rattle.rules.specs.Answers.{Settled, Vote, abort, commit, settled, unsettled, vote_abort, vote_commit, waiting}
use Rattle.rules.specs.Bodies.{Body, reads_of, stamp_of, writes_key, writes_of}
use Rattle.rules.specs.Table.{Box, Told, Entry, find, folded_at, limit, live}

-- "1. stamp above clock + δ."
unfoldable pub test1 : Told → Body → Bool
test1 told b = ltb (limit told) (stamp_of b)

-- "a live entry writing that key"
unfoldable pub live_writer : ℕ → Option Entry → Bool
live_writer k none = false
live_writer k (some e) = live e && writes_key e.body k

-- A11: "a version at or below L"; it "counts as committed if it is the folded one", of that key, and is never looked up
unfoldable pub is_low : Box → Read → Bool
is_low x r = leb (read_version r) x.low

unfoldable pub is_folded : Box → Read → Bool
is_folded x r = eqb (folded_at x (read_key r)) (read_version r)

-- a version that may be read: a live entry writing that key, or A11's folded one
unfoldable pub names : Box → Read → Bool
names x r = pick (is_low x r) (is_folded x r) (live_writer (read_key r) (find (read_version r) x.table))

-- "2. a read names a nonzero version that is not a live entry writing that key"; A11: "otherwise a nonzero one gives reason 2 in a new PR"
abbrev pub names_none : Box → Read → Bool
names_none x r = not (eqb (read_version r) 0) && not (names x r)

unfoldable pub test2 : Box → Body → Bool
test2 x b = any (names_none x) (reads_of b)

-- a read made at stamp s is undercut by b: b writes its key, with a stamp above the version read and below s
abbrev pub read_undercut : ℕ → Body → Read → Bool
read_undercut s b r = writes_key b (read_key r) && (ltb (read_version r) (stamp_of b) && ltb (stamp_of b) s)

-- what tests 3 and 4 look for: a reads a key that b writes, at a version below b's stamp, and b's stamp is below a's
unfoldable pub undercut : Body → Body → Bool
undercut a b = any (read_undercut (stamp_of a) b) (reads_of a)

-- A11: "A folded version above the version read"
unfoldable pub fold_above : Box → Read → Bool
fold_above x r = ltb (read_version r) (folded_at x (read_key r))

-- "3. a live entry writes a key read here, its stamp above the version read and below this stamp."; A11: a folded version above it "gives reason 3"
unfoldable pub test3 : Box → Body → Bool
test3 x b = any (fold_above x) (reads_of b) || any (λ e. live e && undercut b e.body) x.table

-- "4. a live entry with a higher stamp read a key written here at a version below this stamp."
unfoldable pub test4 : Box → Body → Bool
test4 x b = any (λ e. live e && undercut e.body b) x.table

-- "5. a written key's read mark is above this stamp."
unfoldable pub test5 : Box → Body → Bool
test5 x b = any (λ w. ltb (stamp_of b) (get_or x.marks (write_key w) 0)) (writes_of b)

-- the waiting rule of one version read
pub data Status : Type 0 where
  bad pending fine : Status

-- "any decided abort, or committed by a body that lacks the key"; "any undecided"
unfoldable pub status_by : Bool → Settled → Status
status_by w unsettled = pending
status_by w (settled abort) = bad
status_by w (settled commit) = pick w fine bad

-- "or not held (only in a lent table)"
unfoldable pub status_of : ℕ → Option Entry → Status
status_of k none = bad
status_of k (some e) = status_by (writes_key e.body k) e.decided

-- A11: "counts as committed if it is the folded one; otherwise a nonzero one gives .. reason 6 in a waiting one"
unfoldable pub status_folded : Bool → Status
status_folded f = pick f fine bad

-- "over the nonzero versions read"
unfoldable pub status : Box → Read → Status
status x r =
    pick (eqb (read_version r) 0) fine
    (pick (is_low x r) (status_folded (is_folded x r)) (status_of (read_key r) (find (read_version r) x.table)))

abbrev pub is_bad : Status → Bool
is_bad bad = true
is_bad pending = false
is_bad fine = false

abbrev pub is_pending : Status → Bool
is_pending bad = false
is_pending pending = true
is_pending fine = false

-- "Waiting rule, over the nonzero versions read: any ..: abort, reason 6. Else any undecided: wait. Else commit."
unfoldable pub waiting_rule : Box → Body → Vote
waiting_rule x b =
    pick (any (λ r. is_bad (status x r)) (reads_of b)) (vote_abort Dependency)
    (pick (any (λ r. is_pending (status x r)) (reads_of b)) waiting vote_commit)

-- "the first failing test gives an abort vote"; "Each test runs over all its keys before the next. If none fails .. the waiting rule runs."
unfoldable pub first_vote : Told → Box → Body → Vote
first_vote told x b =
    pick (test1 told b) (vote_abort Ahead)
    (pick (test2 x b) (vote_abort NoVersion)
    (pick (test3 x b) (vote_abort Overwritten)
    (pick (test4 x b) (vote_abort Undercuts)
    (pick (test5 x b) (vote_abort ReadMark) (waiting_rule x b)))))
