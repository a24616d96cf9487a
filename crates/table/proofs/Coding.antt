-- What an entry holds beside the body: as a state, and as codes that are read back as they were put down.
use Prim.Native.Nat.{ℕ, ◌+◌, ◌*◌, ◌≤◌}
use native.Mathlib.Omega.{arith}
use mathlib.Core.Path.{◌≡◌, refl, ap}
use mathlib.Core.List.{List}
use Rattle.terms.specs.declared.View.{View}
use Rattle.terms.specs.declared.Decision.TheVariants.{Commit as commit, Abort as abort}
use Rattle.terms.specs.Checks.{passed, or_else, if_less, if_same}
use Rattle.rules.specs.Answers.{reason_number, vote_number, vote_reason, settled_number, log_number, log_view}
use Rattle.rules.specs.declared.Reason.{Reason}
use Rattle.rules.specs.declared.Reason.TheVariants.{Ahead, NoVersion, Overwritten, Undercuts, ReadMark, Dependency}
use Rattle.rules.specs.declared.Vote.{Vote}
use Rattle.rules.specs.declared.Vote.TheVariants.{None as unvoted, Waiting as waiting, Commit as vote_commit, Abort as vote_abort}
use Rattle.rules.specs.Answers.{Decision, Log, Settled, decision_number, logged, logged_at, settled, unlogged, unsettled}
use Rattle.rules.specs.Table.{Entry}
use Rattle.table.specs.Table.{vote_of, reason_of, settled_of, log_of, lower, upper, reason_wrong, state_at, state_in, entry_with, entry_of}

-- ---- codes
reason_back : (r : Reason) → reason_of (reason_number r) ≡ r
reason_back Ahead = refl
reason_back NoVersion = refl
reason_back Overwritten = refl
reason_back Undercuts = refl
reason_back ReadMark = refl
reason_back Dependency = refl

pub vote_back : (v : Vote) → vote_of (vote_number v) (vote_reason v) ≡ v
vote_back unvoted = refl
vote_back waiting = refl
vote_back vote_commit = refl
vote_back (vote_abort r) = ap vote_abort (reason_back r)

pub settled_back : (x : Settled) → settled_of (settled_number x) ≡ x
settled_back unsettled = refl
settled_back (settled commit) = refl
settled_back (settled abort) = refl

-- the two bytes of a view as one number again, of any size
pub view_back : (v : View) → lower v + 256 * (upper v + 256 * 0) ≡ v.0
view_back v = omega arith

pub log_back : (x : Log) (v : ℕ) → v ≡ (log_view x).0 → log_of (log_number x) v ≡ x
log_back unlogged v e = refl
log_back (logged y) v e = by y.decision y.view e
  where
    by : (d : Decision) (w : View) → v ≡ w.0 → log_of (decision_number d) v ≡ logged_at d w
    by commit w e = rw e
    by abort w e = rw e

-- each is in its list
pub vote_small : (v : Vote) → vote_number v ≤ 3
vote_small unvoted = omega arith
vote_small waiting = omega arith
vote_small vote_commit = omega arith
vote_small (vote_abort r) = omega arith

pub reason_right : (v : Vote) → reason_wrong (vote_number v) (vote_reason v) ≡ passed
unfolding reason_wrong or_else if_less if_same
reason_right unvoted = refl
reason_right waiting = refl
reason_right vote_commit = refl
reason_right (vote_abort Ahead) = refl
reason_right (vote_abort NoVersion) = refl
reason_right (vote_abort Overwritten) = refl
reason_right (vote_abort Undercuts) = refl
reason_right (vote_abort ReadMark) = refl
reason_right (vote_abort Dependency) = refl

pub settled_small : (x : Settled) → settled_number x ≤ 2
settled_small unsettled = omega arith
settled_small (settled commit) = omega arith
settled_small (settled abort) = omega arith

pub log_small : (x : Log) → log_number x ≤ 2
log_small unlogged = omega arith
log_small (logged y) = by y.decision
  where
    by : (d : Decision) → decision_number d ≤ 2
    by commit = omega arith
    by abort = omega arith

-- ---- the state of a row is its entry's
module _ (r : List ℕ) where
  pub state_vote : (state_at r).vote ≡ (entry_of r).vote
  unfolding entry_of entry_with
  state_vote = refl

  pub state_log : (state_at r).log ≡ (entry_of r).log
  unfolding entry_of entry_with
  state_log = refl

  pub state_view : (state_at r).view ≡ (entry_of r).view
  unfolding entry_of entry_with
  state_view = refl

  pub state_decided : (state_at r).decided ≡ (entry_of r).decided
  unfolding entry_of entry_with
  state_decided = refl

  pub state_entry : entry_with (entry_of r).body (state_at r) ≡ entry_of r
  unfolding entry_of entry_with
  state_entry = refl

-- an entry is its body and its state
pub put_entry : (e : Entry) → entry_with e.body (state_in e) ≡ e
unfolding entry_with state_in
put_entry e = refl
