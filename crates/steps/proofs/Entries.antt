-- The rules of an entry, one law for each outcome as the code has it.
use Prim.Native.Nat.{ℕ, ◌+◌}
use mathlib.Core.Path.{◌≡◌, refl}
use mathlib.Core.Bool.{Bool, true, false}
use mathlib.Core.Option.{some, none}
use denote.Enum.Bare.{sameb}
use lib.Dec.{leb}
use lib.ListN.{length}
use Rattle.terms.specs.Choice.{pick}
use Rattle.terms.specs.contracts.Decision.{the_type}
use Rattle.terms.specs.declared.Decision.{Decision}
use Rattle.terms.specs.declared.Decision.TheVariants.{Commit as commit, Abort as abort}
use Rattle.terms.specs.declared.Refusal.TheVariants.{Full, Contradiction}
use Rattle.records.specs.Vl.{Vl}
use Rattle.rules.specs.declared.Answer.TheVariants.{Decided, Done, Logged, Refused, Voted}
use Rattle.rules.specs.declared.Reason.{Reason}
use Rattle.rules.specs.Answers.{logged_at, settled, unlogged, unsettled}
use Rattle.rules.specs.declared.Told.{Told}
use Rattle.rules.specs.Answers.{unvisited}
use Rattle.rules.specs.declared.Vote.{Vote}
use Rattle.rules.specs.declared.Vote.TheVariants.{None as unvoted, Commit as vote_commit, Abort as vote_abort, Waiting as waiting}
use Rattle.rules.specs.Answers.{View, view_as}
use Rattle.rules.specs.Bodies.{Body, stamp_of}
use Rattle.rules.specs.Lists.{decision_of, for_logging}
use Rattle.rules.specs.Table.{Box}
use Rattle.rules.specs.Tests.{first_vote, is_folded, is_low, waiting_rule, status}
use Rattle.rules.specs.Calls.{refuse, is_full, room_for, needing, same_decision, cast_act, pr_by_vote, pr_by_decision, pr_by_entry, first_log, lg_by_log, lg_by_decision, lg_by_entry, decide_act, dc_same, dc_by_entry}
use Rattle.rules.specs.Visits.{look_up, waiting_visits, test_visits, first_visits, again_visits, new_last}
use Rattle.scans.proofs.Outcomes.{unmarked}
use Rattle.table.specs.declared.State.{State}
use Rattle.table.specs.Table.{entry_with, state_in}
use Rattle.steps.specs.declared.Held.TheVariants.{Not, Same}
use Rattle.steps.specs.Step.{change_by, step_by, kept, put, cast_step, pr_by, lg_by}

-- ---- PR
module _ (i : ℕ) (told : Told) (x : Box) (b : Body) where
  module _ (n : ℕ) (l : length x.table ≡ n) where
    pub pr_full : leb told.capacity n ≡ true → kept (Refused Full) ≡ pr_by i told x b Not
    unfolding pr_by pr_by_entry room_for is_full step_by change_by
    pr_full h = rw (l, h)

    pub pr_room : leb told.capacity n ≡ false → (v : Vote) (o k : ℕ) → v ≡ first_vote told x b → o ≡ look_up (stamp_of b) x.table
        → k ≡ test_visits told x b (new_last b x.table) → cast_step i unlogged (view_as 0) v (o + k) ≡ pr_by i told x b Not
    unfolding pr_by pr_by_entry room_for is_full cast_act step_by change_by state_in first_visits
    pr_room h v o k w p q = rw (l, h, w, p, q)

  module _ (e : State) where
    pub pr_decided : (d : Decision) → e.decided ≡ settled d → kept (Decided d) ≡ pr_by i told x b (Same e)
    unfolding pr_by pr_by_decision step_by change_by
    pr_decided d h = rw h

    pub pr_open : e.decided ≡ unsettled → step_by i (pr_by_vote told x b (entry_with b e) e.vote) ≡ pr_by i told x b (Same e)
    unfolding pr_by pr_by_decision entry_with
    pr_open h = rw h

    pub pr_commit : e.vote ≡ vote_commit → kept (Voted e.vote unvisited) ≡ step_by i (pr_by_vote told x b (entry_with b e) e.vote)
    unfolding pr_by_vote step_by change_by
    pr_commit h = rw h

    pub pr_abort : (r : Reason) → e.vote ≡ vote_abort r → kept (Voted e.vote unvisited) ≡ step_by i (pr_by_vote told x b (entry_with b e) e.vote)
    unfolding pr_by_vote step_by change_by
    pr_abort r h = rw h

    pub pr_waiting : (v : Vote) (o k : ℕ) → e.vote ≡ waiting → v ≡ waiting_rule (unmarked x) b → o ≡ look_up (stamp_of b) x.table → k ≡ waiting_visits x.low x.table b
        → cast_step i e.log e.view v (o + k) ≡ step_by i (pr_by_vote told x b (entry_with b e) e.vote)
    unfolding pr_by_vote cast_act step_by change_by state_in entry_with waiting_rule status is_low is_folded again_visits
    pr_waiting v o k h w p q = rw (h, w, p, q)

    pub pr_unvoted : (v : Vote) (o k : ℕ) → e.vote ≡ unvoted → v ≡ first_vote told x b → o ≡ look_up (stamp_of b) x.table
        → k ≡ test_visits told x b x.table
        → cast_step i e.log e.view v (o + k) ≡ step_by i (pr_by_vote told x b (entry_with b e) e.vote)
    unfolding pr_by_vote cast_act step_by change_by state_in entry_with first_visits
    pr_unvoted v o k h w p q = rw (h, w, p, q)

-- ---- LG
module _ (i : ℕ) (told : Told) (x : Box) (b : Body) (l : Vl) where
  pub lg_new : (n : ℕ) (full : Bool) → length x.table ≡ n → full ≡ leb told.capacity n
      → step_by i (needing (for_logging told.f (decision_of l.decision)) l (pick full (refuse Full) (first_log b (decision_of l.decision) none)))
      ≡ lg_by i told x b l Not
  unfolding lg_by lg_by_entry room_for is_full
  lg_new n full k h = rw (h, k)

  pub lg_decided : (e : State) (d : Decision) → e.decided ≡ settled d → kept (Decided d) ≡ lg_by i told x b l (Same e)
  unfolding lg_by lg_by_decision step_by change_by
  lg_decided e d h = rw h

  pub lg_open : (e : State) → e.decided ≡ unsettled → step_by i (lg_by_log told b l (entry_with b e) e.log) ≡ lg_by i told x b l (Same e)
  unfolding lg_by lg_by_decision entry_with
  lg_open e h = rw h

module _ (i : ℕ) (told : Told) (b : Body) (l : Vl) (e : State) where
  pub lg_logged : (d : Decision) (v : View) → e.log ≡ logged_at d v → kept (Logged d v) ≡ step_by i (lg_by_log told b l (entry_with b e) e.log)
  unfolding lg_by_log step_by change_by
  lg_logged d v h = rw h

  pub lg_free : e.log ≡ unlogged
      → step_by i (needing (for_logging told.f (decision_of l.decision)) l (first_log b (decision_of l.decision) (some (entry_with b e))))
      ≡ step_by i (lg_by_log told b l (entry_with b e) e.log)
  unfolding lg_by_log
  lg_free h = rw h

-- ---- DC
module _ (i : ℕ) (told : Told) (x : Box) (b : Body) (d : Decision) (n : ℕ) (k : length x.table ≡ n) where
  pub dc_full : leb told.capacity n ≡ true → kept (Refused Full) ≡ step_by i (dc_by_entry told x b d none)
  unfolding dc_by_entry room_for is_full step_by change_by
  dc_full h = rw (k, h)

  pub dc_room : leb told.capacity n ≡ false → step_by i (decide_act b d none) ≡ step_by i (dc_by_entry told x b d none)
  unfolding dc_by_entry room_for is_full
  dc_room h = rw (k, h)

same_tells : (a b : Decision) → sameb the_type a b ≡ same_decision a b
unfolding same_decision
same_tells commit commit = refl
same_tells commit abort = refl
same_tells abort commit = refl
same_tells abort abort = refl

module _ (i : ℕ) (b : Body) (d : Decision) (e : State) where
  pub dc_takes : e.decided ≡ unsettled → put i (record { vote = e.vote; log = e.log; view = e.view; decided = settled d }) Done ≡ step_by i (dc_same b d (entry_with b e) e.decided)
  unfolding dc_same decide_act step_by change_by state_in entry_with
  dc_takes h = rw h

  -- t is whether the two are the same, as the derive tells it
  module _ (held : Decision) (h : e.decided ≡ settled held) (t : Bool) (q : t ≡ sameb the_type held d) where
    pub dc_equal : t ≡ true → kept Done ≡ step_by i (dc_same b d (entry_with b e) e.decided)
    unfolding dc_same step_by change_by
    dc_equal s = rw (h, ← same_tells held d, ← q, s)

    pub dc_opposite : t ≡ false → kept (Refused Contradiction) ≡ step_by i (dc_same b d (entry_with b e) e.decided)
    unfolding dc_same step_by change_by
    dc_opposite s = rw (h, ← same_tells held d, ← q, s)
