-- IV and LD, one law for each outcome as the code has it.
use Prim.Native.Nat.{ℕ, ◌*◌, ◌<◌, ◌≤◌}
use mathlib.Core.Path.{◌≡◌, ap, sym}
use mathlib.Core.Bool.{Bool, true, false, ◌&&◌}
use mathlib.Core.List.{map}
use mathlib.Core.Option.{Option, some, none}
use borrow.Author.Tests.{lt-ltb, le-ltb, eq-eqb, ne_eqb}
use lib.Dec.{eqb, leb, ltb}
use lib.ListN.{length}
use Rattle.terms.specs.Choice.{pick}
use Rattle.terms.specs.Group.{log_proof}
use Rattle.terms.specs.declared.Decision.{Decision}
use Rattle.terms.specs.declared.Refusal.TheVariants.{Full, Passed, NotLogged, Election, LastView}
use Rattle.records.specs.Views.{Views, ballot_pair}
use Rattle.rules.specs.declared.Answer.TheVariants.{Decided, Elected, Refused}
use Rattle.rules.specs.Answers.{Log, logged_at, settled, unlogged, unsettled}
use Rattle.rules.specs.declared.Told.{Told}
use Rattle.rules.specs.Answers.{View, log_view, view_as}
use Rattle.rules.specs.Bodies.{Body, stamp_of}
use Rattle.rules.specs.Lists.{tally}
use Rattle.rules.specs.Table.{Entry, Box}
use Rattle.rules.specs.Calls.{Act, refuse, is_full, room_for}
use Rattle.rules.specs.Fallback.{largest_view, leader_of, next_view, elect_act, iv_by_log, iv_by_decision, one_view, leads, may_take, take_act, led_act, ld_by_decision, ld_by_entry}
use Rattle.table.specs.declared.State.{State}
use Rattle.table.specs.Table.{entry_with, state_in}
use Rattle.steps.specs.declared.Held.TheVariants.{Not, Same}
use Rattle.steps.specs.Step.{change_by, step_by, kept, put, iv_by, ld_by, Beside}

-- ---- IV
module _ (i : ℕ) (told : Told) (b : Body) (l : Views) (e : State) where
  module _ (d : Decision) (v : View) (x : ℕ) (q : x ≡ next_view told.f e.view.0 l.ballots) where
    pub iv_last : largest_view < x → kept (Refused LastView) ≡ step_by i (iv_by_log told b l.ballots (entry_with b e) (logged_at d v))
    unfolding iv_by_log entry_with step_by change_by
    iv_last h = rw (← q, lt-ltb largest_view x h)

    pub iv_moves : x ≤ largest_view → (n : ℕ) → n ≡ leader_of told.f x (stamp_of b)
        → put i (record { vote = e.vote; log = e.log; view = view_as x; decided = unsettled }) (Elected d (view_as x) n)
        ≡ step_by i (iv_by_log told b l.ballots (entry_with b e) (logged_at d v))
    unfolding iv_by_log elect_act entry_with state_in step_by change_by
    iv_moves h n k = rw (← q, le-ltb largest_view x h, k)

  pub iv_unlogged : e.log ≡ unlogged → kept (Refused NotLogged) ≡ step_by i (iv_by_log told b l.ballots (entry_with b e) e.log)
  unfolding iv_by_log step_by change_by
  iv_unlogged h = rw h

  pub iv_logs : (d : Decision) (v : View) → e.log ≡ logged_at d v
      → step_by i (iv_by_log told b l.ballots (entry_with b e) (logged_at d v)) ≡ step_by i (iv_by_log told b l.ballots (entry_with b e) e.log)
  iv_logs d v h = ap (λ (x : Log). step_by i (iv_by_log told b l.ballots (entry_with b e) x)) (sym h)

  pub iv_decided : (d : Decision) → e.decided ≡ settled d → kept (Decided d) ≡ iv_by i told b l (Same e)
  unfolding iv_by iv_by_decision step_by change_by
  iv_decided d h = rw h

  pub iv_open : e.decided ≡ unsettled → step_by i (iv_by_log told b l.ballots (entry_with b e) e.log) ≡ iv_by i told b l (Same e)
  unfolding iv_by iv_by_decision entry_with
  iv_open h = rw h

-- ---- LD
module _ (i : ℕ) (told : Told) (b : Body) (l : Views) (o : Option Entry) (a : Act) (x : Bool) (q : x ≡ leads told.f b l) where
  pub ld_election : x ≡ false → kept (Refused Election) ≡ step_by i (take_act told b l o a)
  unfolding take_act step_by change_by
  ld_election h = rw (← q, h)

  module _ (h : x ≡ true) (e : State) (w : Beside o e) (y : Bool) (r : y ≡ (leb e.view.0 l.view && ltb (log_view e.log).0 l.view)) where
    may : may_take l.view o ≡ y
    unfolding may_take
    may = rw (w.1, w.2, r)

    pub ld_passed : y ≡ false → kept (Refused Passed) ≡ step_by i (take_act told b l o a)
    unfolding take_act step_by change_by
    ld_passed k = rw (← q, h, may, k)

    pub ld_takes : y ≡ true → step_by i a ≡ step_by i (take_act told b l o a)
    unfolding take_act
    ld_takes k = rw (← q, h, may, k)

-- a test is not both
pub apart : {P : Type 0} (t : Bool) → t ≡ true → t ≡ false → P
apart true h k = cc
apart false h k = cc

-- leader, number of answers, their view, their majority, each checked in turn
module _ (f : ℕ) (b : Body) (l : Views) (x : ℕ) (k : x ≡ leader_of f l.view (stamp_of b)) where
  pub leads_not : (l.leader ≡ x → ⊥) → false ≡ leads f b l
  unfolding leads
  leads_not h = rw (← k, ne_eqb _ _ h)

  module _ (h : l.leader ≡ x) (n m : ℕ) (c : length l.ballots ≡ n) (q : m ≡ log_proof f) where
    pub leads_few : eqb n m ≡ false → false ≡ leads f b l
    unfolding leads
    leads_few g = rw (← k, eq-eqb _ _ h, c, ← q, g)

    module _ (g : eqb n m ≡ true) (o : Bool) (p : o ≡ one_view l.view l.ballots) where
      pub leads_mixed : o ≡ false → false ≡ leads f b l
      unfolding leads
      leads_mixed z = rw (← k, eq-eqb _ _ h, c, ← q, g, ← p, z)

      pub leads_most : o ≡ true → (y : ℕ) → y ≡ tally l.decision (map ballot_pair l.ballots) → ltb n (2 * y) ≡ leads f b l
      unfolding leads
      leads_most z y s = rw (← k, eq-eqb _ _ h, c, ← q, g, ← p, z, ← s)

-- 13 behind the others
module _ (i : ℕ) (full : Bool) (a : Act) where
  pub ld_full : full ≡ true → kept (Refused Full) ≡ step_by i (pick full (refuse Full) a)
  unfolding step_by change_by
  ld_full h = rw h

  pub ld_room : full ≡ false → step_by i a ≡ step_by i (pick full (refuse Full) a)
  ld_room h = rw h

module _ (i : ℕ) (told : Told) (x : Box) (b : Body) (l : Views) where
  pub ld_new : (n : ℕ) (full : Bool) → length x.table ≡ n → full ≡ leb told.capacity n
      → step_by i (take_act told b l none (pick full (refuse Full) (led_act b l none))) ≡ ld_by i told x b l Not
  unfolding ld_by ld_by_entry room_for is_full
  ld_new n full k h = rw (h, k)

  pub ld_decided : (e : State) (d : Decision) → e.decided ≡ settled d → kept (Decided d) ≡ ld_by i told x b l (Same e)
  unfolding ld_by ld_by_decision step_by change_by
  ld_decided e d h = rw h

  pub ld_open : (e : State) → e.decided ≡ unsettled
      → step_by i (take_act told b l (some (entry_with b e)) (led_act b l (some (entry_with b e)))) ≡ ld_by i told x b l (Same e)
  unfolding ld_by ld_by_decision entry_with
  ld_open e h = rw h
