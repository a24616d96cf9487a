-- What a box takes by DC is committed in it then, above its low mark; and moves leave it.
use Prim.Native.Nat.{ℕ, ◌<◌}
use mathlib.Core.Path.{◌≡◌, refl, sym, ap, ◌∙◌}
use mathlib.Core.Logic.{◌⊎◌, inl, inr}
use mathlib.Core.Option.{Option, some, none}
use mathlib.Core.List.{List, ◌∷◌}
use native.Mathlib.Omega.{arith}
use lib.Dec.{eqb, eqb_refl}
use Rattle.terms.specs.declared.Refusal.{Refusal}
use Rattle.terms.specs.declared.Decision.TheVariants.{Commit as commit, Abort as abort}
use Rattle.records.specs.Vl.{Vl}
use Rattle.records.specs.Cutting.{tx_part}
use Rattle.records.specs.Messages.{list_behind}
use Rattle.records.specs.declared.Mark.TheVariants.{DC}
use Rattle.std.specs.Prelude.{Ok}
use Rattle.rules.specs.declared.Answer.TheVariants.{Done}
use Rattle.rules.specs.Answers.{Settled, settled, unsettled}
use Rattle.rules.specs.Bodies.{Body, stamp_of, same_body}
use Rattle.rules.specs.Lists.{decision_of, meets, for_proof, kind_of}
use Rattle.rules.specs.declared.Told.{Told}
use Rattle.rules.specs.Table.{Box, Entry, find, put}
use Rattle.rules.specs.Calls.{Act, keep, refuse, cast_act, log_act, decide_act, needing, room_for, is_full, same_decision, old_wrong}
use Rattle.rules.specs.Calls.{dc_same, dc_other, dc_by_entry, dc_rule}
use Rattle.rules.specs.Fallback.{elect_act}
use Rattle.rules.specs.Act.{EntryPoint, table_after, low_after, box_after, after, unless_old, rule, due_act, mark_by, act}
use Rattle.rules.specs.System.{Event, told_at, box_at, answer_to}
use Rattle.rules.proofs.Laws.{pick_elim, pick_true, same_body_eq, same_decision_eq, find_put_same}
use Rattle.rules.proofs.Moves.{some_eq, un_settled, Prior, Move, quiet, again, casts, logs_first, decides, replaces, takes, elects}
use Rattle.rules.proofs.Deeds.{guarded_elim, act_marked, not_old}
use Rattle.rules.proofs.Kept.{put_cases}
use Rattle.rules.proofs.Trace.{table, low}
use Rattle.passage.specs.Register.{Takes}

-- found by its stamp, committed
pub record Held (t : List Entry) (b : Body) : Type 0 where
  pub entry : Entry
  pub at : find (stamp_of b) t ≡ some entry
  pub body : entry.body ≡ b
  pub committed : entry.decided ≡ settled commit

-- ---- what is committed stays
put_stays : (t : List Entry) (n : Entry) (c : Body) (e : Entry) → find (stamp_of c) t ≡ some e → (find (stamp_of n.body) t ≡ some e → ⊥)
    → find (stamp_of c) (put n t) ≡ some e
put_stays t n c e h free = go (put_cases (stamp_of c) n t)
  where
    go : ((stamp_of n.body ≡ stamp_of c) × (find (stamp_of c) (put n t) ≡ some n)) ⊎ (find (stamp_of c) (put n t) ≡ find (stamp_of c) t)
        → find (stamp_of c) (put n t) ≡ some e
    go (inl u) = absurd (free (rw u.0 h))
    go (inr u) = u ∙ h

open_there : {t : List Entry} {b : Body} {o : Option Entry} → Prior t b o → (e : Entry) → e.decided ≡ settled commit → find (stamp_of b) t ≡ some e → ⊥
open_there p e d q = un_settled (p.undecided e (sym p.at ∙ q)) d

pub stays : {f : ℕ} {x : Box} {way : EntryPoint} {m : List ℕ} {b : Body} {a : Act} → Move f x way m b a → (c : Body) (e : Entry)
    → find (stamp_of c) x.table ≡ some e → e.decided ≡ settled commit → find (stamp_of c) (table_after x.table a.change) ≡ some e
unfolding cast_act log_act elect_act decide_act table_after
stays (quiet n) c e h d = h
stays (again w o p g n) c e h d = h
stays {x = x} (casts v m o p n r cl) c e h d = put_stays x.table _ c e h (open_there p e d)
stays {x = x} (logs_first l o w k y p n) c e h d = put_stays x.table _ c e h (open_there p e d)
stays {x = x} (takes l o w k p u v) c e h d = put_stays x.table _ c e h (open_there p e d)
stays {x = x} (elects told v y s u p k n) c e h d = put_stays x.table _ c e h (open_there p e d)
stays {x = x} (decides l o w p) c e h d = put_stays x.table _ c e h (open_there p e d)
stays {x = x} (replaces l o w p g) c e h d = put_stays x.table _ c e h (λ q. p.not_committed (rw (some_eq p.at q) d))

-- ---- what is taken is held
-- what an act leaves that answers Done: b committed, above the low mark, which stays
pub record Now (x : Box) (b : Body) (a : Act) : Type 0 where
  pub high : x.low < stamp_of b
  pub low_same : low_after x.low a.change ≡ x.low
  pub held : Held (table_after x.table a.change) b

unfoldable Commits : Box → Body → Act → Type 0
Commits x b a = a.answer ≡ Done → Now x b a

refused : (x : Box) (b : Body) (r : Refusal) → Commits x b (refuse r)
unfolding Commits
refused x b r q = let z : ◌≡◌ {A = ℕ} 0 1 = cc in absurd (omega arith)

module _ (told : Told) (x : Box) (b : Body) (high : x.low < stamp_of b) where
  decided : (o : Option Entry) → Commits x b (decide_act b commit o)
  unfolding Commits decide_act table_after low_after
  decided o q =
      record { high = high; low_same = refl; held = record { entry = _; at = find_put_same _ x.table; body = refl; committed = refl } }

  again_done : (e : Entry) → find (stamp_of b) x.table ≡ some e → e.body ≡ b → e.decided ≡ settled commit → Commits x b (keep Done)
  unfolding Commits table_after low_after
  again_done e h s q _ = record { high = high; low_same = refl; held = record { entry = e; at = h; body = s; committed = q } }

  same : (e : Entry) → find (stamp_of b) x.table ≡ some e → e.body ≡ b → (o : Settled) → e.decided ≡ o → Commits x b (dc_same b commit e o)
  unfolding dc_same
  same e h s unsettled q = decided (some e)
  same e h s (settled d) q =
      pick_elim (Commits x b) (same_decision d commit) (λ k. again_done e h s (q ∙ ap settled (same_decision_eq d commit k))) (λ k. refused x b _)

  other : (o : Settled) → Commits x b (dc_other b commit o)
  unfolding dc_other
  other (settled commit) = refused x b _
  other (settled abort) = decided none
  other unsettled = decided none

  by_entry_lem : (o : Option Entry) → find (stamp_of b) x.table ≡ o → Commits x b (dc_by_entry told x b commit o)
  unfolding dc_by_entry room_for
  by_entry_lem none h = pick_elim (Commits x b) (is_full told x) (λ k. refused x b _) (λ k. decided none)
  by_entry_lem (some e) h =
      pick_elim (Commits x b) (same_body e.body b) (λ k. same e h (same_body_eq e.body b k) e.decided refl) (λ k. other e.decided)

  by_rule : (l : Vl) → decision_of l.decision ≡ commit → Commits x b (dc_rule told x b l)
  unfolding dc_rule needing
  by_rule l e =
      pick_elim (Commits x b) (meets (for_proof told.f (kind_of l.kind) (decision_of l.decision)) l)
      (λ k. rw e (by_entry_lem (find (stamp_of b) x.table) refl))
      (λ k. refused x b _)

module _ (told : Told) (x : Box) (way : EntryPoint) (m : List ℕ) where
  -- 14, the reading, 18
  young_commits : (l : Vl) → decision_of l.decision ≡ commit → Commits x (tx_part m) (unless_old x (tx_part m) (dc_rule told x (tx_part m) l))
  unfolding unless_old
  young_commits l e =
      guarded_elim (Commits x (tx_part m)) (old_wrong x.low (stamp_of (tx_part m))) _
      (λ h. by_rule told x (tx_part m) (not_old x.low (stamp_of (tx_part m)) h) l e)
      (refused x (tx_part m))

  act_commits : mark_by way m ≡ Ok DC → decision_of (list_behind m).decision ≡ commit → Commits x (tx_part m) (act way told x m)
  unfolding act due_act rule
  act_commits q e =
      guarded_elim (Commits x (tx_part m)) _ _
      (λ _.
      rw (act_marked told x way m DC q)
      (guarded_elim (Commits x (tx_part m)) _ _ (λ _. young_commits (list_behind m) e) (refused x (tx_part m))))
      (refused x (tx_part m))

module _ (f i : ℕ) where
  pub taken_now : (b : Body) (e : Event) (es : List Event) → Takes f i b e es → (low f i (e ∷ es) < stamp_of b) × Held (table f i (e ∷ es)) b
  unfolding Commits table low box_at after box_after answer_to
  taken_now b e es t =
      let doing = act e.entry (told_at f e) (box_at f i es) e.message in
      let now : box_at f i (e ∷ es) ≡ box_after (box_at f i es) doing.change = pick_true (eqb e.box i) _ _ (rw t.here (eqb_refl i)) in
      let said : doing.answer ≡ Done = sym (ap (λ (j : ℕ). (act e.entry (told_at f e) (box_at f j es) e.message).answer) t.here) ∙ t.done in
      let y : Now (box_at f i es) b doing
      = rw t.body at (act_commits (told_at f e) (box_at f i es) e.entry e.message t.mark t.names said) in
      let l : (box_at f i (e ∷ es)).low ≡ (box_at f i es).low = ap (λ (x : Box). x.low) now ∙ y.low_same in
      (rw l y.high, rw (ap (λ (x : Box). x.table) now) y.held)
