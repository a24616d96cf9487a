-- What stands committed in a box it has taken by DC.
use Prim.Native.Nat.{ℕ}
use mathlib.Core.Bool.{not}
use mathlib.Core.Path.{◌≡◌, refl, sym, ap, ◌∙◌}
use mathlib.Core.Logic.{◌⊎◌, inl, inr}
use mathlib.Core.Option.{Option, some, none}
use mathlib.Core.List.{List, [], ◌∷◌, Memᴰ as In}
use native.Mathlib.Omega.{arith}
use lib.Dec.{T, eqb, eqb→eq}
use Rattle.terms.specs.declared.Refusal.{Refusal}
use Rattle.terms.specs.declared.Decision.TheVariants.{Commit as commit}
use Rattle.records.specs.Vl.{Vl}
use Rattle.records.specs.Cutting.{tx_part}
use Rattle.records.specs.Messages.{list_behind}
use Rattle.records.specs.declared.Mark.{Mark}
use Rattle.records.specs.declared.Mark.TheVariants.{PR, LG, DC, RD, IV, LD}
use Rattle.std.specs.Prelude.{Ok}
use Rattle.rules.specs.declared.Answer.TheVariants.{Done}
use Rattle.rules.specs.Answers.{Log, Settled, logged, settled, unlogged, unsettled}
use Rattle.rules.specs.declared.Told.{Told}
use Rattle.rules.specs.Bodies.{Body, same_body, stamp_of}
use Rattle.rules.specs.Lists.{decision_of, for_logging, meets}
use Rattle.rules.specs.Table.{Box, Entry, empty, find, put}
use Rattle.rules.specs.Calls.{Act, refuse, cast_act, log_act, first_log, decide_act, look_act, needing, room_for, is_full, lg_by_log, lg_by_decision, lg_by_entry, lg_rule}
use Rattle.rules.specs.Fallback.{elect_act}
use Rattle.rules.specs.Act.{EntryPoint, table_after, box_after, after, unless_old, rule, due_act, mark_by, act}
use Rattle.rules.specs.System.{Event, told_at, box_at, answer_to}
use Rattle.rules.proofs.Laws.{pick_elim, pick_true, pick_false, decide_t, in_put}
use Rattle.rules.proofs.Moves.{un_settled, Listed, in_lg, in_dc, Move, quiet, again, casts, logs_first, decides, replaces, takes, elects}
use Rattle.rules.proofs.Deeds.{Deed, moves, idles, looks, lifts, deed, guarded_elim, act_marked}
use Rattle.rules.proofs.Folds.{in_above}
use Rattle.rules.proofs.Fresh.{Fresh, after_cases}
use Rattle.rules.proofs.Trace.{table}
use Rattle.passage.specs.Register.{Takes, Taken}

-- ---- an LG is never answered Done
unfoldable NotDone : Act → Type 0
NotDone a = a.answer ≡ Done → ⊥

refuses : (r : Refusal) → NotDone (refuse r)
unfolding NotDone
refuses r q = let z : ◌≡◌ {A = ℕ} 0 1 = cc in omega arith

module _ (told : Told) (b : Body) (l : Vl) where
  logs : (o : Option Entry) → NotDone (first_log b (decision_of l.decision) o)
  unfolding NotDone log_act
  logs o q = let z : ◌≡◌ {A = ℕ} 0 1 = cc in omega arith

  by_log : (e : Entry) (o : Log) → NotDone (lg_by_log told b l e o)
  unfolding NotDone lg_by_log needing
  by_log e (logged y) = λ q. let z : ◌≡◌ {A = ℕ} 0 1 = cc in omega arith
  by_log e unlogged = pick_elim NotDone (meets (for_logging told.f (decision_of l.decision)) l) (λ _. logs (some e)) (λ _. refuses _)

  by_decision : (e : Entry) (o : Settled) → NotDone (lg_by_decision told b l e o)
  unfolding NotDone lg_by_decision
  by_decision e (settled d) = λ q. let z : ◌≡◌ {A = ℕ} 0 1 = cc in omega arith
  by_decision e unsettled = by_log e e.log

  by_entry_lem : (x : Box) (o : Option Entry) → NotDone (lg_by_entry told x b l o)
  unfolding lg_by_entry needing room_for
  by_entry_lem x none =
      pick_elim NotDone (meets (for_logging told.f (decision_of l.decision)) l)
      (λ _. pick_elim NotDone (is_full told x) (λ _. refuses _) (λ _. logs none))
      (λ _. refuses _)
  by_entry_lem x (some e) = pick_elim NotDone (same_body e.body b) (λ _. by_decision e e.decided) (λ _. refuses _)

lg_not_done : (told : Told) (x : Box) (way : EntryPoint) (m : List ℕ) → mark_by way m ≡ Ok LG → NotDone (act way told x m)
unfolding act due_act rule unless_old lg_rule
lg_not_done told x way m q =
    guarded_elim NotDone _ _
    (λ _.
    rw (act_marked told x way m LG q)
    (guarded_elim NotDone _ _
    (λ _. guarded_elim NotDone _ _ (λ _. by_entry_lem told (tx_part m) (list_behind m) x (find (stamp_of (tx_part m)) x.table)) refuses)
    refuses))
    refuses

-- ---- an entry that is committed after a message was there, or the message is a DC that is answered Done
put_open : (t : List Entry) (n e : Entry) → n.decided ≡ unsettled → In e (put n t) → e.decided ≡ settled commit → In e t
put_open t n e u i q = go (in_put n e t i)
  where
    go : (e ≡ n) ⊎ In e t → In e t
    go (inl p) = absurd (un_settled u (rw p at q))
    go (inr j) = j

done_by : {f : ℕ} {x : Box} {way : EntryPoint} {m : List ℕ} {b : Body} {a : Act} → Move f x way m b a → (e : Entry)
    → In e (table_after x.table a.change) → e.decided ≡ settled commit → In e x.table ⊎ (a.answer ≡ Done)
unfolding cast_act log_act elect_act decide_act table_after
done_by (quiet n) e i q = inl i
done_by (again w o p g n) e i q = inl i
done_by {x = x} (casts v m o p n r cl) e i q = inl (put_open x.table _ e refl i q)
done_by {x = x} (logs_first l o w k y p n) e i q = inl (put_open x.table _ e refl i q)
done_by {x = x} (takes l o w k p u v) e i q = inl (put_open x.table _ e refl i q)
done_by {x = x} (elects told v y s u p k n) e i q = inl (put_open x.table _ e refl i q)
done_by (decides l o w p) e i q = inr refl
done_by (replaces l o w p g) e i q = inr refl

pub record Came (way : EntryPoint) (m : List ℕ) (a : Act) (b : Body) : Type 0 where
  pub mark : mark_by way m ≡ Ok DC
  pub body : tx_part m ≡ b
  pub names : decision_of (list_behind m).decision ≡ commit
  pub done : a.answer ≡ Done

module _ (told : Told) (x : Box) (way : EntryPoint) (m : List ℕ) (e : Entry) (q : e.decided ≡ settled commit) where
  by_mark : (k : Mark) → Listed k → mark_by way m ≡ Ok k → (act way told x m).answer ≡ Done → mark_by way m ≡ Ok DC
  unfolding NotDone
  by_mark LG in_lg h d = absurd (lg_not_done told x way m h d)
  by_mark DC in_dc h d = h
  by_mark PR k h d = elim k [ ]
  by_mark RD k h d = elim k [ ]
  by_mark IV k h d = elim k [ ]
  by_mark LD k h d = elim k [ ]

  arrived : (a : Act) → a ≡ act way told x m → In e x.table ⊎ Fresh told.f x way m (tx_part m) e a.answer → In e x.table ⊎ (a.answer ≡ Done)
      → In e x.table ⊎ Came way m a e.body
  arrived a s (inl i) d = inl i
  arrived a s (inr w) (inl i) = inl i
  arrived a s (inr w) (inr d) =
      let y = w.decided commit q in
      let b = y.1.brings in
      inr (record {
        mark = by_mark b.mark b.carries b.marked (rw s at d);
        body = sym w.owner;
        names = ap (λ (l : Vl). decision_of l.decision) b.list ∙ y.2;
        done = d;
      })

  by_deed : (a : Act) → a ≡ act way told x m → Deed told.f x way m (tx_part m) a → In e (table_after x.table a.change) → In e x.table ⊎ Came way m a e.body
  unfolding table_after look_act
  by_deed a s (moves l k) i = arrived a s (after_cases a k e i) (done_by k e i q)
  by_deed a s (idles n) i = inl i
  by_deed a s (looks k t) i = inl i
  by_deed a s (lifts l h d) i = inl (in_above l e x.table i).0

  pub came : In e (table_after x.table (act way told x m).change) → In e x.table ⊎ Came way m (act way told x m) e.body
  came i = by_deed (act way told x m) refl (deed told x way m) i

-- ---- along a trace
module _ (f i : ℕ) where
  pub committed_taken : (es : List Event) (x : Entry) → In x (table f i es) → x.decided ≡ settled commit → Taken f i x.body es
  unfolding table box_at empty Taken after box_after answer_to
  committed_taken [] x m q = elim m [ ]
  committed_taken (e ∷ es) x m q = go (decide_t (eqb e.box i)) (committed_taken es x)
    where
      doing : Act
      doing = act e.entry (told_at f e) (box_at f i es) e.message

      by : e.box ≡ i → In x (box_at f i es).table ⊎ Came e.entry e.message doing x.body
          → (In x (box_at f i es).table → x.decided ≡ settled commit → Taken f i x.body es) → Takes f i x.body e es ⊎ Taken f i x.body es
      by h (inl j) r = inr (r j q)
      by h (inr c) r =
          inl (record {
            here = h;
            mark = c.mark;
            body = c.body;
            names = c.names;
            done = ap (λ (j : ℕ). (act e.entry (told_at f e) (box_at f j es) e.message).answer) h ∙ c.done;
          })

      go : T (eqb e.box i) ⊎ T (not (eqb e.box i)) → (In x (box_at f i es).table → x.decided ≡ settled commit → Taken f i x.body es)
          → Takes f i x.body e es ⊎ Taken f i x.body es
      go (inl y) r =
          let now : (box_at f i (e ∷ es)).table ≡ table_after (box_at f i es).table doing.change = ap (λ (z : Box). z.table) (pick_true (eqb e.box i) _ _ y) in
          by (eqb→eq e.box i y) (came (told_at f e) (box_at f i es) e.entry e.message x q (rw now at m)) r
      go (inr n) r =
          let now : (box_at f i (e ∷ es)).table ≡ (box_at f i es).table = ap (λ (z : Box). z.table) (pick_false (eqb e.box i) _ _ n) in
          inr (r (rw now at m) q)
