-- The read marks along a trace: 512 of them, none falls, and an RD that is answered raises its own.
use Prim.Native.Nat.{ℕ, ◌≤◌, ◌<◌, max}
use mathlib.Core.Bool.{not}
use mathlib.Core.Path.{◌≡◌, refl, ◌∙◌, ap}
use mathlib.Core.Logic.{◌⊎◌, inl, inr}
use mathlib.Core.List.{List, [], ◌∷◌}
use native.Mathlib.Omega.{arith}
use lib.Dec.{T, eqb, eqb→eq}
use lib.ListN.{length, get_or, set, length-replicate}
use lib.Seq.{get_or-set_same, get_or-set_other}
use Rattle.terms.specs.Checks.{Check, passed, if_less, ahead}
use Rattle.records.specs.Contents.{largest_key}
use Rattle.records.specs.declared.Mark.TheVariants.{PR, LG, DC, RD, IV, LD}
use Rattle.std.specs.Prelude.{Result, Ok, Err}
use Rattle.terms.specs.declared.Refusal.{Refusal}
use Rattle.records.specs.declared.Mark.{Mark}
use Rattle.records.specs.Messages.{due_refusal, mark_of, rd_key, rd_stamp}
use Rattle.rules.specs.Table.{Box, Told, empty, limit}
use Rattle.rules.specs.Calls.{Act, Change, guarded, look_act, nothing, old_wrong, puts, raises, raises_low, rd_rule}
use Rattle.rules.specs.Act.{EntryPoint, act, act_by, after, box_after, due, due_act, due_mark, mark_by, marked_act, marks_after, raise, raising, receive}
use Rattle.rules.specs.Act.{rule, told_wrong}
use Rattle.rules.specs.System.{Event, box_at, told_at}
use Rattle.rules.specs.SlipUnder.{is_found, is_rd}
use Rattle.rules.proofs.Laws.{decide_t, not_eqb, pick_elim}
use Rattle.rules.proofs.Outcome.{marks_long}
use Rattle.rules.proofs.Room.{rd_key_lem}

-- ---- one change
marks_up : (marks : List ℕ) (c : Change) (k : ℕ) → k < length marks → get_or marks k 0 ≤ get_or (marks_after marks c) k 0
unfolding marks_after raise
marks_up marks nothing k h = omega arith
marks_up marks (puts e) k h = omega arith
marks_up marks (raises_low l) k h = omega arith
marks_up marks (raises j s) k h = go (decide_t (eqb k j))
  where
    go : T (eqb k j) ⊎ T (not (eqb k j)) → get_or marks k 0 ≤ get_or (set marks j (max (get_or marks j 0) s)) k 0
    go (inl y) = let q = eqb→eq k j y in rw (← q, get_or-set_same marks k (max (get_or marks k 0) s) 0 h) (omega arith)
    go (inr n) = rw (get_or-set_other marks j k (max (get_or marks j 0) s) 0 (not_eqb k j n)) (omega arith)

-- ---- along a trace
module _ (f i : ℕ) where
  unfoldable pub marks : List Event → List ℕ
  marks es = (box_at f i es).marks

  pub all_marks : (es : List Event) → length (marks es) ≡ 512
  unfolding box_at empty marks
  all_marks [] = length-replicate {A = ℕ} 512 0
  all_marks (e ∷ es) =
      pick_elim (λ (x : Box). length x.marks ≡ 512) (eqb e.box i)
      (λ _. marks_long (told_at f e) (box_at f i es) e.entry e.message ∙ all_marks es)
      (λ _. all_marks es)

  pub mark_up : (e : Event) (es : List Event) (k : ℕ) → k ≤ largest_key → get_or (marks es) k 0 ≤ get_or (marks (e ∷ es)) k 0
  unfolding box_at after box_after marks
  mark_up e es k h =
      pick_elim (λ (x : Box). get_or (box_at f i es).marks k 0 ≤ get_or x.marks k 0) (eqb e.box i)
      (λ _. marks_up (box_at f i es).marks (act e.entry (told_at f e) (box_at f i es) e.message).change k (rw (all_marks es) (omega arith)))
      (λ _. omega arith)

-- ---- an RD that is answered: what is done is the look, at a key that has a mark
pub record Looks (a : Act) (x : Box) (m : List ℕ) : Type 0 where
  pub is : a ≡ look_act x (rd_key m) (rd_stamp m)
  pub key : rd_key m ≤ largest_key

found_guard : (c : Check) (a : Act) → T (is_found (guarded c a).answer) → (c ≡ passed) × T (is_found a.answer)
unfolding guarded is_found
found_guard (Ok _) a h = (refl, h)
found_guard (Err r) a h = absurd h

module _ (told : Told) (x : Box) (m : List ℕ) where
  looks_rd : T (is_found (due_act RD told x m).answer) → Looks (due_act RD told x m) x m
  unfolding due_act rule rd_rule guarded
  looks_rd h =
      let u = found_guard (due_refusal RD told.f m) (rd_rule told x (rd_key m) (rd_stamp m)) h in
      let v = found_guard (if_less (limit told) (rd_stamp m) ahead) (guarded (old_wrong x.low (rd_stamp m)) (look_act x (rd_key m) (rd_stamp m))) u.1 in
      let w = found_guard (old_wrong x.low (rd_stamp m)) (look_act x (rd_key m) (rd_stamp m)) v.1 in
      record {
        is =
            ap (λ n. guarded n (rd_rule told x (rd_key m) (rd_stamp m))) u.0
            ∙ (ap (λ n. guarded n (guarded (old_wrong x.low (rd_stamp m)) (look_act x (rd_key m) (rd_stamp m)))) v.0
            ∙ ap (λ n. guarded n (look_act x (rd_key m) (rd_stamp m))) w.0);
        key = rd_key_lem told.f m u.0;
      }

  looks_marked : (k : Result Mark Refusal) → T (is_rd k) → T (is_found (marked_act k told x m).answer) → Looks (marked_act k told x m) x m
  unfolding is_rd marked_act
  looks_marked (Ok RD) h g = looks_rd g
  looks_marked (Ok PR) h g = absurd h
  looks_marked (Ok LG) h g = absurd h
  looks_marked (Ok DC) h g = absurd h
  looks_marked (Ok IV) h g = absurd h
  looks_marked (Ok LD) h g = absurd h
  looks_marked (Err r) h g = absurd h

  looks_by : (way : EntryPoint) → T (is_rd (mark_by way m)) → T (is_found (act_by way told x m).answer) → Looks (act_by way told x m) x m
  unfolding act_by mark_by is_rd
  looks_by receive h g = looks_marked (mark_of m) h g
  looks_by (due k) h g = looks_marked (due_mark k) h g
  looks_by (raising l) h g = absurd h

  pub looks_found : (way : EntryPoint) → T (is_rd (mark_by way m)) → T (is_found (act way told x m).answer) → Looks (act way told x m) x m
  unfolding act guarded
  looks_found way h g =
      let u = found_guard (told_wrong told) (act_by way told x m) g in
      let l = looks_by way h u.1 in
      record { is = ap (λ n. guarded n (act_by way told x m)) u.0 ∙ l.is; key = l.key }

-- its mark is then at the stamp or above
pub look_raises : (marks : List ℕ) (k s : ℕ) → k < length marks → s ≤ get_or (raise marks k s) k 0
unfolding raise
look_raises marks k s h = rw (get_or-set_same marks k (max (get_or marks k 0) s) 0 h) (omega arith)
