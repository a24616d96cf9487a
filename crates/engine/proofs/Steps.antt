-- A step on the rows is the step of the rules on the lent table, and it can be applied.
use Prim.Native.Nat.{ℕ, ◌≤◌, ◌<◌}
use native.Mathlib.Omega.{arith}
use mathlib.Core.Path.{◌≡◌, refl, ap, sym, ◌∙◌, subst}
use mathlib.Core.Bool.{false}
use mathlib.Core.List.{List}
use lib.Dec.{leb}
use lib.ListN.{length, drop}
use Rattle.std.specs.Prelude.{Err}
use Rattle.terms.specs.Checks.{passed, Check}
use Rattle.terms.proofs.Checks.{when_no}
use Rattle.terms.specs.declared.Refusal.{Refusal}
use Rattle.terms.specs.declared.Key.{Key}
use Rattle.terms.specs.declared.Stamp.{Stamp}
use Rattle.records.specs.declared.Mark.{Mark}
use Rattle.records.specs.declared.Mark.TheVariants.{PR, LG, DC, RD, IV, LD}
use Rattle.records.specs.declared.ViewMark.{ViewMark}
use Rattle.records.specs.declared.ViewMark.TheVariants.{VS, EL}
use Rattle.records.specs.declared.ViewList.{ViewList}
use Rattle.records.specs.Views.{Views, views_in, held_views}
use Rattle.records.specs.Vl.{Vl}
use Rattle.records.specs.Contents.{largest_key}
use Rattle.records.specs.Cutting.{tx_cut, behind_mark, tx_part}
use Rattle.records.specs.Messages.{due_refusal, list_behind, views_behind, rd_key, rd_stamp}
use Rattle.records.specs.declared.VoteList.{VoteList}
use Rattle.records.specs.Vl.{list_in, held_list}
use Rattle.records.proofs.Held.{list_in_lem, views_in_lem}
use Rattle.reading.proofs.Answers.{behind_view, behind_own}
use Rattle.reading.proofs.Due.{tx_due}
use Rattle.rules.specs.declared.Answer.{Answer}
use Rattle.rules.specs.declared.Answer.TheVariants.{Refused as refused_answer}
use Rattle.rules.specs.declared.Told.{Told}
use Rattle.rules.specs.Bodies.{Body, stamp_of}
use Rattle.rules.specs.Table.{Box}
use Rattle.rules.specs.Calls.{Act, Change, nothing, puts, raises, raises_low, guarded, old_wrong, refuse, pr_rule, lg_rule, dc_rule, look_act, rd_rule}
use Rattle.rules.specs.Fallback.{iv_rule, ld_rule}
use Rattle.rules.specs.Act.{rule, unless_old, marks_after}
use Rattle.rules.proofs.Deeds.{guarded_elim}
use Rattle.rules.proofs.Room.{FitsBy, Fit, rule_fits}
use Rattle.table.specs.Table.{box_from, entries, entries_of, low_of, count_of, place, stored, state_in, head_len}
use Rattle.steps.specs.declared.Step.{Step}
use Rattle.steps.specs.Step.{change_by, step_by, kept as kept_step}
use Rattle.steps.proofs.Stored.{below}
use Rattle.engine.specs.Outcome.{kept, box_in, lent_wrong, table_by, table_of, marks_of, Leaves, Ready, Does}
use Rattle.engine.proofs.Guards.{through, halted}
use Rattle.engine.proofs.Lent.{long, few, small_capacity}

-- ---- a step does an act
module _ {t m : List ℕ} where
  pub does_as : {a b : Act} {s : Step} → a ≡ b → Does a t m s → Does b t m s
  does_as {s = s} p d = subst (λ (y : Act). Does y t m s) p d

  pub refuses : (q : Refusal) → Does (refuse q) t m (kept_step (refused_answer q))
  unfolding table_by marks_after
  refuses q = record { ready = tt; answer = refl; table = refl; marks = λ _. refl }

  -- a check in front: it refuses, or it passes
  pub stops : {c : Check} (r : Refusal) (a : Act) → c ≡ Err r → Does (guarded c a) t m (kept_step (refused_answer r))
  stops r a p = does_as (halted r a p) (refuses r)

  pub passes : (c : Check) {a : Act} {s : Step} → c ≡ passed → Does a t m s → Does (guarded c a) t m s
  passes c z d = does_as (through c _ z) d

-- ---- what is put is put for a message with a body
unfoldable pub Bodied : List ℕ → Change → Type 0
Bodied m nothing = Unit {0}
Bodied m (raises k s) = Unit {0}
Bodied m (raises_low l) = Unit {0}
Bodied m (puts e) = (2 ≤ length m) × (tx_cut (behind_mark m) ≡ passed)

any_bodied : (m : List ℕ) (c : Change) → (2 ≤ length m) × (tx_cut (behind_mark m) ≡ passed) → Bodied m c
unfolding Bodied
any_bodied m nothing h = tt
any_bodied m (raises k s) h = tt
any_bodied m (raises_low l) h = tt
any_bodied m (puts e) h = h

pub guarded_bodied : (m : List ℕ) (c : Check) (a : Act) → (c ≡ passed → Bodied m a.change) → Bodied m (guarded c a).change
unfolding Bodied
guarded_bodied m c a h = guarded_elim (λ (y : Act). Bodied m y.change) c a h (λ _. tt)

pub rule_bodied : (k : Mark) (told : Told) (x : Box) (m : List ℕ) → due_refusal k told.f m ≡ passed → Bodied m (rule k told x m).change
unfolding rule rd_rule look_act Bodied
rule_bodied PR told x m z = any_bodied m (rule PR told x m).change (tx_due told.f m PR refl z)
rule_bodied LG told x m z = any_bodied m (rule LG told x m).change (tx_due told.f m LG refl z)
rule_bodied DC told x m z = any_bodied m (rule DC told x m).change (tx_due told.f m DC refl z)
rule_bodied IV told x m z = any_bodied m (rule IV told x m).change (tx_due told.f m IV refl z)
rule_bodied LD told x m z = any_bodied m (rule LD told x m).change (tx_due told.f m LD refl z)
rule_bodied RD told x m z = guarded_bodied m _ _ (λ _. guarded_bodied m _ _ (λ _. tt))

-- what fits the lent box; no message raises the low mark
abbrev FitsNow : Told → Box → Body → Change → Type 0
FitsNow told x b c = FitsBy (λ k. k ≤ largest_key) (λ _. ⊥) told x b c

-- ---- what fits the lent box can be made, at the place of the message's stamp
module _ (told : Told) (t marks m : List ℕ) (lent : lent_wrong told t ≡ passed) where
  abbrev at : ℕ
  at = place (stamp_of (tx_part m)) (entries_of t)

  is_ready : (c : Change) → FitsNow told (box_in (kept t marks)) (tx_part m) c → Bodied m c → Ready t m (change_by at c)
  unfolding FitsBy change_by box_in entries_of Bodied
  is_ready nothing h d = tt
  is_ready (raises k s) h d = h
  is_ready (raises_low l) h d = absurd h
  is_ready (puts e) h d =
      let b : at < told.capacity = below (drop head_len t) (count_of t) (stamp_of (tx_part m)) told.capacity (few told t lent) h.1 in
      let l = long told t lent in
      let c = small_capacity told t lent in
      (omega arith, omega arith, d.0, d.1)

  makes_table : (c : Change) → FitsNow told (box_in (kept t marks)) (tx_part m) c → table_of t (tx_part m) (change_by at c) ≡ table_by t c
  unfolding FitsBy change_by table_by
  makes_table nothing h = refl
  makes_table (raises k s) h = refl
  makes_table (raises_low l) h = absurd h
  makes_table (puts e) h = ap (λ (b : Body). stored t (place (stamp_of b) (entries_of t)) b (state_in e)) (sym h.0)

  makes_marks : (c : Change) (ms : List ℕ) → marks_of ms (change_by at c) ≡ marks_after ms c
  unfolding change_by marks_after
  makes_marks nothing ms = refl
  makes_marks (raises k s) ms = refl
  makes_marks (raises_low l) ms = refl
  makes_marks (puts e) ms = refl

  -- the step of a message's rule does what the rule says
  pub does : (k : Mark) → due_refusal k told.f m ≡ passed → (r : Step) → r ≡ step_by at (rule k told (box_in (kept t marks)) m)
      → Does (rule k told (box_in (kept t marks)) m) t m r
  unfolding Fit step_by
  does k z r q =
      let a = rule k told (box_in (kept t marks)) m in
      let h = rule_fits told (box_in (kept t marks)) m (λ _. ⊥) k z in
      rw q
      (record {
        ready = is_ready a.change h (rule_bodied k told (box_in (kept t marks)) m z);
        answer = refl;
        table = makes_table a.change h;
        marks = makes_marks a.change;
      })

-- ---- the list of a message that is cut is the message's, and so are the views
pub list_is : (m : List ℕ) (l : VoteList) → l ≡ held_list (list_behind m) → list_in l ≡ list_behind m
list_is m l p = ap list_in p ∙ list_in_lem (list_behind m) (behind_view m)

pub views_are : (k : ViewMark) (m : List ℕ) (l : ViewList) → l ≡ held_views (views_behind k m) → views_in k l ≡ views_behind k m
views_are k m l p = ap (views_in k) p ∙ views_in_lem k (views_behind k m) (behind_own k m)

-- ---- the step on the rows is the lent table's: rows, their number and the body as the code has them
module _ (told : Told) (t m rs : List ℕ) (n : ℕ) (p : rs ≡ drop head_len t) (q : n ≡ count_of t) (marks : List ℕ) (r : Step) where
  abbrev its : Mark → Type 0
  its k = r ≡ step_by (place (stamp_of (tx_part m)) (entries_of t)) (rule k told (box_in (kept t marks)) m)

  -- 18 passes
  young : {a : Act} → leb (stamp_of (tx_part m)) (low_of t) ≡ false → unless_old (box_in (kept t marks)) (tx_part m) a ≡ a
  unfolding unless_old old_wrong box_in
  young {a = a} o = sym (through _ a (when_no _ _ o))

  module _ (b : List ℕ) (u : b ≡ tx_part m) (o : leb (stamp_of (tx_part m)) (low_of t) ≡ false) where
    pub pr_is : r ≡ step_by (place (stamp_of b) (entries rs n)) (pr_rule told (box_from t (entries rs n) marks) b) → its PR
    unfolding rule box_in entries_of
    pr_is w = w ∙ (rw (p, q, u, young o))

    module _ (l : Vl) (k : l ≡ list_behind m) where
      pub lg_is : r ≡ step_by (place (stamp_of b) (entries rs n)) (lg_rule told (box_from t (entries rs n) marks) b l) → its LG
      unfolding rule box_in entries_of
      lg_is w = w ∙ (rw (p, q, u, k, young o))

      pub dc_is : r ≡ step_by (place (stamp_of b) (entries rs n)) (dc_rule told (box_from t (entries rs n) marks) b l) → its DC
      unfolding rule box_in entries_of
      dc_is w = w ∙ (rw (p, q, u, k, young o))

    module _ (l : Views) where
      pub iv_is : l ≡ views_behind VS m → r ≡ step_by (place (stamp_of b) (entries rs n)) (iv_rule told (box_from t (entries rs n) marks) b l) → its IV
      unfolding rule box_in entries_of
      iv_is k w = w ∙ (rw (p, q, u, k, young o))

      pub ld_is : l ≡ views_behind EL m → r ≡ step_by (place (stamp_of b) (entries rs n)) (ld_rule told (box_from t (entries rs n) marks) b l) → its LD
      unfolding rule box_in entries_of
      ld_is k w = w ∙ (rw (p, q, u, k, young o))

  pub rd_is : (k : Key) (s : Stamp) → k.0 ≡ rd_key m → s.0 ≡ rd_stamp m
      → r ≡ step_by (place (stamp_of (tx_part m)) (entries_of t)) (rd_rule told (box_from t (entries rs n) marks) k.0 s.0) → its RD
  unfolding rule box_in entries_of
  rd_is k s u v w = w ∙ (rw (p, q, u, v))

-- a step that does an act, applied, leaves what the act leaves
pub applied : {a : Act} {t m t' marks' : List ℕ} {s : Step} {r : Answer} (marks : List ℕ) → Does a t m s
    → (r ≡ s.answer) × (t' ≡ table_of t (tx_part m) s.change) × (marks' ≡ marks_of marks s.change) → Leaves a (kept t marks) r (kept t' marks')
applied marks d w = (w.0 ∙ d.answer, w.1 ∙ d.table, w.2 ∙ d.marks marks)
