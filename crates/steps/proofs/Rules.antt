-- PR, LG, DC, IV and LD by what is held under the message's stamp.
use Prim.Native.Nat.{ℕ}
use mathlib.Core.Path.{◌≡◌, refl, sym, ap, ◌∙◌}
use mathlib.Core.Bool.{Bool, true, false}
use mathlib.Core.Option.{Option, some, none}
use lib.Dec.{T}
use Rattle.terms.specs.Choice.{pick}
use Rattle.terms.specs.declared.Decision.{Decision}
use Rattle.terms.specs.declared.Kind.{Kind}
use Rattle.terms.specs.declared.Refusal.TheVariants.{OtherBody, TooFew, Full}
use Rattle.records.specs.declared.VoteList.{VoteList}
use Rattle.records.specs.Vl.{Vl, list_in}
use Rattle.records.specs.Views.{Views}
use Rattle.rules.specs.declared.Answer.TheVariants.{Logged, Refused}
use Rattle.rules.specs.Answers.{logged_at, unsettled}
use Rattle.rules.specs.declared.Vote.{Vote}
use Rattle.rules.specs.declared.Told.{Told}
use Rattle.rules.specs.Answers.{View, view_as}
use Rattle.rules.specs.Bodies.{Body, same_body, stamp_of}
use Rattle.rules.specs.Lists.{decision_of, kind_of, for_logging, for_proof, lacking}
use Rattle.rules.specs.Table.{Entry, Box, find, vote_in, view_in}
use Rattle.rules.specs.Calls.{Act, refuse, needing, pr_by_decision, pr_by_entry, pr_rule, lg_by_decision, lg_by_entry, lg_rule, first_log, log_act, dc_same, dc_other, dc_by_entry, dc_rule}
use Rattle.rules.specs.Fallback.{iv_by_decision, iv_by_entry, iv_rule, ld_by_decision, ld_by_entry, ld_rule}
use Rattle.rules.proofs.Laws.{same_body_eq}
use Rattle.rules.proofs.Lacking.{few as too_few, enough as not_few}
use Rattle.table.specs.Table.{entry_with, state_in, place}
use Rattle.steps.specs.declared.Held.{Held}
use Rattle.steps.specs.declared.Held.TheVariants.{Same, Other}
use Rattle.steps.specs.declared.Look.{Look}
use Rattle.steps.specs.declared.Step.{Step}
use Rattle.steps.specs.Step.{change_by, step_by, kept, put, held_by, look_of, pr_by, lg_by, dc_by, dc_proved, iv_by, ld_by}
use Rattle.steps.proofs.Stored.{put_entry}

-- a held entry with this body is this body with what stands beside it
own : (b : Body) (e : Entry) → T (same_body e.body b) → entry_with b (state_in e) ≡ e
own b e h = ap (λ (c : Body). entry_with c (state_in e)) (sym (same_body_eq e.body b h)) ∙ put_entry e

-- a rule by what is held: with this body the one act, with another body the other
module _ (i : ℕ) (b : Body) (rule : Held → Step) (same other : Entry → Act)
    (s : (e : Entry) → entry_with b (state_in e) ≡ e → rule (Same (state_in e)) ≡ step_by i (same e))
    (r : (e : Entry) → rule (Other (state_in e)) ≡ step_by i (other e)) where
  by_body : (e : Entry) → rule (held_by b (some e)) ≡ step_by i (pick (same_body e.body b) (same e) (other e))
  by_body e = go (same_body e.body b) refl
    where
      go : (t : Bool) → same_body e.body b ≡ t → rule (pick t (Same (state_in e)) (Other (state_in e))) ≡ step_by i (pick t (same e) (other e))
      go true q = s e (own b e (rw q tt))
      go false q = r e

module _ (i : ℕ) (told : Told) (x : Box) (b : Body) where
  pr_entry : (o : Option Entry) → pr_by i told x b (held_by b o) ≡ step_by i (pr_by_entry told x b o)
  unfolding pr_by pr_by_entry state_in step_by change_by
  pr_entry none = refl
  pr_entry (some e) =
      by_body i b (pr_by i told x b) (λ y. pr_by_decision told x b y y.decided) (λ y. refuse OtherBody)
      (λ y q. ap (λ (z : Entry). step_by i (pr_by_decision told x b z y.decided)) q) (λ y. refl) e

  lg_entry : (l : Vl) (o : Option Entry) → lg_by i told x b l (held_by b o) ≡ step_by i (lg_by_entry told x b l o)
  unfolding lg_by lg_by_entry state_in step_by change_by
  lg_entry l none = refl
  lg_entry l (some e) =
      by_body i b (lg_by i told x b l) (λ y. lg_by_decision told b l y y.decided) (λ y. refuse OtherBody)
      (λ y q. ap (λ (z : Entry). step_by i (lg_by_decision told b l z y.decided)) q) (λ y. refl) e

  dc_entry : (d : Decision) (o : Option Entry) → dc_by i told x b d (held_by b o) ≡ step_by i (dc_by_entry told x b d o)
  unfolding dc_by dc_by_entry state_in
  dc_entry d none = refl
  dc_entry d (some e) =
      by_body i b (dc_by i told x b d) (λ y. dc_same b d y y.decided) (λ y. dc_other b d y.decided)
      (λ y q. ap (λ (z : Entry). step_by i (dc_same b d z y.decided)) q) (λ y. refl) e

  iv_entry : (l : Views) (o : Option Entry) → iv_by i told b l (held_by b o) ≡ step_by i (iv_by_entry told b l.ballots o)
  unfolding iv_by iv_by_entry state_in step_by change_by
  iv_entry l none = refl
  iv_entry l (some e) =
      by_body i b (iv_by i told b l) (λ y. iv_by_decision told b l.ballots y y.decided) (λ y. refuse OtherBody)
      (λ y q. ap (λ (z : Entry). step_by i (iv_by_decision told b l.ballots z y.decided)) q) (λ y. refl) e

  ld_entry : (l : Views) (o : Option Entry) → ld_by i told x b l (held_by b o) ≡ step_by i (ld_by_entry told x b l o)
  unfolding ld_by ld_by_entry state_in step_by change_by
  ld_entry l none = refl
  ld_entry l (some e) =
      by_body i b (ld_by i told x b l) (λ y. ld_by_decision told b l y y.decided) (λ y. refuse OtherBody)
      (λ y q. ap (λ (z : Entry). step_by i (ld_by_decision told b l z y.decided)) q) (λ y. refl) e

-- ---- by a look-up, as the code has it
module _ (x : Box) (b : Body) (look : Look) (l : look ≡ look_of x.table b) (h : Held) (q : look.held ≡ h) (told : Told) where
  at : look.place ≡ place (stamp_of b) x.table
  unfolding look_of
  at = rw l

  what : h ≡ held_by b (find (stamp_of b) x.table)
  unfolding look_of
  what = sym q ∙ (rw l)

  pub pr_looked : pr_by look.place told x b h ≡ step_by (place (stamp_of b) x.table) (pr_rule told x b)
  unfolding pr_rule
  pr_looked = rw (at, what) (pr_entry (place (stamp_of b) x.table) told x b (find (stamp_of b) x.table))

  pub lg_looked : (v : Vl) → lg_by look.place told x b v h ≡ step_by (place (stamp_of b) x.table) (lg_rule told x b v)
  unfolding lg_rule
  lg_looked v = rw (at, what) (lg_entry (place (stamp_of b) x.table) told x b v (find (stamp_of b) x.table))

  pub dc_looked : (d : Decision) → dc_by look.place told x b d h ≡ dc_proved told x b d
  unfolding dc_proved
  dc_looked d = rw (at, what) (dc_entry (place (stamp_of b) x.table) told x b d (find (stamp_of b) x.table))

  pub iv_looked : (v : Views) → iv_by look.place told b v h ≡ step_by (place (stamp_of b) x.table) (iv_rule told x b v)
  unfolding iv_rule
  iv_looked v = rw (at, what) (iv_entry (place (stamp_of b) x.table) told x b v (find (stamp_of b) x.table))

  pub ld_looked : (v : Views) → ld_by look.place told x b v h ≡ step_by (place (stamp_of b) x.table) (ld_rule told x b v)
  unfolding ld_rule
  ld_looked v = rw (at, what) (ld_entry (place (stamp_of b) x.table) told x b v (find (stamp_of b) x.table))

-- ---- thresholds: need answers are due, k of them are lacking
module _ (l : VoteList) (k need : ℕ) (t : k ≡ lacking need (list_in l)) where
  few : (k ≡ 0 → ⊥) → (i : ℕ) (a : Act) → kept (Refused (TooFew k)) ≡ step_by i (needing need (list_in l) a)
  unfolding step_by change_by
  few c i a = rw (too_few need (list_in l) a k t c)

  enough : k ≡ 0 → (a : Act) → needing need (list_in l) a ≡ a
  enough c a = not_few need (list_in l) a k t c

  -- LG, which asks for room after 11, or needs none
  module _ (f : ℕ) (d : Decision) (h : d ≡ decision_of l.decision) (q : need ≡ for_logging f d) (i : ℕ) where
    abbrev N : ℕ
    N = for_logging f (decision_of (list_in l).decision)

    pub lg_few : (k ≡ 0 → ⊥) → (a : Act) → kept (Refused (TooFew k)) ≡ step_by i (needing N (list_in l) a)
    unfolding list_in
    lg_few c a = rw (← h, ← q) (few c i a)

    pub lg_full : k ≡ 0 → (full : Bool) → full ≡ true → (a : Act) → kept (Refused Full) ≡ step_by i (needing N (list_in l) (pick full (refuse Full) a))
    unfolding list_in step_by change_by
    lg_full c full y a = rw (← h, ← q, enough c _, y)

    pub lg_logs : k ≡ 0 → (full : Bool) → full ≡ false → (v : Vote) (w : View) (b : Body) (o : Option Entry) → vote_in o ≡ v → view_in o ≡ w
        → put i (record { vote = v; log = logged_at d (view_as 0); view = w; decided = unsettled }) (Logged d (view_as 0))
        ≡ step_by i (needing N (list_in l) (pick full (refuse Full) (first_log b (decision_of (list_in l).decision) o)))
    unfolding list_in log_act step_by change_by state_in
    lg_logs c full y v w b o s r = rw (← h, ← q, enough c _, y, s, r)

  -- "11 first."
  module _ (told : Told) (d : Decision) (h : d ≡ decision_of l.decision) (kind : Kind) (a : kind ≡ kind_of l.kind) (q : need ≡ for_proof told.f kind d)
      (x : Box) (b : Body) where
    pub dc_few : (k ≡ 0 → ⊥) → kept (Refused (TooFew k)) ≡ step_by (place (stamp_of b) x.table) (dc_rule told x b (list_in l))
    unfolding dc_rule list_in
    dc_few c = rw (← a, ← h, ← q) (few c (place (stamp_of b) x.table) _)

    pub dc_enough : k ≡ 0 → dc_proved told x b d ≡ step_by (place (stamp_of b) x.table) (dc_rule told x b (list_in l))
    unfolding dc_rule dc_proved list_in
    dc_enough c = rw (← a, ← h, ← q, enough c _)
