-- A6's figure: the bound of the count, and which answers carry it.
use Prim.Native.Nat.{ℕ, ◌+◌, ◌≤◌}
use mathlib.Core.Bool.{Bool, true, false}
use mathlib.Core.Path.{◌≡◌, refl}
use mathlib.Core.Option.{Option, some, none}
use mathlib.Core.List.{List, [], ◌∷◌}
use native.Mathlib.Omega.{arith}
use lib.ListN.{length, take}
use lib.Seq.{get_or-take}
use Rattle.terms.specs.Checks.{passed}
use Rattle.terms.specs.declared.Refusal.{Refusal}
use Rattle.terms.proofs.Checks.{first_none, rest_none, not_less}
use Rattle.terms.proofs.Scans.{tab_length}
use Rattle.records.specs.declared.Mark.TheVariants.{PR}
use Rattle.std.specs.Prelude.{Ok}
use Rattle.records.specs.Contents.{counts_wrong}
use Rattle.records.specs.Cutting.{behind_mark, message_cut, rest_cut, tx_cut, tx_part}
use Rattle.records.specs.Messages.{due_refusal}
use Rattle.records.specs.Tx.{r_count, read_at, tx_len, tx_of, w_count, write_at, writes_from}
use Rattle.rules.specs.Answers.{Answer, Settled, Vote, Voted, settled, unsettled, unvisited, unvoted, visited, vote_abort, vote_commit, waiting}
use Rattle.rules.specs.Bodies.{Body, reads_of, same_body, stamp_of, writes_of}
use Rattle.rules.specs.Table.{Box, Entry, Told, find}
use Rattle.rules.specs.Tests.{test1, test2, test3, test4, test5}
use Rattle.rules.specs.Visits.{again_visits, first_visits, new_last, test_visits, unless, visits2, visits3, visits4, waiting_visits}
use Rattle.rules.specs.Calls.{Act, cast_act, is_full, keep, old_wrong, pr_by_decision, pr_by_entry, pr_by_vote, pr_rule, refuse, room_for}
use Rattle.rules.specs.Act.{EntryPoint, act, due_act, mark_by, rule, told_wrong, unless_old}
use Rattle.rules.specs.Figure.{Already, Figures, answered, figure_of, number_in}
use Rattle.rules.proofs.Laws.{pick_elim}
use Rattle.rules.proofs.Moves.{none_some, some_eq}
use Rattle.rules.proofs.Deeds.{act_marked, guarded_elim}
use Rattle.rules.proofs.Visits.{four_most, look_most, three_most, two_most, waiting_most}

-- ---- the bound: the own look-up, then four times eight walks; 33 = 1 + 4 × 8
unless_most : (c : Bool) (n : ℕ) → unless c n ≤ n
unless_most true n = omega arith
unless_most false n = omega arith

module _ (told : Told) (x : Box) (b : Body) (r : length (reads_of b) ≤ 8) (w : length (writes_of b) ≤ 8) where
  tests_most : (t : List Entry) → test_visits told x b t ≤ visits2 x b + visits3 x b + visits4 x b + waiting_visits x.low t b
  unfolding test_visits
  tests_most t =
      let e = unless_most (test5 x b) (waiting_visits x.low t b) in
      let d = unless_most (test4 x b) (unless (test5 x b) (waiting_visits x.low t b)) in
      let c = unless_most (test3 x b) (visits4 x b + unless (test4 x b) (unless (test5 x b) (waiting_visits x.low t b))) in
      let a = unless_most (test2 x b) (visits3 x b + unless (test3 x b) (visits4 x b + unless (test4 x b) (unless (test5 x b) (waiting_visits x.low t b)))) in
      let z = unless_most (test1 told b) (visits2 x b + unless (test2 x b) (visits3 x b + unless (test3 x b) (visits4 x b + unless (test4 x b) (unless (test5 x b) (waiting_visits x.low t b))))) in
      omega (arith, a, c, d, e, z)

  first_most : (t : List Entry) → length t ≤ length x.table + 1 → first_visits told x b t ≤ figure_of x.table
  unfolding first_visits
  first_most t h = omega (arith, h, look_most (stamp_of b) x.table, tests_most t, two_most x b r, three_most x b r, four_most x b w, waiting_most x.low t b r)

  again_most : again_visits x b ≤ figure_of x.table
  unfolding again_visits
  again_most = omega (arith, look_most (stamp_of b) x.table, waiting_most x.low x.table b r)

new_last_lem : (b : Body) (t : List Entry) → length (new_last b t) ≤ length t + 1
new_last_lem b [] = omega arith
new_last_lem b (e ∷ es) = omega (arith, new_last_lem b es)

-- ---- "r or w above 8" is refused
module _ (f : ℕ) (m : List ℕ) (h : due_refusal PR f m ≡ passed) where
  counts_fine : counts_wrong (r_count (behind_mark m)) (w_count (behind_mark m)) ≡ passed
  unfolding due_refusal message_cut rest_cut tx_cut
  counts_fine = first_none _ _ (rest_none _ _ (rest_none _ _ (rest_none _ _ (first_none _ _ (rest_none _ _ h)))))

  reads_eight : length (reads_of (tx_part m)) ≤ 8
  unfolding reads_of tx_of tx_part counts_wrong
  reads_eight =
      let s = behind_mark m in
      let c : r_count (take (tx_len s) s) ≡ r_count s = get_or-take (tx_len s) s 2 0 (omega arith) in
      rw (tab_length (read_at (tx_part m) 12) 0 (r_count (tx_part m)), c) (not_less 8 (r_count s) _ (first_none _ _ counts_fine))

  writes_eight : length (writes_of (tx_part m)) ≤ 8
  unfolding writes_of tx_of tx_part counts_wrong
  writes_eight =
      let s = behind_mark m in
      let c : w_count (take (tx_len s) s) ≡ w_count s = get_or-take (tx_len s) s 3 0 (omega arith) in
      rw (tab_length (write_at (tx_part m) (writes_from (tx_part m))) 0 (w_count (tx_part m)), c)
      (not_less 8 (w_count s) _ (first_none _ _ (rest_none _ _ counts_fine)))

-- ---- an act that bears the figure
record Bears (told : Told) (x : Box) (p : EntryPoint) (m : List ℕ) (a : Act) : Type 0 where
  never_above : (n : ℕ) → number_in a.answer ≡ visited n → n ≤ figure_of x.table
  none_again : Already told x p m → number_in a.answer ≡ unvisited
  every_other : (v : Vote) → a.answer ≡ Voted v unvisited → Already told x p m

module _ (told : Told) (x : Box) (p : EntryPoint) (m : List ℕ) where
  refused_bears : (r : Refusal) → Bears told x p m (refuse r)
  unfolding number_in
  refused_bears r = record {
    never_above = λ n h. let z : ◌≡◌ {A = ℕ} 0 1 = cc in absurd (omega arith);
    none_again = λ _. refl;
    every_other = λ v h. let z : ◌≡◌ {A = ℕ} 0 1 = cc in absurd (omega arith);
  }

  -- an entry that is decided, or voted on
  kept_bears : (a : Answer) → number_in a ≡ unvisited → Already told x p m → Bears told x p m (keep a)
  kept_bears a u k = record {
    never_above = λ n h. let z : ◌≡◌ {A = ℕ} 0 1 = cc in absurd (omega arith);
    none_again = λ _. u;
    every_other = λ v h. k;
  }

  -- one that is neither
  cast_bears : (b : Body) (o : Option Entry) (v : Vote) (n : ℕ) → n ≤ figure_of x.table → (Already told x p m → ⊥) → Bears told x p m (cast_act b o v n)
  unfolding cast_act number_in
  cast_bears b o v n le neither = record {
    never_above = λ k h. let e : n ≡ k = cc in omega (arith, e, le);
    none_again = λ k. absurd (neither k);
    every_other = λ w h. let z : ◌≡◌ {A = ℕ} 0 1 = cc in absurd (omega arith);
  }

  module _ (r : length (reads_of (tx_part m)) ≤ 8) (w : length (writes_of (tx_part m)) ≤ 8) where
    vote_bears : (e : Entry) → find (stamp_of (tx_part m)) x.table ≡ some e → e.decided ≡ unsettled → (v : Vote) → e.vote ≡ v
        → Bears told x p m (pr_by_vote told x (tx_part m) e v)
    unfolding pr_by_vote number_in answered
    vote_bears e at d vote_commit q = kept_bears _ refl (record { entry = e; at = at; already = rw (d, q) tt })
    vote_bears e at d (vote_abort n) q = kept_bears _ refl (record { entry = e; at = at; already = rw (d, q) tt })
    vote_bears e at d waiting q =
        cast_bears _ _ _ _ (again_most told x (tx_part m) r w) (λ k. let s = some_eq k.at at in rw (s, d, q) at k.already)
    vote_bears e at d unvoted q =
        cast_bears _ _ _ _ (first_most told x (tx_part m) r w x.table (omega arith))
        (λ k. let s = some_eq k.at at in rw (s, d, q) at k.already)

    decision_bears : (e : Entry) → find (stamp_of (tx_part m)) x.table ≡ some e → (d : Settled) → e.decided ≡ d
        → Bears told x p m (pr_by_decision told x (tx_part m) e d)
    unfolding pr_by_decision number_in answered
    decision_bears e at (settled d) q = kept_bears _ refl (record { entry = e; at = at; already = rw q tt })
    decision_bears e at unsettled q = vote_bears e at q e.vote refl

    entry_bears : (o : Option Entry) → find (stamp_of (tx_part m)) x.table ≡ o → Bears told x p m (pr_by_entry told x (tx_part m) o)
    unfolding pr_by_entry room_for
    entry_bears none at =
        pick_elim (Bears told x p m) (is_full told x) (λ _. refused_bears _)
        (λ _. cast_bears _ _ _ _ (first_most told x (tx_part m) r w _ (new_last_lem (tx_part m) x.table)) (λ k. none_some at k.at))
    entry_bears (some e) at =
        pick_elim (Bears told x p m) (same_body e.body (tx_part m)) (λ _. decision_bears e at e.decided refl) (λ _. refused_bears _)

  act_bears : mark_by p m ≡ Ok PR → Bears told x p m (act p told x m)
  unfolding act due_act rule unless_old pr_rule
  act_bears d =
      rw (act_marked told x p m PR d)
      (guarded_elim (Bears told x p m) (told_wrong told) _
      (λ _. guarded_elim (Bears told x p m) (due_refusal PR told.f m) _
      (λ h. guarded_elim (Bears told x p m) (old_wrong x.low (stamp_of (tx_part m))) _
      (λ _. entry_bears (reads_eight told.f m h) (writes_eight told.f m h) (find (stamp_of (tx_part m)) x.table) refl) refused_bears) refused_bears)
      refused_bears)

pub figures : Figures
figures told x p m d = let a = act_bears told x p m d in record { never_above = a.never_above; none_again = a.none_again; every_other = a.every_other }
