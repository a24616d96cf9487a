-- An EL that is given is right: its ballots are those of boxes that rise, each with an answer and the sheet's view, and more than half of them say its decision.
use Prim.Native.Nat.{ℕ, zero, suc, ◌+◌, ◌*◌, ◌<◌, ◌≤◌}
use native.Mathlib.Omega.{arith}
use mathlib.Core.Path.{◌≡◌, refl, ap, sym, ◌∙◌}
use mathlib.Core.List.{List, [], ◌∷◌, map}
use mathlib.Core.Bool.{Bool, true, false, not, ◌||◌}
use lib.Dec.{eqb, ltb}
use lib.ListN.{length, length-map}
use borrow.Author.Tests.{eq-eqb, lt-leb, lt-ltb, ltb-false, ltb-true}
use Rattle.terms.specs.Choice.{any, falls, pick}
use Rattle.terms.specs.Checks.{passed, if_less, if_same, or_else, count as few}
use Rattle.terms.specs.Group.{boxes, log_proof}
use Rattle.terms.proofs.Checks.{less_no, pass, same_no, when_no}
use Rattle.records.specs.declared.Ballot.{Ballot}
use Rattle.records.specs.declared.Pair.{Pair}
use Rattle.records.specs.Views.{ballot_pair}
use Rattle.records.specs.Contents.{answer_odd, box_wide, code_wrong, count_wrong, pair_box, views_wrong}
use Rattle.rules.specs.Bodies.{stamp_of}
use Rattle.rules.specs.Fallback.{ballot_view, leader_of, leads, one_view, take_act}
use Rattle.rules.specs.Lists.{bit, tally}
use Rattle.sheet.specs.declared.Sheet.{Sheet}
use Rattle.sheet.specs.Masks.{has}
use Rattle.sheet.specs.Sheets.{on}
use Rattle.sheet.proofs.Below.{below, below_first, below_length, below_map, below_none, below_rises, below_take, below_wide}
use Rattle.election.specs.Elections.{GivenIsRight, NotRefusedWith23, ballot_on, chosen, election_for, election_wrong, majority, present}
use Rattle.rules.proofs.Leading.{leader_box}
use Rattle.election.proofs.Gathering.{ballots_are, enough_on, small}

-- ---- answers
second_no : (t u : Bool) → (t || u) ≡ false → u ≡ false
second_no false u e = e
second_no true true e = e
second_no true false e = refl

-- an answer is one of two
either_answer : (a : ℕ) → (eqb a 0 || ltb 2 a) ≡ false → bit (eqb a 1) + bit (eqb a 2) ≡ 1
unfolding bit
either_answer zero e = absurd (let z : ◌≡◌ {A = ℕ} 0 1 = cc in omega arith)
either_answer (suc zero) e = refl
either_answer (suc (suc zero)) e = refl
either_answer (suc (suc (suc a))) e = absurd (let l : suc (suc (suc a)) ≤ 2 = ltb-false 2 (suc (suc (suc a))) (second_no (eqb (suc (suc (suc a))) 0) (ltb 2 (suc (suc (suc a)))) e) in omega arith)

-- so all of them are for commit or for abort
two_answers : (ps : List Pair) → any answer_odd ps ≡ false → tally 1 ps + tally 2 ps ≡ length ps
unfolding tally
two_answers [] e = refl
two_answers (p ∷ ps) e = by (answer_odd p) refl e (λ h. two_answers ps h)
  where
    by : (t : Bool) → answer_odd p ≡ t → (t || any answer_odd ps) ≡ false → (any answer_odd ps ≡ false → tally 1 ps + tally 2 ps ≡ length ps)
        → bit (eqb p.answer 1) + tally 1 ps + (bit (eqb p.answer 2) + tally 2 ps) ≡ suc (length ps)
    by true q h more = absurd (let z : ◌≡◌ {A = ℕ} 0 1 = cc in omega arith)
    by false q h more = omega (arith, either_answer p.answer q, more h)

-- and of an odd number more than half are for one of them
more_than_half_lem : (f : ℕ) (ps : List Ballot) → any answer_odd (map ballot_pair ps) ≡ false → length ps ≡ log_proof f → length ps < 2 * tally (majority ps) (map ballot_pair ps)
unfolding majority
more_than_half_lem f ps e n =
    let t : tally 1 (map ballot_pair ps) + tally 2 (map ballot_pair ps) ≡ length ps = two_answers (map ballot_pair ps) e ∙ length-map ps ballot_pair in
    by (ltb (length ps) (2 * tally 1 (map ballot_pair ps))) refl t
  where
    by : (u : Bool) → ltb (length ps) (2 * tally 1 (map ballot_pair ps)) ≡ u → tally 1 (map ballot_pair ps) + tally 2 (map ballot_pair ps) ≡ length ps
        → length ps < 2 * tally (pick u 1 2) (map ballot_pair ps)
    by true h t = ltb-true (length ps) (2 * tally 1 (map ballot_pair ps)) h
    by false h t = let l : 2 * tally 1 (map ballot_pair ps) ≤ length ps = ltb-false (length ps) (2 * tally 1 (map ballot_pair ps)) h in omega arith

majority_code : (ps : List Ballot) → code_wrong (majority ps) ≡ passed
unfolding majority code_wrong or_else if_same if_less
majority_code ps = by (ltb (length ps) (2 * tally 1 (map ballot_pair ps)))
  where
    by : (t : Bool) → code_wrong (pick t 1 2) ≡ passed
    by true = refl
    by false = refl

-- ---- the ballots
module _ (s : Sheet) where
  abbrev pair_on : ℕ → Pair
  pair_on b = ballot_pair (ballot_on s b)

  pair_box_lem : (b : ℕ) → pair_box (pair_on b) ≡ b
  unfolding ballot_on
  pair_box_lem b = refl

  pair_even : (b : ℕ) → answer_odd (pair_on b) ≡ false
  unfolding ballot_on
  pair_even b = by (has s.commits b)
    where
      by : (t : Bool) → (eqb (pick t 1 2) 0 || ltb 2 (pick t 1 2)) ≡ false
      by true = refl
      by false = refl

  one_view_lem : (b : ℕ) → not (eqb (ballot_view (ballot_on s b)) s.view) ≡ false
  unfolding ballot_on
  one_view_lem b = rw (eq-eqb s.view s.view refl)

module _ (s : Sheet) (f : ℕ) (sound : election_wrong f s ≡ passed) (enough : log_proof f ≤ present f s) where
  -- those that are chosen are all those below some box
  chosen_are : (k : ℕ) × (k ≤ boxes f) × (length (chosen f s) ≡ log_proof f) × (chosen f s ≡ below (on s) (ballot_on s) k)
  unfolding chosen
  chosen_are =
      let n : log_proof f ≤ length (below (on s) (ballot_on s) (boxes f)) = rw (below_length (on s) (ballot_on s) (boxes f)) (enough_on s f sound enough) in
      let w = below_first (on s) (ballot_on s) (log_proof f) (boxes f) n in
      let e : chosen f s ≡ below (on s) (ballot_on s) w.0 = rw (ballots_are s (boxes f)) (below_take (on s) (ballot_on s) w.0 (boxes f) (log_proof f) w.2 n) in
      (w.0, w.1, ap length e ∙ w.2, e)

  paired : map ballot_pair (chosen f s) ≡ below (on s) (pair_on s) chosen_are.0
  paired = ap (map ballot_pair) chosen_are.3 ∙ below_map (on s) (ballot_on s) ballot_pair chosen_are.0

  no_odd : any answer_odd (map ballot_pair (chosen f s)) ≡ false
  no_odd = rw paired (below_none (on s) (pair_on s) answer_odd chosen_are.0 (λ b l. pair_even s b))

  chosen_boxes : any (box_wide f) (map ballot_pair (chosen f s)) ≡ false
  chosen_boxes = rw paired (below_wide (on s) (pair_on s) pair_box (pair_box_lem s) (boxes f) chosen_are.0 chosen_are.1)

  chosen_rise : falls pair_box 0 (map ballot_pair (chosen f s)) ≡ false
  chosen_rise = rw paired (below_rises (on s) (pair_on s) pair_box (pair_box_lem s) chosen_are.0)

  chosen_view : one_view s.view (chosen f s) ≡ true
  unfolding one_view
  chosen_view = rw (chosen_are.3, below_none (on s) (ballot_on s) (λ p. not (eqb (ballot_view p) s.view)) chosen_are.0 (λ b l. one_view_lem s b))

pub given_is_right : GivenIsRight
unfolding election_for count_wrong views_wrong leads
given_is_right s f b sound enough =
    let n : length (chosen f s) ≡ log_proof f = (chosen_are s f sound enough).2 in
    let h = small s f sound in
    record {
      count = sym (pass (same_no _ 0 few (omega arith)) (sym (less_no 26 _ few (omega arith))));
      contents =
          sym
          (pass (majority_code (chosen f s))
          (pass (when_no _ _ (no_odd s f sound enough))
          (pass (when_no _ _ (lt-leb (boxes f) (leader_of f s.view (stamp_of b)) (leader_box f s.view (stamp_of b))))
          (pass (when_no _ _ (chosen_boxes s f sound enough))
          (sym (when_no _ _ (chosen_rise s f sound enough)))))));
      leading =
          rw (
            eq-eqb (leader_of f s.view (stamp_of b)) (leader_of f s.view (stamp_of b)) refl,
            eq-eqb (length (chosen f s)) (log_proof f) n,
            chosen_view s f sound enough,
            lt-ltb (length (chosen f s)) (2 * tally (majority (chosen f s)) (map ballot_pair (chosen f s))) (more_than_half_lem f (chosen f s) (no_odd s f sound enough) n),
          );
    }

pub not_refused_with_23 : NotRefusedWith23
unfolding take_act election_for
not_refused_with_23 told s b o a sound enough = rw (given_is_right s told.f b sound enough).leading
