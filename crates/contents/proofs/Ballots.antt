-- Ballots are judged as the pairs that they are: of the boxes, with answers or without.
use Rattle.std.proofs.Common.{ℕ, zero, suc, ◌+◌, ◌≤◌, ◌≡◌, refl, ap, Bool, ◌||◌, List, map, take, length, ltb, leb}
use Rattle.terms.specs.Choice.{tab, any, falls}
use Rattle.terms.specs.Group.{boxes}
use Rattle.terms.proofs.Scans.{tab_map, tab_take}
use Rattle.terms.specs.Checks.{or_else}
use Rattle.terms.proofs.Checks.{together}
use Rattle.records.specs.declared.Ballot.{Ballot}
use Rattle.records.specs.declared.ViewList.{ViewList}
use Rattle.records.specs.declared.ViewMark.{ViewMark}
use Rattle.records.specs.declared.ViewMark.TheVariants.{VS, EL}
use Rattle.records.specs.Views.{ballots_in, ballot_pair, own_ballot, zero_ballot, views_in}
use Rattle.records.specs.Contents.{answer_odd, box_wide, pair_box, boxes_wrong, views_wrong}
use Rattle.contents.specs.Listed.{is_odd, led_wrong, listed_wrong}

-- two lists whose elements a test does not tell apart, and two whose numbers are the same
module _ {A B : Type 0} (f : ℕ → A) (g : ℕ → B) where
  any_alike : (P : A → Bool) (Q : B → Bool) → ((j : ℕ) → P (f j) ≡ Q (g j)) → (i n : ℕ) → any P (tab f i n) ≡ any Q (tab g i n)
  any_alike P Q h i zero = refl
  any_alike P Q h i (suc n) = rw (h i) (ap (λ (b : Bool). Q (g i) || b) (any_alike P Q h (i + 1) n))

  falls_alike : (p : A → ℕ) (q : B → ℕ) → ((j : ℕ) → p (f j) ≡ q (g j)) → (lo i n : ℕ) → falls p lo (tab f i n) ≡ falls q lo (tab g i n)
  falls_alike p q h lo i zero = refl
  falls_alike p q h lo i (suc n) =
      rw (h i) (ap (λ (b : Bool). ltb (q (g i)) lo || b) (falls_alike p q h (q (g i) + 1) (i + 1) n))

same_box : (k : ViewMark) (b : Ballot) → b.number ≡ (ballot_pair (own_ballot k b)).number
same_box VS b = refl
same_box EL b = refl

module _ (a : List Ballot) (n : ℕ) (h : n ≤ length a) where
  pub answers_told : any (λ (b : Ballot). is_odd b.answer) (take n a) ≡ any answer_odd (map ballot_pair (tab (ballots_in a) 0 n))
  answers_told =
      rw (← tab_take zero_ballot a n h, tab_map ballot_pair (ballots_in a) 0 n)
      (any_alike (ballots_in a) (λ j. ballot_pair (ballots_in a j)) (λ b. is_odd b.answer) answer_odd (λ j. refl) 0 n)

  pub boxes_told : (k : ViewMark) (f : ℕ) → listed_wrong (λ (b : Ballot). b.number) (boxes f) (take n a) ≡ boxes_wrong f (map ballot_pair (tab (λ j. own_ballot k (ballots_in a j)) 0 n))
  boxes_told k f =
      let g : ℕ → Ballot = λ j. own_ballot k (ballots_in a j) in
      let w = any_alike (ballots_in a) (λ j. ballot_pair (g j)) (λ b. leb (boxes f) b.number) (box_wide f) (λ j. rw (same_box k (ballots_in a j))) 0 n in
      let o = falls_alike (ballots_in a) (λ j. ballot_pair (g j)) (λ b. b.number) pair_box (λ j. same_box k (ballots_in a j)) 0 0 n in
      rw (← tab_take zero_ballot a n h, tab_map ballot_pair g 0 n, w, o)

-- an EL: before its boxes, then its boxes
pub el_wrong : (f : ℕ) (l : ViewList) → l.count ≤ length l.ballots
    → or_else (led_wrong f l.decision l.leader (take l.count l.ballots)) (listed_wrong (λ (b : Ballot). b.number) (boxes f) (take l.count l.ballots)) ≡ views_wrong EL f (views_in EL l)
unfolding views_wrong views_in
el_wrong f l h =
    let a = answers_told l.ballots l.count h in
    let b = boxes_told l.ballots l.count h EL f in
    rw (← a, ← b) (simp together)
