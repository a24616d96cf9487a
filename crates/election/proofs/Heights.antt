-- Laws of the views that boxes told: one for each outcome, and how they are listed.
use Prim.Native.Nat.{ℕ, zero, suc, ◌+◌, ◌<◌, ◌≤◌, max}
use native.Mathlib.Omega.{arith}
use mathlib.Core.Path.{◌≡◌, refl, ap, sym, ◌∙◌}
use mathlib.Core.List.{List, [], ◌∷◌, ◌++◌, map}
use mathlib.Core.Bool.{true, false}
use lib.ListN.{get_or, set}
use borrow.Author.Tests.{leb-false}
use Rattle.terms.specs.Choice.{any, falls, pick}
use Rattle.terms.specs.Checks.{passed}
use Rattle.terms.specs.Group.{boxes}
use Rattle.terms.proofs.Checks.{first_none, not_less, pass, rest_none, when_no, when_none}
use Rattle.terms.proofs.Groups.{group_small}
use Rattle.records.specs.declared.Ballot.{Ballot}
use Rattle.records.specs.Views.{ballot_pair, held_views, zero_ballot}
use Rattle.records.specs.Contents.{box_wide, pair_box, views_wrong}
use Rattle.sheet.specs.Masks.{has, with_box}
use Rattle.sheet.proofs.Below.{Noted, below, below_map, below_no, below_rises, below_wide, below_yes}
use Rattle.election.specs.Telling.{ListedIsRight, heights_wrong, taller, taller_by, tell_wrong, told_below, views_for}

-- ---- a box tells a view
pub heights_group : (f told : ℕ) → heights_wrong f told ≡ passed → (1 ≤ f) × (f ≤ 5)
unfolding heights_wrong
heights_group f told z = group_small f (first_none _ _ z)

module _ (told f number view : ℕ) where
  pub tell_small : tell_wrong told f number view ≡ passed → (number < 26) × (view ≤ 65535)
  unfolding tell_wrong
  tell_small z =
      let r = rest_none _ _ z in
      let l : number < boxes f = leb-false (boxes f) number (when_none _ _ (first_none _ _ r)) in
      let g = heights_group f told (first_none _ _ z) in
      (omega (arith, g.1), not_less _ _ _ (rest_none _ _ r))

  module _ (views : List ℕ) where
    pub tell_taken : (m v : ℕ) → tell_wrong told f number view ≡ passed → m ≡ pick (has told number) told (with_box told number) → v ≡ pick (has told number) (max (get_or views number 0) view) view
        → (m ≡ (taller told views f number view).told) × (set views number v ≡ (taller told views f number view).views)
    unfolding taller taller_by
    tell_taken m v z e d = rw z (e, rw d)

-- ---- the list of them
-- what a box told, as a ballot
abbrev told_by : List ℕ → ℕ → Ballot
told_by views b = record { number = b; answer = 0; view = record { 0 = get_or views b 0 } }

module _ (told : ℕ) (views : List ℕ) where
  told_are : (n : ℕ) → told_below told views n ≡ below (has told) (told_by views) n
  unfolding told_below below
  told_are zero = refl
  told_are (suc n) = rw (told_are n)

  pub told_none : told_below told views 0 ≡ []
  unfolding told_below
  told_none = refl

  pub told_yes : (b : ℕ) → has told b ≡ true → told_below told views (b + 1) ≡ told_below told views b ++ (told_by views b ∷ [])
  told_yes b h = rw (told_are (b + 1), told_are b) (below_yes (has told) (told_by views) b h)

  pub told_no : (b : ℕ) → has told b ≡ false → told_below told views (b + 1) ≡ told_below told views b
  told_no b h = rw (told_are (b + 1), told_are b) (below_no (has told) (told_by views) b h)

  pub told_held : (f j : ℕ) (a : List Ballot) → Noted (told_below told views) zero_ballot 26 a j (boxes f)
      → record { leader = 0; decision = 0; view = record { 0 = 0 }; count = j; ballots = a } ≡ held_views (views_for told views f)
  unfolding held_views views_for
  told_held f j a g = rw (g.counts, ← g.is)

  paired : (n : ℕ) → map ballot_pair (told_below told views n) ≡ below (has told) (λ b. ballot_pair (told_by views b)) n
  paired n = ap (map ballot_pair) (told_are n) ∙ below_map (has told) (told_by views) ballot_pair n

  told_boxes : (f : ℕ) → any (box_wide f) (map ballot_pair (told_below told views (boxes f))) ≡ false
  told_boxes f = rw (paired (boxes f)) (below_wide (has told) (λ b. ballot_pair (told_by views b)) pair_box (λ b. refl) (boxes f) (boxes f) (omega arith))

  told_rise : (n : ℕ) → falls pair_box 0 (map ballot_pair (told_below told views n)) ≡ false
  told_rise n = rw (paired n) (below_rises (has told) (λ b. ballot_pair (told_by views b)) pair_box (λ b. refl) n)

pub listed_is_right : ListedIsRight
unfolding views_for views_wrong
listed_is_right told views f g = sym (pass (when_no _ _ (told_boxes told views f)) (sym (when_no _ _ (told_rise told views (boxes f)))))
