-- What the checks that passed tell of a passage.
use Rattle.std.proofs.Common.{ℕ, ◌+◌, ◌-◌, ◌≤◌, ◌≡◌}
use borrow.Author.Tests.{eq-eqb, ne_eqb}
use Rattle.terms.specs.Checks.{passed}
use Rattle.terms.proofs.Checks.{first_none, rest_none, not_less}
use Rattle.passage.specs.declared.Values.{Values}
use Rattle.passage.specs.declared.Seen.{Seen}
use Rattle.passage.specs.Passages.{values_of, passage_wrong, values_wrong, seen_wrong, from_lead}

-- values in order
pub record Right (v : Values) : Type 0 where
  pub direction : v.direction ≤ 1
  pub some : 1 ≤ v.axles
  pub few : v.axles ≤ 1000
  pub hot : v.hot ≤ v.axles

pub right : (v : Values) → values_wrong v ≡ passed → Right v
unfolding values_wrong
right v e =
    let r = rest_none _ _ e in
    let t = rest_none _ _ r in
    record {
      direction = not_less _ _ _ (first_none _ _ e);
      some = not_less _ _ _ (first_none _ _ r);
      few = not_less _ _ _ (first_none _ _ t);
      hot = not_less _ _ _ (rest_none _ _ t);
    }

-- what was seen in order
seen_right : (p : ℕ) (s : Seen) → seen_wrong p s ≡ passed → Right (values_of s)
unfolding seen_wrong
seen_right p s e = right _ (rest_none _ _ (rest_none _ _ e))

module _ (p : ℕ) (s : Seen) (e : seen_wrong p s ≡ passed) where
  pub seen_direction : (values_of s).direction ≤ 1
  seen_direction = (seen_right p s e).direction

  pub seen_few : (values_of s).axles ≤ 1000
  seen_few = (seen_right p s e).few

  pub seen_hot : (values_of s).hot ≤ (values_of s).axles
  seen_hot = (seen_right p s e).hot

pub seen_low : (p : ℕ) (s : Seen) → seen_wrong p s ≡ passed → p ≤ 127
unfolding seen_wrong passage_wrong
seen_low p s e = not_less _ _ _ (first_none _ _ e)

-- the hot axle from the leading end, by its three cases
module _ (d count n : ℕ) where
  pub lead_none : n ≡ 0 → 0 ≡ from_lead d count n
  unfolding from_lead
  lead_none e = rw e

  pub lead_same : (n ≡ 0 → ⊥) → d ≡ 0 → n ≡ from_lead d count n
  unfolding from_lead
  lead_same h e = rw (ne_eqb n 0 h, eq-eqb d 0 e)

  pub lead_turned : (n ≡ 0 → ⊥) → (d ≡ 0 → ⊥) → count + 1 - n ≡ from_lead d count n
  unfolding from_lead
  lead_turned h k = rw (ne_eqb n 0 h, ne_eqb d 0 k)
