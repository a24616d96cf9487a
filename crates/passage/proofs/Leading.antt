-- The leading end, and the direction corrected twice, on the numbers.
use Prim.Native.Nat.{ℕ, zero, suc, ◌+◌, ◌-◌, ◌≤◌}
use mathlib.Core.Path.{◌≡◌, refl, sym, ap, ◌∙◌}
use native.Mathlib.Omega.{arith}
use Rattle.std.specs.Prelude.{Ok}
use Rattle.terms.specs.Checks.{passed, or_else, versions}
use Rattle.terms.proofs.Checks.{pass, first_none, rest_none, less_no, other_no}
use Rattle.passage.specs.declared.Values.{Values}
use Rattle.passage.specs.declared.Seen.{Seen}
use Rattle.passage.specs.Passages.{values_of, passage_wrong, versions_wrong, values_wrong, seen_wrong, from_lead, reported, reported_by, report_of}
use Rattle.passage.specs.Corrections.{turned}
use Rattle.passage.specs.Register.{NoneStays, Itself, FromTheOtherEnd, TurnedTwice, BothEnds, standing, NumbersBack}
use Rattle.passage.proofs.Checked.{right, lead_none, lead_same, lead_turned}

pub none_stays : NoneStays
none_stays d count = sym (lead_none d count 0 refl)

pub itself : Itself
itself count zero = none_stays 0 count
itself count (suc n) = sym (lead_same 0 count (suc n) (λ (e : suc n ≡ 0). omega arith) refl)

pub from_the_other_end : FromTheOtherEnd
from_the_other_end count n h = sym (lead_turned 1 count n (λ (e : n ≡ 0). omega arith) (λ (e : 1 ≡ 0). omega arith))

pub turned_twice : TurnedTwice
turned_twice d count zero h = ap (from_lead d count) (none_stays d count) ∙ none_stays d count
turned_twice zero count (suc n) h = itself count (from_lead 0 count (suc n)) ∙ itself count (suc n)
turned_twice (suc d) count (suc n) h =
    let a = lead_turned (suc d) count (suc n) (λ (e : suc n ≡ 0). omega arith) (λ (e : suc d ≡ 0). omega arith) in
    let b = lead_turned (suc d) count (count + 1 - suc n) (λ (e : count + 1 - suc n ≡ 0). omega arith) (λ (e : suc d ≡ 0). omega arith) in
    let g : count + 1 - (count + 1 - suc n) ≡ suc n = omega arith in
    ap (from_lead (suc d) count) (sym a) ∙ (sym b ∙ g)

pub both_ends : BothEnds
both_ends zero count n l h k = let a = itself count n in let b = from_the_other_end count n h in omega arith
both_ends (suc zero) count n l h k = let a = itself count n in let b = from_the_other_end count n h in omega arith
both_ends (suc (suc d)) count n l h k = absurd (omega arith)

-- ---- corrected
pub turned_back : (v : Values) → v.direction ≤ 1 → turned (turned v) ≡ v
unfolding turned
turned_back v h = let e : 1 - (1 - v.direction) ≡ v.direction = omega arith in rw e

pub stays_right : (v : Values) → values_wrong v ≡ passed → values_wrong (turned v) ≡ passed
unfolding values_wrong turned
stays_right v e = sym (pass (less_no 1 (1 - v.direction) _ (omega arith)) (sym (rest_none _ _ e)))

pub report_right : (p : ℕ) (s : Seen) → seen_wrong p s ≡ passed → report_of p s ≡ Ok (reported (values_of s))
unfolding report_of reported_by or_else
report_right p s e = rw e

-- what a transaction leaves is in order where its values are
pub standing_right : (p s : ℕ) (v : Values) → passage_wrong p ≡ passed → values_wrong v ≡ passed → seen_wrong p (standing s v) ≡ passed
unfolding seen_wrong versions_wrong standing
standing_right p s v low e =
    let same = other_no s s versions refl in
    sym (pass low (pass (sym (pass same (pass same (sym same)))) (sym e)))

pub report_standing : (p s : ℕ) (v : Values) → passage_wrong p ≡ passed → values_wrong v ≡ passed → report_of p (standing s v) ≡ Ok (reported v)
unfolding standing
report_standing p s v low e = report_right p (standing s v) (standing_right p s v low e)

pub numbers_back : NumbersBack
unfolding seen_wrong standing
numbers_back p r t s e =
    let low = first_none _ _ e in
    let fine = rest_none _ _ (rest_none _ _ e) in
    let back = turned_back (values_of s) (right (values_of s) fine).direction in
    ap (λ (v : Values). report_of p (standing t v)) back ∙ (report_standing p t (values_of s) low fine ∙ sym (report_right p s e))
