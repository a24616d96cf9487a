-- Two bodies compared: those of other lengths are not the same, and parts that reach to the ends are compared as the whole.
use Prim.Native.Nat.{ℕ, suc, ◌<◌, ◌≤◌}
use native.Mathlib.Omega.{arith}
use mathlib.Core.Path.{◌≡◌, refl, ap, ap₂}
use mathlib.Core.Logic.{◌⊎◌, inl, inr}
use mathlib.Core.List.{List, [], ◌∷◌}
use mathlib.Core.Bool.{Bool, true, false, ◌&&◌}
use borrow.Author.Tests.{eqb-true, eqb-false}
use lib.Dec.{eqb}
use lib.ListN.{length, get_or, take}
use lib.Seq.{take_all}
use Rattle.std.specs.Str.{bytes_eq}
use Rattle.rules.specs.Bodies.{same_body}
use Rattle.table.proofs.Bodies.{bytes_same}

and_false : (t : Bool) {u : Bool} → false ≡ u → false ≡ (t && u)
and_false true p = p
and_false false p = refl

pub uneven : (a b : List ℕ) → (length a ≡ length b → ⊥) → false ≡ same_body a b
unfolding same_body
uneven [] [] n = absurd (n refl)
uneven [] (y ∷ ys) n = refl
uneven (x ∷ xs) [] n = refl
uneven (x ∷ xs) (y ∷ ys) n = and_false (eqb x y) (uneven xs ys (λ (e : length xs ≡ length ys). n (ap suc e)))

-- a slice up to its end is compared as the whole
pub fronts_same : (n m : ℕ) (a b : List ℕ) → length a ≤ n → length b ≤ m → bytes_eq (take n a) (take m b) ≡ same_body a b
fronts_same n m a b h k = rw (take_all n a h, take_all m b k) (bytes_same a b)

pub front_same : (m : ℕ) (a b : List ℕ) → length b ≤ m → bytes_eq a (take m b) ≡ same_body a b
front_same m a b k = rw (take_all m b k) (bytes_same a b)

-- bodies of one length are the same, or differ at a place
pub same_or_apart : (a b : List ℕ) → length a ≡ length b
    → ((same_body a b ≡ true) × (a ≡ b)) ⊎ ((same_body a b ≡ false) × ((k : ℕ) × (k < length a) × (get_or a k 0 ≡ get_or b k 0 → ⊥)))
unfolding same_body
same_or_apart [] [] h = inl (refl, refl)
same_or_apart [] (y ∷ ys) h = absurd (omega arith)
same_or_apart (x ∷ xs) [] h = absurd (omega arith)
same_or_apart (x ∷ xs) (y ∷ ys) h = by (eqb x y) refl (same_or_apart xs ys (omega arith))
  where
    by : (t : Bool) → eqb x y ≡ t
        → ((same_body xs ys ≡ true) × (xs ≡ ys)) ⊎ ((same_body xs ys ≡ false) × ((k : ℕ) × (k < length xs) × (get_or xs k 0 ≡ get_or ys k 0 → ⊥)))
        → (((eqb x y && same_body xs ys) ≡ true) × ((x ∷ xs) ≡ (y ∷ ys)))
        ⊎ (((eqb x y && same_body xs ys) ≡ false) × ((k : ℕ) × (k < length (x ∷ xs)) × (get_or (x ∷ xs) k 0 ≡ get_or (y ∷ ys) k 0 → ⊥)))
    by true e (inl p) = inl (rw (e, p.0), ap₂ ◌∷◌ (eqb-true x y e) p.1)
    by true e (inr p) = inr (rw (e, p.0), (suc p.1.0, omega arith, p.1.2))
    by false e p = inr (rw e, (0, omega arith, eqb-false x y e))
