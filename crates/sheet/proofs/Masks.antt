-- Laws of masks: a box joins by a sum, since its bit is clear; and counts of boxes.
use Prim.Native.Nat.{ℕ, zero, suc, ◌+◌, ◌*◌, ◌/◌, ◌%◌, ◌^◌, ◌<◌, ◌≤◌}
use native.Mathlib.Omega.{arith}
use native.Mathlib.Nat.{pow-succ', div-div-eq-div-mul, zero-div, div-eq_of_lt, div-le_self, le-div_iff_mul-le, lt_of_le_of_lt}
use native.Mathlib.Numerals.{add-one}
use mathlib.Core.Path.{◌≡◌, refl, ap, sym, ◌∙◌}
use mathlib.Core.Bool.{Bool, true, false}
use lib.Dec.{eqb, eqb→eq, leb, leb→le}
use lib.Pow.{pow_mono, pow_pos, shr-shr}
use borrow.Author.Tests.{eqb-false, eq-eqb, leb-false, ne_eqb}
use Rattle.rules.specs.Lists.{bit}
use Rattle.rules.specs.System.{how_many}
use Rattle.sheet.specs.Masks.{has, with_box}

-- bit b + 1 of m is bit b of its half
half : (m b : ℕ) → m / 2 ^ suc b ≡ m / 2 / 2 ^ b
half m b = ap (λ (d : ℕ). m / d) (pow-succ' 2 b) ∙ sym (div-div-eq-div-mul m 2 (2 ^ b))

-- a bit is 0 or 1
pub clear : (m b : ℕ) → has m b ≡ false → m / 2 ^ b % 2 ≡ 0
unfolding has
clear m b h = let n : m / 2 ^ b % 2 ≡ 1 → ⊥ = eqb-false (m / 2 ^ b % 2) 1 h in zero_or (m / 2 ^ b % 2) (omega arith) n
  where
    zero_or : (x : ℕ) → x < 2 → (x ≡ 1 → ⊥) → x ≡ 0
    zero_or zero l n = refl
    zero_or (suc x) l n = absurd (n (omega arith))

-- a mask of k bits has room for a box below k
pub room : (b k m : ℕ) → b < k → m < 2 ^ k → m / 2 ^ b % 2 ≡ 0 → m + 2 ^ b < 2 ^ k
room b zero m h l e = absurd (omega arith)
room zero (suc k) m h l e =
    let p : 2 ^ suc k ≡ 2 * 2 ^ k = pow-succ' 2 k in
    omega arith
room (suc b) (suc k) m h l e =
    let p : 2 ^ suc k ≡ 2 * 2 ^ k = pow-succ' 2 k in
    let q : 2 ^ suc b ≡ 2 * 2 ^ b = pow-succ' 2 b in
    let r : m / 2 + 2 ^ b < 2 ^ k = room b k (m / 2) (omega arith) (omega arith) (rw (half m b) at e) in
    omega arith

-- the bit that joins
bit_same : (b m : ℕ) → m / 2 ^ b % 2 ≡ 0 → (m + 2 ^ b) / 2 ^ b % 2 ≡ 1
bit_same zero m e = omega arith
bit_same (suc b) m e =
    let q : 2 ^ suc b ≡ 2 * 2 ^ b = pow-succ' 2 b in
    let p : (m + 2 ^ suc b) / 2 ≡ m / 2 + 2 ^ b = omega arith in
    rw (half (m + 2 ^ suc b) b, p) (bit_same b (m / 2) (rw (half m b) at e))

-- every other bit stays
bit_other : (b c m : ℕ) → m / 2 ^ b % 2 ≡ 0 → (b ≡ c → ⊥) → (m + 2 ^ b) / 2 ^ c % 2 ≡ m / 2 ^ c % 2
bit_other zero zero m e n = absurd (n refl)
bit_other zero (suc c) m e n =
    let p : (m + 1) / 2 ≡ m / 2 = omega arith in
    rw (half (m + 1) c, half m c, p)
bit_other (suc b) zero m e n =
    let q : 2 ^ suc b ≡ 2 * 2 ^ b = pow-succ' 2 b in
    omega arith
bit_other (suc b) (suc c) m e n =
    let q : 2 ^ suc b ≡ 2 * 2 ^ b = pow-succ' 2 b in
    let p : (m + 2 ^ suc b) / 2 ≡ m / 2 + 2 ^ b = omega arith in
    rw (half (m + 2 ^ suc b) c, half m c, p) (bit_other b c (m / 2) (rw (half m b) at e) (λ h. n (ap suc h)))

-- "the box joins under its answer": it is on the mask
pub has_joined : (m b : ℕ) → has m b ≡ false → has (with_box m b) b ≡ true
unfolding has with_box
has_joined m b h = eq-eqb _ 1 (bit_same b m (clear m b h))

-- "and nothing else changes"
pub has_other : (m b c : ℕ) → has m b ≡ false → (b ≡ c → ⊥) → has (with_box m b) c ≡ has m c
unfolding has with_box
has_other m b c h n = ap (λ (x : ℕ). eqb x 1) (bit_other b c m (clear m b h) n)

-- no box is on the mask 0
pub has_none : (b : ℕ) → has 0 b ≡ false
unfolding has
has_none b = ne_eqb (0 / 2 ^ b % 2) 1 (let z : 0 / 2 ^ b ≡ 0 = zero-div (2 ^ b) in omega arith)

-- "a box n or more": a mask with one is 2 ^ n or more
pub wide_has : (m n b : ℕ) → n ≤ b → has m b ≡ true → 2 ^ n ≤ m
unfolding has
wide_has m n b l h =
    let one : m / 2 ^ b % 2 ≡ 1 = eqb→eq (m / 2 ^ b % 2) 1 (rw h tt) in
    by (leb (2 ^ b) m) refl one
  where
    by : (t : Bool) → leb (2 ^ b) m ≡ t → m / 2 ^ b % 2 ≡ 1 → 2 ^ n ≤ m
    by true e one = let k : 2 ^ n ≤ 2 ^ b = pow_mono l in let j : 2 ^ b ≤ m = leb→le (2 ^ b) m (rw e tt) in omega arith
    by false e one = absurd (let z : m / 2 ^ b ≡ 0 = div-eq_of_lt (leb-false (2 ^ b) m e) in let y : 0 % 2 ≡ 1 = rw z at one in omega arith)

-- a number above 0 has a bit
some_bit : (k m : ℕ) → 0 < m → m < 2 ^ k → (b : ℕ) × (m / 2 ^ b % 2 ≡ 1)
some_bit zero m l h = absurd (omega arith)
some_bit (suc k) m l h = by (eqb (m % 2) 1) refl (λ z. some_bit k (m / 2) z (let p : 2 ^ suc k ≡ 2 * 2 ^ k = pow-succ' 2 k in omega arith))
  where
    by : (t : Bool) → eqb (m % 2) 1 ≡ t → (0 < m / 2 → (b : ℕ) × (m / 2 / 2 ^ b % 2 ≡ 1)) → (b : ℕ) × (m / 2 ^ b % 2 ≡ 1)
    by true e next = (0, let z : m % 2 ≡ 1 = eqb→eq (m % 2) 1 (rw e tt) in omega arith)
    by false e next =
        let z : m % 2 ≡ 1 → ⊥ = eqb-false (m % 2) 1 e in
        let w = next (omega arith) in
        (suc w.0, rw (half m w.0) w.1)

-- and a mask that is 2 ^ n or more has one
pub has_wide : (k m n : ℕ) → m < 2 ^ k → 2 ^ n ≤ m → (b : ℕ) × (n ≤ b) × (has m b ≡ true)
unfolding has
has_wide k m n h l =
    let one : 1 ≤ m / 2 ^ n = (le-div_iff_mul-le (pow_pos n)).1 (omega arith) in
    let w = some_bit k (m / 2 ^ n) one (lt_of_le_of_lt (div-le_self m (2 ^ n)) h) in
    (n + w.0, omega arith, eq-eqb (m / 2 ^ (n + w.0) % 2) 1 (rw (← shr-shr m n w.0) w.1))

module _ (p : ℕ → Bool) where
  -- one box more
  pub count_yes : (i c : ℕ) → p i ≡ true → c ≡ how_many p i → c + 1 ≡ how_many p (i + 1)
  unfolding how_many bit
  count_yes i c h q = let e : i + 1 ≡ suc i = add-one i in rw (e, h) (omega arith)

  pub count_no : (i c : ℕ) → p i ≡ false → c ≡ how_many p i → c ≡ how_many p (i + 1)
  unfolding how_many bit
  count_no i c h q = let e : i + 1 ≡ suc i = add-one i in rw (e, h) (omega arith)

  pub count_most : (n : ℕ) → how_many p n ≤ n
  unfolding how_many bit
  count_most zero = omega arith
  count_most (suc n) = omega (arith, most (p n), count_most n)
    where
      most : (b : Bool) → bit b ≤ 1
      most true = omega arith
      most false = omega arith

-- a count goes by what the test says of the boxes below n
pub count_same : (p q : ℕ → Bool) (n : ℕ) → ((b : ℕ) → b < n → p b ≡ q b) → how_many p n ≡ how_many q n
unfolding how_many
count_same p q zero h = refl
count_same p q (suc n) h =
    let e : p n ≡ q n = h n (omega arith) in
    let r : how_many p n ≡ how_many q n = count_same p q n (λ b l. h b (omega arith)) in
    rw (e, r)
