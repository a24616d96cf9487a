-- A row of which one look tells that it is plain is in order.
use Prim.Native.Nat.{ℕ, suc, ◌+◌, ◌*◌, ◌/◌, ◌%◌, ◌<◌, ◌≤◌}
use native.Mathlib.Omega.{arith}
use native.Mathlib.Nat.{mod-eq_of_lt}
use mathlib.Core.Path.{◌≡◌, sym, subst, ap, ap₂, ◌∙◌}
use mathlib.Core.List.{List, [], ◌∷◌}
use mathlib.Core.Bool.{true}
use borrow.Author.Tests.{eqb-true, ne_eqb}
use lib.Bits.{bit_or, bit_and, or_add_and, and_le_l, and_le_r, or_mod, or_shr, and_block, and_high}
use lib.ListN.{get_or}
use Rattle.terms.specs.Checks.{passed}
use Rattle.terms.proofs.Checks.{pass, less_no}
use Rattle.records.specs.Numbers.{le_val, le_bytes}
use Rattle.records.specs.Tx.{r_count, w_count}
use Rattle.table.specs.Table.{row_tx, vote_at, reason_at, decided_at, log_at, reason_wrong, vote_wrong, settled_wrong, row_wrong}
use Rattle.table.specs.Looks.{looked, raises, plain}

-- ---- neither number is above the two joined
left_within : (a b : ℕ) → a ≤ bit_or a b
left_within a b = omega (arith, or_add_and a b, and_le_r a b)

right_within : (a b : ℕ) → b ≤ bit_or a b
right_within a b = omega (arith, or_add_and a b, and_le_l a b)

-- ---- a byte with no bit of its upper half is below 16
none_below : (a b : ℕ) → a * 256 + b ≡ 0 → b ≡ 0
none_below a b e = omega arith

no_digit : (y : ℕ) → y < 16 → y % 16 * 16 ≡ 0 → y ≡ 0
no_digit y l e = omega (arith, mod-eq_of_lt l)

no_upper : (y : ℕ) → y < 256 → y / 16 % 16 * 16 ≡ 0 → y < 16
no_upper y l e =
    let q : y / 16 ≡ 0 = no_digit (y / 16) (omega arith) e in
    omega arith

-- the lowest byte of a number, and those above it, apart
module _ (z m : ℕ) (e : bit_and z (240 + 256 * m) ≡ 0) where
  apart : bit_and (z / 256) m * 256 + bit_and (z % 256) 240 ≡ 0
  apart =
      let p : bit_and (z / 256 * 256 + z % 256) (m * 256 + 240) ≡ bit_and (z / 256) m * 256 + bit_and (z % 256) 240 =
      and_block 8 (z / 256) m (z % 256) 240 (omega arith) (omega arith) in
      let q : z / 256 * 256 + z % 256 ≡ z = omega arith in
      let w : m * 256 + 240 ≡ 240 + 256 * m = omega arith in
      sym p ∙ ap₂ bit_and q w ∙ e

  lowest : z % 256 < 16
  lowest = no_upper (z % 256) (omega arith) (sym (and_high (z % 256) 4 4) ∙ none_below _ _ apart)

  above : bit_and (z / 256) m ≡ 0
  above = omega (arith, apart)

-- a number and itself raised, joined: the lowest byte of both, and those above it
module _ (c d m x : ℕ) (l : c ≤ 15) (e : bit_and (bit_or x (x + (c + 256 * d))) (240 + 256 * m) ≡ 0) where
  abbrev y : ℕ
  y = x + (c + 256 * d)

  joined : bit_or (x % 256) (y % 256) < 16
  joined = subst (λ (z : ℕ). z < 16) (or_mod x y 8) (lowest (bit_or x y) m e)

  fits : x % 256 + c < 16
  fits = omega (arith, joined, left_within (x % 256) (y % 256), right_within (x % 256) (y % 256))

  rest : bit_and (bit_or (x / 256) (x / 256 + d)) m ≡ 0
  rest =
      let q : y / 256 ≡ x / 256 + d = omega (arith, fits) in
      ap (λ (z : ℕ). bit_and (bit_or (x / 256) z) m) (sym q) ∙ ap (λ (z : ℕ). bit_and z m) (sym (or_shr x y 8)) ∙ above (bit_or x y) m e

-- the same of every byte
abbrev upper : List ℕ → ℕ
upper [] = 0
upper (c ∷ cs) = 240 + 256 * upper cs

abbrev Small : List ℕ → Type 0
Small [] = Unit {0}
Small (c ∷ cs) = (c ≤ 15) × Small cs

abbrev Fit : List ℕ → ℕ → Type 0
Fit [] x = Unit {0}
Fit (c ∷ cs) x = (x % 256 + c < 16) × Fit cs (x / 256)

all_fit : (cs : List ℕ) (x : ℕ) → Small cs → bit_and (bit_or x (x + le_val cs)) (upper cs) ≡ 0 → Fit cs x
all_fit [] x s e = tt
all_fit (c ∷ cs) x s e = (fits c (le_val cs) (upper cs) x s.0 e, all_fit cs (x / 256) s.1 (rest c (le_val cs) (upper cs) x s.0 e))

-- ---- six bytes as one number
byte_first : (n b x : ℕ) → b < 256 → le_bytes (suc n) (b + 256 * x) ≡ b ∷ le_bytes n x
byte_first n b x l =
    let m : (b + 256 * x) % 256 ≡ b = omega arith in
    let d : (b + 256 * x) / 256 ≡ x = omega arith in
    rw (m, d)

module _ (v q d l r w : ℕ) (hv : v < 256) (hq : q < 256) (hd : d < 256) (hl : l < 256) (hr : r < 256) (hw : w < 256) where
  pub six_bytes : le_bytes 6 (v + 256 * (q + 256 * (d + 256 * l)) + 4294967296 * (r + 256 * w)) ≡ v ∷ q ∷ d ∷ l ∷ r ∷ w ∷ []
  six_bytes =
      let e : v + 256 * (q + 256 * (d + 256 * l)) + 4294967296 * (r + 256 * w) ≡ v + 256 * (q + 256 * (d + 256 * (l + 256 * (r + 256 * (w + 256 * 0))))) =
      omega arith in
      ap (le_bytes 6) e ∙ byte_first 5 v _ hv
      ∙ ap (◌∷◌ v) (byte_first 4 q _ hq
      ∙ ap (◌∷◌ q) (byte_first 3 d _ hd
      ∙ ap (◌∷◌ d) (byte_first 2 l _ hl
      ∙ ap (◌∷◌ l) (byte_first 1 r _ hr
      ∙ ap (◌∷◌ r) (byte_first 0 w 0 hw)))))

-- ---- a row whose bytes are within these bounds is in order
module _ (r : List ℕ) (v : get_or r vote_at 0 < 2) (q : get_or r reason_at 0 < 1) (d : get_or r decided_at 0 < 3) (l : get_or r log_at 0 < 3) where
  vote_right : passed ≡ vote_wrong r
  unfolding reason_wrong
  vote_right = pass (less_no _ _ _ (omega arith)) (rw (ne_eqb (get_or r vote_at 0) 2 (omega arith)) (sym (less_no _ _ _ (omega arith))))

  settled_right : passed ≡ settled_wrong r
  settled_right = pass (less_no _ _ _ (omega arith)) (sym (less_no _ _ _ (omega arith)))

  row_in_order : r_count (row_tx r) < 9 → w_count (row_tx r) < 9 → passed ≡ row_wrong r
  unfolding row_wrong
  row_in_order a b = pass (less_no _ _ _ (omega arith)) (pass (less_no _ _ _ (omega arith)) (pass (sym vote_right) settled_right))

pub plain_right : (r : List ℕ) (x : ℕ) → le_bytes 6 x ≡ looked r → plain x ≡ true → passed ≡ row_wrong r
unfolding plain
plain_right r x b h =
    let byte : (i : ℕ) → get_or (le_bytes 6 x) i 0 ≡ get_or (looked r) i 0 = λ i. ap (λ (s : List ℕ). get_or s i 0) b in
    let small : Small raises = (omega arith, (omega arith, (omega arith, (omega arith, (omega arith, (omega arith, tt)))))) in
    let fit : Fit raises x = all_fit raises x small (eqb-true _ _ h) in
    row_in_order r
    (omega (arith, byte 0, fit.0))
    (omega (arith, byte 1, fit.1.0))
    (omega (arith, byte 2, fit.1.1.0))
    (omega (arith, byte 3, fit.1.1.1.0))
    (omega (arith, byte 4, fit.1.1.1.1.0))
    (omega (arith, byte 5, fit.1.1.1.1.1.0))
