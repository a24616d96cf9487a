-- A number's digits, found from the last to the first; and that they say the number.
use Prim.Native.Nat.{ℕ, zero, suc, ◌+◌, ◌*◌, ◌-◌, ◌/◌, ◌%◌, ◌^◌, ◌≤◌, ◌<◌}
use native.Mathlib.Omega.{arith}
use native.Mathlib.Nat.{pow-succ'}
use mathlib.Core.Path.{◌≡◌, refl, ap, ◌∙◌}
use mathlib.Core.Bool.{Bool, true, false}
use mathlib.Core.List.{List, [], ◌∷◌, ◌++◌}
use lib.ListN.{length, length-append}
use lib.Dec.{ltb}
use borrow.Author.Tests.{lt-ltb, le-ltb, ltb-true, ltb-false}
use Rattle.std.specs.Fmt.{decimal as printed}
use Rattle.std.proofs.lemmas.Fmt.{AppendsLastDigit, decimal_from_appends, length-decimal-le}
use Rattle.lines.specs.Lines.{decimal_in, decimal, value}

digit : (n x : ℕ) → x < 10 → decimal_in (suc n) x ≡ (48 + x) ∷ []
unfolding decimal_in
digit n x h = rw (lt-ltb x 10 h)

digits_more : (n x : ℕ) → 10 ≤ x → decimal_in (suc n) x ≡ decimal_in n (x / 10) ++ ((48 + x % 10) ∷ [])
unfolding decimal_in
digits_more n x h = rw (le-ltb x 10 h)

either : {P : Type 0} (x y : ℕ) → (x < y → P) → (y ≤ x → P) → P
either {P} x y less more = by (ltb x y) refl
  where
    by : (t : Bool) → ltb x y ≡ t → P
    by true e = less (ltb-true x y e)
    by false e = more (ltb-false x y e)

-- ---- the digits say the number
value_snoc : (n : ℕ) (ds : List ℕ) (d : ℕ) → value n (ds ++ (d ∷ [])) ≡ value n ds * 10 + (d - 48)
unfolding value
value_snoc n [] d = refl
value_snoc n (e ∷ ds) d = value_snoc (n * 10 + (e - 48)) ds d

means : (n x : ℕ) → x < 10 ^ n → value 0 (decimal_in n x) ≡ x
unfolding value decimal_in
means zero x h = omega arith
means (suc n) x h =
    let p : 10 ^ suc n ≡ 10 * 10 ^ n = pow-succ' 10 n in
    either x 10
    (λ l. ap (value 0) (digit n x l) ∙ (omega arith))
    (λ g. ap (value 0) (digits_more n x g) ∙ value_snoc 0 (decimal_in n (x / 10)) (48 + x % 10) ∙ (omega (arith, means n (x / 10) (omega arith))))

-- twenty digits are enough to be exact
pub decimal_means : (x : ℕ) → x < 10 ^ 20 → value 0 (decimal x) ≡ x
unfolding decimal
decimal_means x h = means 20 x h

-- ---- the digits are those of the library
spelled : AppendsLastDigit decimal_in
spelled = record { one = digit; more = digits_more }

pub decimal_is : (x : ℕ) → x < 2 ^ 64 → decimal x ≡ printed x
unfolding decimal
decimal_is x h = decimal_from_appends decimal_in spelled 20 x h (length-decimal-le 20 x (omega arith) (omega arith) h)

short : (n x : ℕ) → length (decimal_in n x) ≤ n
unfolding decimal_in
short zero x = omega arith
short (suc n) x =
    either x 10
    (λ l. rw (digit n x l) (omega arith))
    (λ g. rw (digits_more n x g) (omega (arith, length-append (decimal_in n (x / 10)) ((48 + x % 10) ∷ []), short n (x / 10))))

pub decimal_short : (x : ℕ) → length (decimal x) ≤ 20
unfolding decimal
decimal_short x = short 20 x
