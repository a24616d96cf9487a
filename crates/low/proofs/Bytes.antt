-- Numbers and folded versions in bytes: what is put down is read back.
use Prim.Native.Nat.{ℕ, zero, suc, ◌+◌, ◌*◌, ◌^◌, ◌/◌, ◌%◌, ◌<◌}
use native.Mathlib.Omega.{arith}
use native.Mathlib.Nat.{add-zero}
use mathlib.Core.Path.{◌≡◌, refl, ap, ◌∙◌}
use mathlib.Core.Bool.{Bool, true, false, false≢true}
use mathlib.Core.List.{List, ◌∷◌}
use borrow.Author.Tests.{eqb-true, eq-eqb, ne_eqb}
use lib.Dec.{eqb}
use lib.ListN.{take, drop}
use lib.Seq.{drop-drop}
use Rattle.terms.specs.Choice.{pick}
use Rattle.records.specs.Numbers.{le_val, le_bytes, num_at}
use Rattle.rules.specs.declared.Version.{Version}
use Rattle.table.specs.Table.{fold_in, fold_len, folds_at}
use Rattle.table.proofs.Bodies.{num_take}
use Rattle.low.specs.Raising.{fold_bytes, fold_over, fold_part, open_bytes, same_fold}

-- ---- a number
pub open_back : (n x : ℕ) → le_val (open_bytes n x) ≡ x
open_back zero x = omega arith
open_back (suc n) x = let e : le_val (open_bytes n (x / 256)) ≡ x / 256 = open_back n (x / 256) in omega arith

abbrev top : ℕ → ℕ
top zero = 256
top (suc n) = 256 * top n

open_closed : (n x : ℕ) → x < top n → le_bytes (suc n) x ≡ open_bytes n x
open_closed zero x h = let e : x % 256 ≡ x = omega arith in rw e
open_closed (suc n) x h = ap (λ (l : List ℕ). x % 256 ∷ l) (open_closed n (x / 256) (omega arith))

-- one below 2^64 has its own eight bytes
pub number_open : (x : ℕ) → x < 2 ^ 64 → le_bytes 8 x ≡ open_bytes 7 x
number_open x h = open_closed 7 x (omega arith)

-- ---- a version
-- what the bytes of a fold say
abbrev pub says : List ℕ → Version
says d = record { stamp = record { 0 = num_at 8 0 d }; value = num_at 8 8 d }

pub says_back : (v : Version) → says (fold_bytes v) ≡ v
unfolding num_at
says_back v =
    let a : num_at 8 0 (fold_bytes v) ≡ v.stamp.0 = open_back 7 v.stamp.0 in
    let b : num_at 8 8 (fold_bytes v) ≡ v.value = open_back 7 v.value in
    rw (a, b)

num_drop : (n q p : ℕ) (t : List ℕ) → num_at n q (drop p t) ≡ num_at n (p + q) t
unfolding num_at
num_drop n q p t = ap (λ (l : List ℕ). le_val (take n l)) (drop-drop q p t)

pub fold_says : (t : List ℕ) (k : ℕ) → says (fold_part t k) ≡ fold_in t k
unfolding fold_in
fold_says t k =
    let a : num_at 8 0 (fold_part t k) ≡ num_at 8 (folds_at + k * fold_len) t =
    num_take 8 0 fold_len (drop (folds_at + k * fold_len) t) (omega arith)
    ∙ num_drop 8 0 (folds_at + k * fold_len) t
    ∙ ap (λ (q : ℕ). num_at 8 q t) (add-zero (folds_at + k * fold_len)) in
    let b : num_at 8 8 (fold_part t k) ≡ num_at 8 (folds_at + k * fold_len + 8) t =
    num_take 8 8 fold_len (drop (folds_at + k * fold_len) t) (omega arith) ∙ num_drop 8 8 (folds_at + k * fold_len) t in
    rw (a, b)

-- two versions that are the same, and two whose stamps differ
same_yes : (v : Version) → same_fold v v ≡ true
same_yes v = rw (eq-eqb v.stamp.0 v.stamp.0 refl, eq-eqb v.value v.value refl)

same_no : (u v : Version) → u.stamp.0 < v.stamp.0 → same_fold u v ≡ false
same_no u v h = rw (ne_eqb u.stamp.0 v.stamp.0 (λ (e : u.stamp.0 ≡ v.stamp.0). omega arith))

same_eq : (u v : Version) → same_fold u v ≡ true → u ≡ v
same_eq u v e = by (eqb u.stamp.0 v.stamp.0) (eqb u.value v.value) refl refl e
  where
    by : (a b : Bool) → eqb u.stamp.0 v.stamp.0 ≡ a → eqb u.value v.value ≡ b → same_fold u v ≡ true → u ≡ v
    by true true p q z =
        let s : u.stamp.0 ≡ v.stamp.0 = eqb-true _ _ p in
        let w : u.value ≡ v.value = eqb-true _ _ q in
        let x : record { stamp = record { 0 = u.stamp.0 }; value = u.value } ≡ v = rw (s, w) in
        x
    by true false p q z = absurd (false≢true (rw (p, q) at z))
    by false b p q z = absurd (false≢true (rw p at z))

-- the bytes that a key is to have say the version
pub over_says : (t : List ℕ) (k : ℕ) (v : Version) → says (fold_over t k v) ≡ v
unfolding fold_over
over_says t k v = by (same_fold (fold_in t k) v) refl
  where
    by : (b : Bool) → same_fold (fold_in t k) v ≡ b → says (pick b (fold_part t k) (fold_bytes v)) ≡ v
    by true e = fold_says t k ∙ same_eq (fold_in t k) v e
    by false e = says_back v

pub over_old : (t : List ℕ) (k : ℕ) → fold_over t k (fold_in t k) ≡ fold_part t k
unfolding fold_over
over_old t k = rw (same_yes (fold_in t k))

pub over_new : (t : List ℕ) (k : ℕ) (v : Version) → (fold_in t k).stamp.0 < v.stamp.0 → fold_over t k v ≡ fold_bytes v
unfolding fold_over
over_new t k v h = rw (same_no (fold_in t k) v h)
