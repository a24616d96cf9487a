-- A number's bytes, one by one, at any width.
use Rattle.std.proofs.Common.{◌≡◌, ℕ, zero, suc, ◌+◌, ◌-◌, ◌≤◌, ◌<◌, List, [], ◌∷◌, length, get_or, take, drop, refl, ap, sym, ◌∙◌, add-zero, arith}
use Rattle.std.proofs.lemmas.List.{drop_all, append-nil}
use Rattle.std.proofs.Math.Seq.{drop-cons, sets, sets-eq}
use Rattle.std.specs.Int.{w16, w64, from_le_bytes}
use Rattle.std.specs.Array.{IsWholeChunk}
use Rattle.records.specs.Numbers.{num_at}

-- the n elements from p + k on, by their places
abbrev pub elems : List ℕ → ℕ → ℕ → ℕ → List ℕ
elems s p k zero = []
elems s p k (suc n) = get_or s (p + k) 0 ∷ elems s p (k + 1) n

pub take_elems : (s : List ℕ) (p k n : ℕ) → p + k + n ≤ length s → take n (drop (p + k) s) ≡ elems s p k n
take_elems s p k zero h = refl
take_elems s p k (suc n) h =
    let l : p + k < length s = omega arith in
    let e : suc (p + k) ≡ p + (k + 1) = omega arith in
    rw (drop-cons s (p + k) 0 l, e, take_elems s p (k + 1) n (omega arith))

-- from p on
pub take_at_0 : (s : List ℕ) (p n : ℕ) → p + n ≤ length s → take n (drop p s) ≡ elems s p 0 n
take_at_0 s p n h = ap (λ (q : ℕ). take n (drop q s)) (sym (add-zero p)) ∙ take_elems s p 0 n (omega arith)

-- all of a list stored over
pub sets_all : (e vs : List ℕ) → length e ≡ length vs → sets e 0 vs ≡ vs
sets_all e vs l =
    let z : drop (0 + length vs) e ≡ [] = drop_all _ e (omega arith) in
    sets-eq vs e 0 (omega arith) ∙ rw (z, append-nil)

-- std's number of the bytes of a slice, by the crate's own word
module _ (s y : List ℕ) (at : ℕ) where
  pub number_2 : at + 2 ≤ length s → IsWholeChunk (take (at + 2 - at) (drop at s)) y 2 → from_le_bytes w16 y ≡ num_at 2 at s
  unfolding num_at
  number_2 h c =
      let n : at + 2 - at ≡ 2 = omega arith in
      rw (c.same, n, take_at_0 s at 2 h) (omega arith)

  pub number_8 : at + 8 ≤ length s → IsWholeChunk (take (at + 8 - at) (drop at s)) y 8 → from_le_bytes w64 y ≡ num_at 8 at s
  unfolding num_at
  number_8 h c =
      let n : at + 8 - at ≡ 8 = omega arith in
      rw (c.same, n, take_at_0 s at 8 h) (omega arith)
