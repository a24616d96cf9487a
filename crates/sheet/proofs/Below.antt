-- Laws of a list of the boxes below n that pass a test, in rising order: how an array is filled with it, what it counts, and that it rises.
use Prim.Native.Nat.{ℕ, zero, suc, ◌+◌, ◌-◌, ◌<◌, ◌≤◌, zero-le}
use native.Mathlib.Omega.{arith}
use native.Mathlib.Numerals.{add-one}
use mathlib.Core.Path.{◌≡◌, refl, ap, sym, ◌∙◌}
use mathlib.Core.List.{List, [], ◌∷◌, ◌++◌, append_assoc, map, map-append}
use mathlib.Core.Bool.{Bool, true, false, ◌||◌}
use lib.Dec.{ltb, leb}
use lib.Seq.{set_at, take_all, take_at}
use lib.ListN.{length, set, replicate, take, length-replicate, length-set, length-append}
use borrow.Author.Tests.{le-ltb, lt-leb, leb-true, leb-false}
use Rattle.terms.specs.Choice.{pick, any, falls}
use Rattle.rules.specs.Lists.{bit}
use Rattle.rules.specs.System.{how_many}

-- of each box that passes, what g says of it
unfoldable pub below : {A : Type 0} → (ℕ → Bool) → (ℕ → A) → ℕ → List A
below p g zero = []
below p g (suc n) = below p g n ++ pick (p n) (g n ∷ []) []

-- an array that is filled with a list that grows with b: j elements, and z from there on
pub record Noted {A : Type 0} (l : ℕ → List A) (z : A) (m : ℕ) (a : List A) (j b : ℕ) : Type 0 where
  pub within : j ≤ b
  pub counts : length (l b) ≡ j
  pub long : length a ≡ m
  pub is : a ≡ l b ++ replicate (m - j) z

module _ {A : Type 0} where
  pub append_none : (xs : List A) → xs ++ [] ≡ xs
  append_none [] = refl
  append_none (x ∷ xs) = ap (λ (l : List A). x ∷ l) (append_none xs)

  any_append : (q : A → Bool) (xs ys : List A) → any q xs ≡ false → any q ys ≡ false → any q (xs ++ ys) ≡ false
  any_append q [] ys e d = d
  any_append q (x ∷ xs) ys e d = by (q x) e (λ h. any_append q xs ys h d)
    where
      by : (t : Bool) → (t || any q xs) ≡ false → (any q xs ≡ false → any q (xs ++ ys) ≡ false) → (t || any q (xs ++ ys)) ≡ false
      by true h k = h
      by false h k = k h

-- the laws of filling: none yet, one more, and one that is not listed
module _ {A : Type 0} {l : ℕ → List A} {z : A} {m : ℕ} where
  pub noted_none : l 0 ≡ [] → Noted l z m (replicate m z) 0 0
  noted_none e =
      let s : m - 0 ≡ m = omega arith in
      record { within = zero-le; counts = rw e; long = length-replicate m z; is = rw (e, s) }

  module _ {a : List A} {j b : ℕ} (g : Noted l z m a j b) where
    pub noted_yes : (x : A) → j < m → l (b + 1) ≡ l b ++ (x ∷ []) → Noted l z m (set a j x) (j + 1) (b + 1)
    noted_yes x h t =
        let e : m - j ≡ suc (m - (j + 1)) = omega arith in
        let r : a ≡ l b ++ (z ∷ replicate (m - (j + 1)) z) = g.is ∙ (rw e) in
        let s : set a j x ≡ l b ++ (x ∷ replicate (m - (j + 1)) z) = rw (r, set_at (l b) z (replicate (m - (j + 1)) z) x j g.counts) in
        let u : l (b + 1) ++ replicate (m - (j + 1)) z ≡ l b ++ (x ∷ replicate (m - (j + 1)) z) = rw (t, append_assoc) in
        record {
          within = omega (arith, g.within);
          counts = rw (t, length-append (l b)) (omega (arith, g.counts));
          long = length-set a j x ∙ g.long;
          is = s ∙ sym u;
        }

    pub noted_no : l (b + 1) ≡ l b → Noted l z m a j (b + 1)
    noted_no t = record { within = omega (arith, g.within); counts = rw t g.counts; long = g.long; is = rw t g.is }

module _ {A : Type 0} (p : ℕ → Bool) (g : ℕ → A) where
  pub below_yes : (b : ℕ) → p b ≡ true → below p g (b + 1) ≡ below p g b ++ (g b ∷ [])
  unfolding below
  below_yes b h = let e : b + 1 ≡ suc b = add-one b in rw (e, h)

  pub below_no : (b : ℕ) → p b ≡ false → below p g (b + 1) ≡ below p g b
  unfolding below
  below_no b h = let e : b + 1 ≡ suc b = add-one b in rw (e, h) (append_none (below p g b))

  pub below_length : (n : ℕ) → length (below p g n) ≡ how_many p n
  unfolding below how_many bit
  below_length zero = refl
  below_length (suc n) = rw (length-append (below p g n)) (by (p n) (below_length n))
    where
      by : (t : Bool) → length (below p g n) ≡ how_many p n → length (below p g n) + length (pick t (g n ∷ []) []) ≡ bit t + how_many p n
      by true e = omega arith
      by false e = omega arith

  -- what is said of each element is said of its box
  pub below_map : {B : Type 0} (h : A → B) (n : ℕ) → map h (below p g n) ≡ below p (λ b. h (g b)) n
  unfolding below
  below_map h zero = refl
  below_map h (suc n) = rw (map-append h (below p g n) (pick (p n) (g n ∷ []) []), below_map h n) (by (p n))
    where
      by : (t : Bool) → below p (λ b. h (g b)) n ++ map h (pick t (g n ∷ []) []) ≡ below p (λ b. h (g b)) n ++ pick t (h (g n) ∷ []) []
      by true = refl
      by false = refl

  -- a test that no element passes
  pub below_none : (q : A → Bool) (n : ℕ) → ((b : ℕ) → b < n → q (g b) ≡ false) → any q (below p g n) ≡ false
  unfolding below
  below_none q zero h = refl
  below_none q (suc n) h = any_append q (below p g n) _ (below_none q n (λ b l. h b (omega arith))) (by (p n))
    where
      by : (t : Bool) → any q (pick t (g n ∷ []) []) ≡ false
      by true = rw (h n (omega arith))
      by false = refl

  -- what lies below b stands in front
  front_by : (b d : ℕ) → (r : List A) × (below p g (b + d) ≡ below p g b ++ r)
  unfolding below
  front_by b zero = let e : b + 0 ≡ b = omega arith in ([], rw e (sym (append_none (below p g b))))
  front_by b (suc d) =
      let e : b + suc d ≡ suc (b + d) = omega arith in
      let w = front_by b d in
      (w.0 ++ pick (p (b + d)) (g (b + d) ∷ []) [], rw (e, w.1, append_assoc))

  below_front : (b n : ℕ) → b ≤ n → (r : List A) × (below p g n ≡ below p g b ++ r)
  below_front b n h = let d : b + (n - b) ≡ n = omega arith in let w = front_by b (n - b) in (w.0, rw d at w.1)

  pub below_grows : (b n : ℕ) → b ≤ n → length (below p g b) ≤ length (below p g n)
  below_grows b n h =
      let w = below_front b n h in
      let e : length (below p g n) ≡ length (below p g b) + length w.0 = rw w.1 (length-append (below p g b) w.0) in
      omega arith

  -- the first k are those below a box with k below it
  pub below_take : (b n k : ℕ) → length (below p g b) ≡ k → k ≤ length (below p g n) → take k (below p g n) ≡ below p g b
  below_take b n k e h = by (leb b n) refl
    where
      by : (t : Bool) → leb b n ≡ t → take k (below p g n) ≡ below p g b
      by true l = let w = below_front b n (leb-true b n l) in rw (w.1, take_at (below p g b) w.0 k e)
      by false l =
          let w = below_front n b (let m : n < b = leb-false b n l in omega arith) in
          let u : length (below p g b) ≡ length (below p g n) + length w.0 = rw w.1 (length-append (below p g n) w.0) in
          let z : w.0 ≡ [] = empty w.0 (omega arith) in
          let v : below p g b ≡ below p g n = w.1 ∙ (rw z (append_none (below p g n))) in
          take_all k (below p g n) (omega arith) ∙ sym v
        where
          empty : (xs : List A) → length xs ≡ 0 → xs ≡ []
          empty [] y = refl
          empty (x ∷ xs) y = absurd (omega arith)

  -- so the first k are those below some box
  pub below_first : (k n : ℕ) → k ≤ length (below p g n) → (b : ℕ) × (b ≤ n) × (length (below p g b) ≡ k)
  unfolding below
  below_first k zero h = (0, omega arith, omega arith)
  below_first k (suc n) h = by (leb k (length (below p g n))) refl (below_first k n)
    where
      -- no box adds more than one
      by : (t : Bool) → leb k (length (below p g n)) ≡ t → (k ≤ length (below p g n) → (b : ℕ) × (b ≤ n) × (length (below p g b) ≡ k)) → (b : ℕ) × (b ≤ suc n) × (length (below p g b) ≡ k)
      by true e next = let w = next (leb-true _ _ e) in (w.0, omega (arith, w.1), w.2)
      by false e next =
          let l : length (below p g n ++ pick (p n) (g n ∷ []) []) ≡ length (below p g n) + length (pick (p n) (g n ∷ []) []) = length-append (below p g n) (pick (p n) (g n ∷ []) []) in
          (suc n, omega arith, omega (arith, l, h, one (p n), leb-false k (length (below p g n)) e))
        where
          one : (t : Bool) → length (pick t (g n ∷ []) []) ≤ 1
          one true = omega arith
          one false = omega arith

  -- one box more, above all before it
  module _ (key : A → ℕ) (keyed : (b : ℕ) → key (g b) ≡ b) where
    rises_next : (n lo : ℕ) (xs : List A) → falls key lo xs ≡ false → any (λ x. leb n (key x)) xs ≡ false → lo ≤ n → falls key lo (xs ++ (g n ∷ [])) ≡ false
    rises_next n lo [] e d l = rw (keyed n, le-ltb n lo l)
    rises_next n lo (x ∷ xs) e d l = go (ltb (key x) lo) (leb n (key x)) refl e d (λ h k m. rises_next n (key x + 1) xs h k m)
      where
        More : Type 0
        More = falls key (key x + 1) (xs ++ (g n ∷ [])) ≡ false

        go : (s t : Bool) → leb n (key x) ≡ t → (s || falls key (key x + 1) xs) ≡ false → (t || any (λ y. leb n (key y)) xs) ≡ false
            → (falls key (key x + 1) xs ≡ false → any (λ y. leb n (key y)) xs ≡ false → key x + 1 ≤ n → More)
            → (s || falls key (key x + 1) (xs ++ (g n ∷ []))) ≡ false
        go true t q h k more = h
        go false true q h k more = absurd (let z : ◌≡◌ {A = ℕ} 0 1 = cc in omega arith)
        go false false q h k more = more h k (let z : key x < n = leb-false n (key x) q in omega arith)

    pub below_wide : (k n : ℕ) → n ≤ k → any (λ x. leb k (key x)) (below p g n) ≡ false
    below_wide k n h = below_none (λ x. leb k (key x)) n (λ b l. rw (keyed b) (lt-leb k b (omega arith)))

    -- "box numbers rise strictly"
    pub below_rises : (n : ℕ) → falls key 0 (below p g n) ≡ false
    unfolding below
    below_rises zero = refl
    below_rises (suc n) = by (p n) (below_rises n)
      where
        by : (t : Bool) → falls key 0 (below p g n) ≡ false → falls key 0 (below p g n ++ pick t (g n ∷ []) []) ≡ false
        by true h = rises_next n 0 (below p g n) h (below_wide n n (omega arith)) (omega arith)
        by false h = rw (append_none (below p g n)) h
