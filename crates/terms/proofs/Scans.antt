-- Laws of scans: loops over lists that are read off by an index.
use Prim.Native.Nat.{ℕ, zero, suc, ◌+◌, ◌-◌, ◌<◌, ◌≤◌, zero-le}
use native.Mathlib.Omega.{arith}
use native.Mathlib.Nat.{sub-zero, add-zero, zero-add}
use native.Mathlib.Numerals.{add-one}
use mathlib.Core.Path.{◌≡◌, refl, ap, sym, ◌∙◌}
use mathlib.Core.List.{List, [], ◌∷◌, ◌++◌, map, append_assoc}
use mathlib.Core.Bool.{Bool, true, false, ◌||◌}
use borrow.Author.Tests.{lt-ltb, le-ltb}
use lib.Dec.{ltb}
use lib.Seq.{set_at}
use lib.ListN.{length, take, get_or, set, replicate, length-replicate, length-set, get_or-append}
use Rattle.terms.specs.Choice.{tab, any, falls}

-- a scan's loop: what is left of the list from j on has the answer of the whole, W
pub record Rest {A : Type 0} (P : A → Bool) (f : ℕ → A) (n : ℕ) (W : Bool) (j : ℕ) : Type 0 where
  pub within : j ≤ n
  pub same : any P (tab f j (n - j)) ≡ W

module _ {A : Type 0} {P : A → Bool} {f : ℕ → A} {n : ℕ} where
  pub begin : Rest P f n (any P (tab f 0 n)) 0
  begin = record { within = zero-le; same = rw sub-zero }

  module _ {W : Bool} {j : ℕ} (r : Rest P f n W j) where
    step : j < n → any P (tab f j (n - j)) ≡ (P (f j) || any P (tab f (j + 1) (n - (j + 1))))
    step h = let e : n - j ≡ suc (n - (j + 1)) = omega arith in rw e

    pub found : j < n → P (f j) ≡ true → true ≡ W
    found h p = rw (step h, p) at r.same

    pub go : j < n → P (f j) ≡ false → Rest P f n W (j + 1)
    go h p = record { within = omega arith; same = rw (step h, p) at r.same }

    pub end : n ≤ j → false ≡ W
    end h = let e : n - j ≡ 0 = omega arith in rw e at r.same

-- a loop over keys: what is left from j on, from lo on, falls where the whole does
pub record Rise {A : Type 0} (k : A → ℕ) (f : ℕ → A) (n : ℕ) (W : Bool) (lo j : ℕ) : Type 0 where
  pub within : j ≤ n
  pub same : falls k lo (tab f j (n - j)) ≡ W

module _ {A : Type 0} {k : A → ℕ} {f : ℕ → A} {n : ℕ} where
  pub rise_begin : Rise k f n (falls k 0 (tab f 0 n)) 0 0
  rise_begin = record { within = zero-le; same = rw sub-zero }

  module _ {W : Bool} {lo j : ℕ} (r : Rise k f n W lo j) where
    rise_step : j < n → falls k lo (tab f j (n - j)) ≡ (ltb (k (f j)) lo || falls k (k (f j) + 1) (tab f (j + 1) (n - (j + 1))))
    rise_step h = let e : n - j ≡ suc (n - (j + 1)) = omega arith in rw e

    pub rise_falls : j < n → k (f j) < lo → true ≡ W
    rise_falls h p = rw (rise_step h, lt-ltb (k (f j)) lo p) at r.same

    pub rise_go : j < n → lo ≤ k (f j) → Rise k f n W (k (f j) + 1) (j + 1)
    rise_go h p = record { within = omega arith; same = rw (rise_step h, le-ltb (k (f j)) lo p) at r.same }

    pub rise_end : n ≤ j → false ≡ W
    rise_end h = let e : n - j ≡ 0 = omega arith in rw e at r.same

pub tab_length : {A : Type 0} (f : ℕ → A) (i n : ℕ) → length (tab f i n) ≡ n
tab_length f i zero = refl
tab_length f i (suc n) = ap suc (tab_length f (i + 1) n)

-- an array that is filled from the front: the first j of f, and z from there on
tab_snoc : {A : Type 0} (f : ℕ → A) (i n : ℕ) → tab f i (n + 1) ≡ tab f i n ++ (f (i + n) ∷ [])
tab_snoc f i zero = rw add-zero
tab_snoc f i (suc n) =
    let e : suc n + 1 ≡ suc (n + 1) = omega arith in
    let q : i + suc n ≡ i + 1 + n = omega arith in
    rw (e, q, tab_snoc f (i + 1) n)

pub record Grown {A : Type 0} (f : ℕ → A) (z : A) (m : ℕ) (a : List A) (j : ℕ) : Type 0 where
  pub within : j ≤ m
  pub long : length a ≡ m
  pub is : a ≡ tab f 0 j ++ replicate (m - j) z

module _ {A : Type 0} {f : ℕ → A} {z : A} {m : ℕ} where
  pub none : Grown f z m (replicate m z) 0
  none = record { within = zero-le; long = length-replicate m z; is = rw sub-zero }

  pub more : {a : List A} {j : ℕ} {v : A} → Grown f z m a j → j < m → v ≡ f j → Grown f z m (set a j v) (j + 1)
  more {a} {j} {v} g h p =
      let e : m - j ≡ suc (m - (j + 1)) = omega arith in
      let r : a ≡ tab f 0 j ++ (z ∷ replicate (m - (j + 1)) z) = g.is ∙ (rw e) in
      let s : set a j v ≡ tab f 0 j ++ (v ∷ replicate (m - (j + 1)) z) = rw (r, set_at (tab f 0 j) z (replicate (m - (j + 1)) z) v j (tab_length f 0 j)) in
      let t : tab f 0 (j + 1) ++ replicate (m - (j + 1)) z ≡ tab f 0 j ++ (v ∷ replicate (m - (j + 1)) z) = rw (tab_snoc f 0 j, zero-add, ← p, append_assoc) in
      record { within = omega arith; long = length-set a j v ∙ g.long; is = s ∙ sym t }

-- a list read off by an index: its elements, and another with the same ones
pub tab_get : {A : Type 0} (f : ℕ → A) (i n j : ℕ) (z : A) → j < n → get_or (tab f i n) j z ≡ f (i + j)
tab_get f i zero j z h = absurd (omega arith)
tab_get f i (suc n) zero z h = rw add-zero
tab_get f i (suc n) (suc j) z h =
    let q : i + suc j ≡ i + 1 + j = omega arith in
    rw q (tab_get f (i + 1) n j z (omega arith))

pub tab_same : {A : Type 0} (f g : ℕ → A) (s n : ℕ) → ((j : ℕ) → s ≤ j → j < s + n → g j ≡ f j) → tab g s n ≡ tab f s n
tab_same f g s zero h = refl
tab_same f g s (suc n) h =
    let e : g s ≡ f s = h s (omega arith) (omega arith) in
    let r : tab g (s + 1) n ≡ tab f (s + 1) n = tab_same f g (s + 1) n (λ j a b. h j (omega arith) (omega arith)) in
    cc

-- the front of a filled array is what it was filled with
pub front : {A : Type 0} (f : ℕ → A) (n : ℕ) (z : A) (rest : List A) → tab (λ j. get_or (tab f 0 n ++ rest) j z) 0 n ≡ tab f 0 n
front f n z rest =
    tab_same f (λ j. get_or (tab f 0 n ++ rest) j z) 0 n
    (λ j a b.
    let l : j < length (tab f 0 n) = rw (tab_length f 0 n) (omega arith) in
    get_or-append (tab f 0 n) rest z j l ∙ tab_get f 0 n j z (omega arith) ∙ ap f (zero-add j))

-- all of it turned into something else
pub tab_map : {A B : Type 0} (g : A → B) (f : ℕ → A) (i n : ℕ) → map g (tab f i n) ≡ tab (λ j. g (f j)) i n
tab_map g f i zero = refl
tab_map g f i (suc n) = ap (λ (l : List _). g (f i) ∷ l) (tab_map g f (i + 1) n)

pub tab_shift : {A : Type 0} (f g : ℕ → A) (i n : ℕ) → ((j : ℕ) → f (j + 1) ≡ g j) → tab f (i + 1) n ≡ tab g i n
tab_shift f g i zero h = refl
tab_shift f g i (suc n) h =
    let e : f (i + 1) ≡ g i = h i in
    let r : tab f (i + 1 + 1) n ≡ tab g (i + 1) n = tab_shift f g (i + 1) n h in
    cc

-- the front of a list, read off by an index
pub tab_front : {A : Type 0} (z : A) (xs rest : List A) → tab (λ j. get_or (xs ++ rest) j z) 0 (length xs) ≡ xs
tab_front z [] rest = refl
tab_front z (x ∷ xs) rest =
    let t : tab (λ j. get_or (x ∷ (xs ++ rest)) j z) 1 (length xs) ≡ tab (λ j. get_or (xs ++ rest) j z) 0 (length xs) =
    tab_shift (λ j. get_or (x ∷ (xs ++ rest)) j z) (λ j. get_or (xs ++ rest) j z) 0 (length xs) (λ j. rw add-one) in
    ap (λ (l : List _). x ∷ l) (t ∙ tab_front z xs rest)

-- the first n of an array
pub tab_take : {A : Type 0} (z : A) (a : List A) (n : ℕ) → n ≤ length a → tab (λ j. get_or a j z) 0 n ≡ take n a
tab_take z a zero h = refl
tab_take z [] (suc n) h = absurd (omega arith)
tab_take z (x ∷ a) (suc n) h =
    let t : tab (λ j. get_or (x ∷ a) j z) 1 n ≡ tab (λ j. get_or a j z) 0 n = tab_shift (λ j. get_or (x ∷ a) j z) (λ j. get_or a j z) 0 n (λ j. rw add-one) in
    ap (λ (l : List _). x ∷ l) (t ∙ tab_take z a n (omega arith))
