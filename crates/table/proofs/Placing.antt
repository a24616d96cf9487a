-- A row that is put in place is an entry that is set in the list of entries; one that is put behind the last is an entry more.
use Prim.Native.Nat.{ℕ, zero, suc, ◌+◌, ◌*◌, ◌-◌, ◌<◌, ◌≤◌}
use native.Mathlib.Omega.{arith}
use native.Mathlib.Nat.{add-zero, zero-add}
use mathlib.Core.Bool.{Bool, true, false}
use mathlib.Core.Path.{◌≡◌, refl, ap, sym, ◌∙◌}
use mathlib.Core.List.{List, [], ◌∷◌, ◌++◌}
use borrow.Author.Tests.{ltb-true, ltb-false}
use borrow.Rule.Slice.PartMut.{take_put, drop_put}
use lib.Dec.{ltb, eqb}
use lib.ListN.{length, take, drop, get_or, set, length-take, length-drop, length-append}
use lib.Seq.{take_at, drop_at, get_or-take, get_or-drop, ext_get_or, length-take-le}
use Rattle.terms.specs.Choice.{pick, tab}
use Rattle.terms.proofs.Scans.{tab_same}
use Rattle.rules.specs.Bodies.{stamp_of}
use Rattle.rules.specs.Table.{Entry, put}
use Rattle.table.specs.Table.{row_len, row_at, put_row, entry_of, entry_at, entries, place}

-- functions that agree but at one place
tab_set : {A : Type 0} (f g : ℕ → A) (s n i : ℕ) → i < n → ((j : ℕ) → s ≤ j → j < s + n → (j ≡ s + i → ⊥) → g j ≡ f j) → tab g s n ≡ set (tab f s n) i (g (s + i))
tab_set f g s zero i l h = absurd (omega arith)
tab_set f g s (suc n) zero l h =
    let r : tab g (s + 1) n ≡ tab f (s + 1) n = tab_same f g (s + 1) n (λ j a b. h j (omega arith) (omega arith) (λ (z : j ≡ s + 0). omega arith)) in
    rw (add-zero, r)
tab_set f g s (suc n) (suc i) l h =
    let e : g s ≡ f s = h s (omega arith) (omega arith) (λ (z : s ≡ s + suc i). omega arith) in
    let q : s + suc i ≡ s + 1 + i = omega arith in
    let r : tab g (s + 1) n ≡ set (tab f (s + 1) n) i (g (s + 1 + i)) =
    tab_set f g (s + 1) n i (omega arith) (λ j a b c. h j (omega arith) (omega arith) (λ (z : j ≡ s + suc i). c (omega arith))) in
    rw (e, q, r)

tab_snoc : {A : Type 0} (f : ℕ → A) (i n : ℕ) → tab f i (n + 1) ≡ tab f i n ++ (f (i + n) ∷ [])
tab_snoc f i zero = rw add-zero
tab_snoc f i (suc n) =
    let e : suc n + 1 ≡ suc (n + 1) = omega arith in
    let q : i + suc n ≡ i + 1 + n = omega arith in
    rw (e, q, tab_snoc f (i + 1) n)

module _ (t r : List ℕ) (i : ℕ) (lt : i * row_len + row_len ≤ length t) (lr : length r ≡ row_len) where
  pub own : row_at (put_row t i r) i ≡ r
  own =
      let l : length (take (i * row_len) t) ≡ i * row_len = length-take-le (i * row_len) t (omega arith) in
      rw (drop_at (take (i * row_len) t) (r ++ drop row_len (drop (i * row_len) t)) (i * row_len) l, take_at r (drop row_len (drop (i * row_len) t)) row_len lr)

  pub long : length (put_row t i r) ≡ length t
  long = simp (length-append, length-take, length-drop) (omega arith)

  -- a byte outside the row is as it was
  low : (q : ℕ) → q < i * row_len → get_or (put_row t i r) q 0 ≡ get_or t q 0
  low q h =
      sym (get_or-take (i * row_len) (put_row t i r) q 0 h)
      ∙ ap (λ (l : List ℕ). get_or l q 0) (take_put (i * row_len) row_len t r (omega arith))
      ∙ get_or-take (i * row_len) t q 0 h

  high : (q : ℕ) → i * row_len + row_len ≤ q → get_or (put_row t i r) q 0 ≡ get_or t q 0
  high q h =
      let e : q ≡ i * row_len + row_len + (q - (i * row_len + row_len)) = omega arith in
      let k : i * row_len + row_len - i * row_len ≡ row_len = omega arith in
      let d : drop (i * row_len + row_len) (put_row t i r) ≡ drop (i * row_len + row_len) t =
      rw k at (drop_put (i * row_len) (i * row_len + row_len) t r (omega arith) lt (omega arith)) in
      ap (λ (n : ℕ). get_or (put_row t i r) n 0) e
      ∙ sym (get_or-drop (i * row_len + row_len) (put_row t i r) (q - (i * row_len + row_len)) 0)
      ∙ ap (λ (l : List ℕ). get_or l (q - (i * row_len + row_len)) 0) d
      ∙ get_or-drop (i * row_len + row_len) t (q - (i * row_len + row_len)) 0
      ∙ ap (λ (n : ℕ). get_or t n 0) (sym e)

  side : (q : ℕ) → (i * row_len ≤ q → q < i * row_len + row_len → ⊥) → get_or (put_row t i r) q 0 ≡ get_or t q 0
  side q n = by_lt (ltb q (i * row_len)) (ltb q (i * row_len + row_len)) refl refl
    where
      by_lt : (a b : Bool) → ltb q (i * row_len) ≡ a → ltb q (i * row_len + row_len) ≡ b → get_or (put_row t i r) q 0 ≡ get_or t q 0
      by_lt true b p m = low q (ltb-true _ _ p)
      by_lt false true p m = absurd (n (ltb-false _ _ p) (ltb-true _ _ m))
      by_lt false false p m = high q (ltb-false _ _ m)

  pub other : (j : ℕ) → (j ≡ i → ⊥) → row_at (put_row t i r) j ≡ row_at t j
  other j ne =
      ext_get_or 0 _ _ (simp (length-take, length-drop, long))
      (λ q l.
      let b : q < row_len = omega (arith, simp (length-take, length-drop, long) at l) in
      rw (get_or-take row_len (drop (j * row_len) (put_row t i r)) q 0 b, get_or-take row_len (drop (j * row_len) t) q 0 b, get_or-drop (j * row_len) (put_row t i r) q 0, get_or-drop (j * row_len) t q 0)
      (side (j * row_len + q) (λ (p : i * row_len ≤ j * row_len + q). λ (m : j * row_len + q < i * row_len + row_len). ne (omega arith))))

  -- the list of entries, with entry i set
  pub entries_put : (n : ℕ) → i < n → entries (put_row t i r) n ≡ set (entries t n) i (entry_of r)
  entries_put n l =
      tab_set (entry_at t) (entry_at (put_row t i r)) 0 n i l (λ j a b c. ap entry_of (other j (λ (z : j ≡ i). c (omega arith))))
      ∙ ap (λ (e : Entry). set (entries t n) i e) (ap (λ (m : ℕ). entry_at (put_row t i r) m) (zero-add i) ∙ ap entry_of own)

  -- and with one more
  pub entries_push : entries (put_row t i r) (i + 1) ≡ entries t i ++ (entry_of r ∷ [])
  entries_push =
      tab_snoc (entry_at (put_row t i r)) 0 i
      ∙ (rw (zero-add i, own, tab_same (entry_at t) (entry_at (put_row t i r)) 0 i (λ j a b. ap entry_of (other j (λ (z : j ≡ i). omega arith)))))

-- ---- the rules' put: at the place of the stamp, else behind the others
module _ (e x : Entry) (xs : List Entry) where
  held_step : (j : ℕ) → place (stamp_of e.body) (x ∷ xs) ≡ j → j < suc (length xs) → ((k : ℕ) → place (stamp_of e.body) xs ≡ k → k < length xs → put e xs ≡ set xs k e) → put e (x ∷ xs) ≡ set (x ∷ xs) j e
  unfolding put place
  held_step j p h rec = by (eqb (stamp_of x.body) (stamp_of e.body)) refl
    where
      by : (b : Bool) → eqb (stamp_of x.body) (stamp_of e.body) ≡ b → pick (eqb (stamp_of x.body) (stamp_of e.body)) (e ∷ xs) (x ∷ put e xs) ≡ set (x ∷ xs) j e
      by true q =
          let u = rw q at p in
          let z : j ≡ 0 = omega arith in
          rw (q, z)
      by false q =
          let u = rw q at p in
          let z : j ≡ suc (place (stamp_of e.body) xs) = omega arith in
          rw (q, z, rec (place (stamp_of e.body) xs) refl (omega arith))

  fresh_step : place (stamp_of e.body) (x ∷ xs) ≡ suc (length xs) → (place (stamp_of e.body) xs ≡ length xs → put e xs ≡ xs ++ (e ∷ [])) → put e (x ∷ xs) ≡ x ∷ (xs ++ (e ∷ []))
  unfolding put place
  fresh_step p rec = by (eqb (stamp_of x.body) (stamp_of e.body)) refl
    where
      by : (b : Bool) → eqb (stamp_of x.body) (stamp_of e.body) ≡ b → pick (eqb (stamp_of x.body) (stamp_of e.body)) (e ∷ xs) (x ∷ put e xs) ≡ x ∷ (xs ++ (e ∷ []))
      by true q = absurd (let u = rw q at p in omega arith)
      by false q = rw (q, rec (let u = rw q at p in omega arith))

pub put_held : (e : Entry) (es : List Entry) (j : ℕ) → place (stamp_of e.body) es ≡ j → j < length es → put e es ≡ set es j e
put_held e [] j p h = absurd (omega arith)
put_held e (x ∷ xs) j p h = held_step e x xs j p h (λ k q l. put_held e xs k q l)

pub put_new : (e : Entry) (es : List Entry) → place (stamp_of e.body) es ≡ length es → put e es ≡ es ++ (e ∷ [])
unfolding put
put_new e [] p = refl
put_new e (x ∷ xs) p = fresh_step e x xs p (λ q. put_new e xs q)

within_step : (b : Bool) (m n : ℕ) → m ≤ n → pick b 0 (1 + m) ≤ suc n
within_step true m n h = omega arith
within_step false m n h = omega arith

pub place_within : (s : ℕ) (es : List Entry) → place s es ≤ length es
unfolding place
place_within s [] = omega arith
place_within s (x ∷ xs) = within_step (eqb (stamp_of x.body) s) (place s xs) (length xs) (place_within s xs)
