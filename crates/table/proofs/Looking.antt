-- Look-up: the first entry of a stamp.
use Prim.Native.Nat.{ℕ, zero, suc, ◌+◌, ◌-◌, ◌<◌, ◌≤◌}
use native.Mathlib.Omega.{arith}
use native.Mathlib.Nat.{zero-add}
use mathlib.Core.Path.{◌≡◌, refl, ap, sym, ◌∙◌}
use mathlib.Core.List.{List, ◌∷◌}
use mathlib.Core.Bool.{Bool, true, false}
use mathlib.Core.Option.{some, none}
use lib.Dec.{eqb}
use lib.ListN.{length, drop}
use Rattle.terms.specs.Choice.{pick, tab}
use Rattle.terms.proofs.Scans.{tab_length}
use Rattle.rules.specs.Bodies.{stamp_of}
use Rattle.rules.specs.Table.{Entry, find}
use Rattle.table.specs.Table.{head_len, row_at, row_tx, entry_at, entries, entries_of, count_of, place}
use Rattle.table.proofs.Bodies.{body_stamp}

-- the loop: j and the place in what is left from j on are the place in the whole, W
pub record Seek (s : ℕ) (f : ℕ → Entry) (n W j : ℕ) : Type 0 where
  pub within : j ≤ n
  pub same : j + place s (tab f j (n - j)) ≡ W

module _ {s : ℕ} {f : ℕ → Entry} {n : ℕ} where
  module _ {W j : ℕ} (r : Seek s f n W j) where
    step : j < n → place s (tab f j (n - j)) ≡ pick (eqb (stamp_of (f j).body) s) 0 (1 + place s (tab f (j + 1) (n - (j + 1))))
    unfolding place
    step h = let e : n - j ≡ suc (n - (j + 1)) = omega arith in rw e

    seek_found : j < n → eqb (stamp_of (f j).body) s ≡ true → j ≡ W
    seek_found h p = let q = rw (step h, p) at r.same in omega arith

    seek_go : j < n → eqb (stamp_of (f j).body) s ≡ false → Seek s f n W (j + 1)
    seek_go h p =
        let q = rw (step h, p) at r.same in
        record { within = omega arith; same = omega arith }

    pub seek_end : n ≤ j → j ≡ W
    unfolding place
    seek_end h =
        let e : n - j ≡ 0 = omega arith in
        let q = rw e at r.same in
        omega arith

module _ (t : List ℕ) {s n W j : ℕ} (r : Seek s (entry_at t) n W j) where
  pub place_found : j < n → eqb (stamp_of (row_tx (row_at t j))) s ≡ true → j ≡ W
  place_found h p = seek_found r h (rw (body_stamp (row_at t j)) p)

  pub place_go : j < n → eqb (stamp_of (row_tx (row_at t j))) s ≡ false → Seek s (entry_at t) n W (j + 1)
  place_go h p = seek_go r h (rw (body_stamp (row_at t j)) p)

  pub place_next : (i : ℕ) → j < n → eqb (stamp_of (row_tx (row_at t j))) s ≡ false → i ≡ j + 1 → Seek s (entry_at t) n W i
  place_next i h p e = rw e (place_go h p)

-- what was found, and what was not
module _ (s : ℕ) (x : Entry) (xs : List Entry) where
  none_step : (n : ℕ) → place s (x ∷ xs) ≡ suc n → (place s xs ≡ n → find s xs ≡ none) → find s (x ∷ xs) ≡ none
  unfolding find place
  none_step n e k = by (eqb (stamp_of x.body) s) refl
    where
      by : (b : Bool) → eqb (stamp_of x.body) s ≡ b → pick (eqb (stamp_of x.body) s) (some x) (find s xs) ≡ none
      by true p = absurd (let q = rw p at e in omega arith)
      by false p = rw p (k (let q = rw p at e in omega arith))

  some_step : (j : ℕ) (y : Entry) → place s (x ∷ xs) ≡ j → (j ≡ 0 → x ≡ y) → (0 < j → place s xs ≡ j - 1 → find s xs ≡ some y) → find s (x ∷ xs) ≡ some y
  unfolding find place
  some_step j y e h k = by (eqb (stamp_of x.body) s) refl
    where
      by : (b : Bool) → eqb (stamp_of x.body) s ≡ b → pick (eqb (stamp_of x.body) s) (some x) (find s xs) ≡ some y
      by true p = rw p (ap some (h (let q = rw p at e in omega arith)))
      by false p = let q = rw p at e in rw p (k (omega arith) (omega arith))

none_in : (s : ℕ) (f : ℕ → Entry) (i n : ℕ) → place s (tab f i n) ≡ n → find s (tab f i n) ≡ none
unfolding find
none_in s f i zero e = refl
none_in s f i (suc n) e = none_step s (f i) (tab f (i + 1) n) n e (λ q. none_in s f (i + 1) n q)

some_in : (s : ℕ) (f : ℕ → Entry) (i n j : ℕ) → place s (tab f i n) ≡ j → j < n → find s (tab f i n) ≡ some (f (i + j))
some_in s f i zero j e h = absurd (omega arith)
some_in s f i (suc n) j e h =
    some_step s (f i) (tab f (i + 1) n) j (f (i + j)) e (λ q. ap f (omega arith))
    (λ l q. let z : i + 1 + (j - 1) ≡ i + j = omega arith in rw (← z) (some_in s f (i + 1) n (j - 1) q (omega arith)))

-- the rules' look-up is the entry at the place, or none where that is behind the last
module _ (s : ℕ) (t : List ℕ) (n j : ℕ) (e : j ≡ place s (entries t n)) where
  pub find_none : n ≤ j → j ≤ n → find s (entries t n) ≡ none
  find_none h k = none_in s (entry_at t) 0 n (omega arith)

  pub find_some : j < n → find s (entries t n) ≡ some (entry_at t j)
  find_some h = some_in s (entry_at t) 0 n j (sym e) h ∙ ap (λ (i : ℕ). some (entry_at t i)) (zero-add j)

-- the entries of a table, and how many they are
pub entries_are : (t : List ℕ) → entries_of t ≡ entries (drop head_len t) (count_of t)
unfolding entries_of
entries_are t = refl

pub entries_count : (t : List ℕ) → length (entries_of t) ≡ count_of t
unfolding entries_of
entries_count t = tab_length (entry_at (drop head_len t)) 0 (count_of t)
