-- The entries visited: a look-up by its place, a test that passes by arithmetic, and the loops that go key by key.
use Prim.Native.Nat.{ℕ, suc, ◌+◌, ◌-◌, ◌<◌, ◌≤◌, zero-le}
use native.Mathlib.Omega.{arith}
use native.Mathlib.Nat.{sub-zero}
use mathlib.Core.Path.{◌≡◌, refl, ap, sym, ◌∙◌}
use mathlib.Core.List.{List, [], ◌∷◌}
use mathlib.Core.Bool.{Bool, true, false, ◌||◌, true≢false}
use borrow.Author.Tests.{le-leb, lt-leb}
use lib.Dec.{eqb}
use Rattle.std.specs.Prelude.{Option, Some, None, is_some}
use lib.ListN.{length}
use Rattle.terms.specs.Choice.{pick, tab, any}
use Rattle.terms.proofs.Scans.{tab_length}
use Rattle.records.specs.declared.Read.{Read}
use Rattle.records.specs.Tx.{read_version}
use Rattle.rules.specs.Bodies.{stamp_of}
use Rattle.rules.specs.Table.{Entry}
use Rattle.rules.specs.Visits.{through, unless, look_up, version_up, key_by_key}
use Rattle.rules.proofs.Visits.{look_most as any_look_most, through_all}
use Rattle.table.specs.Table.{entries, entry_at, place}
use Rattle.scans.specs.Visits.{fails_up_to, up_to}

-- ---- a look-up, by the place that it gives
module _ (s : ℕ) where
  up_held : (es : List Entry) → place s es < length es → look_up s es ≡ place s es + 1
  unfolding look_up through place
  up_held [] h = absurd (omega arith)
  up_held (e ∷ es) h = by (eqb (stamp_of e.body) s) refl (λ z. up_held es z)
    where
      by : (c : Bool) → eqb (stamp_of e.body) s ≡ c → (place s es < length es → look_up s es ≡ place s es + 1)
          → suc (pick (eqb (stamp_of e.body) s) 0 (through (λ x. eqb (stamp_of x.body) s) es)) ≡ pick (eqb (stamp_of e.body) s) 0 (1 + place s es) + 1
      by true q k = rw q
      by false q k = rw q (let r = k (let z = rw q at h in omega arith) in omega arith)

  up_none : (es : List Entry) → length es ≤ place s es → look_up s es ≡ length es
  unfolding look_up through place
  up_none [] h = refl
  up_none (e ∷ es) h = by (eqb (stamp_of e.body) s) refl (λ z. up_none es z)
    where
      by : (c : Bool) → eqb (stamp_of e.body) s ≡ c → (length es ≤ place s es → look_up s es ≡ length es)
          → suc (pick (eqb (stamp_of e.body) s) 0 (through (λ x. eqb (stamp_of x.body) s) es)) ≡ length (e ∷ es)
      by true q k = absurd (let z = rw q at h in omega arith)
      by false q k = rw q (let r = k (let z = rw q at h in omega arith) in omega arith)

-- over the rows of a table: one more than its place where it is held, else every row
module _ (t : List ℕ) (s n i : ℕ) (e : i ≡ place s (entries t n)) where
  pub look_found : i < n → i + 1 ≡ look_up s (entries t n)
  look_found h =
      let l : length (entries t n) ≡ n = tab_length (entry_at t) 0 n in
      let r = up_held s (entries t n) (omega arith) in
      omega arith

  pub look_free : n ≤ i → n ≡ look_up s (entries t n)
  look_free h =
      let l : length (entries t n) ≡ n = tab_length (entry_at t) 0 n in
      let r = up_none s (entries t n) (omega arith) in
      omega arith

pub look_most : (t : List ℕ) (s n : ℕ) → look_up s (entries t n) ≤ n
look_most t s n =
    let l : length (entries t n) ≡ n = tab_length (entry_at t) 0 n in
    let r = any_look_most s (entries t n) in
    omega arith

-- ---- a version read
module _ (low : ℕ) (t : List ℕ) (n : ℕ) (r : Read) where
  pub version_low : read_version r ≤ low → 0 ≡ version_up low (entries t n) r
  unfolding version_up
  version_low h = rw (le-leb (read_version r) low h)

  module _ (h : low < read_version r) (i : ℕ) (e : i ≡ place (read_version r) (entries t n)) where
    pub version_found : i < n → i + 1 ≡ version_up low (entries t n) r
    unfolding version_up
    version_found l = rw (lt-leb (read_version r) low h) (look_found t (read_version r) n i e l)

    pub version_free : n ≤ i → n ≡ version_up low (entries t n) r
    unfolding version_up
    version_free l = rw (lt-leb (read_version r) low h) (look_free t (read_version r) n i e l)

-- ---- key by key
-- the loop: x and what is left from key j on are the whole, W
pub record Keyed {K : Type 0} (v : K → ℕ) (f : K → Bool) (g : ℕ → K) (m W x j : ℕ) : Type 0 where
  pub within : j ≤ m
  pub same : x + key_by_key v f (tab g j (m - j)) ≡ W

module _ {K : Type 0} {v : K → ℕ} {f : K → Bool} {g : ℕ → K} {m W : ℕ} where
  pub keyed_begin : key_by_key v f (tab g 0 m) ≡ W → Keyed v f g m W 0 0
  keyed_begin e = record { within = zero-le; same = rw sub-zero (let z = e in omega arith) }

  module _ {x j : ℕ} (r : Keyed v f g m W x j) where
    step : j < m → key_by_key v f (tab g j (m - j)) ≡ v (g j) + pick (f (g j)) 0 (key_by_key v f (tab g (j + 1) (m - (j + 1))))
    unfolding key_by_key
    step h = let e : m - j ≡ suc (m - (j + 1)) = omega arith in rw e

    module _ (h : j < m) (y : ℕ) (e : y ≡ v (g j)) where
      pub keyed_fits : x + y ≤ W
      keyed_fits = let s = rw (step h) at r.same in omega arith

      pub keyed_stop : f (g j) ≡ true → x + y ≡ W
      keyed_stop p = let s = rw (step h, p) at r.same in omega arith

      pub keyed_go : f (g j) ≡ false → Keyed v f g m W (x + y) (j + 1)
      keyed_go p = let s = rw (step h, p) at r.same in record { within = omega arith; same = omega arith }

    pub keyed_end : m ≤ j → x ≡ W
    unfolding key_by_key
    keyed_end h =
        let e : m - j ≡ 0 = omega arith in
        let s = rw e at r.same in
        omega arith

-- the loop through the entries at one key: i and what is left from entry i on are the whole, W; A tells whether one is found
pub record Pass (P : Entry → Bool) (f : ℕ → Entry) (n : ℕ) (A : Bool) (W i : ℕ) : Type 0 where
  pub within : i ≤ n
  pub same : any P (tab f i (n - i)) ≡ A
  pub count : i + through P (tab f i (n - i)) ≡ W

module _ {P : Entry → Bool} {f : ℕ → Entry} {n : ℕ} where
  pub pass_begin : Pass P f n (any P (tab f 0 n)) (through P (tab f 0 n)) 0
  pass_begin = record { within = zero-le; same = rw sub-zero; count = rw sub-zero (omega arith) }

  module _ {A : Bool} {W i : ℕ} (r : Pass P f n A W i) where
    onward : i < n → any P (tab f i (n - i)) ≡ (P (f i) || any P (tab f (i + 1) (n - (i + 1))))
    onward h = let e : n - i ≡ suc (n - (i + 1)) = omega arith in rw e

    counted : i < n → through P (tab f i (n - i)) ≡ suc (pick (P (f i)) 0 (through P (tab f (i + 1) (n - (i + 1)))))
    unfolding through
    counted h = let e : n - i ≡ suc (n - (i + 1)) = omega arith in rw e

    pub pass_found : i < n → P (f i) ≡ true → Some (i + 1) ≡ fails_up_to A W
    pass_found h p =
        let a : true ≡ A = rw (onward h, p) at r.same in
        let s = rw (counted h, p) at r.count in
        let w : i + 1 ≡ W = omega arith in
        rw (← a, w)

    pub pass_go : i < n → P (f i) ≡ false → Pass P f n A W (i + 1)
    pass_go h p =
        let s = rw (counted h, p) at r.count in
        record { within = omega arith; same = rw (onward h, p) at r.same; count = omega arith }

    pub pass_end : n ≤ i → (None ≡ fails_up_to A W) × (n ≡ W)
    unfolding through
    pass_end h =
        let e : n - i ≡ 0 = omega arith in
        let a : false ≡ A = rw e at r.same in
        let s = rw e at r.count in
        (rw (← a), omega arith)

-- whether one was found
pub found_any : {o : Option ℕ} (P : Entry → Bool) (es : List Entry) → o ≡ up_to P es → is_some o ≡ any P es
found_any P es e = ap is_some e ∙ by (any P es)
  where
    by : (a : Bool) → is_some (fails_up_to a (through P es)) ≡ a
    by true = refl
    by false = refl

-- where a test fails at one key, and where it passes
pub stops_at : (a : Bool) {w y : ℕ} → Some y ≡ fails_up_to a w → (a ≡ true) × (y ≡ w)
stops_at true {w} e = (refl, ap (λ (o : Option ℕ). elim o [ None ↦ w | Some z ↦ z ]) e)
stops_at false e = absurd (true≢false (ap is_some e))

pub goes_on : (a : Bool) (w : ℕ) → None ≡ fails_up_to a w → a ≡ false
goes_on true w e = absurd (true≢false (sym (ap is_some e)))
goes_on false w e = refl

-- where it passes, every row is gone through
pub all_rows : (P : Entry → Bool) (t : List ℕ) (n : ℕ) → any P (entries t n) ≡ false → n ≡ through P (entries t n)
all_rows P t n h = sym (through_all P (entries t n) h ∙ tab_length (entry_at t) 0 n)

pub all_unless : (c : Bool) (P : Entry → Bool) (t : List ℕ) (n : ℕ) → (c || any P (entries t n)) ≡ false → n ≡ unless c (through P (entries t n))
all_unless true P t n h = absurd (true≢false h)
all_unless false P t n h = all_rows P t n h
