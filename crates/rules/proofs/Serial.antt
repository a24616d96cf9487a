-- From what holds of each two committed bodies to a run of them all in stamp order.
use Prim.Native.Nat.{ℕ, ◌≤◌, ◌<◌}
use mathlib.Core.Bool.{not}
use mathlib.Core.Path.{◌≡◌, refl, ap}
use mathlib.Core.Logic.{◌⊎◌, inl, inr}
use mathlib.Core.List.Memᴰ
use mathlib.Core.List.Memᴰ.{head as here}
use mathlib.Core.List.Memᴰ.{tail as there}
use mathlib.Core.List.{List, [], ◌∷◌, Memᴰ as In}
use native.Mathlib.Omega.{arith}
use lib.Dec.{T}
use Rattle.records.specs.declared.Read.{Read}
use Rattle.records.specs.Tx.{read_key, read_version}
use Rattle.rules.specs.Bodies.{Body, stamp_of, reads_of, writes_key}
use Rattle.rules.specs.System.{written, Serial, InOrder}
use Rattle.rules.proofs.Laws.{pick_true, pick_false, decide_t, no_both}

-- a committed writer of a key at a version
pub record Wrote (C : Body → Type 0) (k v : ℕ) : Type 0 where
  pub body : Body
  pub in_force : C body
  pub stamp : stamp_of body ≡ v
  pub writes : T (writes_key body k)

-- what holds of the committed ones
pub record Facts (C : Body → Type 0) : Type 0 where
  pub below : (b : Body) → C b → (r : Read) → In r (reads_of b) → read_version r < stamp_of b
  pub names : (b : Body) → C b → (r : Read) → In r (reads_of b) → (read_version r ≡ 0) ⊎ Wrote C (read_key r) (read_version r)
  pub between : (b c : Body) → C b → C c → (r : Read) → In r (reads_of b) → T (writes_key c (read_key r)) → read_version r < stamp_of c
      → stamp_of c < stamp_of b → ⊥

module _ (C : Body → Type 0) (K : Facts C) where
  -- what stands while the rest is still to run
  record Walk (at : ℕ → ℕ) (bs : List Body) : Type 0 where
    from : (k : ℕ) → (at k ≡ 0) ⊎ (Wrote C k (at k) × ((b : Body) → In b bs → at k < stamp_of b))
    all : (k : ℕ) (c : Body) → C c → T (writes_key c k) → In c bs ⊎ (stamp_of c ≤ at k)

  read_here : (at : ℕ → ℕ) (b : Body) (bs : List Body) → ((c : Body) → In c bs → stamp_of b < stamp_of c) → C b → Walk at (b ∷ bs) → (r : Read)
      → In r (reads_of b) → at (read_key r) ≡ read_version r
  read_here at b bs o P W r m = both_ways (upper (W.from (read_key r))) (lower (K.names b P r m))
    where
      both_ways : at (read_key r) ≤ read_version r → read_version r ≤ at (read_key r) → at (read_key r) ≡ read_version r
      both_ways p q = omega arith

      upper : (at (read_key r) ≡ 0) ⊎ (Wrote C (read_key r) (at (read_key r)) × ((c : Body) → In c (b ∷ bs) → at (read_key r) < stamp_of c))
          → at (read_key r) ≤ read_version r
      upper (inl z) = omega arith
      upper (inr u) =
          not_above (λ l. K.between b u.0.body P u.0.in_force r m u.0.writes (rw u.0.stamp l) (rw u.0.stamp (u.1 b (here refl))))
        where
          not_above : (read_version r < at (read_key r) → ⊥) → at (read_key r) ≤ read_version r
          not_above h = omega arith

      lower : (read_version r ≡ 0) ⊎ Wrote C (read_key r) (read_version r) → read_version r ≤ at (read_key r)
      lower (inl z) = omega arith
      lower (inr u) = go (W.all (read_key r) u.body u.in_force u.writes)
        where
          later : (u.body ≡ b) ⊎ In u.body bs → read_version r ≤ at (read_key r)
          later (inl q) = absurd (omega (arith, K.below b P r m, u.stamp, ap (λ (x : Body). stamp_of x) q))
          later (inr q) = absurd (omega (arith, K.below b P r m, u.stamp, o u.body q))

          go : In u.body (b ∷ bs) ⊎ (stamp_of u.body ≤ at (read_key r)) → read_version r ≤ at (read_key r)
          go (inl q) = later (Memᴰ.cases_cons q)
          go (inr q) = omega (arith, u.stamp)

  onward : (at : ℕ → ℕ) (b : Body) (bs : List Body) → ((c : Body) → In c bs → stamp_of b < stamp_of c) → C b → Walk at (b ∷ bs) → Walk (written at b) bs
  unfolding written
  onward at b bs o P W =
      record { from = λ k. from_by k (decide_t (writes_key b k)); all = λ k c Q w. all_by k c w (decide_t (writes_key b k)) (W.all k c Q w) }
    where
      from_by : (k : ℕ) → T (writes_key b k) ⊎ T (not (writes_key b k))
          → (written at b k ≡ 0) ⊎ (Wrote C k (written at b k) × ((c : Body) → In c bs → written at b k < stamp_of c))
      from_by k (inl y) =
          rw (pick_true (writes_key b k) (stamp_of b) (at k) y)
          (inr (record { body = b; in_force = P; stamp = refl; writes = y }, o))
      from_by k (inr y) = rw (pick_false (writes_key b k) (stamp_of b) (at k) y) (go (W.from k))
        where
          go : (at k ≡ 0) ⊎ (Wrote C k (at k) × ((c : Body) → In c (b ∷ bs) → at k < stamp_of c))
              → (at k ≡ 0) ⊎ (Wrote C k (at k) × ((c : Body) → In c bs → at k < stamp_of c))
          go (inl z) = inl z
          go (inr u) = inr (u.0, λ c q. u.1 c (there q))

      at_most : (k : ℕ) → (at k ≡ 0) ⊎ (Wrote C k (at k) × ((c : Body) → In c (b ∷ bs) → at k < stamp_of c)) → at k ≤ stamp_of b
      at_most k (inl z) = omega arith
      at_most k (inr u) = omega (arith, u.1 b (here refl))

      all_by : (k : ℕ) (c : Body) → T (writes_key c k) → T (writes_key b k) ⊎ T (not (writes_key b k)) → In c (b ∷ bs) ⊎ (stamp_of c ≤ at k)
          → In c bs ⊎ (stamp_of c ≤ written at b k)
      all_by k c w (inl y) (inr h) = inr (rw (pick_true (writes_key b k) (stamp_of b) (at k) y) (omega (arith, at_most k (W.from k))))
      all_by k c w (inr y) (inr h) = inr (rw (pick_false (writes_key b k) (stamp_of b) (at k) y) h)
      all_by k c w y (inl h) = go y (Memᴰ.cases_cons h)
        where
          go : T (writes_key b k) ⊎ T (not (writes_key b k)) → (c ≡ b) ⊎ In c bs → In c bs ⊎ (stamp_of c ≤ written at b k)
          go z (inr q) = inl q
          go (inl z) (inl q) = inr (rw (pick_true (writes_key b k) (stamp_of b) (at k) z) (omega (arith, ap (λ (x : Body). stamp_of x) q)))
          go (inr z) (inl q) = absurd (no_both (writes_key b k) (rw q at w) z)

  runs : (at : ℕ → ℕ) (bs : List Body) → InOrder bs → ((b : Body) → In b bs → C b) → Walk at bs → Serial at bs
  unfolding Serial InOrder
  runs at [] o P W = tt
  runs at (b ∷ bs) o P W =
      (read_here at b bs o.0 (P b (here refl)) W, runs (written at b) bs o.1 (λ c q. P c (there q)) (onward at b bs o.0 (P b (here refl)) W))

  pub serial_run : (bs : List Body) → InOrder bs → ((b : Body) → In b bs → C b) → ((b : Body) → C b → In b bs) → Serial (λ k. 0) bs
  serial_run bs o P Q = runs (λ k. 0) bs o P (record { from = λ k. inl refl; all = λ k c R w. inl (Q c R) })
