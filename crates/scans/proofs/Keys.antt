-- The set of keys: a key that joined is in it and stays; a row whose keys it lets out cannot clash.
use Prim.Native.Nat.{ℕ, zero, suc, ◌+◌, ◌*◌, ◌/◌, ◌%◌, ◌^◌, max}
use native.Mathlib.Omega.{arith}
use native.Mathlib.Nat.{one-mul, max-eq_left, max-eq_right}
use mathlib.Core.Path.{◌≡◌, refl, sym, ◌∙◌}
use mathlib.Core.Bool.{Bool, true, false, not, false≢true}
use mathlib.Core.List.{List}
use lib.Bits.{bit_or, or_step, or_shr}
use lib.Dec.{eqb}
use lib.Pow.{shl-shr}
use lib.ListN.{length, get_or, set, length-set}
use lib.Seq.{get_or-set_same, get_or-set_other}
use borrow.Author.Tests.{ne_eqb, eqb-true, eqb-false, not-false}
use Rattle.terms.specs.Choice.{tab, any}
use Rattle.records.specs.Tx.{r_count, w_count, read_at, write_at, writes_from, read_key, write_key}
use Rattle.rules.specs.Bodies.{Body, reads_of, writes_of, writes_key}
use Rattle.rules.specs.Tests.{undercut}
use Rattle.table.specs.Table.{row_tx, entry_of}
use Rattle.table.proofs.Bodies.{reads_are, writes_are}
use Rattle.scans.specs.Scans.{below, hit3, hit4}
use Rattle.scans.specs.Keys.{in_keys, with_key, lacks, keys_at, keys_read, keys_written}
use Rattle.scans.proofs.Outcomes.{any_clear, under_none, hit3_clear, hit4_clear}

-- ---- a bit of either number is a bit of both joined
odd : (z q m : ℕ) → z ≡ q * 2 + m → m ≡ 1 → z % 2 ≡ 1
odd z q m e h = omega arith

either_bit : (m x i : ℕ) → max (m / 2 ^ i % 2) (x / 2 ^ i % 2) ≡ 1 → bit_or m x / 2 ^ i % 2 ≡ 1
either_bit m x i h = rw (or_shr m x i) (odd _ _ _ (or_step (m / 2 ^ i) (x / 2 ^ i)) h)

old_bit : (m x i : ℕ) → m / 2 ^ i % 2 ≡ 1 → bit_or m x / 2 ^ i % 2 ≡ 1
old_bit m x i h = either_bit m x i (max-eq_left (omega arith) ∙ h)

own_bit : (m i : ℕ) → bit_or m (2 ^ i) / 2 ^ i % 2 ≡ 1
own_bit m i =
    let e : 2 ^ i / 2 ^ i % 2 ≡ 1 = rw (rw one-mul at (shl-shr 1 i)) in
    either_bit m (2 ^ i) i (max-eq_right (omega arith) ∙ e)

-- ---- a key joins
module _ (ks : List ℕ) (k : ℕ) (l : length ks ≡ 8) where
  abbrev word : ℕ
  word = bit_or (get_or ks (k / 64 % 8) 0) (2 ^ (k % 64))

  its_word : get_or (set ks (k / 64 % 8) word) (k / 64 % 8) 0 ≡ word
  its_word = get_or-set_same ks (k / 64 % 8) word 0 (omega arith)

  pub still_long : length (with_key ks k) ≡ 8
  unfolding with_key
  still_long = length-set ks (k / 64 % 8) word ∙ l

  pub joined : lacks (with_key ks k) k ≡ false
  unfolding lacks in_keys with_key
  joined = rw (its_word, own_bit (get_or ks (k / 64 % 8) 0) (k % 64))

  pub stays : (j : ℕ) → lacks ks j ≡ false → lacks (with_key ks k) j ≡ false
  unfolding lacks in_keys with_key
  stays j h = by (eqb (j / 64 % 8) (k / 64 % 8)) refl
    where
      by : (t : Bool) → eqb (j / 64 % 8) (k / 64 % 8) ≡ t
          → not (eqb (get_or (set ks (k / 64 % 8) word) (j / 64 % 8) 0 / 2 ^ (j % 64) % 2) 1) ≡ false
      by true e =
          let same : j / 64 % 8 ≡ k / 64 % 8 = eqb-true _ _ e in
          let old : get_or ks (j / 64 % 8) 0 / 2 ^ (j % 64) % 2 ≡ 1 = eqb-true _ 1 (not-false _ h) in
          rw (same, its_word, old_bit (get_or ks (k / 64 % 8) 0) (2 ^ (k % 64)) (j % 64) (rw (← same) old))
      by false e = rw (get_or-set_other ks (k / 64 % 8) (j / 64 % 8) word 0 (eqb-false _ _ e)) h

-- ---- what is let out is not the same key
apart : (ks : List ℕ) (k j : ℕ) → lacks ks k ≡ false → in_keys ks j ≡ false → j ≡ k → ⊥
unfolding lacks
apart ks k j p q e = false≢true (sym q ∙ (rw e (not-false (in_keys ks k) p)))

-- the keys are those of the reads, and of the writes
any_keys : {A : Type 0} (P : ℕ → Bool) (k : A → ℕ) (f : ℕ → A) (g : ℕ → ℕ) → ((j : ℕ) → g j ≡ k (f j)) → (i n : ℕ)
    → any P (tab g i n) ≡ any (λ x. P (k x)) (tab f i n)
any_keys P k f g h i zero = refl
any_keys P k f g h i (suc n) =
    let e : g i ≡ k (f i) = h i in
    let r : any P (tab g (i + 1) n) ≡ any (λ x. P (k x)) (tab f (i + 1) n) = any_keys P k f g h (i + 1) n in
    rw (e, r)

module _ (P : ℕ → Bool) (b : Body) where
  reads_keys : any P (keys_read b) ≡ any (λ r. P (read_key r)) (reads_of b)
  unfolding keys_at read_at
  reads_keys = rw (reads_are b) (any_keys P read_key (read_at b 12) _ (λ j. refl) 0 (r_count b))

  writes_keys : any P (keys_written b) ≡ any (λ w. P (write_key w)) (writes_of b)
  unfolding keys_at write_at
  writes_keys = rw (writes_are b) (any_keys P write_key (write_at b (writes_from b)) _ (λ j. refl) 0 (w_count b))

-- no key read by a is written by b, where a test P of the one and Q of the other tell them apart
module _ (a b : Body) (P Q : ℕ → Bool) (differ : (k j : ℕ) → P k ≡ false → Q j ≡ false → eqb j k ≡ false) where
  unwritten : any Q (keys_written b) ≡ false → (k : ℕ) → P k ≡ false → writes_key b k ≡ false
  unfolding writes_key
  unwritten e k p = any_clear (λ w. Q (write_key w)) (λ w. eqb (write_key w) k) (λ w q. differ k (write_key w) p q) (writes_of b) (sym (writes_keys Q b) ∙ e)

  none_under : any P (keys_read a) ≡ false → any Q (keys_written b) ≡ false → undercut a b ≡ false
  unfolding below
  none_under d e =
      under_none a b
      (any_clear (λ r. P (read_key r)) (below b) (λ r p. rw (unwritten e (read_key r) p)) (reads_of a) (sym (reads_keys P a) ∙ d))

-- tests 3 and 4 at a row whose keys are all let out
module _ (b : Body) (r ks : List ℕ) where
  pub hit3_apart : any (lacks ks) (keys_read b) ≡ false → any (in_keys ks) (keys_written (row_tx r)) ≡ false → false ≡ hit3 b (entry_of r)
  hit3_apart d e = hit3_clear b r (none_under b (row_tx r) (lacks ks) (in_keys ks) (λ k j p q. ne_eqb j k (apart ks k j p q)) d e)

  pub hit4_apart : any (lacks ks) (keys_written b) ≡ false → any (in_keys ks) (keys_read (row_tx r)) ≡ false → false ≡ hit4 b (entry_of r)
  hit4_apart d e = hit4_clear b r (none_under (row_tx r) b (in_keys ks) (lacks ks) (λ k j p q. ne_eqb j k (λ z. apart ks j k q p (sym z))) e d)
