-- The folds of a table by the bytes of each key: a write that folds changes its own key's, and nothing behind the head.
use Prim.Native.Nat.{ℕ, suc, ◌+◌, ◌*◌, ◌-◌, ◌<◌, ◌≤◌}
use native.Mathlib.Omega.{arith}
use mathlib.Core.Path.{◌≡◌, refl, ap, sym, ◌∙◌}
use mathlib.Core.Bool.{Bool, true, false}
use mathlib.Core.List.{List, [], ◌∷◌, ◌++◌}
use borrow.Author.Tests.{eqb-true, eqb-false, ltb-true, ltb-false, lt-ltb, le-ltb}
use borrow.Rule.Slice.PartMut.{put_mid, take_put, drop_put}
use lib.Dec.{eqb, ltb}
use lib.ListN.{length, take, drop, length-take, length-drop, length-append}
use lib.Seq.{take_at, drop_at, drop-drop, length-take-le}
use Rattle.terms.specs.Choice.{pick, tab}
use Rattle.records.specs.Numbers.{num_at}
use Rattle.records.specs.declared.Write.{Write}
use Rattle.records.specs.Tx.{w_count, write_at, write_key, writes_from}
use Rattle.rules.specs.declared.Version.{Version}
use Rattle.rules.specs.Bodies.{stamp_of, writes_of}
use Rattle.table.specs.Table.{fold_in, fold_len, folds_at, head_len}
use Rattle.table.proofs.Bodies.{mid_take, writes_are}
use Rattle.low.specs.Raising.{fold_bytes, fold_over, fold_part}
use Rattle.low.specs.Passing.{fold_write, fold_writes, put_fold, version_by}
use Rattle.low.proofs.Bytes.{fold_says, over_new, over_old, says, says_back}
use Rattle.low.proofs.Newest.{newer_write, newer_writes}

-- ---- n bytes put at p
module _ (p n : ℕ) (t r : List ℕ) (in_t : p + n ≤ length t) (long : length r ≡ n) where
  put_own : take n (drop p (put_mid p n t r)) ≡ r
  put_own =
      ap (take n) (drop_at (take p t) (r ++ drop n (drop p t)) p (length-take-le p t (omega arith)))
      ∙ take_at r (drop n (drop p t)) n long

  pub put_before : (m q : ℕ) → q + m ≤ p → take m (drop q (put_mid p n t r)) ≡ take m (drop q t)
  put_before m q h =
      sym (mid_take m q p (put_mid p n t r) h)
      ∙ ap (λ (l : List ℕ). take m (drop q l)) (take_put p n t r (omega arith))
      ∙ mid_take m q p t h

  pub put_drop : (q : ℕ) → p + n ≤ q → drop q (put_mid p n t r) ≡ drop q t
  put_drop q h =
      let e : p + n - p ≡ n = omega arith in
      let d : drop (p + n) (put_mid p n t r) ≡ drop (p + n) t = rw e at (drop_put p (p + n) t r (omega arith) in_t (omega arith)) in
      let z : q ≡ p + n + (q - (p + n)) = omega arith in
      ap (λ (x : ℕ). drop x (put_mid p n t r)) z
      ∙ sym (drop-drop (q - (p + n)) (p + n) (put_mid p n t r))
      ∙ ap (drop (q - (p + n))) d
      ∙ drop-drop (q - (p + n)) (p + n) t
      ∙ ap (λ (x : ℕ). drop x t) (sym z)

  pub put_long : length (put_mid p n t r) ≡ length t
  put_long = simp (length-append, length-take, length-drop) (omega arith)

-- ---- the fold of one key put down
module _ (t : List ℕ) (k : ℕ) (v : Version) (in_t : head_len ≤ length t) (key : k < 512) where
  fold_long : length (fold_bytes v) ≡ fold_len
  fold_long = refl

  fold_own : fold_part (put_fold t k v) k ≡ fold_bytes v
  fold_own = put_own (folds_at + k * fold_len) fold_len t (fold_bytes v) (omega arith) fold_long

  fold_other : (j : ℕ) → (k ≡ j → ⊥) → fold_part (put_fold t k v) j ≡ fold_part t j
  fold_other j ne = by (ltb j k) refl
    where
      by : (b : Bool) → ltb j k ≡ b → fold_part (put_fold t k v) j ≡ fold_part t j
      by true e =
          let h = ltb-true j k e in
          put_before (folds_at + k * fold_len) fold_len t (fold_bytes v) (omega arith) fold_long fold_len (folds_at + j * fold_len) (omega arith)
      by false e =
          let h = ltb-false j k e in
          ap (take fold_len) (put_drop (folds_at + k * fold_len) fold_len t (fold_bytes v) (omega arith) fold_long (folds_at + j * fold_len) (omega arith))

  fold_rows : drop head_len (put_fold t k v) ≡ drop head_len t
  fold_rows = put_drop (folds_at + k * fold_len) fold_len t (fold_bytes v) (omega arith) fold_long head_len (omega arith)

  fold_table : length (put_fold t k v) ≡ length t
  fold_table = put_long (folds_at + k * fold_len) fold_len t (fold_bytes v) (omega arith) fold_long

pub part_fold : (s t : List ℕ) (k : ℕ) → fold_part s k ≡ fold_part t k → fold_in s k ≡ fold_in t k
part_fold s t k e = sym (fold_says s k) ∙ ap says e ∙ fold_says t k

-- ---- one write
-- what a write leaves as it was
pub record Beside (t c : List ℕ) : Type 0 where
  pub rows : drop head_len c ≡ drop head_len t
  pub long : length c ≡ length t

pub beside_same : (t : List ℕ) → Beside t t
beside_same t = record { rows = refl; long = refl }

pub beside_then : {s t c : List ℕ} → Beside s t → Beside t c → Beside s c
beside_then a b = record { rows = b.rows ∙ a.rows; long = b.long ∙ a.long }

-- the bytes of a key beside those that stood in t: the ones that its version is to have, which is no older
pub record Kept (t c : List ℕ) (k : ℕ) : Type 0 where
  pub part : fold_part c k ≡ fold_over t k (fold_in c k)
  pub grown : (fold_in t k).stamp.0 ≤ (fold_in c k).stamp.0

pub kept_same : (t : List ℕ) (k : ℕ) → Kept t t k
kept_same t k = record { part = sym (over_old t k); grown = omega arith }

pub kept_on : {t c d : List ℕ} {k : ℕ} → fold_part d k ≡ fold_part c k → Kept t c k → Kept t d k
kept_on {t} {c} {d} {k} e h =
    let f : fold_in d k ≡ fold_in c k = part_fold d c k e in
    record { part = e ∙ h.part ∙ ap (fold_over t k) (sym f); grown = rw f h.grown }

module _ (s : ℕ) (w : Write) (c : List ℕ) (in_c : head_len ≤ length c) where
  pub write_beside : Beside c (fold_write s w c)
  unfolding fold_write
  write_beside = by (ltb 511 (write_key w)) (ltb (fold_in c (write_key w)).stamp.0 s) refl
    where
      by : (a b : Bool) → ltb 511 (write_key w) ≡ a → Beside c (pick a c (pick b (put_fold c (write_key w) (version_by s w)) c))
      by true b e = beside_same c
      by false false e = beside_same c
      by false true e =
          let h = ltb-false 511 (write_key w) e in
          record { rows = fold_rows c (write_key w) (version_by s w) in_c (omega arith); long = fold_table c (write_key w) (version_by s w) in_c (omega arith) }

  module _ (k : ℕ) (key : k < 512) where
    -- at the key of the write, and at another
    own_key : k ≡ write_key w → (b : Bool) → ltb (fold_in c (write_key w)).stamp.0 s ≡ b
        → fold_part (pick b (put_fold c (write_key w) (version_by s w)) c) k ≡ pick b (fold_bytes (version_by s w)) (fold_part c k)
    own_key e true p = rw e (fold_own c (write_key w) (version_by s w) in_c (omega arith))
    own_key e false p = refl

    other_key : (write_key w ≡ k → ⊥) → write_key w < 512 → (b : Bool) → fold_part (pick b (put_fold c (write_key w) (version_by s w)) c) k ≡ fold_part c k
    other_key ne h true = fold_other c (write_key w) (version_by s w) in_c h k ne
    other_key ne h false = refl

    -- the bytes of k afterwards
    write_part : fold_part (fold_write s w c) k ≡ pick (eqb (write_key w) k) (pick (ltb (fold_in c k).stamp.0 s) (fold_bytes (version_by s w)) (fold_part c k)) (fold_part c k)
    unfolding fold_write
    write_part = by (ltb 511 (write_key w)) (eqb (write_key w) k) refl refl
      where
        by : (a b : Bool) → ltb 511 (write_key w) ≡ a → eqb (write_key w) k ≡ b
            → fold_part (pick a c (pick (ltb (fold_in c (write_key w)).stamp.0 s) (put_fold c (write_key w) (version_by s w)) c)) k
            ≡ pick b (pick (ltb (fold_in c k).stamp.0 s) (fold_bytes (version_by s w)) (fold_part c k)) (fold_part c k)
        by true true e f = absurd (let h = ltb-true 511 (write_key w) e in let z = eqb-true (write_key w) k f in omega arith)
        by true false e f = refl
        by false true e f =
            let z : k ≡ write_key w = sym (eqb-true (write_key w) k f) in
            own_key z (ltb (fold_in c (write_key w)).stamp.0 s) refl
            ∙ ap (λ (j : ℕ). pick (ltb (fold_in c j).stamp.0 s) (fold_bytes (version_by s w)) (fold_part c k)) (sym z)
        by false false e f =
            let h = ltb-false 511 (write_key w) e in
            other_key (eqb-false (write_key w) k f) (omega arith) (ltb (fold_in c (write_key w)).stamp.0 s)

    pub write_fold : fold_in (fold_write s w c) k ≡ newer_write k s w (fold_in c k)
    unfolding newer_write
    write_fold = sym (fold_says (fold_write s w c) k) ∙ ap says write_part ∙ by (eqb (write_key w) k) (ltb (fold_in c k).stamp.0 s)
      where
        by : (a b : Bool) → says (pick a (pick b (fold_bytes (version_by s w)) (fold_part c k)) (fold_part c k)) ≡ pick a (pick b (version_by s w) (fold_in c k)) (fold_in c k)
        by true true = says_back (version_by s w)
        by true false = fold_says c k
        by false b = fold_says c k

    pub write_kept : (t : List ℕ) → Kept t c k → Kept t (fold_write s w c) k
    write_kept t h = by (eqb (write_key w) k) (ltb (fold_in c k).stamp.0 s) refl write_part
      where
        by : (a b : Bool) → ltb (fold_in c k).stamp.0 s ≡ b
            → fold_part (fold_write s w c) k ≡ pick a (pick b (fold_bytes (version_by s w)) (fold_part c k)) (fold_part c k) → Kept t (fold_write s w c) k
        by true true e p =
            let g = ltb-true (fold_in c k).stamp.0 s e in
            let o = h.grown in
            let f : fold_in (fold_write s w c) k ≡ version_by s w = sym (fold_says (fold_write s w c) k) ∙ ap says p ∙ says_back (version_by s w) in
            let q : fold_over t k (fold_in (fold_write s w c) k) ≡ fold_bytes (version_by s w) = ap (fold_over t k) f ∙ over_new t k (version_by s w) (omega arith) in
            record { part = p ∙ sym q; grown = rw f (omega arith) }
        by true false e p = kept_on p h
        by false b e p = kept_on p h

-- ---- all writes of an entry
module _ (s : ℕ) where
  pub writes_beside : (ws : List Write) (c : List ℕ) → head_len ≤ length c → Beside c (fold_writes s ws c)
  unfolding fold_writes
  writes_beside [] c h = beside_same c
  writes_beside (w ∷ ws) c h =
      let b = write_beside s w c h in
      let l : length (fold_write s w c) ≡ length c = b.long in
      beside_then b (writes_beside ws (fold_write s w c) (omega arith))

  module _ (k : ℕ) (key : k < 512) where
    pub writes_fold : (ws : List Write) (c : List ℕ) → head_len ≤ length c → fold_in (fold_writes s ws c) k ≡ newer_writes k s ws (fold_in c k)
    unfolding fold_writes newer_writes
    writes_fold [] c h = refl
    writes_fold (w ∷ ws) c h =
        let l : length (fold_write s w c) ≡ length c = (write_beside s w c h).long in
        writes_fold ws (fold_write s w c) (omega arith) ∙ ap (newer_writes k s ws) (write_fold s w c h k key)

    pub writes_kept : (t : List ℕ) (ws : List Write) (c : List ℕ) → head_len ≤ length c → Kept t c k → Kept t (fold_writes s ws c) k
    unfolding fold_writes
    writes_kept t [] c h p = p
    writes_kept t (w ∷ ws) c h p =
        let l : length (fold_write s w c) ≡ length c = (write_beside s w c h).long in
        writes_kept t ws (fold_write s w c) (omega arith) (write_kept s w c h k key t p)

-- ---- a write by its outcomes
module _ (s : ℕ) (w : Write) (t : List ℕ) where
  pub write_past : 511 < write_key w → t ≡ fold_write s w t
  unfolding fold_write
  write_past h = rw (lt-ltb 511 (write_key w) h)

  module _ (key : write_key w ≤ 511) where
    pub write_new : num_at 8 (folds_at + write_key w * fold_len) t < s → put_fold t (write_key w) (version_by s w) ≡ fold_write s w t
    unfolding fold_write fold_in
    write_new h = rw (le-ltb 511 (write_key w) key, lt-ltb (num_at 8 (folds_at + write_key w * fold_len) t) s h)

    pub write_old : s ≤ num_at 8 (folds_at + write_key w * fold_len) t → t ≡ fold_write s w t
    unfolding fold_write fold_in
    write_old h = rw (le-ltb 511 (write_key w) key, le-ltb (num_at 8 (folds_at + write_key w * fold_len) t) s h)

-- ---- the loop over the writes: what is left of them has the outcome of all
pub record Folding (s : ℕ) (f : ℕ → Write) (n : ℕ) (t c : List ℕ) (j : ℕ) : Type 0 where
  pub within : j ≤ n
  pub in_t : head_len ≤ length t
  pub beside : Beside t c
  pub rest : fold_writes s (tab f j (n - j)) c ≡ fold_writes s (tab f 0 n) t

module _ {s : ℕ} {f : ℕ → Write} {n : ℕ} {t : List ℕ} where
  module _ {c : List ℕ} {j : ℕ} (h : Folding s f n t c j) where
    pub folding_more : {d : List ℕ} → j < n → d ≡ fold_write s (f j) c → Folding s f n t d (j + 1)
    unfolding fold_writes
    folding_more {d} l e =
        let z : n - j ≡ suc (n - (j + 1)) = omega arith in
        let a = h.in_t in
        let b = h.beside.long in
        record {
          within = omega arith;
          in_t = a;
          beside = rw e (beside_then h.beside (write_beside s (f j) c (omega arith)));
          rest = rw e (rw z at h.rest);
        }

    pub folding_all : n ≤ j → c ≡ fold_writes s (tab f 0 n) t
    unfolding fold_writes
    folding_all l = let z : n - j ≡ 0 = omega arith in rw z at h.rest

-- the writes that a TX has
pub all_writes : (x t : List ℕ) (s n : ℕ) → s ≡ stamp_of x → n ≡ w_count x → fold_writes s (tab (write_at x (writes_from x)) 0 n) t ≡ fold_writes (stamp_of x) (writes_of x) t
all_writes x t s n p q = rw (p, q, writes_are x)
