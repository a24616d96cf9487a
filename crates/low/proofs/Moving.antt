-- A row that moves: the loop that copies it, and the table then.
use Prim.Native.Nat.{ℕ, suc, ◌+◌, ◌*◌, ◌-◌, ◌<◌, ◌≤◌, zero-le}
use native.Mathlib.Omega.{arith}
use mathlib.Core.Path.{◌≡◌, refl, ap, sym, ◌∙◌}
use mathlib.Core.List.{List, ◌++◌, append_assoc}
use borrow.Rule.Slice.PartMut.{mid_of, put_mid, put_same}
use lib.ListN.{length, take, drop, get_or, set, length-set, length-drop}
use lib.Seq.{drop_at, drop-drop, drop-paste, get_or-drop, length-take-le, paste, paste-suc, paste-zero, take-add}
use Rattle.table.specs.Table.{fold_len, folds_at, head_len, put_row, row_at, row_len}
use Rattle.low.specs.Raising.{fold_part}
use Rattle.low.specs.Passing.{moved}
use Rattle.low.proofs.Parts.{put_before, put_long}

-- the first j bytes of a row that stands behind the place it goes to
pub record Copied (t c : List ℕ) (from to j : ℕ) : Type 0 where
  pub within : j ≤ row_len
  pub apart : to + row_len ≤ from
  pub room : from + row_len ≤ length t
  pub long : length c ≡ length t
  pub same : c ≡ paste t to (drop from t) j

pub copy_none : {t : List ℕ} {from to : ℕ} → to + row_len ≤ from → from + row_len ≤ length t → Copied t t from to 0
copy_none {t} {from} {to} a r = record { within = zero-le; apart = a; room = r; long = refl; same = paste-zero t to (drop from t) }

pub copy_more : {t c : List ℕ} {from to j : ℕ} → Copied t c from to j → j < row_len → Copied t (set c (to + j) (get_or c (from + j) 0)) from to (j + 1)
copy_more {t} {c} {from} {to} {j} h l =
    let r = h.room in
    let a = h.apart in
    let n : length (drop from t) ≡ length t - from = length-drop from t in
    let d : drop (to + j) c ≡ drop (to + j) t = ap (drop (to + j)) h.same ∙ drop-paste t to (drop from t) j (omega arith) (omega arith) in
    let z : from + j ≡ to + j + (from - to) = omega arith in
    let g : get_or c (from + j) 0 ≡ get_or (drop from t) j 0 =
    ap (λ (x : ℕ). get_or c x 0) z
    ∙ sym (get_or-drop (to + j) c (from - to) 0)
    ∙ ap (λ (x : List ℕ). get_or x (from - to) 0) d
    ∙ get_or-drop (to + j) t (from - to) 0
    ∙ ap (λ (x : ℕ). get_or t x 0) (sym z)
    ∙ sym (get_or-drop from t j 0) in
    let s : set (paste t to (drop from t) j) (to + j) (get_or (drop from t) j 0) ≡ paste t to (drop from t) (suc j) =
    paste-suc t to (drop from t) j 0 (omega arith) (omega arith) in
    let e : suc j ≡ j + 1 = omega arith in
    record {
      within = omega arith;
      apart = a;
      room = r;
      long = length-set c (to + j) (get_or c (from + j) 0) ∙ h.long;
      same = ap (λ (x : ℕ). set c (to + j) x) g ∙ ap (λ (x : List ℕ). set x (to + j) (get_or (drop from t) j 0)) h.same ∙ s ∙ ap (paste t to (drop from t)) e;
    }

module _ (t : List ℕ) (i free : ℕ) where
  row_mid : row_at (drop head_len t) i ≡ mid_of (head_len + i * row_len) row_len t
  row_mid = ap (take row_len) (drop-drop (i * row_len) head_len t)

  pub pasted_moved : paste t (head_len + free * row_len) (drop (head_len + i * row_len) t) row_len ≡ moved i free t
  unfolding moved
  pasted_moved = rw (row_mid, drop-drop row_len (head_len + free * row_len) t, append_assoc)

  copy_all : {c : List ℕ} {from to j : ℕ} → Copied t c from to j → row_len ≤ j
      → from ≡ head_len + i * row_len → to ≡ head_len + free * row_len → c ≡ moved i free t
  copy_all {c} {from} {to} {j} h l p q =
      let z : j ≡ row_len = let w = h.within in omega arith in
      let s : c ≡ paste t (head_len + free * row_len) (drop (head_len + i * row_len) t) row_len = rw (z, p, q) at h.same in
      s ∙ pasted_moved

  pub moved_long : head_len + free * row_len + row_len ≤ length t → length (row_at (drop head_len t) i) ≡ row_len → length (moved i free t) ≡ length t
  unfolding moved
  moved_long h l = put_long (head_len + free * row_len) row_len t (row_at (drop head_len t) i) h l

  pub moved_part : head_len + free * row_len + row_len ≤ length t → length (row_at (drop head_len t) i) ≡ row_len
      → (k : ℕ) → k < 512 → fold_part (moved i free t) k ≡ fold_part t k
  unfolding moved
  moved_part h l k key = put_before (head_len + free * row_len) row_len t (row_at (drop head_len t) i) h l fold_len (folds_at + k * fold_len) (omega arith)

  pub moved_rows : head_len ≤ length t → drop head_len (moved i free t) ≡ put_row (drop head_len t) free (row_at (drop head_len t) i)
  unfolding moved
  moved_rows h = behind head_len (free * row_len) row_len t (row_at (drop head_len t) i) h
    where
      behind : (a m n : ℕ) (t r : List ℕ) → a ≤ length t → drop a (put_mid (a + m) n t r) ≡ put_mid m n (drop a t) r
      behind a m n t r g =
          let s : put_mid (a + m) n t r ≡ take a t ++ (take m (drop a t) ++ (r ++ drop n (drop m (drop a t)))) = rw (take-add a m t, append_assoc, ← drop-drop m a t) in
          ap (drop a) s ∙ drop_at (take a t) (take m (drop a t) ++ (r ++ drop n (drop m (drop a t)))) a (length-take-le a t g)

-- a row that stays where it is
pub moved_same : (t : List ℕ) (i free : ℕ) → free ≡ i → t ≡ moved i free t
unfolding moved
moved_same t i free e = rw (e, row_mid t i i) (sym (put_same (head_len + i * row_len) row_len t))

pub copied_moved : {t c : List ℕ} {from to j : ℕ} → Copied t c from to j → (i free : ℕ) → row_len ≤ j
    → from ≡ head_len + i * row_len → to ≡ head_len + free * row_len → c ≡ moved i free t
copied_moved {t} h i free l p q = copy_all t i free h l p q
