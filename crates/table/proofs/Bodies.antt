-- The body in a row reads as the row does.
use Prim.Native.Nat.{ℕ, ◌+◌, ◌*◌, zero, suc, ◌<◌, ◌≤◌, zero-le}
use native.Mathlib.Nat.{sub-zero}
use native.Mathlib.Omega.{arith}
use mathlib.Core.Path.{◌≡◌, refl, ap}
use mathlib.Core.List.{List, [], ◌∷◌}
use mathlib.Core.Bool.{Bool, true, false, ◌&&◌}
use lib.Dec.{eqb}
use lib.ListN.{length, get_or, set, take, drop, length-take, length-drop}
use lib.Seq.{get_or-take, get_or-drop, take-take, drop-set-lt}
use Rattle.terms.specs.Choice.{pick, tab, any}
use Rattle.terms.proofs.Scans.{Rest, go, tab_same}
use Rattle.records.specs.Numbers.{le_val, num_at}
use Rattle.records.specs.Tx.{Tx, tx_of, tx_len, r_count, w_count, read_at, write_at, writes_from, write_key, TxThere}
use Rattle.records.specs.declared.Write.{Write}
use Rattle.rules.specs.declared.Reason.{Reason}
use Rattle.rules.specs.declared.Vote.TheVariants.{None as unvoted, Abort as vote_abort}
use Rattle.rules.specs.Answers.{unsettled}
use Rattle.std.specs.Str.{bytes_eq}
use Rattle.rules.specs.Bodies.{same_body, stamp_of, reads_of, writes_of, writes_key}
use Rattle.rules.specs.Table.{live_by}
use Rattle.table.specs.Table.{row_len, body_at, row_at, row_tx, row_body, entry_with, entry_of, WfRow, Wf}

-- a number that lies in the front of a list
pub mid_take : (n p k : ℕ) (s : List ℕ) → p + n ≤ k → take n (drop p (take k s)) ≡ take n (drop p s)
mid_take n zero k s h = take-take n k s (omega arith)
mid_take n (suc p) zero s h = absurd (omega arith)
mid_take n (suc p) (suc k) [] h = refl
mid_take n (suc p) (suc k) (x ∷ s) h = mid_take n p k s (omega arith)

pub num_take : (n p k : ℕ) (s : List ℕ) → p + n ≤ k → num_at n p (take k s) ≡ num_at n p s
unfolding num_at
num_take n p k s h = ap le_val (mid_take n p k s h)

-- a number behind a byte that is stored
pub num_set : (n p : ℕ) (s : List ℕ) (i x : ℕ) → i < p → num_at n p (set s i x) ≡ num_at n p s
unfolding num_at
num_set n p s i x h = ap (λ (l : List ℕ). le_val (take n l)) (drop-set-lt p s i x h)

-- the front of the bytes says the transaction
module _ (s t : List ℕ) (p j : ℕ) (k : num_at 2 (p + j * 10) t ≡ num_at 2 (p + j * 10) s) (v : num_at 8 (p + j * 10 + 2) t ≡ num_at 8 (p + j * 10 + 2) s) where
  same_read : read_at t p j ≡ read_at s p j
  unfolding read_at
  same_read = rw (k, v)

  same_write : write_at t p j ≡ write_at s p j
  unfolding write_at
  same_write = rw (k, v)

module _ (s : List ℕ) where
  read_front : (j : ℕ) → j < r_count s → read_at (take (tx_len s) s) 12 j ≡ read_at s 12 j
  read_front j h =
      same_read s (take (tx_len s) s) 12 j (num_take 2 (12 + j * 10) (tx_len s) s (omega arith))
      (num_take 8 (12 + j * 10 + 2) (tx_len s) s (omega arith))

  write_front : (j : ℕ) → j < w_count s → write_at (take (tx_len s) s) (writes_from s) j ≡ write_at s (writes_from s) j
  write_front j h =
      same_write s (take (tx_len s) s) (writes_from s) j (num_take 2 (writes_from s + j * 10) (tx_len s) s (omega arith))
      (num_take 8 (writes_from s + j * 10 + 2) (tx_len s) s (omega arith))

  pub tx_front : tx_of (take (tx_len s) s) ≡ tx_of s
  unfolding tx_of
  tx_front =
      let r : r_count (take (tx_len s) s) ≡ r_count s = get_or-take (tx_len s) s 2 0 (omega arith) in
      let w : w_count (take (tx_len s) s) ≡ w_count s = get_or-take (tx_len s) s 3 0 (omega arith) in
      let n : num_at 8 4 (take (tx_len s) s) ≡ num_at 8 4 s = num_take 8 4 (tx_len s) s (omega arith) in
      let a : tab (read_at (take (tx_len s) s) 12) 0 (r_count s) ≡ tab (read_at s 12) 0 (r_count s) =
      tab_same (read_at s 12) (read_at (take (tx_len s) s) 12) 0 (r_count s) (λ j h k. read_front j (omega arith)) in
      let b : tab (write_at (take (tx_len s) s) (writes_from s)) 0 (w_count s) ≡ tab (write_at s (writes_from s)) 0 (w_count s) =
      tab_same (write_at s (writes_from s)) (write_at (take (tx_len s) s) (writes_from s)) 0 (w_count s) (λ j h k. write_front j (omega arith)) in
      rw (r, w, n, a, b)

-- the transaction of a row's body, by its parts
module _ (r : List ℕ) where
  pub body_tx : tx_of (entry_of r).body ≡ tx_of (row_tx r)
  unfolding entry_of entry_with row_body
  body_tx = tx_front (row_tx r)

  pub body_stamp : stamp_of (entry_of r).body ≡ stamp_of (row_tx r)
  unfolding stamp_of
  body_stamp = ap (λ (x : Tx). x.stamp) body_tx

  pub body_reads : reads_of (entry_of r).body ≡ reads_of (row_tx r)
  unfolding reads_of
  body_reads = ap (λ (x : Tx). x.reads) body_tx

  pub body_writes : writes_of (entry_of r).body ≡ writes_of (row_tx r)
  unfolding writes_of
  body_writes = ap (λ (x : Tx). x.writes) body_tx

  pub body_writes_key : (k : ℕ) → writes_key (entry_of r).body k ≡ writes_key (row_tx r) k
  unfolding writes_key
  body_writes_key k = ap (λ (ws : List Write). any (λ w. eqb (write_key w) k) ws) body_writes

-- and it is a whole TX
module _ (r : List ℕ) (h : TxThere (row_tx r)) where
  body_long : length (row_body r) ≡ tx_len (row_tx r)
  unfolding row_body
  body_long = let l = h.2 in simp length-take (omega arith)

  body_counts : (r_count (row_body r) ≡ r_count (row_tx r)) × (w_count (row_body r) ≡ w_count (row_tx r))
  unfolding row_body
  body_counts = (get_or-take (tx_len (row_tx r)) (row_tx r) 2 0 (omega arith), get_or-take (tx_len (row_tx r)) (row_tx r) 3 0 (omega arith))

  pub body_there : TxThere (entry_of r).body
  unfolding entry_of entry_with
  body_there =
      let l = body_long in
      let a = body_counts.0 in
      let b = body_counts.1 in
      (rw a h.0, rw b h.1, omega arith)

-- where the counts stand in a row
pub reads_at : (r : List ℕ) → r_count (row_tx r) ≡ get_or r (body_at + 2) 0
reads_at r = get_or-drop body_at r 2 0

pub writes_at : (r : List ℕ) → w_count (row_tx r) ≡ get_or r (body_at + 3) 0
writes_at r = get_or-drop body_at r 3 0

-- what stands in a slice is what its transaction has
pub reads_are : (s : List ℕ) → reads_of s ≡ tab (read_at s 12) 0 (r_count s)
unfolding reads_of tx_of
reads_are s = refl

pub writes_are : (s : List ℕ) → writes_of s ≡ tab (write_at s (writes_from s)) 0 (w_count s)
unfolding writes_of tx_of
writes_are s = refl

pub row_there : (r : List ℕ) → WfRow r → TxThere (row_tx r)
row_there r w =
    let l = w.long in
    let a = w.reads in
    let b = w.writes in
    (a, b, simp length-drop (omega arith))

-- a row that can be looked at
pub row_fits : {t : List ℕ} {n : ℕ} → Wf t n → (i : ℕ) → i < n → (i * row_len + row_len ≤ length t) × WfRow (row_at t i)
row_fits w i h = let m = w.room in (omega arith, w.rows i h)

-- an abort vote and no vote are not live where nothing is decided
pub dead_vote : (b : Bool) (r : Reason) → false ≡ live_by unsettled (pick b (vote_abort r) unvoted)
unfolding live_by
dead_vote true r = refl
dead_vote false r = refl

-- a scan that begins, its answer by another name
pub begin_as : {A : Type 0} {P : A → Bool} {f : ℕ → A} {n : ℕ} {W : Bool} → any P (tab f 0 n) ≡ W → Rest P f n W 0
begin_as e = record { within = zero-le; same = rw sub-zero e }

-- one that goes on under another name of the next place
module _ {A : Type 0} {P : A → Bool} {f : ℕ → A} {n : ℕ} where
  pub go_to : {W : Bool} {j : ℕ} → Rest P f n W j → (i : ℕ) → j < n → P (f j) ≡ false → i ≡ j + 1 → Rest P f n W i
  go_to r i h p e = rw e (go r h p)

-- whether a write is of a key
abbrev pub has_key : ℕ → Write → Bool
has_key k w = eqb (write_key w) k

-- two slices that compare equal are the same body
pub bytes_same : (a b : List ℕ) → bytes_eq a b ≡ same_body a b
unfolding same_body
bytes_same [] [] = refl
bytes_same [] (y ∷ ys) = refl
bytes_same (x ∷ xs) [] = refl
bytes_same (x ∷ xs) (y ∷ ys) = ap (λ (t : Bool). eqb x y && t) (bytes_same xs ys)
