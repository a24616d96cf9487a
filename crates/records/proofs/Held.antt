-- A transaction, a list and views in their structs, and out of them again.
use Prim.Native.Nat.{ℕ, zero, suc, ◌+◌, ◌*◌, ◌-◌, ◌<◌, ◌≤◌}
use native.Mathlib.Omega.{arith}
use native.Mathlib.Nat.{mul-le-mul}
use mathlib.Core.Bool.{Bool, true, false}
use mathlib.Core.Path.{◌≡◌, refl}
use mathlib.Core.List.{List, ◌++◌, map}
use lib.ListN.{length, get_or, replicate}
use lib.Dec.{eqb}
use Rattle.terms.specs.Choice.{pick, tab}
use Rattle.terms.proofs.Scans.{tab_length, tab_front, tab_map}
use Rattle.records.specs.Numbers.{num_at}
use Rattle.records.specs.Tx.{Tx, tx_of, tx_in, held_tx, padded, read_at, write_at, r_count, w_count, writes_from, reads_in, writes_in, zero_read, zero_write}
use Rattle.records.specs.Vl.{Vl, view_len, view_of, vl_of, list_in, held_list, pair_at, pairs_from, vl_count, pairs_in, zero_pair}
use Rattle.records.specs.declared.Read.{Read}
use Rattle.records.specs.declared.Write.{Write}
use Rattle.records.specs.Views.{Views, ballot_len, views_count, ballot_from, ballot_at, views_of, zero_ballot, ballots_in, own_ballot, OwnViews, views_in, held_views}
use Rattle.records.specs.declared.Pair.{Pair}
use Rattle.records.specs.declared.Ballot.{Ballot}
use Rattle.records.specs.declared.ViewMark.{ViewMark}
use Rattle.records.specs.declared.ViewMark.TheVariants.{VS, EL}

-- a list of logs has two bytes for its view
pub logs_view : (k : ℕ) → k ≡ 2 → view_len k ≡ 2
unfolding view_len
logs_view k h = rw h

pub view_short : (k : ℕ) → view_len k ≤ 2
unfolding view_len
view_short k = go (eqb k 2)
  where
    go : (t : Bool) → pick t 2 0 ≤ 2
    go true = omega arith
    go false = omega arith

-- the view of a kind that has one, and of one that has none
module _ (k v : ℕ) where
  pub view_kept : view_len k ≡ 2 → view_of k v ≡ v
  unfolding view_len view_of
  view_kept = go (eqb k 2)
    where
      go : (t : Bool) → ◌≡◌ {A = ℕ} (pick t 2 0) 2 → pick t v 0 ≡ v
      go true h = refl
      go false h = absurd (omega arith)

  pub view_gone : (view_len k ≡ 2 → ⊥) → view_of k v ≡ 0
  unfolding view_len view_of
  view_gone = go (eqb k 2)
    where
      go : (t : Bool) → (◌≡◌ {A = ℕ} (pick t 2 0) 2 → ⊥) → pick t v 0 ≡ 0
      go true h = absurd (h refl)
      go false h = refl

-- a view that was read is that of its kind
pub view_once : (k v : ℕ) → view_of k (view_of k v) ≡ view_of k v
unfolding view_of
view_once k v = go (eqb k 2)
  where
    go : (t : Bool) → pick t (pick t v 0) 0 ≡ pick t v 0
    go true = refl
    go false = refl

pub own_view : (s : List ℕ) → view_of (vl_of s).kind (vl_of s).view ≡ (vl_of s).view
unfolding vl_of
own_view s = view_once (get_or s 2 0) (num_at 2 5 s)

-- a struct that is filled from the bytes
pub tx_held : (s : List ℕ) (st r w : ℕ) (a : List Read) (b : List Write)
    → st ≡ num_at 8 4 s → r ≡ r_count s → w ≡ w_count s → a ≡ padded (read_at s 12) r 8 zero_read → b ≡ padded (write_at s (12 + r * 10)) w 8 zero_write
    → record { stamp = record { 0 = st }; r = r; w = w; reads = a; writes = b } ≡ held_tx (tx_of s)
unfolding held_tx tx_of
tx_held s st r w a b p q u d e =
    rw (tab_length (read_at s 12) 0 (r_count s), tab_length (write_at s (writes_from s)) 0 (w_count s)) (rw (p, d, e, q, u))

pub list_held : (s : List ℕ) (k d n v from : ℕ) (a : List Pair)
    → k ≡ get_or s 2 0 → d ≡ get_or s 3 0 → v ≡ view_of (get_or s 2 0) (num_at 2 5 s) → n ≡ vl_count s → from ≡ pairs_from s → a ≡ padded (pair_at s from) n 26 zero_pair
    → record { kind = k; decision = d; view = record { 0 = v }; count = n; pairs = a } ≡ held_list (vl_of s)
unfolding held_list vl_of
list_held s k d n v from a p q y u h e = rw (tab_length (pair_at s (pairs_from s)) 0 (vl_count s)) (rw (p, q, y, e, u, h))

-- a struct holds what was put into it
pub tx_in_lem : (x : Tx) → tx_in (held_tx x) ≡ x
unfolding tx_in held_tx
tx_in_lem x =
    let a : tab (reads_in (x.reads ++ replicate (8 - length x.reads) zero_read)) 0 (length x.reads) ≡ x.reads = tab_front zero_read x.reads _ in
    let b : tab (writes_in (x.writes ++ replicate (8 - length x.writes) zero_write)) 0 (length x.writes) ≡ x.writes = tab_front zero_write x.writes _ in
    rw (a, b)

pub list_in_lem : (l : Vl) → view_of l.kind l.view ≡ l.view → list_in (held_list l) ≡ l
unfolding list_in held_list
list_in_lem l v =
    let a : tab (pairs_in (l.pairs ++ replicate (26 - length l.pairs) zero_pair)) 0 (length l.pairs) ≡ l.pairs = tab_front zero_pair l.pairs _ in
    rw (a, v)

-- ---- views
-- the bytes of a ballot, and of those before and up to the j-th
pub ballot_wide : (k : ViewMark) → 3 ≤ ballot_len k
ballot_wide VS = omega arith
ballot_wide EL = omega arith

pub ballots_few : (w n m : ℕ) → w ≤ 4 → n ≤ m → w * n ≤ 4 * m
ballots_few w n m p q = mul-le-mul p q

pub ballots_before : (k : ViewMark) (j n : ℕ) → j < n → ballot_len k * j + ballot_len k ≤ ballot_len k * n
ballots_before VS j n h = omega arith
ballots_before EL j n h = omega arith

pub views_held : (k : ViewMark) (s : List ℕ) (leader d v n : ℕ) (a : List Ballot)
    → leader ≡ (views_of k s).leader → d ≡ (views_of k s).decision → v ≡ (views_of k s).view → n ≡ views_count k s → a ≡ padded (ballot_at k s) n 26 zero_ballot
    → record { leader = leader; decision = d; view = record { 0 = v }; count = n; ballots = a } ≡ held_views (views_of k s)
unfolding held_views views_of
views_held VS s leader d v n a p q y u e = rw (tab_length (ballot_at VS s) 0 (views_count VS s)) (rw (p, q, y, e, u))
views_held EL s leader d v n a p q y u e = rw (tab_length (ballot_at EL s) 0 (views_count EL s)) (rw (p, q, y, e, u))

pub views_in_lem : (k : ViewMark) (l : Views) → OwnViews k l → views_in k (held_views l) ≡ l
unfolding views_in held_views
views_in_lem k l own =
    let a : tab (ballots_in (l.ballots ++ replicate (26 - length l.ballots) zero_ballot)) 0 (length l.ballots) ≡ l.ballots = tab_front zero_ballot l.ballots _ in
    rw (← tab_map (own_ballot k) (ballots_in (l.ballots ++ replicate (26 - length l.ballots) zero_ballot)) 0 (length l.ballots), a) own

-- views that were read are all told
map_all : {A : Type 0} (g : A → A) (f : ℕ → A) (i n : ℕ) → ((j : ℕ) → g (f j) ≡ f j) → map g (tab f i n) ≡ tab f i n
map_all g f i zero h = refl
map_all g f i (suc n) h =
    let e : g (f i) ≡ f i = h i in
    let r : map g (tab f (i + 1) n) ≡ tab f (i + 1) n = map_all g f (i + 1) n h in
    cc

ballot_own : (k : ViewMark) (s : List ℕ) (j : ℕ) → own_ballot k (ballot_at k s j) ≡ ballot_at k s j
unfolding ballot_at ballot_from
ballot_own VS s j = refl
ballot_own EL s j = refl

pub own_views_lem : (k : ViewMark) (s : List ℕ) → OwnViews k (views_of k s)
unfolding views_of
own_views_lem VS s = rw (map_all (own_ballot VS) (ballot_at VS s) 0 (views_count VS s) (ballot_own VS s))
own_views_lem EL s = rw (map_all (own_ballot EL) (ballot_at EL s) 0 (views_count EL s) (ballot_own EL s))
