-- The pass over the rows: what is left of it has the outcome of the whole.
use Prim.Native.Nat.{ℕ, zero, suc, ◌+◌, ◌*◌, ◌-◌, ◌<◌, ◌≤◌, zero-le}
use native.Mathlib.Omega.{arith}
use native.Mathlib.Nat.{sub-zero, add-zero}
use mathlib.Core.Path.{◌≡◌, refl, ap, sym, ◌∙◌}
use mathlib.Core.Bool.{Bool, true, false}
use mathlib.Core.List.{List, [], ◌∷◌, ◌++◌, append_assoc, append-nil}
use borrow.Author.Tests.{ne_eqb}
use lib.Dec.{eqb}
use lib.ListN.{length, take, drop, get_or, set, length-append, length-drop, take-append-drop}
use lib.Seq.{drop_at, drop-drop, get_or-drop, get_or-take, length-take-le, take_at}
use Rattle.terms.specs.Choice.{pick, tab}
use Rattle.terms.proofs.Scans.{tab_same}
use Rattle.terms.specs.declared.Decision.TheVariants.{Abort as abort}
use Rattle.rules.specs.Answers.{settled, unsettled}
use Rattle.rules.specs.declared.Version.{Version}
use Rattle.rules.specs.Bodies.{stamp_of, writes_of}
use Rattle.rules.specs.Calls.{is_committed, newest}
use Rattle.rules.specs.Low.{fold_up_to, newer_fold, up_to}
use Rattle.rules.specs.Table.{Entry}
use Rattle.table.specs.Table.{count_of, decided_at, entries, entries_of, entry_at, entry_of, entry_with, fold_in, fold_len, folds_at, folds_of, head_len, put_row, row_at, row_len, state_at}
use Rattle.table.proofs.Bodies.{body_stamp, body_writes}
use Rattle.table.proofs.Head.{fold_there}
use Rattle.low.specs.Raising.{TableThere, fold_over, fold_part, joined, new_fold, new_folds, new_rows, open_bytes, raised, rows_above, rows_of}
use Rattle.low.specs.Passing.{RowThere, fold_entry, fold_writes, moved, next_free, passed, tx_at}
use Rattle.low.proofs.Newest.{entries_newest, newer_entries, newer_entry, newer_writes}
use Rattle.low.proofs.Parts.{Beside, Kept, beside_same, kept_on, kept_same, part_fold, writes_beside, writes_fold, writes_kept}
use Rattle.low.proofs.Open.{up_no, up_yes}
use Rattle.low.proofs.Moving.{moved_long, moved_part, moved_rows}

-- ---- an entry at or below the mark
module _ (e : Entry) (c : List ℕ) (in_c : head_len ≤ length c) where
  entry_beside : Beside c (fold_entry e c)
  unfolding fold_entry
  entry_beside = by (is_committed e.decided)
    where
      by : (b : Bool) → Beside c (pick b (fold_writes (stamp_of e.body) (writes_of e.body) c) c)
      by true = writes_beside (stamp_of e.body) (writes_of e.body) c in_c
      by false = beside_same c

  module _ (k : ℕ) (key : k < 512) where
    entry_kept : (t : List ℕ) → Kept t c k → Kept t (fold_entry e c) k
    unfolding fold_entry
    entry_kept t h = by (is_committed e.decided)
      where
        by : (b : Bool) → Kept t (pick b (fold_writes (stamp_of e.body) (writes_of e.body) c) c) k
        by true = writes_kept (stamp_of e.body) k key t (writes_of e.body) c in_c h
        by false = h

    entry_fold : (l : ℕ) → up_to l e ≡ true → fold_in (fold_entry e c) k ≡ newer_entry l k e (fold_in c k)
    unfolding fold_entry newer_entry
    entry_fold l u = rw u (by (is_committed e.decided))
      where
        by : (b : Bool) → fold_in (pick b (fold_writes (stamp_of e.body) (writes_of e.body) c) c) k ≡ pick b (newer_writes k (stamp_of e.body) (writes_of e.body) (fold_in c k)) (fold_in c k)
        by true = writes_fold (stamp_of e.body) k key (writes_of e.body) c in_c
        by false = refl

-- ---- the loop
pub record Raising (l : ℕ) (t c : List ℕ) (i free : ℕ) : Type 0 where
  pub within : i ≤ count_of t
  pub fits : free ≤ i
  pub long : length c ≡ length t
  pub keeps : (k : ℕ) → k < 512 → Kept t c k
  pub folds : (k : ℕ) → k < 512
      → newer_entries l k (tab (entry_at (drop head_len t)) i (count_of t - i)) (fold_in c k) ≡ newer_entries l k (entries (drop head_len t) (count_of t)) (fold_in t k)
  pub front : take (free * row_len) (drop head_len c) ++ joined (rows_above l (tab (row_at (drop head_len t)) i (count_of t - i))) ≡ joined (rows_above l (rows_of t))
  pub behind : drop (free * row_len) (drop head_len c) ≡ drop (free * row_len) (drop head_len t)
  pub count : free + length (rows_above l (tab (row_at (drop head_len t)) i (count_of t - i))) ≡ length (rows_above l (rows_of t))

pub raising_none : {l : ℕ} {t : List ℕ} → Raising l t t 0 0
raising_none {l} {t} =
    record {
      within = zero-le;
      fits = zero-le;
      long = refl;
      keeps = λ k h. kept_same t k;
      folds = λ k h. rw sub-zero;
      front = rw sub-zero;
      behind = refl;
      count = rw sub-zero (omega arith);
    }

-- a row behind the free place stands as it stood
module _ {l : ℕ} {t c : List ℕ} {i free : ℕ} (h : Raising l t c i free) (there : TableThere t) (more : i < count_of t) where
  as_stood : row_at (drop head_len c) i ≡ row_at (drop head_len t) i
  as_stood =
      let f = h.fits in
      let z : i * row_len ≡ free * row_len + (i * row_len - free * row_len) = omega arith in
      ap (λ (n : ℕ). take row_len (drop n (drop head_len c))) z
      ∙ ap (take row_len) (sym (drop-drop (i * row_len - free * row_len) (free * row_len) (drop head_len c)))
      ∙ ap (λ (x : List ℕ). take row_len (drop (i * row_len - free * row_len) x)) h.behind
      ∙ ap (take row_len) (drop-drop (i * row_len - free * row_len) (free * row_len) (drop head_len t))
      ∙ ap (λ (n : ℕ). take row_len (drop n (drop head_len t))) (sym z)

  room_t : head_len + i * row_len + row_len ≤ length t
  room_t =
      let a = there.0 in
      let b : count_of t * row_len ≤ length t - head_len = rw length-drop at there.1.room in
      omega arith

  pub row_in : RowThere c i
  row_in =
      let a = room_t in
      let n = h.long in
      (omega arith, rw as_stood (there.1.rows i more))

  own_long : length (row_at (drop head_len c) i) ≡ row_len
  own_long = row_in.1.long

  abbrev rows_left : List (List ℕ)
  rows_left = rows_above l (tab (row_at (drop head_len t)) (i + 1) (count_of t - (i + 1)))

  left_step : count_of t - i ≡ suc (count_of t - (i + 1))
  left_step = omega arith

  abbrev folds_left : ℕ → Version → Version
  folds_left k v = newer_entries l k (tab (entry_at (drop head_len t)) (i + 1) (count_of t - (i + 1))) v

  fold_step : (k : ℕ) (v : Version) → newer_entries l k (tab (entry_at (drop head_len t)) i (count_of t - i)) v ≡ folds_left k (newer_entry l k (entry_at (drop head_len t) i) v)
  unfolding newer_entries
  fold_step k v = rw left_step

  module _ (u : up_to l (entry_at (drop head_len t) i) ≡ true) where
    rows_low : rows_above l (tab (row_at (drop head_len t)) i (count_of t - i)) ≡ rows_left
    unfolding rows_above
    rows_low = rw (left_step, u)

    step_low : Raising l t (fold_entry (entry_at (drop head_len t) i) c) (i + 1) free
    step_low =
        let n = h.long in
        let f = h.fits in
        let a = there.0 in
        let in_c : head_len ≤ length c = omega arith in
        let b = entry_beside (entry_at (drop head_len t) i) c in_c in
        record {
          within = omega arith;
          fits = omega arith;
          long = b.long ∙ n;
          keeps = λ k key. entry_kept (entry_at (drop head_len t) i) c in_c k key t (h.keeps k key);
          folds = λ k key. ap (folds_left k) (entry_fold (entry_at (drop head_len t) i) c in_c k key l u) ∙ sym (fold_step k (fold_in c k)) ∙ h.folds k key;
          front = rw b.rows (rw rows_low at h.front);
          behind = rw b.rows h.behind;
          count = rw rows_low at h.count;
        }

  module _ (u : up_to l (entry_at (drop head_len t) i) ≡ false) where
    rows_high : rows_above l (tab (row_at (drop head_len t)) i (count_of t - i)) ≡ row_at (drop head_len t) i ∷ rows_left
    unfolding rows_above
    rows_high = rw (left_step, u)

    passes : (k : ℕ) (v : Version) → newer_entry l k (entry_at (drop head_len t) i) v ≡ v
    unfolding newer_entry
    passes k v = rw u

    room_c : head_len + free * row_len + row_len ≤ length c
    room_c = let a = room_t in let n = h.long in let f = h.fits in omega arith

    in_c : head_len ≤ length c
    in_c = let a = room_c in omega arith

    abbrev front_then : List ℕ
    front_then = take (free * row_len) (drop head_len c) ++ row_at (drop head_len t) i

    abbrev behind_then : List ℕ
    behind_then = drop row_len (drop (free * row_len) (drop head_len c))

    moved_parts : drop head_len (moved i free c) ≡ front_then ++ behind_then
    moved_parts =
        moved_rows c i free in_c
        ∙ ap (put_row (drop head_len c) free) as_stood
        ∙ sym (append_assoc (take (free * row_len) (drop head_len c)) (row_at (drop head_len t) i) behind_then)

    head_long : length front_then ≡ (free + 1) * row_len
    head_long =
        let a = room_c in
        let r : length (row_at (drop head_len t) i) ≡ row_len = rw as_stood at own_long in
        let q = length-drop head_len c in
        ends (take (free * row_len) (drop head_len c)) (row_at (drop head_len t) i) (length-take-le (free * row_len) (drop head_len c) (omega arith)) r
      where
        ends : (x y : List ℕ) → length x ≡ free * row_len → length y ≡ row_len → length (x ++ y) ≡ (free + 1) * row_len
        ends x y p q = length-append x y ∙ omega arith

    front_to : take ((free + 1) * row_len) (drop head_len (moved i free c)) ≡ take (free * row_len) (drop head_len c) ++ row_at (drop head_len t) i
    front_to =
        ap (take ((free + 1) * row_len)) moved_parts
        ∙ take_at front_then behind_then ((free + 1) * row_len) head_long

    next_row : (x : List ℕ) → drop row_len (drop (free * row_len) x) ≡ drop ((free + 1) * row_len) x
    next_row x = let z : free * row_len + row_len ≡ (free + 1) * row_len = omega arith in drop-drop row_len (free * row_len) x ∙ ap (λ (n : ℕ). drop n x) z

    behind_to : drop ((free + 1) * row_len) (drop head_len (moved i free c)) ≡ drop ((free + 1) * row_len) (drop head_len t)
    behind_to =
        ap (drop ((free + 1) * row_len)) moved_parts
        ∙ drop_at front_then behind_then ((free + 1) * row_len) head_long
        ∙ ap (drop row_len) h.behind
        ∙ next_row (drop head_len t)

    step_high : Raising l t (moved i free c) (i + 1) (free + 1)
    step_high =
        let f = h.fits in
        let part : (k : ℕ) → k < 512 → fold_part (moved i free c) k ≡ fold_part c k = λ k key. moved_part c i free room_c own_long k key in
        record {
          within = omega arith;
          fits = omega arith;
          long = moved_long c i free room_c own_long ∙ h.long;
          keeps = λ k key. kept_on (part k key) (h.keeps k key);
          folds = λ k key.
              ap (folds_left k) (part_fold (moved i free c) c k (part k key) ∙ sym (passes k (fold_in c k))) ∙ sym (fold_step k (fold_in c k)) ∙ h.folds k key;
          front = rw (front_to, append_assoc) (rw rows_high at h.front);
          behind = behind_to;
          count = let z : free + suc (length rows_left) ≡ length (rows_above l (rows_of t)) = rw rows_high at h.count in omega arith;
        }

  pub raising_more : {d : List ℕ} {g : ℕ} → d ≡ passed l i free c → g ≡ next_free l i free c → Raising l t d (i + 1) g
  unfolding passed next_free
  raising_more {d} {g} p q = rw (p, q, as_stood) (by (up_to l (entry_at (drop head_len t) i)) refl)
    where
      by : (b : Bool) → up_to l (entry_at (drop head_len t) i) ≡ b
          → Raising l t (pick b (fold_entry (entry_at (drop head_len t) i) c) (moved i free c)) (i + 1) (pick b free (free + 1))
      by true u = step_low u
      by false u = step_high u

-- ---- mark and count written at the end
-- sixteen bytes after sixteen bytes
parts_all : (c : List ℕ) (i n : ℕ) → joined (tab (fold_part c) i n) ++ drop (folds_at + (i + n) * fold_len) c ≡ drop (folds_at + i * fold_len) c
parts_all c i zero = rw add-zero
parts_all c i (suc n) =
    let z : i + suc n ≡ i + 1 + n = omega arith in
    let y : folds_at + (i + 1) * fold_len ≡ folds_at + i * fold_len + fold_len = omega arith in
    let r : joined (tab (fold_part c) (i + 1) n) ++ drop (folds_at + (i + 1 + n) * fold_len) c ≡ drop fold_len (drop (folds_at + i * fold_len) c) =
    parts_all c (i + 1) n ∙ ap (λ (m : ℕ). drop m c) y ∙ sym (drop-drop fold_len (folds_at + i * fold_len) c) in
    rw (z, append_assoc, r) (take-append-drop fold_len (drop (folds_at + i * fold_len) c))

head_put : (f : ℕ) (b c : List ℕ) → 0 < length c → set (take 1 c ++ (b ++ drop 8 (drop 1 c))) 0 f ≡ f ∷ (b ++ drop 9 c)
head_put f b [] h = absurd (omega arith)
head_put f b (x ∷ xs) h = refl

module _ {l : ℕ} {t c : List ℕ} {i free : ℕ} (h : Raising l t c i free) (there : TableThere t) (done : count_of t ≤ i) where
  none_left : count_of t - i ≡ 0
  none_left = omega arith

  last_fold : (k : ℕ) → k < 512 → fold_in c k ≡ fold_up_to l (entries_of t) (folds_of t) k
  unfolding fold_up_to entries_of newer_entries
  last_fold k key =
      (rw none_left at (h.folds k key))
      ∙ entries_newest l k (entries (drop head_len t) (count_of t)) (fold_in t k)
      ∙ ap (λ (v : Version). newer_fold k v (newest (λ e. is_committed e.decided) k (suc l) (entries (drop head_len t) (count_of t)))) (sym (fold_there t k (omega arith)))

  last_part : (k : ℕ) → k < 512 → fold_part c k ≡ new_fold l t k
  unfolding new_fold
  last_part k key = (h.keeps k key).part ∙ ap (fold_over t k) (last_fold k key)

  last_folds : drop 9 c ≡ new_folds l t ++ drop head_len c
  unfolding new_folds
  last_folds =
      sym (parts_all c 0 512)
      ∙ ap (λ (x : List (List ℕ)). joined x ++ drop head_len c) (tab_same (new_fold l t) (fold_part c) 0 512 (λ k p q. last_part k (omega arith)))

  last_rows : drop head_len c ≡ new_rows l t
  unfolding new_rows rows_above
  last_rows =
      let n = h.long in
      let f = h.fits in
      let w = h.within in
      let a = there.0 in
      let b : count_of t * row_len ≤ length t - head_len = rw length-drop at there.1.room in
      let d = length-drop head_len c in
      let j : take (free * row_len) (drop head_len c) ≡ joined (rows_above l (rows_of t)) = rw (none_left, append-nil) at h.front in
      let m : length (joined (rows_above l (rows_of t))) ≡ free * row_len = rw (← j) (length-take-le (free * row_len) (drop head_len c) (omega arith)) in
      sym (take-append-drop (free * row_len) (drop head_len c)) ∙ (rw (j, h.behind, m))

  last_count : free ≡ length (rows_above l (rows_of t))
  unfolding rows_above
  last_count = let z : free + 0 ≡ length (rows_above l (rows_of t)) = rw none_left at h.count in omega arith

  pub raising_done : set (take 1 c ++ (open_bytes 7 l ++ drop 8 (drop 1 c))) 0 free ≡ raised l t
  unfolding raised
  raising_done =
      let n = h.long in
      let a = there.0 in
      head_put free (open_bytes 7 l) c (omega arith) ∙ (rw (last_folds, last_rows, ← last_count))

-- ---- a row by its outcomes
module _ (r : List ℕ) where
  committed_yes : get_or r decided_at 0 ≡ 1 → is_committed (entry_of r).decided ≡ true
  unfolding entry_of entry_with state_at is_committed
  committed_yes e = rw e

  committed_no : (get_or r decided_at 0 ≡ 1 → ⊥) → is_committed (entry_of r).decided ≡ false
  unfolding entry_of entry_with state_at is_committed
  committed_no h = rw (ne_eqb (get_or r decided_at 0) 1 h) (by (eqb (get_or r decided_at 0) 2))
    where
      by : (b : Bool) → is_committed (pick b (settled abort) unsettled) ≡ false
      by true = refl
      by false = refl

module _ (l i free : ℕ) (t : List ℕ) where
  decided_at_lem : get_or (row_at (drop head_len t) i) decided_at 0 ≡ get_or t (head_len + i * row_len + decided_at) 0
  decided_at_lem =
      let z : head_len + (i * row_len + decided_at) ≡ head_len + i * row_len + decided_at = omega arith in
      get_or-take row_len (drop (i * row_len) (drop head_len t)) decided_at 0 (omega arith)
      ∙ get_or-drop (i * row_len) (drop head_len t) decided_at 0
      ∙ get_or-drop head_len t (i * row_len + decided_at) 0
      ∙ ap (λ (n : ℕ). get_or t n 0) z

  pub pass_high : l < stamp_of (tx_at t i) → (moved i free t ≡ passed l i free t) × (free + 1 ≡ next_free l i free t)
  unfolding passed next_free
  pass_high h = (rw (up_no l (row_at (drop head_len t) i) h), rw (up_no l (row_at (drop head_len t) i) h))

  module _ (h : stamp_of (tx_at t i) ≤ l) where
    pub pass_committed : get_or t (head_len + i * row_len + decided_at) 0 ≡ 1
        → (fold_writes (stamp_of (tx_at t i)) (writes_of (tx_at t i)) t ≡ passed l i free t) × (free ≡ next_free l i free t)
    unfolding passed next_free fold_entry
    pass_committed e =
        let u = up_yes l (row_at (drop head_len t) i) h in
        let d = committed_yes (row_at (drop head_len t) i) (decided_at_lem ∙ e) in
        (rw (u, d, body_stamp (row_at (drop head_len t) i), body_writes (row_at (drop head_len t) i)), rw u)

    pub pass_dropped : (get_or t (head_len + i * row_len + decided_at) 0 ≡ 1 → ⊥) → (t ≡ passed l i free t) × (free ≡ next_free l i free t)
    unfolding passed next_free fold_entry
    pass_dropped n =
        let u = up_yes l (row_at (drop head_len t) i) h in
        let d = committed_no (row_at (drop head_len t) i) (λ (e : get_or (row_at (drop head_len t) i) decided_at 0 ≡ 1). n (sym decided_at_lem ∙ e)) in
        (rw (u, d), rw u)
