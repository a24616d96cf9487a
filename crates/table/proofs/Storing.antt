-- A row that is stored is an entry that is put into the table of the rules, and the table is taken as before.
use Prim.Native.Nat.{ℕ, ◌+◌, ◌*◌, ◌<◌, ◌≤◌}
use native.Mathlib.Omega.{arith}
use mathlib.Core.Bool.{Bool, true, false}
use mathlib.Core.Path.{◌≡◌, refl, ap, sym, ◌∙◌}
use mathlib.Core.List.{List, [], ◌∷◌, ◌++◌, append_assoc}
use borrow.Author.Tests.{eqb-true, eqb-false}
use lib.Dec.{eqb}
use lib.ListN.{length, take, drop, get_or, set, length-take, length-drop, length-append, length-set, get_or-append}
use lib.Seq.{take_at, drop_at, take-add, drop-drop, drop-set-lt, length-take-le, get_or-set_same}
use Rattle.terms.specs.Choice.{pick, tab, any}
use Rattle.terms.specs.Checks.{passed, if_less, table}
use Rattle.terms.proofs.Checks.{pass, less_no, when_no}
use Rattle.terms.proofs.Scans.{tab_length, tab_same}
use Rattle.records.specs.Numbers.{num_at}
use Rattle.records.specs.Tx.{tx_len, r_count, w_count, TxThere}
use Rattle.rules.specs.Answers.{log_view}
use Rattle.rules.specs.Bodies.{stamp_of}
use Rattle.rules.specs.Table.{put}
use Rattle.table.specs.declared.State.{State}
use Rattle.table.specs.Table.{head_len, low_at, folds_at, fold_len, low_of, fold_in, folds_of, count_of}
use Rattle.table.specs.Table.{row_len, log_at, log_view_at, view_at, decided_at, body_at, table_len, row_at, put_row, row_tx, row_body, state_at, entry_of, entry_at, entries, entries_of, entry_with}
use Rattle.table.specs.Table.{vote_wrong, row_wrong, row_bad, table_wrong, place, new_row, new_count, stored}
use Rattle.table.proofs.Bodies.{num_take, num_set}
use Rattle.table.proofs.Checked.{any_false, row_long, table_room, table_count, row_right}
use Rattle.table.proofs.Coding.{vote_back, settled_back, view_back, log_back, vote_small, reason_right, settled_small, log_small}
use Rattle.table.proofs.Placing.{own, other, entries_put, entries_push, put_held, put_new, place_within}

-- ---- the entry of a new row
module _ (d b : List ℕ) (x : State) (ld : length d ≡ row_len) (lb : length b ≡ tx_len b) (small : body_at + length b ≤ row_len) where
  behind : List ℕ
  behind = drop (length b) (row_tx d)

  new_tx : row_tx (new_row d b x) ≡ b ++ behind
  unfolding new_row behind
  new_tx = refl

  reads_same : r_count (row_tx (new_row d b x)) ≡ r_count b
  reads_same = rw new_tx (get_or-append b behind 0 2 (omega arith))

  writes_same : w_count (row_tx (new_row d b x)) ≡ w_count b
  writes_same = rw new_tx (get_or-append b behind 0 3 (omega arith))

  new_long : length (new_row d b x) ≡ row_len
  unfolding new_row
  new_long = simp (length-append, length-drop) (omega arith)

  new_body : row_body (new_row d b x) ≡ b
  unfolding row_body
  new_body =
      let n : tx_len (row_tx (new_row d b x)) ≡ length b = let p = reads_same in let q = writes_same in omega arith in
      rw (n, new_tx) (take_at b behind (length b) refl)

  new_log_view : num_at 2 log_view_at (new_row d b x) ≡ (log_view x.log).0
  unfolding num_at new_row
  new_log_view = view_back (log_view x.log)

  new_view : num_at 2 view_at (new_row d b x) ≡ x.view.0
  unfolding num_at new_row
  new_view = view_back x.view

  new_state : state_at (new_row d b x) ≡ x
  unfolding state_at new_row
  new_state = rw (vote_back x.vote, log_back x.log _ new_log_view, new_view, settled_back x.decided)

  new_entry : entry_of (new_row d b x) ≡ entry_with b x
  unfolding entry_of
  new_entry = rw (new_body, new_state)

  -- its counts and codes are in order
  new_vote : vote_wrong (new_row d b x) ≡ passed
  unfolding new_row
  new_vote = sym (pass (less_no _ _ _ (vote_small x.vote)) (sym (reason_right x.vote)))

  new_log : if_less 2 (get_or (new_row d b x) log_at 0) table ≡ passed
  unfolding new_row
  new_log = less_no _ _ _ (log_small x.log)

  new_decided : if_less 2 (get_or (new_row d b x) decided_at 0) table ≡ passed
  unfolding new_row
  new_decided = less_no _ _ _ (settled_small x.decided)

  new_right : r_count b ≤ 8 → w_count b ≤ 8 → row_wrong (new_row d b x) ≡ passed
  unfolding row_wrong
  new_right hr hw =
      rw (reads_same, writes_same)
      (sym (pass (less_no _ _ _ hr) (pass (less_no _ _ _ hw) (pass new_vote (pass new_log (sym new_decided))))))

-- ---- bytes written behind the first h, and the first byte beside them
module _ (h m k c : ℕ) (t r : List ℕ) (some : 0 < h) (in_t : h ≤ length t) where
  abbrev overwritten : List ℕ
  overwritten = take (h + m) t ++ (r ++ drop k (drop (h + m) t))

  over_split : overwritten ≡ take h t ++ (take m (drop h t) ++ (r ++ drop k (drop m (drop h t))))
  over_split = rw (take-add h m t, append_assoc, ← drop-drop m h t)

  over_front : take h overwritten ≡ take h t
  over_front = ap (take h) over_split ∙ take_at (take h t) (take m (drop h t) ++ (r ++ drop k (drop m (drop h t)))) h (length-take-le h t in_t)

  over_rest : drop h (set overwritten 0 c) ≡ take m (drop h t) ++ (r ++ drop k (drop m (drop h t)))
  over_rest =
      drop-set-lt h overwritten 0 c some
      ∙ ap (drop h) over_split
      ∙ drop_at (take h t) (take m (drop h t) ++ (r ++ drop k (drop m (drop h t)))) h (length-take-le h t in_t)

  -- a number in front of them, behind the first byte
  over_num : (n p : ℕ) → 0 < p → p + n ≤ h → num_at n p (set overwritten 0 c) ≡ num_at n p t
  over_num n p q e = num_set n p overwritten 0 c q ∙ sym (num_take n p h overwritten e) ∙ ap (num_at n p) over_front ∙ num_take n p h t e

  over_long : length r ≡ k → h + m + k ≤ length t → length (set overwritten 0 c) ≡ length t
  over_long e l = length-set overwritten 0 c ∙ simp (length-append, length-take, length-drop) (omega arith)

-- ---- the table
module _ (t : List ℕ) (i : ℕ) (b : List ℕ) (x : State) (in_t : head_len ≤ length t) where
  abbrev new_at : List ℕ
  new_at = new_row (take row_len (drop (head_len + i * row_len) t)) b x

  abbrev count : ℕ
  count = new_count (count_of t) i

  stored_rows : drop head_len (stored t i b x) ≡ put_row (drop head_len t) i (new_row (row_at (drop head_len t) i) b x)
  unfolding stored
  stored_rows =
      over_rest head_len (i * row_len) row_len count t new_at (omega arith) in_t
      ∙ ap (λ (l : List ℕ). put_row (drop head_len t) i (new_row (take row_len l) b x)) (sym (drop-drop (i * row_len) head_len t))

  -- a store leaves the head but for the count
  pub stored_low : low_of (stored t i b x) ≡ low_of t
  unfolding stored low_of
  stored_low = over_num head_len (i * row_len) row_len count t new_at (omega arith) in_t 8 low_at (omega arith) (omega arith)

  stored_fold : (k : ℕ) → k < 512 → fold_in (stored t i b x) k ≡ fold_in t k
  unfolding stored fold_in
  stored_fold k h =
      let s = over_num head_len (i * row_len) row_len count t new_at (omega arith) in_t 8 (folds_at + k * fold_len) (omega arith) (omega arith) in
      let v = over_num head_len (i * row_len) row_len count t new_at (omega arith) in_t 8 (folds_at + k * fold_len + 8) (omega arith) (omega arith) in
      rw (s, v)

  pub stored_folds : folds_of (stored t i b x) ≡ folds_of t
  unfolding folds_of
  stored_folds = tab_same (fold_in t) (fold_in (stored t i b x)) 0 512 (λ k p q. stored_fold k (omega arith))

  module _ (long : length new_at ≡ row_len) (room : head_len + i * row_len + row_len ≤ length t) where
    stored_long : length (stored t i b x) ≡ length t
    unfolding stored
    stored_long = over_long head_len (i * row_len) row_len count t new_at (omega arith) in_t long room

    stored_count : count_of (stored t i b x) ≡ new_count (count_of t) i
    unfolding stored
    stored_count =
        let l = over_long head_len (i * row_len) row_len count t new_at (omega arith) in_t long room in
        let e = length-set (overwritten head_len (i * row_len) row_len count t new_at (omega arith) in_t) 0 count in
        get_or-set_same (overwritten head_len (i * row_len) row_len count t new_at (omega arith) in_t) 0 count 0 (omega arith)

module _ (rs : List ℕ) (i n : ℕ) (b : List ℕ) (x : State) (room : i * row_len + row_len ≤ length rs) (lb : length b ≡ tx_len b) (there : TxThere b) where
  small : body_at + length b ≤ row_len
  small = let p = there.0 in let q = there.1 in omega arith

  held : length (row_at rs i) ≡ row_len
  held = row_long rs i room

  with_long : length (new_row (row_at rs i) b x) ≡ row_len
  with_long = new_long (row_at rs i) b x held lb small

  with_entry : entry_of (new_row (row_at rs i) b x) ≡ entry_with b x
  with_entry = new_entry (row_at rs i) b x held lb small

  with_right : row_wrong (new_row (row_at rs i) b x) ≡ passed
  with_right = new_right (row_at rs i) b x held lb small there.0 there.1

  module _ (at : i ≡ place (stamp_of b) (entries rs n)) where
    entries_long : length (entries rs n) ≡ n
    entries_long = tab_length (entry_at rs) 0 n

    pub place_in : i ≤ n
    place_in = let p = place_within (stamp_of b) (entries rs n) in let q = entries_long in omega arith

    rows_put : entries (put_row rs i (new_row (row_at rs i) b x)) (new_count n i) ≡ put (entry_with b x) (entries rs n)
    unfolding new_count entry_with
    rows_put = by (eqb i n) refl
      where
        by : (t : Bool) → eqb i n ≡ t → entries (put_row rs i (new_row (row_at rs i) b x)) (pick (eqb i n) (n + 1) n) ≡ put (entry_with b x) (entries rs n)
        by true e =
            let z : n ≡ i = sym (eqb-true i n e) in
            let l = entries_long in
            let p : put (entry_with b x) (entries rs n) ≡ entries rs n ++ (entry_with b x ∷ []) = put_new (entry_with b x) (entries rs n) (sym at ∙ sym z ∙ sym l) in
            let q : entries (put_row rs i (new_row (row_at rs i) b x)) (i + 1) ≡ entries rs i ++ (entry_of (new_row (row_at rs i) b x) ∷ []) =
            entries_push rs (new_row (row_at rs i) b x) i room with_long in
            rw (e, p, z, q, with_entry)
        by false e =
            let ne = eqb-false i n e in
            let l = entries_long in
            let lt : i < n = let w = place_in in omega arith in
            let p : put (entry_with b x) (entries rs n) ≡ set (entries rs n) i (entry_with b x) = put_held (entry_with b x) (entries rs n) i (sym at) (rw l lt) in
            let q : entries (put_row rs i (new_row (row_at rs i) b x)) n ≡ set (entries rs n) i (entry_of (new_row (row_at rs i) b x)) =
            entries_put rs (new_row (row_at rs i) b x) i room with_long n lt in
            rw (e, p, q, with_entry)

    rows_right : ((j : ℕ) → j < n → row_bad (row_at rs j) ≡ false) → (j : ℕ) → j < new_count n i → row_bad (row_at (put_row rs i (new_row (row_at rs i) b x)) j) ≡ false
    unfolding new_count
    rows_right old j h = by (eqb j i) refl
      where
        inside : (t : Bool) → eqb i n ≡ t → j < pick t (n + 1) n → (j ≡ i → ⊥) → j < n
        inside true e k ne = let z = eqb-true i n e in omega arith
        inside false e k ne = k

        by : (t : Bool) → eqb j i ≡ t → row_bad (row_at (put_row rs i (new_row (row_at rs i) b x)) j) ≡ false
        by true e =
            let z : j ≡ i = eqb-true j i e in
            rw (z, own rs (new_row (row_at rs i) b x) i room with_long, with_right)
        by false e =
            let ne = eqb-false j i e in
            rw (other rs (new_row (row_at rs i) b x) i room with_long j ne) (old j (inside (eqb i n) refl h ne))

    count_in : (cap : ℕ) → n ≤ cap → i < cap → new_count n i ≤ cap
    unfolding new_count
    count_in cap h k = by (eqb i n) refl
      where
        by : (t : Bool) → eqb i n ≡ t → pick (eqb i n) (n + 1) n ≤ cap
        by true e = let z = eqb-true i n e in rw e (omega arith)
        by false e = rw e h

    rows_taken : (cap : ℕ) (s : List ℕ) → table_len cap ≤ length s → n ≤ cap → i < cap → ((j : ℕ) → j < n → row_bad (row_at rs j) ≡ false)
        → drop head_len s ≡ put_row rs i (new_row (row_at rs i) b x) → count_of s ≡ new_count n i → table_wrong cap s ≡ passed
    unfolding table_wrong
    rows_taken cap s a h k old same count =
        let none : any row_bad (tab (row_at (put_row rs i (new_row (row_at rs i) b x))) 0 (new_count n i)) ≡ false =
        any_false row_bad (row_at (put_row rs i (new_row (row_at rs i) b x))) 0 (new_count n i) (λ j p q. rows_right old j (omega arith)) in
        rw (same, count)
        (sym (pass (less_no _ _ _ a) (pass (less_no _ _ _ (count_in cap h k)) (sym (when_no _ _ none)))))

-- a whole TX stored in its place: what the rules put, and a table again
module _ (cap i : ℕ) (b : List ℕ) (x : State) (lb : length b ≡ tx_len b) (there : TxThere b) (free : i < cap) where
  module _ (t : List ℕ) (right : table_wrong cap t ≡ passed) where
    in_table : head_len + i * row_len + row_len ≤ length t
    in_table = let a = table_room cap t right in omega arith

    in_rows : i * row_len + row_len ≤ length (drop head_len t)
    in_rows = let a = in_table in simp length-drop (omega arith)

    new_at_long : length (new_row (take row_len (drop (head_len + i * row_len) t)) b x) ≡ row_len
    new_at_long =
        ap (λ (l : List ℕ). length (new_row (take row_len l) b x)) (sym (drop-drop (i * row_len) head_len t))
        ∙ with_long (drop head_len t) i (count_of t) b x in_rows lb there

    pub stored_put : i ≡ place (stamp_of b) (entries_of t) → entries_of (stored t i b x) ≡ put (entry_with b x) (entries_of t)
    unfolding entries_of
    stored_put at =
        let l = in_table in
        rw (stored_rows t i b x (omega arith), stored_count t i b x (omega arith) new_at_long l)
        (rows_put (drop head_len t) i (count_of t) b x in_rows lb there at)

    pub stored_right : i ≡ place (stamp_of b) (entries_of t) → table_wrong cap (stored t i b x) ≡ passed
    unfolding entries_of
    stored_right at =
        let l = in_table in
        let same = stored_long t i b x (omega arith) new_at_long l in
        let a = table_room cap t right in
        rows_taken (drop head_len t) i (count_of t) b x in_rows lb there at cap (stored t i b x) (omega arith) (table_count cap t right) free (row_right cap t right)
        (stored_rows t i b x (omega arith)) (stored_count t i b x (omega arith) new_at_long l)
