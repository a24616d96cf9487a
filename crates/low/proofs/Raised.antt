-- What a raised table is to the rules: the entries above the mark, the mark, the folds; and a table again.
use Prim.Native.Nat.{ℕ, zero, suc, ◌+◌, ◌*◌, ◌<◌, ◌≤◌}
use native.Mathlib.Omega.{arith}
use native.Mathlib.Nat.{add-zero, zero-add}
use mathlib.Core.Path.{◌≡◌, refl, ap, sym, ◌∙◌}
use mathlib.Core.Bool.{Bool, true, false, ◌||◌, false≢true}
use mathlib.Core.List.{List, [], ◌∷◌, ◌++◌, append_assoc, map}
use lib.ListN.{length, take, drop, length-append, length-drop}
use lib.Seq.{drop-append-add, drop_at, drop-drop, length-take-le, take_at}
use Rattle.terms.specs.Checks.{passed}
use Rattle.terms.specs.Choice.{any, pick, tab}
use Rattle.terms.proofs.Checks.{less_no, pass, when_no}
use Rattle.terms.proofs.Scans.{tab_length, tab_map, tab_same, tab_shift}
use Rattle.records.specs.Numbers.{num_at}
use Rattle.rules.specs.Low.{above, fold_up_to, folds_up_to, up_to}
use Rattle.rules.specs.Table.{Entry}
use Rattle.table.specs.Table.{count_of, entries_of, entry_of, fold_in, fold_len, folds_at, folds_of, head_len, low_of, row_at, row_bad, row_len, table_wrong}
use Rattle.table.proofs.Checked.{any_false, row_long, row_right, table_count, table_room}
use Rattle.low.specs.Raising.{fold_bytes, fold_over, fold_part, joined, new_fold, new_folds, new_rows, raised, rows_above, rows_of, same_fold}
use Rattle.low.proofs.Bytes.{fold_says, open_back, over_says, says}

-- ---- parts of one length, one after the other
-- all of n bytes
pub data Each (n : ℕ) : List (List ℕ) → Type 0 where
  nothing : Each n []
  one : {x : List ℕ} {xs : List (List ℕ)} → length x ≡ n → Each n xs → Each n (x ∷ xs)

each_tab : (n : ℕ) (f : ℕ → List ℕ) (i m : ℕ) → ((j : ℕ) → i ≤ j → j < i + m → length (f j) ≡ n) → Each n (tab f i m)
each_tab n f i zero h = nothing
each_tab n f i (suc m) h = one (h i (omega arith) (omega arith)) (each_tab n f (i + 1) m (λ j a b. h j (omega arith) (omega arith)))

rows_long : {xs : List (List ℕ)} → Each row_len xs → length (joined xs) ≡ length xs * row_len
rows_long nothing = refl
rows_long (one {x} {xs} h r) = length-append x (joined xs) ∙ (let e = rows_long r in omega arith)

folds_long : {xs : List (List ℕ)} → Each fold_len xs → length (joined xs) ≡ length xs * fold_len
folds_long nothing = refl
folds_long (one {x} {xs} h r) = length-append x (joined xs) ∙ (let e = folds_long r in omega arith)

-- each row, and each fold, is found in its place
rows_back : {xs : List (List ℕ)} → Each row_len xs → (rest : List ℕ) → tab (row_at (joined xs ++ rest)) 0 (length xs) ≡ xs
rows_back nothing rest = refl
rows_back (one {x} {xs} h r) rest =
    let a : row_at (joined (x ∷ xs) ++ rest) 0 ≡ x = rw append_assoc (take_at x (joined xs ++ rest) row_len h) in
    let s : (j : ℕ) → row_at (joined (x ∷ xs) ++ rest) (j + 1) ≡ row_at (joined xs ++ rest) j =
    λ j. let z : (j + 1) * row_len ≡ length x + j * row_len = omega arith in
    rw (append_assoc, z, drop-append-add x (joined xs ++ rest) (j * row_len)) in
    let t : tab (row_at (joined (x ∷ xs) ++ rest)) 1 (length xs) ≡ xs =
    tab_shift (row_at (joined (x ∷ xs) ++ rest)) (row_at (joined xs ++ rest)) 0 (length xs) s ∙ rows_back r rest in
    ap (λ (l : List (List ℕ)). row_at (joined (x ∷ xs) ++ rest) 0 ∷ l) t ∙ ap (λ (l : List ℕ). l ∷ xs) a

fold_at : (f : ℕ → List ℕ) (i m : ℕ) → Each fold_len (tab f i m) → (rest : List ℕ) (k : ℕ) → k < m
    → take fold_len (drop (k * fold_len) (joined (tab f i m) ++ rest)) ≡ f (i + k)
fold_at f i zero e rest k h = absurd (omega arith)
fold_at f i (suc m) (one l r) rest zero h = rw (append_assoc, add-zero) (take_at (f i) (joined (tab f (i + 1) m) ++ rest) fold_len l)
fold_at f i (suc m) (one l r) rest (suc k) h =
    let z : suc k * fold_len ≡ length (f i) + k * fold_len = omega arith in
    let y : i + suc k ≡ i + 1 + k = omega arith in
    rw (append_assoc, z, drop-append-add (f i) (joined (tab f (i + 1) m) ++ rest) (k * fold_len), y) (fold_at f (i + 1) m r rest k (omega arith))

-- ---- the rows above the mark
module _ (l : ℕ) where
  above_each : (n : ℕ) {rs : List (List ℕ)} → Each n rs → Each n (rows_above l rs)
  unfolding rows_above
  above_each n nothing = nothing
  above_each n (one {x} {xs} h r) = by (up_to l (entry_of x)) (above_each n r)
    where
      by : (b : Bool) → Each n (rows_above l xs) → Each n (pick b (rows_above l xs) (x ∷ rows_above l xs))
      by true q = q
      by false q = one h q

  above_few : (rs : List (List ℕ)) → length (rows_above l rs) ≤ length rs
  unfolding rows_above
  above_few [] = omega arith
  above_few (x ∷ xs) = by (up_to l (entry_of x)) (above_few xs)
    where
      by : (b : Bool) → length (rows_above l xs) ≤ length xs → length (pick b (rows_above l xs) (x ∷ rows_above l xs)) ≤ suc (length xs)
      by true q = omega arith
      by false q = omega arith

  above_entries : (rs : List (List ℕ)) → map entry_of (rows_above l rs) ≡ above l (map entry_of rs)
  unfolding rows_above above
  above_entries [] = refl
  above_entries (x ∷ xs) = by (up_to l (entry_of x)) (above_entries xs)
    where
      by : (b : Bool) → map entry_of (rows_above l xs) ≡ above l (map entry_of xs)
          → map entry_of (pick b (rows_above l xs) (x ∷ rows_above l xs)) ≡ pick b (above l (map entry_of xs)) (entry_of x ∷ above l (map entry_of xs))
      by true q = q
      by false q = ap (λ (es : List Entry). entry_of x ∷ es) q

  above_right : (rs : List (List ℕ)) → any row_bad rs ≡ false → any row_bad (rows_above l rs) ≡ false
  unfolding rows_above
  above_right [] e = refl
  above_right (x ∷ xs) e = by (up_to l (entry_of x)) (row_bad x) refl e (above_right xs)
    where
      by : (b d : Bool) → row_bad x ≡ d → (d || any row_bad xs) ≡ false → (any row_bad xs ≡ false → any row_bad (rows_above l xs) ≡ false)
          → any row_bad (pick b (rows_above l xs) (x ∷ rows_above l xs)) ≡ false
      by b true p q rest = absurd (false≢true (sym q))
      by true false p q rest = rest q
      by false false p q rest = rw p (rest q)

folds_are : (s : List ℕ) → folds_of s ≡ tab (fold_in s) 0 512
unfolding folds_of
folds_are s = refl

-- ---- the table
module _ (cap l : ℕ) (t : List ℕ) (right : table_wrong cap t ≡ passed) where
  head_in : head_len ≤ length t
  head_in = let a = table_room cap t right in omega arith

  rows_in : count_of t * row_len ≤ length (drop head_len t)
  rows_in = let a = table_room cap t right in let b = table_count cap t right in simp length-drop (omega arith)

  rows_each : Each row_len (rows_of t)
  rows_each = let a = rows_in in each_tab row_len (row_at (drop head_len t)) 0 (count_of t) (λ j p q. row_long (drop head_len t) j (omega arith))

  fold_long : (k : ℕ) → k < 512 → length (new_fold l t k) ≡ fold_len
  unfolding new_fold fold_over
  fold_long k key = by (same_fold (fold_in t k) (fold_up_to l (entries_of t) (folds_of t) k))
    where
      by : (b : Bool) → length (pick b (fold_part t k) (fold_bytes (fold_up_to l (entries_of t) (folds_of t) k))) ≡ fold_len
      by true = let a = head_in in let d = length-drop (folds_at + k * fold_len) t in length-take-le fold_len (drop (folds_at + k * fold_len) t) (omega arith)
      by false = refl

  folds_each : Each fold_len (tab (new_fold l t) 0 512)
  folds_each = each_tab fold_len (new_fold l t) 0 512 (λ j p q. fold_long j (omega arith))

  new_folds_long : length (new_folds l t) ≡ 8192
  unfolding new_folds
  new_folds_long = let a = folds_long folds_each in let b = tab_length (new_fold l t) 0 512 in omega arith

  kept_long : length (joined (rows_above l (rows_of t))) ≤ count_of t * row_len
  kept_long =
      let a = rows_long (above_each l row_len rows_each) in
      let b = above_few l (rows_of t) in
      let d = tab_length (row_at (drop head_len t)) 0 (count_of t) in
      omega arith

  new_rows_long : length (new_rows l t) ≡ length (drop head_len t)
  unfolding new_rows
  new_rows_long =
      let a = kept_long in
      let b = rows_in in
      length-append (joined (rows_above l (rows_of t))) (drop (length (joined (rows_above l (rows_of t)))) (drop head_len t))
      ∙ (let d = length-drop (length (joined (rows_above l (rows_of t)))) (drop head_len t) in omega arith)

  pub raised_long : length (raised l t) ≡ length t
  unfolding raised
  raised_long =
      let a = head_in in
      let b = new_folds_long in
      let d = new_rows_long in
      let e = length-drop head_len t in
      let f = length-append (new_folds l t) (new_rows l t) in
      omega arith

  behind_mark_lem : drop 9 (raised l t) ≡ new_folds l t ++ new_rows l t
  unfolding raised
  behind_mark_lem = refl

  raised_rows : drop head_len (raised l t) ≡ new_rows l t
  raised_rows =
      sym (drop-drop 8192 9 (raised l t))
      ∙ ap (drop 8192) behind_mark_lem
      ∙ drop_at (new_folds l t) (new_rows l t) 8192 new_folds_long

  raised_count : count_of (raised l t) ≡ length (rows_above l (rows_of t))
  unfolding raised
  raised_count = refl

  rows_again : tab (row_at (drop head_len (raised l t))) 0 (count_of (raised l t)) ≡ rows_above l (rows_of t)
  unfolding new_rows
  rows_again =
      rw (raised_rows, raised_count)
      (rows_back (above_each l row_len rows_each) (drop (length (joined (rows_above l (rows_of t)))) (drop head_len t)))

  pub raised_entries : entries_of (raised l t) ≡ above l (entries_of t)
  unfolding entries_of
  raised_entries =
      sym (tab_map entry_of (row_at (drop head_len (raised l t))) 0 (count_of (raised l t)))
      ∙ ap (map entry_of) rows_again
      ∙ above_entries l (rows_of t)
      ∙ ap (above l) (tab_map entry_of (row_at (drop head_len t)) 0 (count_of t))

  pub raised_low : low_of (raised l t) ≡ l
  unfolding low_of raised num_at
  raised_low = open_back 7 l

  raised_part : (k : ℕ) → k < 512 → fold_part (raised l t) k ≡ new_fold l t k
  unfolding new_folds
  raised_part k key =
      ap (take fold_len) (sym (drop-drop (k * fold_len) 9 (raised l t)))
      ∙ ap (λ (x : List ℕ). take fold_len (drop (k * fold_len) x)) behind_mark_lem
      ∙ fold_at (new_fold l t) 0 512 folds_each (new_rows l t) k key
      ∙ ap (new_fold l t) (zero-add k)

  raised_fold : (k : ℕ) → k < 512 → fold_in (raised l t) k ≡ fold_up_to l (entries_of t) (folds_of t) k
  unfolding new_fold
  raised_fold k key = sym (fold_says (raised l t) k) ∙ ap says (raised_part k key) ∙ over_says t k (fold_up_to l (entries_of t) (folds_of t) k)

  pub raised_folds : folds_of (raised l t) ≡ folds_up_to l (entries_of t) (folds_of t)
  unfolding folds_up_to
  raised_folds = folds_are (raised l t) ∙ tab_same (fold_up_to l (entries_of t) (folds_of t)) (fold_in (raised l t)) 0 512 (λ k p q. raised_fold k (omega arith))

  pub raised_right : table_wrong cap (raised l t) ≡ passed
  unfolding table_wrong
  raised_right =
      let a = table_room cap t right in
      let b = table_count cap t right in
      let n = raised_long in
      let d = above_few l (rows_of t) in
      let e = tab_length (row_at (drop head_len t)) 0 (count_of t) in
      let c = raised_count in
      let none : any row_bad (rows_of t) ≡ false = any_false row_bad (row_at (drop head_len t)) 0 (count_of t) (λ j p q. row_right cap t right j (omega arith)) in
      sym (pass (less_no _ _ _ (omega arith)) (pass (less_no _ _ _ (omega arith)) (sym (when_no _ _ (rw rows_again (above_right l (rows_of t) none))))))
