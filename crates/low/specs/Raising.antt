-- A11, "Let old entries go": the table's bytes once its low mark is raised.
use Rattle.std.specs.Prelude.{ℕ, zero, suc, ◌+◌, ◌*◌, ◌/◌, ◌%◌, ◌≤◌, Bool, ◌&&◌, List, [], ◌∷◌, ◌++◌, eqb, length, take, drop}
use Rattle.terms.specs.Choice.{pick, tab}
use Rattle.rules.specs.declared.Version.{Version}
use Rattle.rules.specs.Low.{fold_up_to, up_to}
use Rattle.table.specs.Table.{count_of, entries_of, entry_of, fold_in, fold_len, folds_at, folds_of, head_len, row_at, Wf}

-- a table that can be raised: its head is there, and each of its rows
abbrev pub TableThere : List ℕ → Type 0
TableThere t = (head_len ≤ length t) × Wf (drop head_len t) (count_of t)

-- ---- numbers
-- the bytes of a number, the last as large as it comes: so any number is read back, and one below 2^64 has its own eight bytes
abbrev pub open_bytes : ℕ → ℕ → List ℕ
open_bytes zero x = x ∷ []
open_bytes (suc n) x = x % 256 ∷ open_bytes n (x / 256)

-- "one version and value per key": sixteen bytes
abbrev pub fold_bytes : Version → List ℕ
fold_bytes v = open_bytes 7 v.stamp.0 ++ open_bytes 7 v.value

-- one after the other
abbrev pub joined : List (List ℕ) → List ℕ
joined [] = []
joined (x ∷ xs) = x ++ joined xs

-- ---- folds
-- the bytes of a key's fold
abbrev pub fold_part : List ℕ → ℕ → List ℕ
fold_part t k = take fold_len (drop (folds_at + k * fold_len) t)

abbrev pub same_fold : Version → Version → Bool
same_fold u v = eqb u.stamp.0 v.stamp.0 && eqb u.value v.value

-- the bytes of a version that a key is to have: as they stand where they say it already
unfoldable pub fold_over : List ℕ → ℕ → Version → List ℕ
fold_over t k v = pick (same_fold (fold_in t k) v) (fold_part t k) (fold_bytes v)

-- "Committed ones fold into one version and value per key, the newest"
unfoldable pub new_fold : ℕ → List ℕ → ℕ → List ℕ
new_fold l t k = fold_over t k (fold_up_to l (entries_of t) (folds_of t) k)

unfoldable pub new_folds : ℕ → List ℕ → List ℕ
new_folds l t = joined (tab (new_fold l t) 0 512)

-- ---- rows
abbrev pub rows_of : List ℕ → List (List ℕ)
rows_of t = tab (row_at (drop head_len t)) 0 (count_of t)

-- "those and the aborted ones are dropped .., the rest staying in order": the rows whose stamp is above l
unfoldable pub rows_above : ℕ → List (List ℕ) → List (List ℕ)
rows_above l [] = []
rows_above l (r ∷ rs) = pick (up_to l (entry_of r)) (rows_above l rs) (r ∷ rows_above l rs)

-- the rows that stay, and behind them what stood there
unfoldable pub new_rows : ℕ → List ℕ → List ℕ
new_rows l t = joined (rows_above l (rows_of t)) ++ drop (length (joined (rows_above l (rows_of t)))) (drop head_len t)

-- "A low mark L may be raised": count, low mark, folds and rows of the table afterwards
unfoldable pub raised : ℕ → List ℕ → List ℕ
raised l t = length (rows_above l (rows_of t)) ∷ (open_bytes 7 l ++ (new_folds l t ++ new_rows l t))
