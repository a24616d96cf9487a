-- The pass over the rows that raises the low mark: what each write, each row and each entry does to the table's bytes.
use Rattle.std.specs.Prelude.{ℕ, ◌+◌, ◌*◌, ◌≤◌, List, [], ◌∷◌, ◌++◌, ltb, length, take, drop}
use Rattle.terms.specs.Choice.{pick}
use Rattle.records.specs.declared.Write.{Write}
use Rattle.records.specs.Tx.{write_key, write_value}
use Rattle.rules.specs.declared.Version.{Version}
use Rattle.rules.specs.Bodies.{stamp_of, writes_of}
use Rattle.rules.specs.Table.{Entry}
use Rattle.rules.specs.Calls.{is_committed}
use Rattle.rules.specs.Low.{up_to}
use Rattle.table.specs.Table.{entry_at, fold_in, fold_len, folds_at, head_len, row_at, row_len, row_tx, WfRow}
use Rattle.low.specs.Raising.{fold_bytes}

-- row i of a table is there
abbrev pub RowThere : List ℕ → ℕ → Type 0
RowThere t i = (head_len + i * row_len + row_len ≤ length t) × WfRow (row_at (drop head_len t) i)

-- its TX
abbrev pub tx_at : List ℕ → ℕ → List ℕ
tx_at t i = row_tx (row_at (drop head_len t) i)

-- the table with another fold of a key
abbrev pub put_fold : List ℕ → ℕ → Version → List ℕ
put_fold t k v = take (folds_at + k * fold_len) t ++ (fold_bytes v ++ drop fold_len (drop (folds_at + k * fold_len) t))

-- the version that a write of an entry with stamp s made
abbrev pub version_by : ℕ → Write → Version
version_by s w = record { stamp = record { 0 = s }; value = write_value w }

-- a write folds where its stamp is above the one folded so far; one to a key above 511, which only a lent table can have, is passed over
unfoldable pub fold_write : ℕ → Write → List ℕ → List ℕ
fold_write s w t =
    pick (ltb 511 (write_key w)) t
    (pick (ltb (fold_in t (write_key w)).stamp.0 s) (put_fold t (write_key w) (version_by s w)) t)

-- one after the other
unfoldable pub fold_writes : ℕ → List Write → List ℕ → List ℕ
fold_writes s [] t = t
fold_writes s (w ∷ ws) t = fold_writes s ws (fold_write s w t)

-- "Committed ones fold .. those and the aborted ones are dropped"
unfoldable pub fold_entry : Entry → List ℕ → List ℕ
fold_entry e t = pick (is_committed e.decided) (fold_writes (stamp_of e.body) (writes_of e.body) t) t

-- "the rest staying in order": row i at the free place
unfoldable pub moved : ℕ → ℕ → List ℕ → List ℕ
moved i free t =
    take (head_len + free * row_len) t ++ (row_at (drop head_len t) i ++ drop row_len (drop (head_len + free * row_len) t))

-- what becomes of the table by its row i, and the free place then
unfoldable pub passed : ℕ → ℕ → ℕ → List ℕ → List ℕ
passed l i free t =
    pick (up_to l (entry_at (drop head_len t) i)) (fold_entry (entry_at (drop head_len t) i) t) (moved i free t)

unfoldable pub next_free : ℕ → ℕ → ℕ → List ℕ → ℕ
next_free l i free t = pick (up_to l (entry_at (drop head_len t) i)) free (free + 1)
