-- "TX": its bytes and its value.
use Rattle.std.specs.Prelude.{ℕ, ◌+◌, ◌*◌, ◌-◌, ◌≤◌, List, [], ◌∷◌, ◌++◌, length, get_or, replicate}
use Rattle.terms.specs.Choice.{tab}
use Rattle.records.specs.Numbers.{num_at, le_bytes}
use Rattle.records.specs.declared.Read.{Read}
use Rattle.records.specs.declared.Write.{Write}
use Rattle.records.specs.declared.Transaction.{Transaction}

-- a transaction: "stamp, r reads of key and version, w writes of key and value"
pub record Tx : Type 0 where
  pub stamp : ℕ
  pub reads : List Read
  pub writes : List Write

abbrev pub mark_tx : List ℕ
mark_tx = 84 ∷ 88 ∷ []

-- "read count r, write count w (a byte each)"
abbrev pub r_count : List ℕ → ℕ
r_count s = get_or s 2 0

abbrev pub w_count : List ℕ → ℕ
w_count s = get_or s 3 0

-- "Length 12 + 10(r + w)"
abbrev pub tx_len : List ℕ → ℕ
tx_len s = 12 + 10 * (r_count s + w_count s)

-- "reads of key (2) and version (8)": the j-th of those that begin at p
unfoldable pub read_at : List ℕ → ℕ → ℕ → Read
read_at s p j = record { key = record { 0 = num_at 2 (p + j * 10) s }; version = record { 0 = num_at 8 (p + j * 10 + 2) s } }

-- "writes of key (2) and value (8)"
unfoldable pub write_at : List ℕ → ℕ → ℕ → Write
write_at s p j = record { key = record { 0 = num_at 2 (p + j * 10) s }; value = num_at 8 (p + j * 10 + 2) s }

-- the writes stand behind the reads
abbrev pub writes_from : List ℕ → ℕ
writes_from s = 12 + r_count s * 10

-- what the bytes of a TX say
unfoldable pub tx_of : List ℕ → Tx
tx_of s =
    record {
      stamp = num_at 8 4 s;
      reads = tab (read_at s 12) 0 (r_count s);
      writes = tab (write_at s (writes_from s)) 0 (w_count s);
    }

-- ten bytes for each
abbrev pub flat : {A : Type 0} → (A → ℕ) → (A → ℕ) → List A → List ℕ
flat k v [] = []
flat k v (x ∷ xs) = le_bytes 2 (k x) ++ (le_bytes 8 (v x) ++ flat k v xs)

abbrev pub read_key : Read → ℕ
read_key r = r.key.0

abbrev pub read_version : Read → ℕ
read_version r = r.version.0

abbrev pub write_key : Write → ℕ
write_key w = w.key.0

abbrev pub write_value : Write → ℕ
write_value w = w.value

-- the bytes of a transaction
unfoldable pub tx_bytes : Tx → List ℕ
tx_bytes x =
    mark_tx
    ++ (length x.reads
    ∷ length x.writes
    ∷ (le_bytes 8 x.stamp ++ (flat read_key read_version x.reads ++ flat write_key write_value x.writes)))

-- "a transaction struct holding arrays of eight reads and eight writes with their counts"
abbrev pub zero_read : Read
zero_read = record { key = record { 0 = 0 }; version = record { 0 = 0 } }

abbrev pub zero_write : Write
zero_write = record { key = record { 0 = 0 }; value = 0 }

-- what an array holds at j
abbrev pub reads_in : List Read → ℕ → Read
reads_in a j = get_or a j zero_read

abbrev pub writes_in : List Write → ℕ → Write
writes_in a j = get_or a j zero_write

-- the transaction that a struct holds
unfoldable pub tx_in : Transaction → Tx
tx_in x =
    record {
      stamp = x.stamp.0;
      reads = tab (reads_in x.reads) 0 x.r;
      writes = tab (writes_in x.writes) 0 x.w;
    }

-- n read off by an index, in an array of m, z in the places that are not used
abbrev pub padded : {A : Type 0} → (ℕ → A) → ℕ → ℕ → A → List A
padded f n m z = tab f 0 n ++ replicate (m - n) z

-- a transaction in a struct, zeros in the places that are not used
unfoldable pub held_tx : Tx → Transaction
held_tx x =
    record {
      stamp = record { 0 = x.stamp };
      r = length x.reads;
      w = length x.writes;
      reads = x.reads ++ replicate (8 - length x.reads) zero_read;
      writes = x.writes ++ replicate (8 - length x.writes) zero_write;
    }

-- all of a TX is there, and its counts fit the arrays
abbrev pub TxThere : List ℕ → Type 0
TxThere s = (r_count s ≤ 8) × (w_count s ≤ 8) × (tx_len s ≤ length s)

-- no transaction
unfoldable pub no_tx : Tx
no_tx = record { stamp = 0; reads = []; writes = [] }
