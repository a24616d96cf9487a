-- A4: corrections and entries, each "in one transaction".
use Rattle.std.specs.Prelude.{ℕ, ◌-◌, List, [], ◌∷◌, ◌++◌, replicate, Result, Ok}
use Rattle.terms.specs.Checks.{Check, or_else}
use Rattle.terms.specs.declared.Refusal.{Refusal}
use Rattle.records.specs.declared.Read.{Read}
use Rattle.records.specs.declared.Write.{Write}
use Rattle.records.specs.declared.Transaction.{Transaction}
use Rattle.records.specs.Tx.{Tx, held_tx, zero_read, zero_write}
use Rattle.records.specs.Contents.{tx_wrong}
use Rattle.rules.specs.declared.Version.{Version}
use Rattle.passage.specs.declared.Values.{Values}
use Rattle.passage.specs.declared.Seen.{Seen}
use Rattle.passage.specs.Passages.{key_of, values_of, passage_wrong, values_wrong, seen_wrong}

-- "one of the direction writes 1 − direction and the other three as read"
unfoldable pub turned : Values → Values
turned v = record { train = v.train; direction = 1 - v.direction; axles = v.axles; hot = v.hot }

-- the i-th key of a passage, read at the version that stands there, and written
abbrev pub read_of : ℕ → ℕ → Version → Read
read_of p i v = record { key = key_of p i; version = v.stamp }

abbrev pub write_of : ℕ → ℕ → ℕ → Write
write_of p i v = record { key = key_of p i; value = v }

-- "A correction reads and writes all four in one transaction"
abbrev pub passage_reads : ℕ → Seen → List Read
passage_reads p s = read_of p 0 s.train ∷ read_of p 1 s.direction ∷ read_of p 2 s.axles ∷ read_of p 3 s.hot ∷ []

abbrev pub passage_writes : ℕ → Values → List Write
passage_writes p v = write_of p 0 v.train ∷ write_of p 1 v.direction ∷ write_of p 2 v.axles ∷ write_of p 3 v.hot ∷ []

unfoldable pub passage_tx : ℕ → Seen → ℕ → Values → Tx
passage_tx p s stamp v = record { stamp = stamp; reads = passage_reads p s; writes = passage_writes p v }

-- in their arrays of eight
abbrev pub eight_reads : ℕ → Seen → List Read
eight_reads p s = passage_reads p s ++ replicate 4 zero_read

abbrev pub eight_writes : ℕ → Values → List Write
eight_writes p v = passage_writes p v ++ replicate 4 zero_write

-- a transaction, or the refusal
unfoldable pub made_by : Check → Tx → Result Transaction Refusal
made_by c x = or_else c (Ok (held_tx x))

-- what was judged before, then 5, 6, 7 of the new TX
unfoldable pub made_after : Check → Tx → Result Transaction Refusal
made_after c x = made_by (or_else c (tx_wrong x)) x

unfoldable pub direction_corrected : ℕ → Seen → ℕ → Result Transaction Refusal
direction_corrected p s stamp = made_after (seen_wrong p s) (passage_tx p s stamp (turned (values_of s)))

-- a general correction: four new values, judged "after those of what was read"
unfoldable pub corrected : ℕ → Seen → ℕ → Values → Result Transaction Refusal
corrected p s stamp v = made_after (or_else (seen_wrong p s) (values_wrong v)) (passage_tx p s stamp v)

-- an entry: the first one, or a new train at a place used before; the versions that stand there, equal or not, 0 where there is none
unfoldable pub entered : ℕ → Seen → ℕ → Values → Result Transaction Refusal
entered p s stamp v = made_after (or_else (passage_wrong p) (values_wrong v)) (passage_tx p s stamp v)
