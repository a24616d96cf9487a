-- A transaction's body is the TX record's bytes, as they came: what is compared, held and judged.
use Rattle.std.specs.Prelude.{ℕ, Bool, true, false, ◌&&◌, List, [], ◌∷◌, eqb}
use Rattle.terms.specs.Choice.{any}
use Rattle.records.specs.declared.Read.{Read}
use Rattle.records.specs.declared.Write.{Write}
use Rattle.records.specs.Tx.{tx_of, write_key}

-- "the transaction's bytes inside the message .. as they stand"
abbrev pub Body : Type 0
Body = List ℕ

-- "stamp (8 bytes), r reads of key (2) and version (8), w writes of key (2) and value (8)"
unfoldable pub stamp_of : Body → ℕ
stamp_of b = (tx_of b).stamp

unfoldable pub reads_of : Body → List Read
reads_of b = (tx_of b).reads

unfoldable pub writes_of : Body → List Write
writes_of b = (tx_of b).writes

-- "Bodies are compared byte for byte"
unfoldable pub same_body : Body → Body → Bool
same_body [] [] = true
same_body [] (y ∷ ys) = false
same_body (x ∷ xs) [] = false
same_body (x ∷ xs) (y ∷ ys) = eqb x y && same_body xs ys

-- "writing that key"; "a body that lacks the key" does not
unfoldable pub writes_key : Body → ℕ → Bool
writes_key b k = any (λ w. eqb (write_key w) k) (writes_of b)
