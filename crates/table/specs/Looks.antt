-- One look at a row, in front of the check that gives 16: its codes and counts as one number.
use Rattle.std.specs.Prelude.{ℕ, ◌+◌, List, [], ◌∷◌, Bool, eqb, get_or}
use Rattle.std.specs.Int.Bits.{bit_or, bit_and}
use Rattle.records.specs.Numbers.{le_val}
use Rattle.records.specs.Tx.{r_count, w_count}
use Rattle.table.specs.Table.{vote_at, reason_at, decided_at, log_at, row_tx}

-- the bytes that are looked at: vote, reason, decision, log, r, w
abbrev pub looked : List ℕ → List ℕ
looked r = get_or r vote_at 0 ∷ get_or r reason_at 0 ∷ get_or r decided_at 0 ∷ get_or r log_at 0 ∷ r_count (row_tx r) ∷ w_count (row_tx r) ∷ []

-- 15 less what each is at most in a plain row: vote 1 (commit), no reason, decision and log 2, r and w 8
abbrev pub raises : List ℕ
raises = 14 ∷ 15 ∷ 13 ∷ 13 ∷ 7 ∷ 7 ∷ []

-- the upper half of each byte
abbrev pub highs : List ℕ
highs = 240 ∷ 240 ∷ 240 ∷ 240 ∷ 240 ∷ 240 ∷ []

-- a look is plain where no byte has a bit of its upper half, neither as it stands nor raised
unfoldable pub plain : ℕ → Bool
plain x = eqb (bit_and (bit_or x (x + le_val raises)) (le_val highs)) 0
