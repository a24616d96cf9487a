-- What a record lists in rising order, judged by its numbers; and its codes.
use Rattle.std.specs.Prelude.{ℕ, Bool, ◌||◌, List, eqb, ltb, leb}
use Rattle.terms.specs.Choice.{any, falls}
use Rattle.terms.specs.Checks.{Check, or_else, when, code, range, order}
use Rattle.terms.specs.Group.{boxes}
use Rattle.records.specs.Contents.{code_wrong}
use Rattle.records.specs.declared.Ballot.{Ballot}

-- "range: .. box number n or more"; "order: .. not strictly rising"
abbrev pub listed_wrong : {A : Type 0} → (A → ℕ) → ℕ → List A → Check
listed_wrong place n xs = or_else (when (any (λ x. leb n (place x)) xs) range) (when (falls place 0 xs) order)

-- "not 1 or 2"
abbrev pub is_odd : ℕ → Bool
is_odd n = eqb n 0 || ltb 2 n

-- "8 (decision, answers), 5 (leader ..)"
abbrev pub led_wrong : ℕ → ℕ → ℕ → List Ballot → Check
led_wrong f decision leader bs =
    or_else (code_wrong decision) (or_else (when (any (λ (b : Ballot). is_odd b.answer) bs) code) (when (leb (boxes f) leader) range))
