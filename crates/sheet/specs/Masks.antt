-- A set of boxes as a mask.
use Rattle.std.specs.Prelude.{ℕ, ◌+◌, ◌/◌, ◌%◌, ◌^◌, Bool, eqb}

-- whether box b is on a mask: its b-th bit
unfoldable pub has : ℕ → ℕ → Bool
has m b = eqb (m / 2 ^ b % 2) 1

-- the mask with a box that is not on it
unfoldable pub with_box : ℕ → ℕ → ℕ
with_box m b = m + 2 ^ b
