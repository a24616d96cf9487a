-- "Little-endian": numbers in any count of bytes.
use Rattle.std.specs.Prelude.{ℕ, zero, suc, ◌+◌, ◌*◌, ◌/◌, ◌%◌, List, [], ◌∷◌, take, drop}

-- the number that bytes say
abbrev pub le_val : List ℕ → ℕ
le_val [] = 0
le_val (b ∷ bs) = b + 256 * le_val bs

-- a number in n bytes
abbrev pub le_bytes : ℕ → ℕ → List ℕ
le_bytes zero x = []
le_bytes (suc n) x = x % 256 ∷ le_bytes n (x / 256)

-- the number that the n bytes from p on say
unfoldable pub num_at : ℕ → ℕ → List ℕ → ℕ
num_at n p s = le_val (take n (drop p s))
