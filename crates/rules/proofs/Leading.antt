-- Laws of a view's leader: the rest of the stamp stands in the stamp's place.
use Prim.Native.Nat.{ℕ, ◌+◌, ◌*◌, ◌%◌, ◌<◌}
use native.Mathlib.Omega.{arith}
use native.Mathlib.Nat.{add-mod-mod, mod-lt}
use mathlib.Core.Path.{◌≡◌}
use Rattle.terms.specs.Group.{boxes}
use Rattle.rules.specs.Fallback.{leader_of}

pub leader_rest : (f v s : ℕ) → (v + s % boxes f) % boxes f ≡ leader_of f v s
unfolding leader_of
leader_rest f v s = add-mod-mod v s (boxes f)

-- a leader is a box
pub leader_box : (f v s : ℕ) → leader_of f v s < boxes f
unfolding leader_of
leader_box f v s = mod-lt (v + s) (omega arith)

-- what a rest of a box's number is below
pub rest_small : (f x n : ℕ) → n ≡ boxes f → x % n < 5 * f + 1
rest_small f x n e = rw e (mod-lt x (omega arith))
