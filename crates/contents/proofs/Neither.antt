-- Neither a read nor a write: no sum is made, which could wrap.
use Rattle.std.proofs.Common.{ℕ, zero, suc, ◌+◌, ◌≡◌, eqb, ◌&&◌, zero-add, ne_eqb, arith}

pub neither : (r w : ℕ) → (eqb r 0 && eqb w 0) ≡ eqb (r + w) 0
neither zero w = rw zero-add
neither (suc r) w = rw (ne_eqb (suc r) 0 (λ (e : suc r ≡ 0). omega arith), ne_eqb (suc r + w) 0 (λ (e : suc r + w ≡ 0). omega arith))
