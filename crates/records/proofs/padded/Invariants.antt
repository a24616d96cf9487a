use Rattle.std.proofs.Common.{◌≡◌, ℕ, ◌<◌}
use Rattle.terms.proofs.Scans.{Grown}
use Rattle.records.proofs.padded.Given as goal

abbrev pub invariant-loop-j : goal.invariant-loop-j
invariant-loop-j g l = (f : ℕ → _) → ((k : ℕ) (y : _) → k < l.n → goal.F-post g l.at k y → y ≡ f k) → Grown f l.fn.z l.n l.place-items l.j
