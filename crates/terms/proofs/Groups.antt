-- Laws of a group, of a capacity, and of their refusal.
use Rattle.std.proofs.Common.{ℕ, ◌≤◌, ◌≡◌}
use Rattle.terms.specs.Checks.{passed}
use Rattle.terms.specs.Group.{group_wrong, largest_f, capacity_wrong, largest_capacity}
use Rattle.terms.proofs.Checks.{first_none, rest_none, not_less}

pub group_small : (f : ℕ) → group_wrong f ≡ passed → (1 ≤ f) × (f ≤ largest_f)
unfolding group_wrong
group_small f z = (not_less _ _ _ (first_none _ _ z), not_less _ _ _ (rest_none _ _ z))

pub capacity_small : (capacity : ℕ) → capacity_wrong capacity ≡ passed → capacity ≤ largest_capacity
unfolding capacity_wrong
capacity_small capacity e = not_less _ _ _ (rest_none _ _ e)
