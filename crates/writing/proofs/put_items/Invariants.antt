use Rattle.std.proofs.Common.{◌≡◌, ℕ, ◌+◌, ◌*◌}
use Rattle.writing.proofs.Laid.{Filling, item}
use Rattle.writing.proofs.put_items.Given as goal

abbrev pub invariant-loop-item : goal.invariant-loop-item
invariant-loop-item g l = record {
  place : l.next ≡ l.at + 10 * l.item-index;
  puts : (k v : _ → ℕ) → ((x : _) (y : ℕ × ℕ) → goal.F-post g l.of x y → y ≡ (k x, v x)) → Filling (item k v) l.items 10 l.at l.initial.s l.s l.next l.item-index;
}
