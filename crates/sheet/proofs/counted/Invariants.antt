use Rattle.std.proofs.Common.{◌≡◌, ◌≤◌}
use Rattle.rules.specs.System.{how_many}
use Rattle.sheet.specs.Masks.{has}
use Rattle.sheet.proofs.counted.Given as goal

abbrev pub invariant-loop-b : goal.invariant-loop-b
invariant-loop-b l = (l.boxes ≤ l.b) × (l.boxes ≡ how_many (has l.m) l.b)
