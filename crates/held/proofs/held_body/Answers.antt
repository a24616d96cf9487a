use Rattle.std.proofs.Common.{rules, Ok, Err, Some, None, sym}
use Rattle.held.proofs.There.{told_there, part_there}
use Rattle.held.proofs.held_body.Goals as goal

pub overflow_add-result : goal.overflow_add-result
overflow_add-result c = let w = (told_there _ _ _ (Ok (Some c.in-Ok-Some.holding)) (rw (c.in-Ok-Some.is, c.in-Ok-Some.field-0-is) at c.held.ensures)).0 in search rules

pub slice_bounds-result-end : goal.slice_bounds-result-end
slice_bounds-result-end c = let w = (told_there _ _ _ (Ok (Some c.in-Ok-Some.holding)) (rw (c.in-Ok-Some.is, c.in-Ok-Some.field-0-is) at c.held.ensures)).0 in search rules

pub returns-in-Ok-Some : goal.returns-in-Ok-Some
returns-in-Ok-Some c = part_there _ _ _ _ (rw (c.in-Ok-Some.is, c.in-Ok-Some.field-0-is) at c.held.ensures)

pub returns-in-Ok-None : goal.returns-in-Ok-None
returns-in-Ok-None c = sym (told_there _ _ _ (Ok None) (rw (c.in-Ok-None.is, c.in-Ok-None.field-0-is) at c.held.ensures))

pub returns-in-Err : goal.returns-in-Err
returns-in-Err c = sym (told_there _ _ _ (Err _) (rw c.in-Err.is at c.held.ensures))
