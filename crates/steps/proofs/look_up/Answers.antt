use Rattle.steps.proofs.Looking.{look_none, look_held}
use Rattle.steps.proofs.look_up.Goals as goal

pub held_in-requires : goal.held_in-requires
held_in-requires c = rw c.row.ensures.0 (c.requires.0.rows c.place-place.result c.if-place-n.true)

pub returns-then-place-n : goal.returns-then-place-n
returns-then-place-n c = (look_held _ _ _ _ (rw c.stamp_of.ensures at c.place-place.ensures.0) c.if-place-n.true _ c.row.ensures.0 _ c.held_in.ensures, c.place-place.ensures.1)

pub returns : goal.returns
returns c = (look_none _ _ _ _ (rw c.stamp_of.ensures at c.place-place.ensures.0) c.if-place-n.false c.place-place.ensures.1, c.place-place.ensures.1)
