use mathlib.Core.Path.{refl, sym, ◌∙◌}
use Rattle.lines.proofs.Putting.{line_put}
use Rattle.replay.proofs.Running.{running_first, running_end, same_long, running_cut, running_stop, running_more, has_room, fits, gp_long}
use native.Mathlib.Omega.{arith}
use borrow.Author.Rules.{rules}
use Rattle.replay.proofs.rest.Goals as goal

pub loop-at-init : goal.loop-at-init
loop-at-init c = (running_first c.requires, refl)

pub put_line-requires : goal.put_line-requires
put_line-requires c = has_room c.loop-at.invariant.0 c.loop-at-test.true

pub shape_of-table-in-Err : goal.shape_of-table-in-Err
shape_of-table-in-Err c = c.loop-at.invariant.1

pub shape_of-out-in-Err : goal.shape_of-out-in-Err
shape_of-out-in-Err c = same_long c.loop-at.invariant.0 (running_cut c.loop-at.invariant.0 c.loop-at-test.true _ c.behind-s.ensures _ c.record_cut.ensures _ _ _ c.in-Err.is c.refused.ensures (line_put c.put_line.ensures))

pub returns-in-Err : goal.returns-in-Err
returns-in-Err c = running_cut c.loop-at.invariant.0 c.loop-at-test.true _ c.behind-s.ensures _ c.record_cut.ensures _ _ _ c.in-Err.is c.refused.ensures (line_put c.put_line.ensures)

pub front_of-m-requires : goal.front_of-m-requires
front_of-m-requires c = sym c.record_cut.ensures ∙ c.in_default.is

pub told_of-requires : goal.told_of-requires
told_of-requires c = gp_long _ c.requires.0

pub turn-said-requires : goal.turn-said-requires
turn-said-requires c = let a = c.front_of-m.ensures.2 in omega arith

pub put_line-n-requires : goal.put_line-n-requires
put_line-n-requires c = has_room c.loop-at.invariant.0 c.loop-at-test.true

pub shape_of-out-then-stops : goal.shape_of-out-then-stops
shape_of-out-then-stops c = same_long c.loop-at.invariant.0 (running_stop c.loop-at.invariant.0 c.loop-at-test.true _ c.behind-s.ensures _ c.record_cut.ensures c.in_default.is _ c.front_of-m.ensures _ c.told_of.ensures _ c.turn-said.ensures.0 _ _ (line_put c.put_line-n.ensures) (sym c.stops.ensures ∙ c.if-stops.true))

pub returns-then-stops : goal.returns-then-stops
returns-then-stops c = running_stop c.loop-at.invariant.0 c.loop-at-test.true _ c.behind-s.ensures _ c.record_cut.ensures c.in_default.is _ c.front_of-m.ensures _ c.told_of.ensures _ c.turn-said.ensures.0 _ _ (line_put c.put_line-n.ensures) (sym c.stops.ensures ∙ c.if-stops.true)

pub clock_next-clock-requires : goal.clock_next-clock-requires
clock_next-clock-requires c = c.front_of-m.ensures.2

pub overflow_add-at : goal.overflow_add-at
overflow_add-at c = let h = fits c.loop-at.invariant.0 c.loop-at-test.true _ c.behind-s.ensures _ c.record_cut.ensures c.in_default.is _ c.front_of-m.ensures _ c.told_of.ensures _ c.turn-said.ensures.0 _ _ (line_put c.put_line-n.ensures) in let f = c.loop-at.invariant.0.few in omega arith

pub overflow_add-number : goal.overflow_add-number
overflow_add-number c = let a = c.loop-at.invariant.0.counted in let b = c.loop-at.invariant.0.within in let f = c.loop-at.invariant.0.few in omega arith

pub loop-at-smaller : goal.loop-at-smaller
loop-at-smaller c = let a = c.front_of-m.ensures.2 in let b = c.loop-at-test.true in omega arith

pub loop-at-preserved : goal.loop-at-preserved
loop-at-preserved c = (running_more c.loop-at.invariant.0 c.loop-at-test.true _ c.behind-s.ensures _ c.record_cut.ensures c.in_default.is _ c.front_of-m.ensures _ c.told_of.ensures _ c.turn-said.ensures.0 _ _ (line_put c.put_line-n.ensures) (sym c.stops.ensures ∙ c.if-stops.false) _ _ _ c.clock_next-clock.ensures c.turn-said.ensures.1 c.turn-said.ensures.2, search rules)

pub shape_of-table : goal.shape_of-table
shape_of-table c = c.loop-at.invariant.1

pub shape_of-out : goal.shape_of-out
shape_of-out c = same_long c.loop-at.invariant.0 (running_end c.loop-at.invariant.0 c.loop-at-test.false)

pub returns : goal.returns
returns c = running_end c.loop-at.invariant.0 c.loop-at-test.false
