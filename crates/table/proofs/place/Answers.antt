use Prim.Native.Nat.{◌+◌}
use mathlib.Core.Path.{sym, ◌∙◌}
use Rattle.table.proofs.Looking.{place_found, place_go, place_next}
use native.Mathlib.Omega.{arith}
use Rattle.table.proofs.place.Goals as goal

pub returns-then-has_stamp : goal.returns-then-has_stamp
returns-then-has_stamp c = let t = c.args.t.now in (place_found t c.loop-at.invariant (omega arith) (sym c.has_stamp.ensures ∙ c.if-has_stamp.true), omega arith)

pub returns-then-has_stamp-2 : goal.returns-then-has_stamp-2
returns-then-has_stamp-2 c = let t = c.args.t.now in (place_found t (place_go t c.loop-at.invariant (omega arith) (sym c.has_stamp.ensures ∙ c.if-has_stamp.false)) (omega arith) (sym c.has_stamp-in-loop-at.ensures ∙ c.if-has_stamp-2.true), omega arith)

pub returns-then-has_stamp-3 : goal.returns-then-has_stamp-3
returns-then-has_stamp-3 c = let t = c.args.t.now in (place_found t (place_next t (place_go t c.loop-at.invariant (omega arith) (sym c.has_stamp.ensures ∙ c.if-has_stamp.false)) (c.loop-at.at + 2) (omega arith) (sym c.has_stamp-in-loop-at.ensures ∙ c.if-has_stamp-2.false) (omega arith)) (omega arith) (sym c.has_stamp-in-loop-at-2.ensures ∙ c.if-has_stamp-3.true), omega arith)

pub returns-then-has_stamp-4 : goal.returns-then-has_stamp-4
returns-then-has_stamp-4 c = let t = c.args.t.now in (place_found t (place_next t (place_next t (place_go t c.loop-at.invariant (omega arith) (sym c.has_stamp.ensures ∙ c.if-has_stamp.false)) (c.loop-at.at + 2) (omega arith) (sym c.has_stamp-in-loop-at.ensures ∙ c.if-has_stamp-2.false) (omega arith)) (c.loop-at.at + 3) (omega arith) (sym c.has_stamp-in-loop-at-2.ensures ∙ c.if-has_stamp-3.false) (omega arith)) (omega arith) (sym c.has_stamp-in-loop-at-3.ensures ∙ c.if-has_stamp-4.true), omega arith)

pub loop-at-preserved : goal.loop-at-preserved
loop-at-preserved c = let t = c.args.t.now in place_next t (place_next t (place_next t (place_go t c.loop-at.invariant (omega arith) (sym c.has_stamp.ensures ∙ c.if-has_stamp.false)) (c.loop-at.at + 2) (omega arith) (sym c.has_stamp-in-loop-at.ensures ∙ c.if-has_stamp-2.false) (omega arith)) (c.loop-at.at + 3) (omega arith) (sym c.has_stamp-in-loop-at-2.ensures ∙ c.if-has_stamp-3.false) (omega arith)) (c.loop-at.at + 4) (omega arith) (sym c.has_stamp-in-loop-at-3.ensures ∙ c.if-has_stamp-4.false) (omega arith)
