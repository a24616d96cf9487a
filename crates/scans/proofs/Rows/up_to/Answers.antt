use Rattle.std.proofs.Common.{sym, ◌∙◌, arith}
use Rattle.scans.proofs.Visits.{pass_begin, pass_found, pass_go, pass_end}
use Rattle.scans.proofs.Rows.up_to.Goals as goal

pub loop-i-init : goal.loop-i-init
loop-i-init g c = λ P k. pass_begin

pub returns-then-passes : goal.returns-then-passes
returns-then-passes g c = λ P k. pass_found (c.loop-i.invariant P k) (omega arith) (rw (← c.row.ensures) (sym (k _ _ c.passes.ensures) ∙ c.if-passes.true))

pub loop-i-preserved : goal.loop-i-preserved
loop-i-preserved g c = λ P k. pass_go (c.loop-i.invariant P k) (omega arith) (rw (← c.row.ensures) (sym (k _ _ c.passes.ensures) ∙ c.if-passes.false))

pub returns : goal.returns
returns g c = λ P k. (pass_end (c.loop-i.invariant P k) (omega arith)).0
