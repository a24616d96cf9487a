use Rattle.std.proofs.Common.{sym, ◌∙◌, arith}
use Rattle.terms.proofs.Scans.{found, go, end}
use Rattle.records.specs.Tx.{tx_of}
use Rattle.rules.specs.Bodies.{reads_of}
use Rattle.table.proofs.Bodies.{begin_as}
use Rattle.scans.proofs.Body.any_read.Goals as goal

pub loop-j-init : goal.loop-j-init
unfolding reads_of tx_of
loop-j-init g c = λ P k. begin_as (rw c.read_count-j-end.ensures.0)

pub returns-then-passes : goal.returns-then-passes
returns-then-passes g c = λ P k. found (c.loop-j.invariant P k) (omega arith) (rw (← c.read_at.ensures) (sym (k _ _ c.passes.ensures) ∙ c.if-passes.true))

pub loop-j-preserved : goal.loop-j-preserved
loop-j-preserved g c = λ P k. go (c.loop-j.invariant P k) (omega arith) (rw (← c.read_at.ensures) (sym (k _ _ c.passes.ensures) ∙ c.if-passes.false))

pub returns : goal.returns
returns g c = λ P k. end (c.loop-j.invariant P k) (omega arith)
