use Rattle.table.proofs.Bodies.{begin_as}
use borrow.Author.Tests.{eq-eqb, ne_eqb}
use Rattle.rules.specs.Bodies.{writes_key, writes_of}
use Rattle.records.specs.Tx.{write_at, tx_of}
use Rattle.terms.proofs.Scans.{found, go}
use native.Mathlib.Omega.{arith}
use Rattle.table.proofs.writes_key.Goals as goal

pub loop-j-init : goal.loop-j-init
unfolding writes_key writes_of tx_of
loop-j-init c = begin_as (rw (c.wide.ensures.0, c.wide-j-end.ensures.0))

pub returns-then-u16_at-k : goal.returns-then-u16_at-k
unfolding write_at
returns-then-u16_at-k c = found c.loop-j.invariant (omega arith) (rw (← c.u16_at.ensures) (eq-eqb _ _ c.if-u16_at-k.true))

pub loop-j-preserved : goal.loop-j-preserved
unfolding write_at
loop-j-preserved c = go c.loop-j.invariant (omega arith) (rw (← c.u16_at.ensures) (ne_eqb _ _ c.if-u16_at-k.false))
