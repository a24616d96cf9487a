use mathlib.Core.Path.{sym, ◌∙◌}
use Rattle.scans.proofs.Naming.{writer_dead, writer_lacks, writer_committed, writer_open}
use Rattle.scans.proofs.Row.named_by.Goals.{else-live-via-then-live+else-writes_key, else-live-via-else-live}
use Rattle.scans.proofs.Row.named_by.Goals as goal

pub returns-then-self-eq1 : goal.returns-then-self-eq1
returns-then-self-eq1 c = let a = c.args in writer_committed a.k.0 a.self.bytes.now (sym c.live.ensures ∙ c.if-live.true) (rw (← c.tx.ensures) (sym c.writes_key.ensures ∙ c.if-writes_key.true)) c.if-self-eq1.true

pub returns-then-writes_key : goal.returns-then-writes_key
returns-then-writes_key c = let a = c.args in writer_open a.k.0 a.self.bytes.now (sym c.live.ensures ∙ c.if-live.true) (rw (← c.tx.ensures) (sym c.writes_key.ensures ∙ c.if-writes_key.true)) c.if-self-eq1.false

pub returns : goal.returns
returns c =
    let a = c.args in
    elim c.else-live.branch [
      | else-live-via-then-live+else-writes_key w ↦ writer_lacks a.k.0 a.self.bytes.now (sym c.live.ensures ∙ w.if-live.true) (rw (← w.tx.ensures) (sym w.writes_key.ensures ∙ w.if-writes_key.false))
      | else-live-via-else-live w ↦ writer_dead a.k.0 a.self.bytes.now (sym c.live.ensures ∙ w.if-live.false)
    ]
