use mathlib.Core.Path.{sym, ◌∙◌}
use Rattle.scans.proofs.Written.{next_committed, next_open, next_dead}
use Rattle.scans.proofs.Row.next.Goals as goal

pub returns-then-self-eq1 : goal.returns-then-self-eq1
returns-then-self-eq1 c = let a = c.args in next_committed a.k.0 a.s.0 a.self.bytes.now a.x c.if-self-eq1.true c.newer.ensures

pub returns-then-live : goal.returns-then-live
returns-then-live c = let a = c.args in next_open a.k.0 a.s.0 a.self.bytes.now a.x c.if-self-eq1.false (sym c.live.ensures ∙ c.if-live.true) c.newer-then-live.ensures

pub returns : goal.returns
returns c = let a = c.args in next_dead a.k.0 a.s.0 a.self.bytes.now a.x c.if-self-eq1.false (sym c.live.ensures ∙ c.if-live.false)
