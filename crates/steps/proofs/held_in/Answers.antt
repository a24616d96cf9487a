use mathlib.Core.Path.{sym, ◌∙◌}
use Rattle.steps.proofs.Looking.{held_same, held_other}
use Rattle.steps.proofs.held_in.Goals as goal

pub returns-then-same : goal.returns-then-same
returns-then-same c = held_same _ _ _ c.state_of-state.ensures (sym c.if-same.true ∙ (rw c.body_of.ensures at c.same.ensures))

pub returns-else-same : goal.returns-else-same
returns-else-same c = held_other _ _ _ c.state_of-state.ensures (sym c.if-same.false ∙ (rw c.body_of.ensures at c.same.ensures))
