use mathlib.Core.Path.{sym, ◌∙◌}
use Rattle.steps.proofs.Entries.{dc_full, dc_room}
use Rattle.steps.proofs.dc_unheld.Goals as goal

pub returns-then-is_full : goal.returns-then-is_full
returns-then-is_full c x b k = c.refuse.ensures ∙ dc_full _ _ x b _ _ k (sym c.is_full.ensures ∙ c.if-is_full.true)

pub returns : goal.returns
returns c x b k = c.dc_new.ensures b ∙ dc_room _ _ x b _ _ k (sym c.is_full.ensures ∙ c.if-is_full.false)
