use mathlib.Core.Path.{sym, ◌∙◌}
use Rattle.replay.proofs.Turns.{turn_ck, turn_low, turn_message}
use Rattle.replay.proofs.turn.Goals as goal

pub returns-then-is_mark : goal.returns-then-is_mark
returns-then-is_mark c = turn_ck _ _ _ (sym c.is_mark.ensures ∙ c.if-is_mark.true)

pub returns-then-is_mark-2 : goal.returns-then-is_mark-2
returns-then-is_mark-2 c = turn_low _ _ _ (sym c.is_mark.ensures ∙ c.if-is_mark.false) (sym c.is_mark-else-is_mark.ensures ∙ c.if-is_mark-2.true) _ c.u64_at.ensures _ _ c.raise_low.ensures.0 c.raise_low.ensures.1

pub returns-else-is_mark-2 : goal.returns-else-is_mark-2
returns-else-is_mark-2 c = turn_message _ _ _ (sym c.is_mark.ensures ∙ c.if-is_mark.false) (sym c.is_mark-else-is_mark.ensures ∙ c.if-is_mark-2.false) _ _ _ c.receive.ensures.0 c.receive.ensures.1 c.receive.ensures.2
