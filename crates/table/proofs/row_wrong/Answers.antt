use Rattle.std.proofs.Common.{sym, ◌∙◌}
use Rattle.table.proofs.Looks.{plain_right}
use Rattle.table.proofs.row_wrong.Goals as goal

pub returns-then-plain : goal.returns-then-plain
returns-then-plain c = plain_right _ _ c.look_of.ensures.0 (sym c.plain.ensures ∙ c.if-plain.true)
