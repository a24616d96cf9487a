use Rattle.std.proofs.Common.{sym, ap, ◌∙◌, Ok}
use Rattle.reading.proofs.Due.{other_cut, handed_part, handed_rd, handed_none}
use Rattle.reading.proofs.tx_part.Goals as goal

pub returns-in_default : goal.returns-in_default
returns-in_default c = handed_none _ _ (sym c.read.ensures ∙ c.in_default.is)

pub returns-in-RD : goal.returns-in-RD
returns-in-RD c = handed_rd _ _ (sym c.read.ensures ∙ c.in-Ok.is ∙ ap Ok c.in-RD.is)

pub tx_part_of-requires : goal.tx_part_of-requires
tx_part_of-requires c = other_cut _ _ (sym c.read.ensures ∙ c.in-Ok.is) c.in_default-message.not-RD

pub returns-in_default-message : goal.returns-in_default-message
returns-in_default-message c = c.tx_part_of.ensures.0 ∙ handed_part _ _ (sym c.read.ensures ∙ c.in-Ok.is) c.in_default-message.not-RD
