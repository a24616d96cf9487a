use Rattle.std.proofs.Common.{◌∙◌}
use Rattle.records.proofs.Bytes.{number_2}
use Rattle.records.proofs.u16_at.Goals as goal

pub returns : goal.returns
returns c = c.from_le_bytes.ensures ∙ number_2 _ _ _ c.requires (rw c.unwrap.ensures at c.try_into.ensures.1)
