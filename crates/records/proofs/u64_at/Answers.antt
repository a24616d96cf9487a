use Rattle.std.proofs.Common.{◌∙◌}
use Rattle.records.proofs.Bytes.{number_8}
use Rattle.records.proofs.u64_at.Goals as goal

pub returns : goal.returns
returns c = c.from_le_bytes.ensures ∙ number_8 _ _ _ c.requires (rw c.unwrap.ensures at c.try_into.ensures.1)
