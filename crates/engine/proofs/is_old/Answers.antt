use borrow.Enum.Refused.{opened}
use Rattle.reading.proofs.Due.{tx_due}
use Rattle.engine.proofs.Old.{no_read, old_is}
use Rattle.engine.proofs.is_old.Goals as goal

pub tx_part_of-requires : goal.tx_part_of-requires
tx_part_of-requires c = tx_due _ _ c.args.mark (no_read c.args.mark (opened c.in_default.in_default-own.keys2)) c.requires.1.1

pub returns-in_default : goal.returns-in_default
returns-in_default c = old_is c.args.mark _ _ _ _ _ c.stamp_of.ensures c.tx_part_of.ensures.0 c.low_of.ensures (opened c.in_default.in_default-own.keys2)
