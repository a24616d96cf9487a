use Rattle.scans.proofs.Outcomes.{ahead_clock, ahead_delta}
use Rattle.scans.proofs.ahead.Goals as goal

pub returns-then-told-s : goal.returns-then-told-s
returns-then-told-s c = ahead_delta c.args.s.0 c.args.told

pub returns-else-told-s : goal.returns-else-told-s
returns-else-told-s c = ahead_clock c.args.s.0 c.args.told c.if-told-s.false
