use mathlib.Core.Path.{◌∙◌}
use Rattle.std.proofs.Common.{rules}
use Rattle.scans.proofs.Waiting.{by_status, by_status_none, looked_status}
use Rattle.scans.proofs.Held.status.Goals as goal

pub returns : goal.returns
returns c = let k = c.args.p.key.0 in (c.looked_up.ensures.what (by_status k) (by_status_none k) (λ e x r. search rules) ∙ looked_status _ _, c.looked_up.ensures.visited)
