use Rattle.std.proofs.Common.{rules}
use Rattle.scans.proofs.Naming.{named_none}
use Rattle.scans.specs.Scans.{named_by}
use Rattle.scans.proofs.Held.named.Goals as goal

pub returns : goal.returns
returns c = let k = c.args.p.key.0 in (c.looked_up.ensures.what (named_by k) (named_none k) (λ e x r. search rules), c.looked_up.ensures.visited)
