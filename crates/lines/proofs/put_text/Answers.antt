use Rattle.std.proofs.Common.{refl}
use Rattle.lines.proofs.Putting.{copied}
use Rattle.lines.proofs.put_text.Goals as goal

pub returns : goal.returns
returns c = (refl, copied c.args.out.now c.args.at c.args.text.now _ c.copy_from_slice.ensures.after)
