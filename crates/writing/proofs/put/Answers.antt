use Rattle.std.proofs.Common.{rules}
use Rattle.writing.proofs.Laid.{put_part}
use Rattle.writing.proofs.put.Goals as goal

pub returns : goal.returns
returns g c = put_part c.copy_from_slice.ensures.after (search rules) c.requires
