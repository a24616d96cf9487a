use Rattle.replay.proofs.Running.{front_is}
use mathlib.Core.Path.{sym}
use lib.Seq.{length-take-le}
use Rattle.replay.proofs.front_of.Goals as goal

pub slice_bounds-result-end : goal.slice_bounds-result-end
slice_bounds-result-end c = sym (length-take-le _ _ c.record_len.ensures.2)

pub returns : goal.returns
returns c = front_is _ _ c.record_len.ensures
