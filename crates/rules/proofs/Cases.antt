-- 01's cases 1 to 12 and the further vectors, by computation.
use mathlib.Core.Path.{refl}
use Rattle.rules.specs.Cases.{cases, Twelve}
use Rattle.rules.specs.Vectors.{in_hex, thresholds, lists, orders, reads_both, waitings, helds, missed, lookings, refusals, lents, movings, leadings, further, Further}
use Rattle.rules.specs.Vectors.{storings, Stored}
use Rattle.rules.proofs.Running.{running}

pub twelve : Twelve
unfolding running cases
twelve = refl

pub further_cases : Further
unfolding running further in_hex thresholds lists orders reads_both waitings helds missed lookings refusals lents movings leadings
further_cases = refl

pub stored : Stored
unfolding running storings
stored = refl
