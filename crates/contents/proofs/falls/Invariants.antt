use Rattle.std.proofs.Common.{◌≡◌, drop}
use Rattle.terms.specs.Choice.{falls}
use Rattle.contents.proofs.falls.Given as goal

abbrev pub invariant-loop-x : goal.invariant-loop-x
invariant-loop-x g l = falls g.T.Placed.place l.lo (drop l.x-index l.listed) ≡ falls g.T.Placed.place 0 l.listed
