use mathlib.Core.Path.{ap}
use Rattle.records.specs.Views.{ballot_len, ballot_from}
use Rattle.records.proofs.Held.{ballot_wide}
use native.Mathlib.Omega.{arith}
use Rattle.records.proofs.ballot_from.Goals as goal

pub bounds-s-p : goal.bounds-s-p
bounds-s-p c = omega (arith, ballot_wide c.args.k)

pub u16_at-requires : goal.u16_at-requires
u16_at-requires c = omega (arith, ap ballot_len c.in-VS.is)

pub bounds-s-p-in-EL : goal.bounds-s-p-in-EL
bounds-s-p-in-EL c = omega (arith, ap ballot_len c.in-EL.is)

pub u16_at-requires-in-EL : goal.u16_at-requires-in-EL
u16_at-requires-in-EL c = omega (arith, ap ballot_len c.in-EL.is)

pub returns-in-VS : goal.returns-in-VS
unfolding ballot_from
returns-in-VS c = rw (c.in-VS.is, c.u16_at.ensures)

pub returns-in-EL : goal.returns-in-EL
unfolding ballot_from
returns-in-EL c = rw (c.in-EL.is, c.u16_at-in-EL.ensures)
