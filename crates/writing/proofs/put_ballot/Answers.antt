use mathlib.Core.Path.{ap}
use native.Mathlib.Omega.{arith}
use Rattle.records.specs.Views.{ballot_len, ballot_bytes}
use Rattle.writing.proofs.Laid.{puts_then}
use Rattle.writing.proofs.put_ballot.Goals as goal

pub put_byte-at-requires : goal.put_byte-at-requires
put_byte-at-requires c = omega (arith, ap ballot_len c.in-VS.is)

pub put_short-requires : goal.put_short-requires
put_short-requires c = omega (arith, ap ballot_len c.in-VS.is)

pub put_two-at-requires : goal.put_two-at-requires
put_two-at-requires c = omega (arith, ap ballot_len c.in-EL.is)

pub put_short-requires-in-EL : goal.put_short-requires-in-EL
put_short-requires-in-EL c = omega (arith, ap ballot_len c.in-EL.is)

pub returns-in-VS : goal.returns-in-VS
unfolding ballot_bytes
returns-in-VS c = puts_then c.put_byte-at.ensures c.put_short.ensures (rw c.in-VS.is)

pub returns-in-EL : goal.returns-in-EL
unfolding ballot_bytes
returns-in-EL c = puts_then c.put_two-at.ensures c.put_short-in-EL.ensures (rw c.in-EL.is)
