use Rattle.records.specs.Vl.{zero_pair}
use Rattle.sheet.specs.Masks.{has}
use Rattle.sheet.specs.Listing.{listed}
use Rattle.sheet.proofs.Below.{Noted}
use Rattle.sheet.proofs.list_of_mask.Given as goal

abbrev pub invariant-loop-b : goal.invariant-loop-b
invariant-loop-b l = Noted (listed (has l.m) l.answer) zero_pair 26 l.pairs l.count l.b
