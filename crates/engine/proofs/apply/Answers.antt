use Prim.Native.Nat.{◌≤◌}
use lib.ListN.{length}
use Rattle.records.specs.Cutting.{tx_part}
use native.Mathlib.Omega.{arith}
use Rattle.engine.proofs.Raised.{body_small}
use mathlib.Core.Path.{refl}
use Rattle.engine.proofs.apply.Goals as goal

pub tx_part_of-requires : goal.tx_part_of-requires
tx_part_of-requires c = let h = rw c.in-Put.is at c.requires in (h.2, h.3)

pub store-requires : goal.store-requires
store-requires c = let h = rw c.in-Put.is at c.requires in (h.0, h.1, rw c.tx_part_of.ensures.0 (let w : length (tx_part c.args.m.now) ≤ 172 = body_small c.args.m.now h.3 in omega arith))

pub raise-requires : goal.raise-requires
raise-requires c = rw c.in-Raise.is at c.requires

pub returns-in-Put : goal.returns-in-Put
returns-in-Put c = rw c.in-Put.is (refl, (rw c.tx_part_of.ensures.0 at c.store.ensures), refl)

pub returns-in-Raise : goal.returns-in-Raise
returns-in-Raise c = rw c.in-Raise.is (refl, refl, c.raise.ensures)
