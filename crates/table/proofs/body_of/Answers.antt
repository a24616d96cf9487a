use Prim.Native.Nat.{◌≤◌}
use lib.ListN.{length, length-take}
use Rattle.records.specs.Tx.{tx_len}
use Rattle.table.specs.Table.{row_body, entry_with, entry_of}
use native.Mathlib.Omega.{arith}
use Rattle.table.proofs.body_of.Goals as goal

pub slice_bounds-result-end : goal.slice_bounds-result-end
slice_bounds-result-end c = let l : tx_len c.tx_of-s.result.now ≤ length c.tx_of-s.result.now = c.tx_of-s.ensures.1.2 in simp length-take (omega arith)

pub returns : goal.returns
unfolding entry_of entry_with row_body
returns c = rw (c.tx_len.ensures, c.tx_of-s.ensures.0)
