use Prim.Native.Nat.{◌-◌}
use lib.ListN.{length, length-drop, drop}
use lib.Seq.{take_all}
use Rattle.table.specs.Table.{head_len}
use native.Mathlib.Omega.{arith}
use Rattle.table.proofs.rows.Goals as goal

pub returns : goal.returns
returns c = take_all (length c.args.t.now - head_len) (drop head_len c.args.t.now) (simp length-drop (omega arith))
