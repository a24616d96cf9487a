use lib.ListN.{length-take, length-drop}
use native.Mathlib.Nat.{add-sub_cancel_left}
use native.Mathlib.Omega.{arith}
use Rattle.table.proofs.row.Goals as goal

pub returns : goal.returns
returns c = (simp add-sub_cancel_left, simp (add-sub_cancel_left, length-take, length-drop) (omega arith))
