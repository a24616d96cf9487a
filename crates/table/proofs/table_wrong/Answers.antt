use Rattle.std.proofs.Common.{arith, length-drop, sym, ◌∙◌, ltb-false}
use Rattle.terms.proofs.Checks.{when_none}
use Rattle.table.proofs.table_wrong.Goals as goal

pub any_bad-requires : goal.any_bad-requires
any_bad-requires c =
    let a = ltb-false _ _ (when_none _ _ (sym c.refuse_if.ensures ∙ c.in_ok-refuse_if.was)) in
    let b = ltb-false _ _ (when_none _ _ (sym c.refuse_if-2.ensures ∙ c.in_ok-refuse_if-2.was)) in
    rw c.rows.ensures (simp length-drop (omega arith))
