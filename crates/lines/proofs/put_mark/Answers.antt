use mathlib.Core.Path.{sym, ◌∙◌}
use Rattle.lines.proofs.Putting.{puts_text}
use Rattle.lines.proofs.Marks.{known_long, mark_known, mark_other}
use native.Mathlib.Omega.{arith}
use lib.Seq.{length-take-le}
use borrow.Author.Rules.{rules}
use Rattle.lines.proofs.put_mark.Goals as goal

pub slice_bounds-put_text-end : goal.slice_bounds-put_text-end
slice_bounds-put_text-end c = sym (length-take-le _ _ (known_long _ (sym c.is_known.ensures ∙ c.if-is_known.true)))

pub put_text-requires : goal.put_text-requires
put_text-requires c = let h = known_long _ (sym c.is_known.ensures ∙ c.if-is_known.true) in search rules

pub returns-then-is_known : goal.returns-then-is_known
returns-then-is_known c =
    let m = mark_known _ (sym c.is_known.ensures ∙ c.if-is_known.true) in
    rw (← m.0) (puts_text c.put_text.ensures m.1)

pub returns : goal.returns
returns c =
    rw (← mark_other _ (sym c.is_known.ensures ∙ c.if-is_known.false)) (puts_text c.put_text-2.ensures (omega arith))
