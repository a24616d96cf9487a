use Rattle.std.proofs.Common.{arith}
use Rattle.terms.proofs.Checks.{no_refusal}
use Rattle.sheet.proofs.Sheets.{small_box, after_refused, after_repeat, after_joined}
use Rattle.sheet.proofs.added.Goals as goal

pub returns-then-is_err : goal.returns-then-is_err
returns-then-is_err c = after_refused _ _ _ _ (cc)

pub on_sheet-requires : goal.on_sheet-requires
on_sheet-requires c = omega (arith, (small_box c.args.s c.args.f c.args.number c.args.answer (no_refusal _ (cc))).0)

pub returns-then-on_sheet : goal.returns-then-on_sheet
returns-then-on_sheet c = after_repeat _ _ _ _ (no_refusal _ (cc)) (cc)

pub join-requires : goal.join-requires
join-requires c = (omega (arith, (small_box c.args.s c.args.f c.args.number c.args.answer (no_refusal _ (cc))).0), cc)

pub returns : goal.returns
returns c = after_joined _ _ _ _ (no_refusal _ (cc)) _ (cc) (cc)
