use Rattle.std.proofs.Common.{arith}
use Rattle.terms.proofs.Checks.{no_refusal}
use Rattle.election.proofs.Hearing.{box_small, heard_joined, heard_other, heard_refused, heard_repeat}
use Rattle.election.proofs.sheet_heard.Goals as goal

pub returns-then-is_err : goal.returns-then-is_err
returns-then-is_err c = heard_refused _ _ _ _ _ (cc)

pub returns-then-view-s : goal.returns-then-view-s
returns-then-view-s c = heard_other _ _ _ _ (no_refusal _ (cc)) _ c.if-view-s.true

pub on_sheet-requires : goal.on_sheet-requires
on_sheet-requires c = omega (arith, (box_small c.args.s c.args.f c.args.number c.args.answer (no_refusal _ (cc))).0)

pub returns-then-on_sheet : goal.returns-then-on_sheet
returns-then-on_sheet c = heard_repeat _ _ _ _ (no_refusal _ (cc)) _ (cc) (cc)

pub join-requires : goal.join-requires
join-requires c = (omega (arith, (box_small c.args.s c.args.f c.args.number c.args.answer (no_refusal _ (cc))).0), cc)

pub returns : goal.returns
returns c = heard_joined _ _ _ _ (no_refusal _ (cc)) _ (cc) _ (cc) (cc)
