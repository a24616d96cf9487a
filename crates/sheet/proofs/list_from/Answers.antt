use Rattle.std.proofs.Common.{arith, rules}
use Rattle.records.specs.Vl.{held_list, no_list}
use Rattle.terms.proofs.Checks.{no_refusal}
use Rattle.sheet.proofs.Sheets.{sheet_group}
use Rattle.sheet.proofs.Listed.{list_refused, list_right}
use Rattle.sheet.proofs.list_from.Goals as goal

pub returns-then-is_err : goal.returns-then-is_err
unfolding held_list no_list
returns-then-is_err c = list_refused _ _ _ (cc)

pub overflow_cast-f : goal.overflow_cast-f
overflow_cast-f c = let g = sheet_group c.args.f c.args.s (no_refusal _ (cc)) in search rules

pub list_of_mask-requires : goal.list_of_mask-requires
list_of_mask-requires c = omega (arith, (sheet_group c.args.f c.args.s (no_refusal _ (cc))).1)

pub returns : goal.returns
returns c = list_right _ _ _ _ (no_refusal _ (cc)) (cc)
