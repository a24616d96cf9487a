use Rattle.std.proofs.Common.{rules, arith, ◌∙◌}
use Rattle.terms.proofs.Checks.{chain}
use Rattle.records.specs.declared.ViewMark.TheVariants.{VS}
use Rattle.records.specs.Views.{views_in}
use Rattle.records.specs.Contents.{views_wrong}
use Rattle.contents.proofs.Ballots.{boxes_told, el_wrong}
use Rattle.contents.proofs.views_wrong.Goals as goal

pub returns-in-VS : goal.returns-in-VS
unfolding views_wrong views_in
returns-in-VS c = rw c.in-VS.is (c.boxes_wrong.ensures ∙ boxes_told c.args.l.ballots c.args.l.count (omega arith) VS c.args.g.f)

pub returns-in_err-led_wrong-in-EL : goal.returns-in_err-led_wrong-in-EL
unfolding chain
returns-in_err-led_wrong-in-EL c = rw (c.in-EL.is, ← el_wrong c.args.g.f c.args.l (omega arith)) (search rules)

pub returns-in_ok-led_wrong-in-EL : goal.returns-in_ok-led_wrong-in-EL
unfolding chain
returns-in_ok-led_wrong-in-EL c = rw (c.in-EL.is, ← el_wrong c.args.g.f c.args.l (omega arith)) (search rules)
