use Rattle.terms.proofs.Checks.{chain}
use Rattle.std.proofs.Common.{rules, sym, ◌∙◌}
use Rattle.records.specs.Messages.{read_views, views_refusal}
use Rattle.reading.proofs.Cuts.{group_ok, group_err}
use Rattle.reading.proofs.Answers.{views_of_told}
use Rattle.reading.proofs.read_views.Goals as goal

pub returns-in_err-g : goal.returns-in_err-g
unfolding read_views views_refusal chain
returns-in_err-g c = rw (group_err c.args.f (sym c.of.ensures ∙ c.in_err-g.was)) (search rules)

pub returns-in_err-views_wrong : goal.returns-in_err-views_wrong
unfolding read_views views_refusal chain
returns-in_err-views_wrong c =
    let p = group_ok c.args.f (sym c.of.ensures ∙ c.in_ok-g.was) in
    let a = sym c.views_cut.ensures ∙ c.in_ok-views_cut.was in
    let b = rw c.views_len.ensures at (sym c.behind_wrong.ensures ∙ c.in_ok-behind_wrong.was) in
    let l = rw (c.views_of-views.ensures.0, views_of_told c.args.k c.args.s.now, p.1) at (sym c.views_wrong.ensures ∙ c.in_err-views_wrong.was) in
    rw (p.0, a, b, l) (search rules)
