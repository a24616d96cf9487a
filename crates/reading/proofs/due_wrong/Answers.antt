use Rattle.terms.proofs.Checks.{chain}
use Rattle.std.proofs.Common.{rules, sym, ◌∙◌}
use Rattle.reading.proofs.Cuts.{group_ok, group_err, early_cut}
use Rattle.reading.proofs.Due.{due_chain}
use Rattle.reading.proofs.due_wrong.Goals as goal

pub returns-in_err-g : goal.returns-in_err-g
unfolding chain
returns-in_err-g c = rw (← due_chain c.args.f c.args.m.now c.args.mark, group_err c.args.f (sym c.of.ensures ∙ c.in_err-g.was)) (search rules)

pub returns-in_err-early_wrong : goal.returns-in_err-early_wrong
unfolding chain
returns-in_err-early_wrong c =
    let p = group_ok c.args.f (sym c.of.ensures ∙ c.in_ok-g.was) in
    rw (← due_chain c.args.f c.args.m.now c.args.mark, p.0, sym c.early_wrong.ensures ∙ c.in_err-early_wrong.was) (search rules)

pub contents_wrong-requires : goal.contents_wrong-requires
unfolding chain
contents_wrong-requires c = early_cut _ _ (sym c.early_wrong.ensures ∙ c.in_ok-early_wrong.was)

pub returns : goal.returns
unfolding chain
returns c =
    let p = group_ok c.args.f (sym c.of.ensures ∙ c.in_ok-g.was) in
    rw (← due_chain c.args.f c.args.m.now c.args.mark, p.0, sym c.early_wrong.ensures ∙ c.in_ok-early_wrong.was) (rw p.1 at c.contents_wrong.ensures)
