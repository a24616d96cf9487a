use Rattle.terms.proofs.Checks.{chain}
use Rattle.std.proofs.Common.{rules, sym, ◌∙◌}
use Rattle.records.specs.Messages.{read_vl, vl_refusal}
use Rattle.reading.proofs.Cuts.{group_ok, group_err}
use Rattle.reading.proofs.Answers.{vl_told}
use Rattle.reading.proofs.read_vl.Goals as goal

pub returns-in_err-g : goal.returns-in_err-g
unfolding read_vl vl_refusal chain
returns-in_err-g c = rw (group_err c.args.f (sym c.of.ensures ∙ c.in_err-g.was)) (search rules)

pub returns-in_err-list_wrong : goal.returns-in_err-list_wrong
unfolding read_vl vl_refusal chain
returns-in_err-list_wrong c =
    let p = group_ok c.args.f (sym c.of.ensures ∙ c.in_ok-g.was) in
    let a = sym c.vl_cut.ensures ∙ c.in_ok-vl_cut.was in
    let b = rw c.vl_len.ensures at (sym c.behind_wrong.ensures ∙ c.in_ok-behind_wrong.was) in
    let l = rw (c.list_of-list.ensures.0, vl_told c.args.s.now, p.1) at (sym c.list_wrong.ensures ∙ c.in_err-list_wrong.was) in
    rw (p.0, a, b, l) (search rules)
