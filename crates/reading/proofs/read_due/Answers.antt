use Rattle.terms.proofs.Checks.{chain}
use Rattle.std.proofs.Common.{rules, sym, ◌∙◌}
use Rattle.reading.proofs.Cuts.{group_ok, group_err, early_cut, rd_is, other_has, rd_long, parts_cut}
use Rattle.reading.proofs.Due.{read_chain, rd_contents}
use Rattle.reading.proofs.read_due.Goals as goal

pub returns-in_err-g : goal.returns-in_err-g
unfolding chain
returns-in_err-g c = rw (← read_chain c.args.f c.args.m.now c.args.mark, group_err c.args.f (sym c.of.ensures ∙ c.in_err-g.was)) (search rules)

pub returns-in_err-early_wrong : goal.returns-in_err-early_wrong
unfolding chain
returns-in_err-early_wrong c =
    let p = group_ok c.args.f (sym c.of.ensures ∙ c.in_ok-g.was) in
    rw (← read_chain c.args.f c.args.m.now c.args.mark, p.0, sym c.early_wrong.ensures ∙ c.in_err-early_wrong.was) (search rules)

pub read_rd-requires : goal.read_rd-requires
unfolding chain
read_rd-requires c = rd_long _ (rw (rd_is c.args.mark c.eq.ensures c.if-eq.true) at (early_cut _ _ (sym c.early_wrong.ensures ∙ c.in_ok-early_wrong.was)))

pub returns-then-eq : goal.returns-then-eq
unfolding chain
returns-then-eq c =
    let p = group_ok c.args.f (sym c.of.ensures ∙ c.in_ok-g.was) in
    rw (← read_chain c.args.f c.args.m.now c.args.mark, p.0, sym c.early_wrong.ensures ∙ c.in_ok-early_wrong.was)
    (rw (rd_is c.args.mark c.eq.ensures c.if-eq.true, ← rd_contents c.args.f c.args.m.now) c.read_rd.ensures)

pub read_bodied-requires : goal.read_bodied-requires
unfolding chain
read_bodied-requires c =
    let h = other_has c.args.mark c.eq.ensures c.if-eq.false in
    let q = parts_cut _ c.args.mark h (early_cut _ _ (sym c.early_wrong.ensures ∙ c.in_ok-early_wrong.was)) in
    (h, q.0, q.1, q.2)

pub returns : goal.returns
unfolding chain
returns c =
    let p = group_ok c.args.f (sym c.of.ensures ∙ c.in_ok-g.was) in
    rw (← read_chain c.args.f c.args.m.now c.args.mark, p.0, sym c.early_wrong.ensures ∙ c.in_ok-early_wrong.was) (rw p.1 at c.read_bodied.ensures)
