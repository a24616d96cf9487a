use Rattle.terms.proofs.Checks.{chain}
use Rattle.std.proofs.Common.{rules, sym, ◌∙◌}
use Rattle.records.specs.Messages.{contents_wrong}
use Rattle.reading.proofs.Cuts.{or_err}
use Rattle.reading.proofs.Due.{contents_by}
use Rattle.reading.proofs.Answers.{tx_ok, list_told, views_told}
use Rattle.reading.proofs.read_bodied.Goals as goal

pub returns-in_default : goal.returns-in_default
unfolding chain
returns-in_default c = rw (← contents_by c.args.g.f c.args.m.now c.args.mark c.requires.0, or_err _ _ (sym c.tx_behind-reading.ensures ∙ c.unwrap_err.ensures)) c.refused.ensures

pub returns-in_err-log_list_wrong-in-LG : goal.returns-in_err-log_list_wrong-in-LG
unfolding contents_wrong chain
returns-in_err-log_list_wrong-in-LG c =
    let t = tx_ok c.args.m.now (sym c.tx_behind-reading.ensures ∙ c.in-Ok.is) in
    let l = rw (c.list_behind-list.ensures.0, list_told c.args.m.now) at (sym c.log_list_wrong.ensures ∙ c.in_err-log_list_wrong-in-LG.was) in
    rw (c.in-LG.is, t, l) (search rules)

pub returns-in_err-list_wrong-in-DC : goal.returns-in_err-list_wrong-in-DC
unfolding contents_wrong chain
returns-in_err-list_wrong-in-DC c =
    let t = tx_ok c.args.m.now (sym c.tx_behind-reading.ensures ∙ c.in-Ok.is) in
    let l = rw (c.list_behind-list-in-DC.ensures.0, list_told c.args.m.now) at (sym c.list_wrong.ensures ∙ c.in_err-list_wrong-in-DC.was) in
    rw (c.in-DC.is, t, l) (search rules)

pub returns-in_err-views_wrong-in-IV : goal.returns-in_err-views_wrong-in-IV
unfolding contents_wrong chain
returns-in_err-views_wrong-in-IV c =
    let t = tx_ok c.args.m.now (sym c.tx_behind-reading.ensures ∙ c.in-Ok.is) in
    let l = rw (c.views_behind-views.ensures.0, views_told _ c.args.m.now) at (sym c.views_wrong.ensures ∙ c.in_err-views_wrong-in-IV.was) in
    rw (c.in-IV.is, t, l) (search rules)

pub returns-in_err-views_wrong-in-LD : goal.returns-in_err-views_wrong-in-LD
unfolding contents_wrong chain
returns-in_err-views_wrong-in-LD c =
    let t = tx_ok c.args.m.now (sym c.tx_behind-reading.ensures ∙ c.in-Ok.is) in
    let l = rw (c.views_behind-views-in-LD.ensures.0, views_told _ c.args.m.now) at (sym c.views_wrong-in-LD.ensures ∙ c.in_err-views_wrong-in-LD.was) in
    rw (c.in-LD.is, t, l) (search rules)
