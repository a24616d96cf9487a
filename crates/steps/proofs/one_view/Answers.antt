use Rattle.std.proofs.Common.{◌≤◌, ◌∙◌, ap, sym, length, take, rules, IsTrue, ◌↔◌}
use Rattle.std.specs.List.{AllPass}
use Rattle.std.proofs.iter.runs.Made.{chains}
use lib.Dec.{eqb}
use Rattle.records.specs.declared.ViewMark.TheVariants.{EL}
use Rattle.rules.specs.Fallback.{one_view}
use Rattle.steps.proofs.Tallying.{one_view_told, views_taken}
use Rattle.steps.proofs.one_view.Goals as goal

pub returns : goal.returns
returns c =
    let l = c.args.l in
    let n : l.count ≤ length l.ballots = search rules in
    let e : IsTrue c.all.result ↔ AllPass (λ b. eqb b.view.0 l.view.0) (take l.count l.ballots) = search (rules, chains) in
    one_view_told _ _ _ e ∙ ap (one_view l.view.0) (sym (views_taken l n EL))
