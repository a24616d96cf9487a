use Rattle.std.proofs.Common.{◌≤◌, ◌∙◌, sym, ap, length, take, map, List, rules, tests}
use Rattle.std.proofs.lemmas.Iterator.{YieldsList-from_slice, YieldsList-from_map_by}
use Rattle.std.proofs.lemmas.Iterator.Consumers.{YieldsList-at, YieldsList-from_filter, max_from_yields_List}
use lib.Dec.{leb}
use Rattle.records.specs.declared.Ballot.{Ballot}
use Rattle.records.specs.declared.ViewMark.TheVariants.{VS}
use Rattle.records.specs.Views.{own_ballot}
use Rattle.rules.specs.Fallback.{reach, reached}
use Rattle.steps.specs.Step.{found_view}
use Rattle.steps.proofs.Ballots.{reached_top}
use Rattle.steps.proofs.Tallying.{views_taken}
use Rattle.steps.proofs.reached.Goals as goal

pub returns : goal.returns
returns c =
    let l = c.args.l in
    let n : l.count ≤ length l.ballots = search rules in
    let all : List Ballot = map (own_ballot VS) (take l.count l.ballots) in
    max_from_yields_List c.map.result _ c.max.ensures.ran
    (YieldsList-from_map_by _ (λ v. v.0) (λ b. b.view.0)
    (YieldsList-at c.map.ensures.source
    (YieldsList-from_filter _ (λ b. leb c.args.need (reach b.view.0 all)) (YieldsList-from_slice (take l.count l.ballots) cc) c.filter.ensures.closure
    (λ x r q k. search (rules, tests))))
    c.map.ensures.closure
    (λ x r q k. search (rules, tests)))
    ∙ sym (reached_top c.args.need all (take l.count l.ballots))
    ∙ ap (λ (x : List Ballot). found_view (reached c.args.need x x)) (sym (views_taken l n VS))
