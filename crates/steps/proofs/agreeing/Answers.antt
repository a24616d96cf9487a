use Rattle.std.proofs.Common.{◌≡◌, ◌≤◌, ◌∙◌, sym, ap, List, length, map, take, count_by, rules}
use Rattle.std.proofs.iter.runs.Made.{chains}
use lib.Dec.{eqb}
use Rattle.records.specs.declared.Ballot.{Ballot}
use Rattle.records.specs.declared.ViewMark.TheVariants.{EL}
use Rattle.records.specs.Views.{ballot_pair}
use Rattle.rules.specs.Lists.{tally}
use Rattle.steps.proofs.Tallying.{agree_counts, counted_small, views_taken}
use Rattle.steps.proofs.agreeing.Goals as goal

pub returns : goal.returns
returns c =
    let l = c.args.l in
    let n : l.count ≤ length l.ballots = search rules in
    let e : c.count.result ≡ count_by (λ b. eqb b.answer l.decision) (take l.count l.ballots) = search (rules, chains) in
    (e ∙ agree_counts l.decision _ ∙ ap (λ (x : List Ballot). tally l.decision (map ballot_pair x)) (sym (views_taken l n EL)), rw e (counted_small _ _ _ c.requires))
