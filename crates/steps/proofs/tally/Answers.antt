use Rattle.std.proofs.Common.{◌≡◌, ◌≤◌, ◌∙◌, sym, ap, length, take, count_by, rules}
use Rattle.std.proofs.iter.runs.Made.{chains}
use lib.Dec.{eqb}
use Rattle.records.specs.Vl.{list_in}
use Rattle.rules.specs.Lists.{tally}
use Rattle.steps.proofs.Tallying.{counted_small, pairs_taken, tally_counts}
use Rattle.steps.proofs.tally.Goals as goal

pub returns : goal.returns
unfolding list_in
returns c =
    let l = c.args.l in
    let n : l.count ≤ length l.pairs = search rules in
    let e : c.count.result ≡ count_by (λ p. eqb p.answer l.decision) (take l.count l.pairs) = search (rules, chains) in
    (e ∙ tally_counts l.decision _ ∙ ap (tally l.decision) (sym (pairs_taken l n)), rw e (counted_small _ _ _ c.requires))
