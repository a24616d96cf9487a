use Rattle.std.proofs.Common.{rules, ◌≡◌, ◌∙◌, eqb}
use Rattle.std.proofs.iter.runs.Made.{chains}
use Rattle.std.specs.List.{count_by}
use Rattle.election.proofs.Gathering.{tallied}
use Rattle.election.proofs.commits_among.Goals as goal

pub returns-clause-tallied : goal.returns-clause-tallied
returns-clause-tallied c = let e : c.count.result ≡ count_by (λ b. eqb b.answer 1) c.args.ballots.now = search (rules, chains) in e ∙ tallied _
