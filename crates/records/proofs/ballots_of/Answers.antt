use Rattle.std.proofs.Common.{◌≡◌, ◌+◌, ◌*◌, rules}
use Rattle.records.specs.Views.{ballot_from, ballot_at}
use Rattle.records.proofs.ballots_of.Goals as goal

pub returns : goal.returns
unfolding ballot_at
returns c =
    c.padded.ensures (ballot_at c.args.k c.args.s.now)
    (λ j y h p.
    let e : y ≡ ballot_from c.args.k c.args.s.now (1 + c.count_at.result + c.ballot_len-width.result * j) = search rules in
    rw (c.count_at.ensures.0, c.ballot_len-width.ensures.0) at e)
