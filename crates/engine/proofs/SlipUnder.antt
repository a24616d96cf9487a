-- A10 of the entry points, from that of the rules.
use Rattle.rules.specs.Bodies.{stamp_of}
use mathlib.Core.List.{[], ◌++◌}
use Rattle.terms.specs.declared.Decision.TheVariants.{Commit as commit}
use Rattle.rules.specs.System.{given_in}
use Rattle.rules.proofs.Alike.{proof_alike}
use Rattle.rules.proofs.SlipUnder.{nothing_comes_between, nothing_slips_under}
use Rattle.engine.specs.Safety.{gave_by}
use Rattle.engine.specs.SlipUnder.{NothingComesBetweenCalls, NothingSlipsUnderCalls, kept_for}
use Rattle.engine.proofs.Watching.{read_later, shown_later}
use Rattle.engine.proofs.Safety.{shadow}

pub nothing_slips_under_calls : NothingSlipsUnderCalls
nothing_slips_under_calls f faulty few start fresh es later F k s b N P =
    let S = shadow f faulty start fresh (later ++ es) in
    nothing_slips_under f faulty few S.rules [] (S.fair F) k s b
    (record {
      asked = N.asked;
      enough = N.enough;
      answered = λ i z a. S.read i z k s b (read_later (kept_for f start i) i k s b es later (N.answered i z a));
      writes = N.writes;
      below = N.below;
    })
    (proof_alike f faulty (gave_by f start (later ++ es)) (given_in f S.rules) S.said b commit P)

pub nothing_comes_between_calls : NothingComesBetweenCalls
nothing_comes_between_calls f faulty few start fresh es later F k s b N P =
    let S = shadow f faulty start fresh (later ++ es) in
    nothing_comes_between f faulty few S.rules [] (S.fair F) k s b
    (record {
      asked = N.asked;
      enough = N.enough;
      answered = λ i z a. S.shown i z k s (stamp_of b) (shown_later (kept_for f start i) i k s (stamp_of b) es later (N.answered i z a));
      writes = N.writes;
      below = N.below;
    })
    (proof_alike f faulty (gave_by f start (later ++ es)) (given_in f S.rules) S.said b commit P)
