-- What the thresholds are for. Two sets of boxes that come to more than n + f answers share a sound box, since at most f are faulty.
use Rattle.std.specs.Prelude.{ℕ, ◌+◌, ◌*◌, ◌≤◌, ◌<◌}
use Rattle.terms.specs.Group.{boxes, log_proof}
use Rattle.rules.specs.Answers.{Decision, abort, commit, logs, votes}
use Rattle.rules.specs.Lists.{for_logging, for_proof}

-- A5: "exactly 4f + 1 election answers .. carries their majority": more than half of them are at least so many
abbrev pub majority : ℕ → ℕ
majority f = 2 * f + 1

pub record Quorums (f : ℕ) : Type 0 where
  -- a commit proof and an abort proof from votes
  pub both_voted : boxes f + f < for_proof f votes commit + for_proof f votes abort
  -- a commit proof from votes and an abort list behind a log
  pub abort_logged : boxes f + f < for_proof f votes commit + for_logging f abort
  -- a commit list behind a log and an abort proof from votes
  pub commit_logged : boxes f + f < for_logging f commit + for_proof f votes abort
  -- two proofs from logs, of one view
  pub both_logged : boxes f + f < for_proof f logs commit + for_proof f logs abort
  -- the votes behind any two commits: as many as a list for logging has, and a commit proof has as many
  pub two_commits : boxes f + f < for_logging f commit + for_logging f commit
  pub proof_lists : for_logging f commit ≤ for_proof f votes commit
  -- a sound box is behind each log proof, and behind each commit
  pub log_sound : (d : Decision) → f < for_proof f logs d
  pub commit_sound : f < for_logging f commit
  -- A5: what is more than half of 4f + 1; with 4f + 1 logs of a view it shares a sound box, and a sound box is behind it
  pub more_than_half : (k : ℕ) → log_proof f < 2 * k → majority f ≤ k
  pub logs_elect : (d : Decision) → boxes f + f < for_proof f logs d + majority f
  pub elect_sound : f < majority f

-- "Prove threshold facts once for all f, not per f."
abbrev pub EveryQuorum : Type 0
EveryQuorum = (f : ℕ) → Quorums f
