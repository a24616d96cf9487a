-- The threshold facts, for every f.
use Prim.Native.Nat.{ℕ, ◌+◌, ◌<◌}
use native.Mathlib.Omega.{arith}
use Rattle.terms.specs.Group.{boxes}
use Rattle.rules.specs.Answers.{Decision, commit, abort, logs}
use Rattle.rules.specs.Lists.{for_proof}
use Rattle.rules.specs.Quorums.{majority, EveryQuorum}

log_sound_lem : (f : ℕ) (d : Decision) → f < for_proof f logs d
log_sound_lem f commit = omega arith
log_sound_lem f abort = omega arith

logs_elect_lem : (f : ℕ) (d : Decision) → boxes f + f < for_proof f logs d + majority f
logs_elect_lem f commit = omega arith
logs_elect_lem f abort = omega arith

pub quorums : EveryQuorum
quorums f = record {
  both_voted = omega arith;
  abort_logged = omega arith;
  commit_logged = omega arith;
  both_logged = omega arith;
  two_commits = omega arith;
  proof_lists = omega arith;
  log_sound = log_sound_lem f;
  commit_sound = omega arith;
  more_than_half = λ k h. omega arith;
  logs_elect = logs_elect_lem f;
  elect_sound = omega arith;
}
