use Rattle.steps.proofs.Tallying.{by_logs_lem}
use mathlib.Core.Path.{◌∙◌}
use Rattle.steps.proofs.proof_need.Goals as goal

pub returns-in-Commit : goal.returns-in-Commit
returns-in-Commit c = rw (c.in-Votes.is, c.in-Commit.is) c.commit_proof.ensures

pub returns-in-Abort : goal.returns-in-Abort
returns-in-Abort c = rw (c.in-Votes.is, c.in-Abort.is) c.abort_proof.ensures

pub returns-in-Logs : goal.returns-in-Logs
returns-in-Logs c = c.log_proof.ensures ∙ by_logs_lem _ _ _ c.in-Logs.is
