use Rattle.records.specs.Vl.{view_of}
use Rattle.sheet.proofs.empty.Goals as goal

pub returns-in-Votes : goal.returns-in-Votes
unfolding view_of
returns-in-Votes c = rw c.in-Votes.is

pub returns-in-Logs : goal.returns-in-Logs
unfolding view_of
returns-in-Logs c = rw c.in-Logs.is
