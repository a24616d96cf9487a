use Rattle.sheet.proofs.Reply.values.Goals as goal

pub returns-in-Votes : goal.returns-in-Votes
returns-in-Votes c = rw c.in-Votes.is

pub returns-in-Logs : goal.returns-in-Logs
returns-in-Logs c = rw c.in-Logs.is

pub returns-in-Refused : goal.returns-in-Refused
returns-in-Refused c = rw c.in-Refused.is (cc)
