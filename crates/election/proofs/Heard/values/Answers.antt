use Rattle.election.proofs.Heard.values.Goals as goal

pub returns-in-Lacking : goal.returns-in-Lacking
returns-in-Lacking c = rw c.in-Lacking.is

pub returns-in-Refused : goal.returns-in-Refused
returns-in-Refused c = rw c.in-Refused.is (cc)
