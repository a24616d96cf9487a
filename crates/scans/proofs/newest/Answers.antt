use Rattle.scans.proofs.newest.Goals as goal

pub returns : goal.returns
returns c = rw (← c.no_version.ensures) c.newest_or.ensures
