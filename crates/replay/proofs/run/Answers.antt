use Rattle.replay.proofs.Running.{rest_ready, run_all}
use Rattle.lines.proofs.Putting.{line_put}
use Rattle.replay.proofs.run.Goals as goal

pub rest-requires : goal.rest-requires
rest-requires c = rest_ready _ c.requires (line_put c.put_line-first.ensures)

pub returns : goal.returns
returns c = run_all _ c.requires.2 (line_put c.put_line-first.ensures) c.rest.ensures
