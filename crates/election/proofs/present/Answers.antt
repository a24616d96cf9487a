use Rattle.sheet.specs.Masks.{has}
use native.Mathlib.Omega.{arith}
use Rattle.election.specs.Elections.{present}
use Rattle.sheet.specs.Sheets.{counted}
use Rattle.sheet.proofs.Masks.{count_most}
use Rattle.election.proofs.present.Goals as goal

pub overflow_add-result : goal.overflow_add-result
overflow_add-result c = omega (arith, count_most (has c.args.s.commits) c.n-n.result, count_most (has c.args.s.aborts) c.n-n.result)

pub returns : goal.returns
unfolding present counted
returns c = cc
