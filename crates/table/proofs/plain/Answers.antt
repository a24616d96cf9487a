use Rattle.table.specs.Looks.{plain}
use borrow.Author.Rules.{rules}
use Rattle.table.proofs.plain.Goals as goal

pub returns : goal.returns
unfolding plain
returns c = search rules
