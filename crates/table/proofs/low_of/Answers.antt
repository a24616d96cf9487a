use Rattle.table.specs.Table.{low_of}
use borrow.Author.Rules.{rules}
use Rattle.table.proofs.low_of.Goals as goal

pub returns : goal.returns
unfolding low_of
returns c = search rules
