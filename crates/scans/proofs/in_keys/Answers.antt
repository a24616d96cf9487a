use Rattle.scans.specs.Keys.{in_keys}
use borrow.Author.Rules.{rules}
use Rattle.scans.proofs.in_keys.Goals as goal

pub returns : goal.returns
unfolding in_keys
returns c = search rules
