use borrow.Author.Tests.{ne_eqb}
use Rattle.rules.specs.Lists.{kind_of}
use Rattle.steps.proofs.kind_of.Goals as goal

pub returns-in-1 : goal.returns-in-1
unfolding kind_of
returns-in-1 c = rw c.in-1.is

pub returns-in_default : goal.returns-in_default
unfolding kind_of
returns-in_default c = simp (ne_eqb _ _ c.in_default.in_default-own.rest.1)
