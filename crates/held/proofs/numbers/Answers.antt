use Rattle.held.proofs.numbers.Goals as goal

pub returns : goal.returns
returns c = cc
