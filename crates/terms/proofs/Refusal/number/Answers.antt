use Rattle.terms.proofs.Refusal.number.Goals as goal

pub returns : goal.returns
returns c = rw c.values-values.ensures
