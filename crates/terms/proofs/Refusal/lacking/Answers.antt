use Rattle.terms.proofs.Refusal.lacking.Goals as goal

pub returns : goal.returns
returns c = rw c.values-told.ensures
