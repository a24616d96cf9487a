use Rattle.std.proofs.Common.{sym, ◌∙◌}
use Rattle.engine.proofs.Lowered.{low_lent, low_raised, low_stops, low_there}
use Rattle.engine.proofs.raise_low.Goals as goal

pub returns-in-Err : goal.returns-in-Err
returns-in-Err c = low_lent _ _ _ _ (sym c.lent_wrong.ensures ∙ c.in-Err.is)

pub low_wrong-requires : goal.low_wrong-requires
low_wrong-requires c = low_there _ _ (sym c.lent_wrong.ensures ∙ c.in_default.is)

pub returns-in-Err-low_wrong : goal.returns-in-Err-low_wrong
returns-in-Err-low_wrong c = low_stops _ _ _ (sym c.lent_wrong.ensures ∙ c.in_default.is) _ (λ marks. sym (c.low_wrong.ensures marks) ∙ c.in-Err-low_wrong.is)

pub raise-requires : goal.raise-requires
raise-requires c = low_there _ _ (sym c.lent_wrong.ensures ∙ c.in_default.is)

pub returns : goal.returns
returns c = low_raised _ _ _ (sym c.lent_wrong.ensures ∙ c.in_default.is) (λ marks. sym (c.low_wrong.ensures marks) ∙ c.in_default-low_wrong.is) _ c.raise.ensures
