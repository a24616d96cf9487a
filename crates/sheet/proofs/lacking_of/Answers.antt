use Rattle.sheet.proofs.Sheets.{lacking_votes, lacking_logs}
use Rattle.sheet.proofs.lacking_of.Goals as goal

pub returns-then-s-eq1 : goal.returns-then-s-eq1
returns-then-s-eq1 c = lacking_votes _ _ _ (cc) (cc)

pub returns : goal.returns
returns c = lacking_logs _ _ _ c.if-s-eq1.false (cc)
