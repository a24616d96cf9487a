use mathlib.Core.Path.{sym, ◌∙◌}
use Rattle.table.specs.Table.{entries}
use Rattle.scans.proofs.Outcomes.{test3_fold, test3_entries}
use Rattle.scans.proofs.test_3.Goals as goal

pub returns-then-folds_above : goal.returns-then-folds_above
returns-then-folds_above c = let a = c.args in c.if-folds_above.true ∙ test3_fold a.h.now (entries a.t.now a.n) a.b.now (sym c.folds_above.ensures ∙ c.if-folds_above.true)

pub returns-else-folds_above : goal.returns-else-folds_above
returns-else-folds_above c = let a = c.args in test3_entries a.h.now (entries a.t.now a.n) a.b.now (sym c.folds_above.ensures ∙ c.if-folds_above.false) c.entries_3.ensures
