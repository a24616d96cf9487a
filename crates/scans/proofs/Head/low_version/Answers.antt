use mathlib.Core.Path.{sym, ◌∙◌}
use borrow.Author.Tests.{eqb-true, eqb-false, eq-eqb}
use mathlib.Core.Bool.{false≢true}
use Rattle.table.specs.Table.{folds_of}
use Rattle.scans.proofs.Waiting.{low_fine, low_folded, low_other}
use Rattle.scans.proofs.Head.low_version.Goals.{then-p-eq0, else-p-eq0}
use Rattle.scans.proofs.Head.low_version.Goals as goal

pub returns-then-fold_of-p : goal.returns-then-fold_of-p
returns-then-fold_of-p c = elim c.if-p-eq0.branch [ then-p-eq0 w ↦ low_fine (folds_of c.args.self.bytes.now) c.args.p w.if-p-eq0.true | else-p-eq0 w ↦ low_folded (folds_of c.args.self.bytes.now) c.args.p w.if-p-eq0.false w.fold_of.result w.fold_of.ensures (eqb-true _ _ (sym w.value-is ∙ c.if-fold_of-p.true)) ]

pub returns-else-fold_of-p : goal.returns-else-fold_of-p
returns-else-fold_of-p c = elim c.if-p-eq0.branch [ then-p-eq0 w ↦ absurd (false≢true (sym c.if-fold_of-p.false ∙ w.value-is ∙ eq-eqb _ _ w.if-p-eq0.true)) | else-p-eq0 w ↦ low_other (folds_of c.args.self.bytes.now) c.args.p w.if-p-eq0.false w.fold_of.result w.fold_of.ensures (eqb-false _ _ (sym w.value-is ∙ c.if-fold_of-p.false)) ]
