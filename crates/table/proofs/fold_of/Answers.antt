use native.Mathlib.Omega.{arith}
use mathlib.Core.Path.{sym}
use Rattle.table.specs.Table.{fold_in}
use Rattle.table.proofs.Head.{fold_there, fold_past}
use Rattle.table.proofs.fold_of.Goals as goal

pub returns-then-k-gt-LARGEST_KEY : goal.returns-then-k-gt-LARGEST_KEY
returns-then-k-gt-LARGEST_KEY c = sym (fold_past _ _ (omega arith))

pub returns : goal.returns
unfolding fold_in
returns c = rw (c.u64_at.ensures, c.u64_at-2.ensures) (sym (fold_there _ _ (omega arith)))
