use Rattle.terms.specs.Choice.{any}
use Rattle.terms.proofs.Scans.{Rest}
use Rattle.sheet.specs.Sheets.{twice, numbers}
use Rattle.sheet.proofs.both.Given as goal

abbrev pub invariant-loop-b : goal.invariant-loop-b
invariant-loop-b l = Rest (twice l.s) (λ x. x) l.n (any (twice l.s) (numbers l.n)) l.b
