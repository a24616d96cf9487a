use mathlib.Core.Path.{sym, ◌∙◌}
use Rattle.std.proofs.Common.{rules, arith}
use Rattle.std.proofs.lemmas.Grind.{common_steps}
use Rattle.rules.specs.Visits.{fails3}
use Rattle.scans.proofs.Held.key_3.Goals as goal

pub returns-then-fold_above : goal.returns-then-fold_above
returns-then-fold_above c = let e = sym c.fold_above.ensures ∙ c.if-fold_above.true in rw e

pub returns : goal.returns
returns c =
    let e = sym c.fold_above.ensures ∙ c.if-fold_above.false in
    let u = c.up_to.ensures (fails3 c.args.b.bytes.now c.args.p) (λ e x r. search rules) in
    rw e (grind (arith, common_steps))
