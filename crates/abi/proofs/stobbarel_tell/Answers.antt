use Rattle.std.proofs.Common.{sym, ◌∙◌}
use Rattle.abi.proofs.Telling.{told_taken, told_refused}
use Rattle.abi.proofs.stobbarel_tell.Goals as goal

pub returns-in-Ok : goal.returns-in-Ok
returns-in-Ok c = told_taken _ _ _ _ _ _ (sym c.taller.ensures.0 ∙ c.in-Ok.is)

pub returns-in-Err : goal.returns-in-Err
returns-in-Err c =
    let left = told_refused _ _ _ _ _ _ _ c.taller.ensures.0 c.in-Err.is c.taller.ensures.1 in
    (c.number.ensures ∙ left.0, left.1, left.2)
