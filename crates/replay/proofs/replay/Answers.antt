use Rattle.std.proofs.Common.{sym, ◌∙◌, arith, rules}
use native.Mathlib.Nat.{le_refl}
use Rattle.lines.proofs.Putting.{line_put, puts_text}
use Rattle.replay.proofs.Printed.{no_room, printed, printed_none, text_long, text_none, text_refused, text_run}
use Rattle.replay.proofs.replay.Goals as goal

pub returns-in_err-room_wrong : goal.returns-in_err-room_wrong
returns-in_err-room_wrong c = let h = no_room c.args.input.now _ (sym c.room_wrong.ensures ∙ c.in_err-room_wrong.was) in search rules

pub returns-then-input-gt65536 : goal.returns-then-input-gt65536
returns-then-input-gt65536 c = printed _ _ (sym c.room_wrong.ensures ∙ c.in_ok-room_wrong.was) _ _ _ 9 (text_long _ c.if-input-gt65536.true) (puts_text c.put_text.ensures (le_refl 9)) (omega arith)

pub returns-then-input-eq0 : goal.returns-then-input-eq0
returns-then-input-eq0 c = printed_none _ _ (sym c.room_wrong.ensures ∙ c.in_ok-room_wrong.was) (text_none _ c.if-input-gt65536.false c.if-input-eq0.true)

pub returns-in-Err : goal.returns-in-Err
returns-in-Err c = printed _ _ (sym c.room_wrong.ensures ∙ c.in_ok-room_wrong.was) _ _ _ 112 (text_refused _ c.if-input-gt65536.false c.if-input-eq0.false (sym c.gp_wrong.ensures ∙ c.in-Err.is) c.refused.ensures) (line_put c.put_line.ensures) (omega arith)

pub returns : goal.returns
returns c = printed _ _ (sym c.room_wrong.ensures ∙ c.in_ok-room_wrong.was) _ _ _ _ (text_run _ c.if-input-gt65536.false c.if-input-eq0.false (sym c.gp_wrong.ensures ∙ c.in_default.is)) c.run.ensures (le_refl _)
