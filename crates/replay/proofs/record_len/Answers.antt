use Rattle.std.proofs.Common.{sym, ◌∙◌}
use Rattle.replay.proofs.Cuts.{len_ck, len_lm, len_message, len_none}
use Rattle.replay.proofs.record_len.Goals.{then-is_mark-via-then-is_mark, then-is_mark-via-else-is_mark+then-is_mark-2}
use Rattle.replay.proofs.record_len.Goals as goal

pub returns-then-is_mark : goal.returns-then-is_mark
returns-then-is_mark c =
    elim c.then-is_mark.branch [
      | then-is_mark-via-then-is_mark w ↦ len_ck _ c.requires (sym c.is_mark.ensures ∙ w.if-is_mark.true)
      | then-is_mark-via-else-is_mark+then-is_mark-2 w ↦
          len_lm _ c.requires (sym c.is_mark.ensures ∙ w.if-is_mark.false) (sym w.is_mark-else-is_mark.ensures ∙ w.if-is_mark-2.true)
    ]

pub returns-in-Ok : goal.returns-in-Ok
returns-in-Ok c =
    len_message _ c.requires (sym c.is_mark.ensures ∙ c.if-is_mark.false) (sym c.is_mark-else-is_mark.ensures ∙ c.if-is_mark-2.false) (sym c.mark_of.ensures ∙ c.in-Ok.is) c.message_len.ensures

pub returns-in-Err : goal.returns-in-Err
returns-in-Err c =
    len_none _ c.requires (sym c.is_mark.ensures ∙ c.if-is_mark.false) (sym c.is_mark-else-is_mark.ensures ∙ c.if-is_mark-2.false) (sym c.mark_of.ensures ∙ c.in-Err.is)
