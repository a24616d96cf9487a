-- What a sheet has reached, with no answer given.
use Rattle.std.proofs.Common.{◌≡◌, refl, sym}
use Rattle.terms.specs.Checks.{passed}
use Rattle.sheet.specs.Sheets.{joined, reached_by, reached_of, sheet_after, sheet_wrong, RepliesReached}
use Rattle.sheet.proofs.Sheets.{after_joined, reply_lacking, right_answer, right_box, right_sheet}
use Rattle.sheet.proofs.Sound.{joins_sound, one_or_two}

-- The reply to an answer that joins is what the sheet has reached with it.
pub replies_reached : RepliesReached
unfolding reached_of reached_by
replies_reached s f number answer z off =
    let a : joined s number answer ≡ sheet_after s f number answer = after_joined s f number answer z _ off refl in
    let w : sheet_wrong f (joined s number answer) ≡ passed =
    joins_sound s number answer off f (right_sheet s f number answer z) (right_box s f number answer z) (one_or_two _ (right_answer s f number answer z)) in
    rw (← a, w) (sym (reply_lacking s f number answer z _ off refl))
