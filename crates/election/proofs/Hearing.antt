-- Laws of the leader's sheet: one for each outcome of its definitions.
use Rattle.std.proofs.Common.{ℕ, ◌-◌, ◌<◌, ◌≤◌, ◌≡◌, refl, sym, true, false, true≢false, Ok, Err, is_err}
use borrow.Author.Tests.{eq-eqb, ne_eqb}
use Rattle.terms.specs.Checks.{Check, passed}
use Rattle.terms.specs.Group.{log_proof}
use Rattle.terms.proofs.Checks.{first_none, pass, rest_none}
use Rattle.sheet.specs.declared.Sheet.{Sheet}
use Rattle.sheet.specs.Sheets.{answer_wrong, joined, on, sheet_wrong}
use Rattle.sheet.proofs.Sheets.{small_box}
use Rattle.election.specs.declared.Heard.TheVariants.{Lacking, OtherView, Repeat}
use Rattle.election.specs.Elections.{election_wrong, heard_by, heard_wrong, present, said, said_by, sheet_heard}

pub sheet_right : (f : ℕ) (s : Sheet) → election_wrong f s ≡ passed → sheet_wrong f s ≡ passed
unfolding election_wrong
sheet_right f s z = first_none _ _ z

module _ (s : Sheet) (f number answer : ℕ) where
  module _ (z : heard_wrong s f number answer ≡ passed) where
    answer_right : answer_wrong s f number answer ≡ passed
    unfolding heard_wrong answer_wrong
    answer_right = sym (pass (sheet_right f s (first_none _ _ z)) (sym (rest_none _ _ z)))

    -- a box and a group that are small
    pub box_small : (number < 26) × (f ≤ 5)
    box_small = small_box s f number answer answer_right

    -- "an answer of another view is told and changes nothing"
    module _ (view : ℕ) where
      pub heard_other : (view ≡ s.view → ⊥) → s ≡ sheet_heard s f number answer view
      unfolding sheet_heard heard_by
      heard_other n = rw (z, ne_eqb view s.view n)

      pub said_other : (view ≡ s.view → ⊥) → OtherView ≡ said s f number answer view
      unfolding said said_by
      said_other n = rw (z, ne_eqb view s.view n)

      module _ (same : view ≡ s.view) where
        pub heard_repeat : on s number ≡ true → s ≡ sheet_heard s f number answer view
        unfolding sheet_heard heard_by
        heard_repeat h = rw (z, eq-eqb view s.view same, h)

        pub said_repeat : on s number ≡ true → Repeat ≡ said s f number answer view
        unfolding said said_by
        said_repeat h = rw (z, eq-eqb view s.view same, h)

        pub heard_joined : (t : Sheet) → on s number ≡ false → t ≡ joined s number answer → t ≡ sheet_heard s f number answer view
        unfolding sheet_heard heard_by
        heard_joined t h e = rw (z, eq-eqb view s.view same, h) e

        -- "how many are lacking of 4f + 1"
        pub said_lacking : (k : ℕ) → on s number ≡ false → k ≡ log_proof f - present f (joined s number answer) → Lacking k ≡ said s f number answer view
        unfolding said said_by
        said_lacking k h e = rw (z, eq-eqb view s.view same, h, e)

  pub heard_refused : (view : ℕ) → is_err (heard_wrong s f number answer) ≡ true → s ≡ sheet_heard s f number answer view
  unfolding sheet_heard heard_by
  heard_refused view = by (heard_wrong s f number answer)
    where
      by : (w : Check) → is_err w ≡ true → s ≡ heard_by w s number answer view
      by (Ok _) e = absurd (true≢false (sym e))
      by (Err r) e = refl
