-- Whatever answers arrive, in whatever order and with whatever repeats: each box counts once, under its first valid answer.
use Rattle.std.proofs.Common.{ℕ, ◌^◌, ◌<◌, ◌≡◌, refl, sym, ◌∙◌, Bool, true, false, not, ◌&&◌, List, [], ◌∷◌, eqb, is_err}
use lib.Dec.{eqb→eq}
use lib.Pow.{pow_pos}
use borrow.Author.Tests.{lt-leb}
use Rattle.terms.specs.Choice.{pick}
use Rattle.terms.specs.Checks.{passed, if_less, if_same, table}
use Rattle.terms.specs.Group.{boxes, group_wrong}
use Rattle.terms.specs.declared.Decision.{Decision}
use Rattle.terms.specs.declared.Decision.TheVariants.{Commit as commit, Abort as abort}
use Rattle.terms.specs.declared.Kind.{Kind}
use Rattle.terms.specs.declared.Kind.TheVariants.{Votes as votes, Logs as logs}
use Rattle.terms.proofs.Checks.{pass, when_no, no_refusal}
use Rattle.terms.specs.Codes.{decision_number, kind_number}
use Rattle.sheet.specs.declared.Sheet.{Sheet}
use Rattle.sheet.specs.Masks.{has}
use Rattle.sheet.specs.Sheets.{answer_wrong, counted, empty_sheet, given_wrong, on, sheet_after, sheet_damaged, sheet_wrong, twice, under}
use Rattle.sheet.specs.Arrivals.{Arrival, CountsBoxes, first_of, sheet_from, valid}
use Rattle.sheet.proofs.Masks.{count_same, has_none}
use Rattle.sheet.proofs.Sheets.{after_joined, after_refused, after_repeat, off_aborts, off_commits, right_answer, right_box}
use Rattle.sheet.proofs.Sound.{joins_on, joins_sound, joins_under, none_any, one_or_two}

not_true : (b : Bool) → not b ≡ true → b ≡ false
not_true true e = sym e
not_true false e = refl

not_false : (b : Bool) → not b ≡ false → b ≡ true
not_false true e = refl
not_false false e = sym e

-- an answer on a sheet without a refusal is refused just where it is not valid
module _ (s : Sheet) (f : ℕ) (a : Arrival) (sound : sheet_wrong f s ≡ passed) where
  abbrev after : Sheet
  after = sheet_after s f a.number a.answer

  wrong_is : answer_wrong s f a.number a.answer ≡ given_wrong f a.number a.answer
  unfolding answer_wrong
  wrong_is = sym (pass sound refl)

  wrong_none : valid f a ≡ true → answer_wrong s f a.number a.answer ≡ passed
  unfolding valid
  wrong_none v = no_refusal _ (rw wrong_is (not_true _ v))

  wrong_some : valid f a ≡ false → is_err (answer_wrong s f a.number a.answer) ≡ true
  unfolding valid
  wrong_some v = rw wrong_is (not_false _ v)

  -- the sheet stays without a refusal
  after_sound : sheet_wrong f after ≡ passed
  after_sound = by (valid f a) refl (on s a.number) refl
    where
      by : (v : Bool) → valid f a ≡ v → (o : Bool) → on s a.number ≡ o → sheet_wrong f after ≡ passed
      by false v o h = rw (← after_refused s f _ _ (wrong_some v)) sound
      by true v true h = rw (← after_repeat s f _ _ (wrong_none v) h) sound
      by true v false h =
          let z = wrong_none v in
          rw (← after_joined s f _ _ z _ h refl)
          (joins_sound s a.number a.answer h f sound (right_box s f _ _ z) (one_or_two _ (right_answer s f _ _ z)))

  -- box b after this answer, where e stands for what is yet to come
  step : (d : Decision) (b e : ℕ)
      → pick (on after b) (has (under d after) b) (eqb e (decision_number d))
      ≡ pick (on s b) (has (under d s) b) (eqb (pick (valid f a && eqb a.number b) a.answer e) (decision_number d))
  step d b e = by (valid f a) refl (on s a.number) refl (eqb a.number b) refl
    where
      Goal : Sheet → Bool → Bool → Type 0
      Goal t v n = pick (on t b) (has (under d t) b) (eqb e (decision_number d)) ≡ pick (on s b) (has (under d s) b) (eqb (pick (v && n) a.answer e) (decision_number d))

      by : (v : Bool) → valid f a ≡ v → (o : Bool) → on s a.number ≡ o → (n : Bool) → eqb a.number b ≡ n → Goal after v n
      by false v o h n q = rw (← after_refused s f _ _ (wrong_some v))
      by true v true h true q =
          let same : a.number ≡ b = eqb→eq _ _ (rw q tt) in
          let here : on s b ≡ true = rw (← same) h in
          rw (← after_repeat s f _ _ (wrong_none v) h, here)
      by true v true h false q = rw (← after_repeat s f _ _ (wrong_none v) h)
      by true v false h true q =
          let z = wrong_none v in
          let w = one_or_two _ (right_answer s f _ _ z) in
          let same : a.number ≡ b = eqb→eq _ _ (rw q tt) in
          let gone : on s b ≡ false = rw (← same) h in
          rw (← after_joined s f _ _ z _ h refl, joins_on s a.number a.answer h b w, joins_under s a.number a.answer h d b w, q, gone)
      by true v false h false q =
          let z = wrong_none v in
          let w = one_or_two _ (right_answer s f _ _ z) in
          rw (← after_joined s f _ _ z _ h refl, joins_on s a.number a.answer h b w, joins_under s a.number a.answer h d b w, q)

-- a box that is on the sheet stays where it is; else its first valid answer puts it there
pub box_counts : (f : ℕ) (d : Decision) (b : ℕ) (s : Sheet) (more : List Arrival) → sheet_wrong f s ≡ passed
    → has (under d (sheet_from s f more)) b ≡ pick (on s b) (has (under d s) b) (eqb (first_of f b more) (decision_number d))
unfolding sheet_from first_of
box_counts f d b s [] sound = by (on s b) refl d
  where
    by : (o : Bool) → on s b ≡ o → (d : Decision) → has (under d s) b ≡ pick o (has (under d s) b) (eqb 0 (decision_number d))
    by true h d = refl
    by false h commit = off_commits s b h
    by false h abort = off_aborts s b h
box_counts f d b s (a ∷ more) sound = box_counts f d b (sheet_after s f a.number a.answer) more (after_sound s f a sound) ∙ step s f a sound d b (first_of f b more)

-- a sheet with no box on it
empty_on : (k : Kind) (view b : ℕ) → on (empty_sheet k view) b ≡ false
unfolding on
empty_on k view b = rw has_none

empty_kind : (k : Kind) → (if_same (kind_number k) 0 table ≡ passed) × (if_less 2 (kind_number k) table ≡ passed)
unfolding if_same if_less
empty_kind votes = (refl, refl)
empty_kind logs = (refl, refl)

empty_sound : (f : ℕ) (k : Kind) (view : ℕ) → group_wrong f ≡ passed → sheet_wrong f (empty_sheet k view) ≡ passed
unfolding sheet_wrong sheet_damaged twice
empty_sound f k view g =
    let low : 0 < 2 ^ boxes f = pow_pos (boxes f) in
    sym
    (pass g
    (pass (empty_kind k).0
    (pass (empty_kind k).1
    (pass (when_no _ _ (lt-leb (2 ^ boxes f) 0 low))
    (pass (when_no _ _ (lt-leb (2 ^ boxes f) 0 low))
    (sym (when_no _ _ (none_any (twice (empty_sheet k view)) 0 (boxes f) (λ b l m. rw has_none)))))))))

pub counts_boxes : CountsBoxes
unfolding counted
counts_boxes f k view more d g =
    count_same _ _ (boxes f)
    (λ b l. box_counts f d b (empty_sheet k view) more (empty_sound f k view g) ∙ (rw (empty_on k view b)))
