-- What a sheet tells is what a box tells: the list from a sheet passes a box's checks, and lacks of each threshold what the reply says.
use Rattle.std.proofs.Common.{ℕ, zero, suc, ◌-◌, ◌<◌, ◌≤◌, ◌≡◌, refl, ap, sym, ◌∙◌, Bool, true, false, eqb, length, Ok, Err, arith}
use Rattle.terms.specs.Choice.{pick}
use Rattle.terms.specs.Checks.{Check, passed, or_else, if_same, if_less, count as few, code}
use Rattle.terms.specs.declared.Refusal.{Refusal}
use Rattle.terms.specs.Group.{boxes}
use Rattle.terms.specs.declared.Decision.{Decision}
use Rattle.terms.specs.declared.Decision.TheVariants.{Commit as commit, Abort as abort}
use Rattle.terms.specs.declared.Kind.{Kind}
use Rattle.terms.specs.declared.Kind.TheVariants.{Votes as votes, Logs as logs}
use Rattle.terms.proofs.Checks.{pass, first_none, rest_none, when_no, same_no, less_no, not_less, not_passed}
use Rattle.records.specs.declared.VoteList.{VoteList}
use Rattle.records.specs.Vl.{held_list, list_in, no_list, view_of}
use Rattle.records.specs.Contents.{answer_odd, code_wrong, count_wrong, list_wrong, log_list_wrong}
use Rattle.records.proofs.Held.{list_in_lem, view_once}
use Rattle.terms.specs.Codes.{decision_number}
use Rattle.rules.specs.Lists.{decision_of, for_logging, for_proof, kind_of, lacking}
use Rattle.rules.specs.Calls.{Act, needing}
use Rattle.rules.specs.System.{how_many}
use Rattle.rules.proofs.Lacking as rules
use Rattle.sheet.specs.declared.Sheet.{Sheet}
use Rattle.sheet.specs.Masks.{has}
use Rattle.sheet.specs.Sheets.{answer_wrong, counted, joined, lacking_by, lacking_on, on, reply_to, sheet_after, sheet_damaged, sheet_wrong, under}
use Rattle.sheet.specs.Listing.{BoxesTellTheSame, TellsAsBoxes, boxes_tell, dc_lacks, dc_need, lg_lacks, lg_need, list_by, list_from, list_for, with_lacking}
use Rattle.sheet.proofs.Listed.{list_is, listed_answers, listed_below, listed_length, listed_rises, listed_tally}
use Rattle.sheet.proofs.Masks.{count_most}
use Rattle.sheet.proofs.Sheets.{after_joined, reply_lacking, right_answer, right_box, right_sheet, sheet_group}
use Rattle.sheet.proofs.Sound.{joins_sound, one_or_two}

-- what one check of a number shows, another shows too
same_else : (a b : ℕ) (q r : Refusal) → if_same a b q ≡ passed → if_same a b r ≡ passed
unfolding if_same
same_else a b q r e = by (eqb a b) e
  where
    by : (t : Bool) → pick t (Err q) passed ≡ passed → pick t (Err r) passed ≡ passed
    by true h = absurd (not_passed h)
    by false h = refl

decision_known : (d : Decision) → decision_of (decision_number d) ≡ d
unfolding decision_of
decision_known commit = refl
decision_known abort = refl

decision_right : (d : Decision) → code_wrong (decision_number d) ≡ passed
unfolding code_wrong or_else if_same if_less
decision_right commit = refl
decision_right abort = refl

answer_even : (d : Decision) → answer_odd (record { number = 0; answer = decision_number d }) ≡ false
answer_even commit = refl
answer_even abort = refl

-- every threshold asks for a box
some_logging : (f : ℕ) (d : Decision) → 1 ≤ for_logging f d
some_logging f commit = omega arith
some_logging f abort = omega arith

some_proof : (f : ℕ) (k : Kind) (d : Decision) → 1 ≤ for_proof f k d
some_proof f votes commit = omega arith
some_proof f votes abort = omega arith
some_proof f logs commit = omega arith
some_proof f logs abort = omega arith

module _ (s : Sheet) (f : ℕ) (sound : sheet_wrong f s ≡ passed) where
  kind_right : code_wrong s.kind ≡ passed
  unfolding code_wrong sheet_wrong sheet_damaged
  kind_right =
      let e = rest_none _ _ sound in
      sym
      (pass (same_else s.kind 0 _ code (first_none _ _ e))
      (sym (less_no 2 s.kind code (not_less _ _ _ (first_none _ _ (rest_none _ _ e))))))

  -- "only entries with that answer are counted": the list has as many of them as the sheet
  pub list_counts : (d : Decision) → length (list_from s f d).pairs ≡ counted f d s
  unfolding list_for counted
  list_counts d = rw (list_is s f d sound) (listed_length (has (under d s)) (decision_number d) (boxes f))

  pub list_lacks : (need : ℕ) (d : Decision) → lacking need (list_from s f d) ≡ need - counted f d s
  unfolding lacking list_for counted
  list_lacks need d = rw (list_is s f d sound, listed_tally (has (under d s)) (decision_number d) (boxes f))

  -- a list of one box or more has no refusal 3
  pub list_count : (d : Decision) → 0 < counted f d s → count_wrong (length (list_from s f d).pairs) ≡ passed
  unfolding count_wrong counted
  list_count d h =
      let g = sheet_group f s sound in
      let m : how_many (has (under d s)) (boxes f) ≤ boxes f = count_most (has (under d s)) (boxes f) in
      rw (list_counts d) (sym (pass (same_no _ 0 few (omega arith)) (sym (less_no 26 _ few (omega (arith, g.1))))))

  -- nor 8, 5 or 6
  pub list_right : (d : Decision) → list_wrong f (list_from s f d) ≡ passed
  unfolding list_wrong list_for
  list_right d =
      rw (list_is s f d sound)
      (sym
      (pass kind_right
      (pass (decision_right d)
      (pass (when_no _ _ (listed_answers _ _ (boxes f) (answer_even d)))
      (pass (when_no _ _ (listed_below _ _ (boxes f) (boxes f) (omega arith)))
      (sym (when_no _ _ (listed_rises _ _ (boxes f)))))))))

  -- a list of votes may stand in an LG
  pub list_logs : (d : Decision) → s.kind ≡ 1 → log_list_wrong f (list_from s f d) ≡ passed
  unfolding log_list_wrong list_for if_same
  list_logs d k = sym (pass (rw (list_is s f d sound, k)) (sym (list_right d)))

  kind_listed : (d : Decision) → (list_from s f d).kind ≡ s.kind
  unfolding list_for
  kind_listed d = rw (list_is s f d sound)

  decision_listed : (d : Decision) → decision_of (list_from s f d).decision ≡ d
  unfolding list_for
  decision_listed d = rw (list_is s f d sound) (decision_known d)

  -- the threshold that a box asks of the list is that of the sheet's kind and the decision
  lg_need_lem : (d : Decision) → lg_need f (list_from s f d) ≡ for_logging f d
  unfolding lg_need
  lg_need_lem d = ap (λ (x : Decision). for_logging f x) (decision_listed d)

  dc_need_lem : (d : Decision) → dc_need f (list_from s f d) ≡ for_proof f (kind_of s.kind) d
  unfolding dc_need
  dc_need_lem d =
      ap (λ (x : Decision). for_proof f (kind_of (list_from s f d).kind) x) (decision_listed d)
      ∙ ap (λ (x : ℕ). for_proof f (kind_of x) d) (kind_listed d)

  -- a box that gets the list in an LG, or in a DC, finds lacking what the sheet lacks
  pub lg_lacks_lem : (d : Decision) → lg_lacks f (list_from s f d) ≡ for_logging f d - counted f d s
  unfolding lg_lacks
  lg_lacks_lem d = ap (λ (need : ℕ). lacking need (list_from s f d)) (lg_need_lem d) ∙ list_lacks (for_logging f d) d

  pub dc_lacks_lem : (d : Decision) → dc_lacks f (list_from s f d) ≡ for_proof f (kind_of s.kind) d - counted f d s
  unfolding dc_lacks
  dc_lacks_lem d = ap (λ (need : ℕ). lacking need (list_from s f d)) (dc_need_lem d) ∙ list_lacks (for_proof f (kind_of s.kind) d) d

  -- a list that lacks none has a box: it passes every check of a box
  pub lg_count : (d : Decision) → lg_lacks f (list_from s f d) ≡ 0 → count_wrong (length (list_from s f d).pairs) ≡ passed
  lg_count d h = list_count d (omega (arith, some_logging f d, lg_lacks_lem d, h))

  pub dc_count : (d : Decision) → dc_lacks f (list_from s f d) ≡ 0 → count_wrong (length (list_from s f d).pairs) ≡ passed
  dc_count d h = list_count d (omega (arith, some_proof f (kind_of s.kind) d, dc_lacks_lem d, h))

  -- and then goes on; else it tells the number with 11
  box_tells : (need k : ℕ) (d : Decision) (a : Act) → need - counted f d s ≡ k → needing need (list_from s f d) a ≡ with_lacking k a
  unfolding with_lacking
  box_tells need zero d a e = rules.enough need (list_from s f d) a zero (sym (list_lacks need d ∙ e)) refl
  box_tells need (suc k) d a e = rules.few need (list_from s f d) a (suc k) (sym (list_lacks need d ∙ e)) (λ z. omega arith)

-- the reply says of each threshold what a box tells of the list
pub tells_as_boxes : TellsAsBoxes
unfolding lacking_on lacking_by boxes_tell
tells_as_boxes s f sound = by (kind_of s.kind) refl
  where
    by : (k : Kind) → kind_of s.kind ≡ k → lacking_by k f s ≡ boxes_tell k f s
    by votes e = rw (lg_lacks_lem s f sound commit, lg_lacks_lem s f sound abort, dc_lacks_lem s f sound commit, dc_lacks_lem s f sound abort, e)
    by logs e = rw (dc_lacks_lem s f sound commit, dc_lacks_lem s f sound abort, e)

pub boxes_tell_the_same : BoxesTellTheSame
boxes_tell_the_same s f d a sound = (
  ap (λ (need : ℕ). needing need (list_from s f d) a) (lg_need_lem s f sound d) ∙ box_tells s f sound (for_logging f d) _ d a refl,
  ap (λ (need : ℕ). needing need (list_from s f d) a) (dc_need_lem s f sound d) ∙ box_tells s f sound (for_proof f (kind_of s.kind) d) _ d a refl,
)

-- the same of the reply to an answer that joins: it is of the sheet as it is then
pub reply_tells : (s : Sheet) (f number answer : ℕ) → answer_wrong s f number answer ≡ passed → on s number ≡ false
    → reply_to s f number answer ≡ boxes_tell (kind_of (sheet_after s f number answer).kind) f (sheet_after s f number answer)
reply_tells s f number answer z off =
    let e : joined s number answer ≡ sheet_after s f number answer = after_joined s f number answer z _ off refl in
    let r : lacking_on f (joined s number answer) ≡ reply_to s f number answer = reply_lacking s f number answer z _ off refl in
    let w = one_or_two answer (right_answer s f number answer z) in
    let t = joins_sound s number answer off f (right_sheet s f number answer z) (right_box s f number answer z) w in
    rw (← e) (sym r ∙ tells_as_boxes (joined s number answer) f t)

view_none : view_of 0 0 ≡ 0
unfolding view_of
view_none = refl

-- the list's view is that of its kind, whatever stands on the sheet
list_view : (s : Sheet) (f : ℕ) (d : Decision) → view_of (list_from s f d).kind (list_from s f d).view ≡ (list_from s f d).view
unfolding list_from list_by list_for no_list
list_view s f d = by (sheet_wrong f s)
  where
    by : (w : Check) → view_of (list_by w s f d).kind (list_by w s f d).view ≡ (list_by w s f d).view
    by (Ok _) = view_once s.kind s.view
    by (Err r) = view_none

-- the struct that `list_from` returns holds that list
pub list_held : (s : Sheet) (f : ℕ) (d : Decision) (l : VoteList) → l ≡ held_list (list_from s f d) → list_in l ≡ list_from s f d
list_held s f d l e = rw e (list_in_lem (list_from s f d) (list_view s f d))
