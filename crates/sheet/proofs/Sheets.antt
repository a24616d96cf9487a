-- Laws of a sheet: one for each outcome of its definitions.
use Rattle.std.proofs.Common.{ℕ, ◌-◌, ◌<◌, ◌≤◌, ◌≡◌, refl, Bool, true, false, true≢false, ◌||◌, Ok, Err, is_err, sym, arith}
use borrow.Author.Tests.{eq-eqb, ne_eqb, leb-false}
use Rattle.terms.specs.Checks.{Check, passed}
use Rattle.terms.specs.Group.{boxes, commit_list, abort_list, commit_proof, abort_proof, log_proof}
use Rattle.terms.proofs.Checks.{first_none, rest_none, when_none}
use Rattle.terms.proofs.Groups.{group_small}
use Rattle.records.specs.Contents.{code_wrong}
use Rattle.rules.specs.Lists.{kind_of}
use Rattle.rules.specs.System.{how_many}
use Rattle.sheet.specs.declared.Sheet.{Sheet}
use Rattle.sheet.specs.declared.Reply.{Reply}
use Rattle.sheet.specs.declared.Reply.TheVariants.{Votes, Logs, Repeat}
use Rattle.sheet.specs.Masks.{has, with_box}
use Rattle.sheet.specs.Sheets.{on, joined, counted, lacking_on, lacking_by, sheet_wrong, answer_wrong, sheet_by, sheet_after, reply_by, reply_to}

module _ (s : Sheet) (b : ℕ) where
  -- a box that is not on the sheet is under neither answer
  pub off_commits : on s b ≡ false → has s.commits b ≡ false
  unfolding on
  off_commits h = first (has s.commits b) (has s.aborts b) h
    where
      first : (p q : Bool) → (p || q) ≡ false → p ≡ false
      first false q e = refl
      first true q e = e

  pub off_aborts : on s b ≡ false → has s.aborts b ≡ false
  unfolding on
  off_aborts h = second (has s.commits b) (has s.aborts b) h
    where
      second : (p q : Bool) → (p || q) ≡ false → q ≡ false
      second false q e = e
      second true true e = e
      second true false e = refl

  module _ (answer m : ℕ) where
    pub join_commit : answer ≡ 1 → m ≡ with_box s.commits b → record { kind = s.kind; view = s.view; commits = m; aborts = s.aborts } ≡ joined s b answer
    unfolding joined
    join_commit e p = rw (eq-eqb answer 1 e, p)

    pub join_abort : (answer ≡ 1 → ⊥) → m ≡ with_box s.aborts b → record { kind = s.kind; view = s.view; commits = s.commits; aborts = m } ≡ joined s b answer
    unfolding joined
    join_abort e p = rw (ne_eqb answer 1 e, p)

-- the thresholds by the sheet's kind
module _ (f : ℕ) (s : Sheet) where
  abbrev commits : ℕ
  commits = how_many (has s.commits) (boxes f)

  abbrev aborts : ℕ
  aborts = how_many (has s.aborts) (boxes f)

  pub lacking_votes : (r : Reply) → s.kind ≡ 1
      → r ≡ Votes (record { commit_list = commit_list f - commits; abort_list = abort_list f - aborts; commit_proof = commit_proof f - commits; abort_proof = abort_proof f - aborts })
      → r ≡ lacking_on f s
  unfolding lacking_on lacking_by counted kind_of
  lacking_votes r k e = rw (eq-eqb s.kind 1 k) e

  pub lacking_logs : (r : Reply) → (s.kind ≡ 1 → ⊥) → r ≡ Logs (record { commit = log_proof f - commits; abort = log_proof f - aborts }) → r ≡ lacking_on f s
  unfolding lacking_on lacking_by counted kind_of
  lacking_logs r k e = rw (ne_eqb s.kind 1 k) e

-- what a sheet without a refusal is
pub sheet_group : (f : ℕ) (s : Sheet) → sheet_wrong f s ≡ passed → (1 ≤ f) × (f ≤ 5)
unfolding sheet_wrong
sheet_group f s z = group_small f (first_none _ _ z)

module _ (s : Sheet) (f number answer : ℕ) where
  module _ (z : answer_wrong s f number answer ≡ passed) where
    pub right_sheet : sheet_wrong f s ≡ passed
    unfolding answer_wrong
    right_sheet = first_none _ _ z

    pub right_box : number < boxes f
    unfolding answer_wrong
    right_box = leb-false (boxes f) number (when_none _ _ (first_none _ _ (rest_none _ _ z)))

    pub right_answer : code_wrong answer ≡ passed
    unfolding answer_wrong
    right_answer = rest_none _ _ (rest_none _ _ z)

    -- "A box already on the sheet then answers Repeat, sheet unchanged"
    pub after_repeat : on s number ≡ true → s ≡ sheet_after s f number answer
    unfolding sheet_after sheet_by
    after_repeat h = rw (z, h)

    pub reply_repeat : on s number ≡ true → Repeat ≡ reply_to s f number answer
    unfolding reply_to reply_by
    reply_repeat h = rw (z, h)

    -- "Otherwise the box joins"
    pub after_joined : (t : Sheet) → on s number ≡ false → t ≡ joined s number answer → t ≡ sheet_after s f number answer
    unfolding sheet_after sheet_by
    after_joined t h e = rw (z, h) e

    pub reply_lacking : (r : Reply) → on s number ≡ false → r ≡ lacking_on f (joined s number answer) → r ≡ reply_to s f number answer
    unfolding reply_to reply_by
    reply_lacking r h e = rw (z, h) e

    -- an answer without one
    pub small_box : (number < 26) × (f ≤ 5)
    small_box =
        let g = sheet_group f s right_sheet in
        (omega (arith, g.1, right_box), g.1)

  -- "A refusal returns its number only. .. tally .. stay unchanged."
  pub after_refused : is_err (answer_wrong s f number answer) ≡ true → s ≡ sheet_after s f number answer
  unfolding sheet_after sheet_by
  after_refused = by (answer_wrong s f number answer)
    where
      by : (w : Check) → is_err w ≡ true → s ≡ sheet_by w s number answer
      by (Ok _) e = absurd (true≢false (sym e))
      by (Err r) e = refl
