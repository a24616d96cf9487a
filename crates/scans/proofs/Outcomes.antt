-- The tests by their outcomes: one law for each return.
use Prim.Native.Nat.{ℕ, ◌-◌, ◌<◌, ◌≤◌}
use native.Mathlib.Omega.{arith}
use mathlib.Core.Path.{◌≡◌, refl, sym, ◌∙◌}
use mathlib.Core.List.{List, [], ◌∷◌}
use mathlib.Core.Bool.{Bool, true, false, ◌&&◌, ◌||◌, false≢true}
use mathlib.Core.Option.{some}
use borrow.Author.Tests.{lt-ltb, le-ltb, ltb-true, ltb-false}
use lib.Dec.{ltb}
use lib.ListN.{get_or}
use Rattle.terms.specs.Choice.{any}
use Rattle.records.specs.declared.Read.{Read}
use Rattle.records.specs.declared.Write.{Write}
use Rattle.records.specs.Tx.{read_key, read_version, write_key}
use Rattle.rules.specs.declared.Reason.TheVariants.{Ahead, NoVersion}
use Rattle.rules.specs.declared.Vote.TheVariants.{Abort as vote_abort}
use Rattle.rules.specs.Bodies.{Body, stamp_of, reads_of, writes_key}
use Rattle.rules.specs.declared.Told.{Told}
use Rattle.rules.specs.Table.{Box, Entry, box_with, find, limit, live}
use Rattle.rules.specs.Tests.{fold_above, is_folded, is_low, names, read_undercut, test1, test2, test3, test4, test5, undercut, waiting_rule, first_vote, status}
use Rattle.table.specs.Table.{row_tx, entry_of, entries, row_at, place}
use Rattle.table.proofs.Bodies.{body_stamp, body_reads, body_writes_key}
use Rattle.table.proofs.Looking.{find_some}
use Rattle.scans.specs.Scans.{over, entries_only, marks_only, older, below, hit3, hit4, marked}

-- ---- whether some element passes
module _ {A : Type 0} (p q : A → Bool) where
  pub any_same : ((x : A) → p x ≡ q x) → (xs : List A) → any p xs ≡ any q xs
  any_same h [] = refl
  any_same h (x ∷ xs) =
      let e : p x ≡ q x = h x in
      let r : any p xs ≡ any q xs = any_same h xs in
      rw (e, r)

pub any_never : {A : Type 0} (p : A → Bool) → ((x : A) → p x ≡ false) → (xs : List A) → any p xs ≡ false
any_never p h [] = refl
any_never p h (x ∷ xs) =
    let e : p x ≡ false = h x in
    let r : any p xs ≡ false = any_never p h xs in
    rw (e, r)

-- where p passes nothing, q passes nothing either
pub any_clear : {A : Type 0} (p q : A → Bool) → ((x : A) → p x ≡ false → q x ≡ false) → (xs : List A) → any p xs ≡ false → any q xs ≡ false
any_clear p q h [] e = refl
any_clear p q h (x ∷ xs) e = by (p x) refl e (any_clear p q h xs)
  where
    by : (c : Bool) → p x ≡ c → (c || any p xs) ≡ false → (any p xs ≡ false → any q xs ≡ false) → (q x || any q xs) ≡ false
    by true d z rest = absurd (false≢true (sym z))
    by false d z rest = rw (h x d) (rest z)

pub and_yes : (w : Bool) → w ≡ (w && true)
and_yes true = refl
and_yes false = refl

pub and_no : (w : Bool) → false ≡ (w && false)
and_no true = refl
and_no false = refl

and_less : (a b c : Bool) → (a && b) ≡ false → (a && (b && c)) ≡ false
and_less true true c e = absurd (false≢true (sym e))
and_less true false c e = refl
and_less false b c e = refl

pub and_true : (a b : Bool) → (a && (b && true)) ≡ (a && b)
and_true true true = refl
and_true true false = refl
and_true false b = refl

pub and_false : (a b : Bool) → (a && (b && false)) ≡ false
and_false true true = refl
and_false true false = refl
and_false false b = refl

-- a look-up that found a row
pub find_held : (t : List ℕ) (s n i : ℕ) (q : List ℕ) → i ≡ place s (entries t n) → i < n → q ≡ row_at t i → find s (entries t n) ≡ some (entry_of q)
find_held t s n i q p h e = find_some s t n i p h ∙ (rw e)

-- ---- what the tests do not look at
-- the box with no read marks
abbrev pub unmarked : Box → Box
unmarked x = box_with x.table [] x.low x.folds

module _ (x : Box) (b : Body) where
  pub marks_2 : test2 (unmarked x) b ≡ test2 x b
  unfolding test2 names is_low is_folded
  marks_2 = refl

  pub marks_3 : test3 (unmarked x) b ≡ test3 x b
  unfolding test3 fold_above
  marks_3 = refl

  pub marks_4 : test4 (entries_only x.table) b ≡ test4 x b
  unfolding test4
  marks_4 = refl

  pub marks_5 : test5 (marks_only x.marks) b ≡ test5 x b
  unfolding test5
  marks_5 = refl

  pub marks_wait : waiting_rule (unmarked x) b ≡ waiting_rule x b
  unfolding waiting_rule status is_low is_folded
  marks_wait = refl

-- ---- test 1
module _ (s : ℕ) (told : Told) where
  ahead_yes : told.delta < s - told.clock → true ≡ ltb (limit told) s
  ahead_yes h = sym (lt-ltb (limit told) s (omega arith))

  ahead_no : s - told.clock ≤ told.delta → false ≡ ltb (limit told) s
  ahead_no h = sym (le-ltb (limit told) s (omega arith))

  pub ahead_clock : s ≤ told.clock → ltb told.clock s ≡ ltb (limit told) s
  ahead_clock h = le-ltb told.clock s h ∙ sym (le-ltb (limit told) s (omega arith))

  pub ahead_delta : ltb told.delta (s - told.clock) ≡ ltb (limit told) s
  ahead_delta = by (ltb told.delta (s - told.clock)) refl
    where
      by : (c : Bool) → ltb told.delta (s - told.clock) ≡ c → c ≡ ltb (limit told) s
      by true e = ahead_yes (ltb-true _ _ e)
      by false e = ahead_no (ltb-false _ _ e)

-- ---- tests 3 and 4
module _ (b : Body) (r : Read) where
  pub below_yes : read_version r < stamp_of b → writes_key b (read_key r) ≡ below b r
  unfolding below
  below_yes h = rw (lt-ltb (read_version r) (stamp_of b) h) (and_yes (writes_key b (read_key r)))

  pub below_no : stamp_of b ≤ read_version r → false ≡ below b r
  unfolding below
  below_no h = rw (le-ltb (read_version r) (stamp_of b) h) (and_no (writes_key b (read_key r)))

-- a stamp not above the lowest version read
pub below_none : (a b : Body) (low : ℕ) → any (older low) (reads_of a) ≡ false → stamp_of b ≤ low → any (below b) (reads_of a) ≡ false
unfolding older
below_none a b low e h =
    any_clear (older low) (below b)
    (λ r d. let g : low ≤ read_version r = ltb-false _ _ d in sym (below_no b r (omega arith)))
    (reads_of a) e

module _ (a b : Body) where
  -- what an undercut asks of a read, l telling how the stamps stand
  abbrev asked : Bool → Read → Bool
  asked l r = writes_key b (read_key r) && (ltb (read_version r) (stamp_of b) && l)

  pub under_yes : stamp_of b < stamp_of a → any (below b) (reads_of a) ≡ undercut a b
  unfolding undercut below
  under_yes h =
      any_same (below b) (read_undercut (stamp_of a) b)
      (λ r. rw (lt-ltb (stamp_of b) (stamp_of a) h) (sym (and_true (writes_key b (read_key r)) (ltb (read_version r) (stamp_of b))))) (reads_of a)

  pub under_no : stamp_of a ≤ stamp_of b → false ≡ undercut a b
  unfolding undercut
  under_no h =
      sym
      (any_never (read_undercut (stamp_of a) b)
      (λ r. rw (le-ltb (stamp_of b) (stamp_of a) h) (and_false (writes_key b (read_key r)) (ltb (read_version r) (stamp_of b)))) (reads_of a))

  -- nothing below, no undercut, however the stamps stand
  pub under_none : any (below b) (reads_of a) ≡ false → undercut a b ≡ false
  unfolding undercut below
  under_none e =
      any_clear (below b) (asked (ltb (stamp_of b) (stamp_of a)))
      (λ r d. and_less (writes_key b (read_key r)) (ltb (read_version r) (stamp_of b)) (ltb (stamp_of b) (stamp_of a)) d) (reads_of a) e

module _ (b : Body) (r : List ℕ) where
  under_row : undercut b (entry_of r).body ≡ undercut b (row_tx r)
  unfolding undercut
  under_row =
      any_same (λ p. asked b (entry_of r).body (ltb (stamp_of (entry_of r).body) (stamp_of b)) p) (λ p. asked b (row_tx r) (ltb (stamp_of (row_tx r)) (stamp_of b)) p)
      (λ p. rw (body_writes_key r (read_key p), body_stamp r)) (reads_of b)

  row_under : undercut (entry_of r).body b ≡ undercut (row_tx r) b
  unfolding undercut
  row_under = rw (body_reads r, body_stamp r)

  module _ {w : Bool} (l : w ≡ live (entry_of r)) where
    pub hit3_under : undercut b (row_tx r) ≡ true → w ≡ hit3 b (entry_of r)
    unfolding hit3
    hit3_under d = rw (under_row, d, l) (and_yes (live (entry_of r)))

    pub hit4_under : undercut (row_tx r) b ≡ true → w ≡ hit4 b (entry_of r)
    unfolding hit4
    hit4_under d = rw (row_under, d, l) (and_yes (live (entry_of r)))

  pub hit3_clear : undercut b (row_tx r) ≡ false → false ≡ hit3 b (entry_of r)
  unfolding hit3
  hit3_clear d = rw (under_row, d) (and_no (live (entry_of r)))

  pub hit3_old : (low : ℕ) → any (older low) (reads_of b) ≡ false → stamp_of (row_tx r) ≤ low → false ≡ hit3 b (entry_of r)
  hit3_old low e h = hit3_clear (under_none b (row_tx r) (below_none b (row_tx r) low e h))

  pub hit3_late : stamp_of b ≤ stamp_of (row_tx r) → false ≡ hit3 b (entry_of r)
  hit3_late h = hit3_clear (sym (under_no b (row_tx r) h))

  pub hit4_clear : undercut (row_tx r) b ≡ false → false ≡ hit4 b (entry_of r)
  unfolding hit4
  hit4_clear d = rw (row_under, d) (and_no (live (entry_of r)))

  pub hit4_early : stamp_of (row_tx r) ≤ stamp_of b → false ≡ hit4 b (entry_of r)
  hit4_early h = hit4_clear (sym (under_no (row_tx r) b h))

-- ---- test 3 of the folds, then of the entries
module _ (h : List ℕ) (es : List Entry) (b : Body) where
  abbrev folded : Bool
  folded = any (fold_above (over h [])) (reads_of b)

  pub test3_fold : folded ≡ true → true ≡ test3 (over h es) b
  unfolding test3 fold_above
  test3_fold e = rw e

  pub test3_entries : {w : Bool} → folded ≡ false → w ≡ any (hit3 b) es → w ≡ test3 (over h es) b
  unfolding test3 fold_above hit3
  test3_entries e q = q ∙ (rw e)

-- ---- test 5
module _ (ms : List ℕ) (s : ℕ) (w : Write) {x : ℕ} (e : x ≡ get_or ms (write_key w) 0) where
  pub marked_yes : s < x → marked ms s w ≡ true
  unfolding marked
  marked_yes h = lt-ltb s (get_or ms (write_key w) 0) (omega arith)

  pub marked_no : x ≤ s → marked ms s w ≡ false
  unfolding marked
  marked_no h = le-ltb s (get_or ms (write_key w) 0) (omega arith)

-- ---- the first vote
module _ (told : Told) (x : Box) (b : Body) where
  pub first_1 : test1 told b ≡ true → vote_abort Ahead ≡ first_vote told x b
  unfolding first_vote
  first_1 a = rw a

  pub first_2 : test1 told b ≡ false → test2 (unmarked x) b ≡ true → vote_abort NoVersion ≡ first_vote told x b
  unfolding first_vote
  first_2 a d = rw (a, sym (marks_2 x b) ∙ d)
