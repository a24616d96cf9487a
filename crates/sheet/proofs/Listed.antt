-- Laws of a list made from a mask: how it is filled, what it counts, and that a box takes it.
use Rattle.std.proofs.Common.{ℕ, zero, suc, ◌+◌, ◌≤◌, ◌≡◌, refl, sym, List, [], ◌∷◌, ◌++◌, length, Bool, true, false, true≢false, leb, Ok, Err, is_err, arith}
use borrow.Author.Tests.{eq-eqb}
use Rattle.terms.specs.Choice.{pick, any, falls}
use Rattle.terms.specs.Checks.{Check, passed}
use Rattle.records.specs.declared.Pair.{Pair}
use Rattle.records.specs.declared.VoteList.{VoteList}
use Rattle.records.specs.Vl.{held_list, no_list, view_of, zero_pair}
use Rattle.records.specs.Contents.{answer_odd, pair_box}
use Rattle.rules.specs.Lists.{bit, tally}
use Rattle.rules.specs.System.{how_many}
use Rattle.sheet.specs.Masks.{has}
use Rattle.terms.specs.Group.{boxes}
use Rattle.terms.specs.declared.Decision.{Decision}
use Rattle.sheet.specs.declared.Sheet.{Sheet}
use Rattle.terms.specs.Codes.{decision_number}
use Rattle.sheet.specs.Sheets.{sheet_wrong, under}
use Rattle.sheet.specs.Listing.{listed, list_for, list_by, list_from}
use Rattle.sheet.proofs.Below.{Noted, below, below_length, below_no, below_none, below_rises, below_wide, below_yes}

-- a box of a list, with the list's answer
abbrev pub paired : ℕ → ℕ → Pair
paired answer b = record { number = b; answer = answer }

module _ (p : ℕ → Bool) (answer : ℕ) where
  -- it is a list of the boxes below n that pass the test
  listed_is : (n : ℕ) → listed p answer n ≡ below p (paired answer) n
  unfolding listed below
  listed_is zero = refl
  listed_is (suc n) = rw (listed_is n)

  pub listed_yes : (b : ℕ) → p b ≡ true → listed p answer (b + 1) ≡ listed p answer b ++ (paired answer b ∷ [])
  listed_yes b h = rw (listed_is (b + 1), listed_is b) (below_yes p (paired answer) b h)

  pub listed_no : (b : ℕ) → p b ≡ false → listed p answer (b + 1) ≡ listed p answer b
  listed_no b h = rw (listed_is (b + 1), listed_is b) (below_no p (paired answer) b h)

  pub listed_none : listed p answer 0 ≡ []
  unfolding listed
  listed_none = refl

pub noted_list : (kind view answer m n j v : ℕ) (a : List Pair) → v ≡ view_of kind view → Noted (listed (has m) answer) zero_pair 26 a j n
    → record { kind = kind; decision = answer; view = record { 0 = v }; count = j; pairs = a } ≡ held_list (list_for kind view answer m n)
unfolding held_list list_for
noted_list kind view answer m n j v a h g = rw (g.counts, ← g.is, h)

-- a list from a sheet, by the sheet's refusal
module _ (s : Sheet) (f : ℕ) (d : Decision) where
  pub list_refused : is_err (sheet_wrong f s) ≡ true → held_list no_list ≡ held_list (list_from s f d)
  unfolding list_from list_by
  list_refused = by (sheet_wrong f s)
    where
      by : (w : Check) → is_err w ≡ true → held_list no_list ≡ held_list (list_by w s f d)
      by (Ok _) e = absurd (true≢false (sym e))
      by (Err r) e = refl

  pub list_is : sheet_wrong f s ≡ passed → list_from s f d ≡ list_for s.kind s.view (decision_number d) (under d s) (boxes f)
  unfolding list_from list_by
  list_is z = rw z

  pub list_right : (l : VoteList) → sheet_wrong f s ≡ passed → l ≡ held_list (list_for s.kind s.view (decision_number d) (under d s) (boxes f)) → l ≡ held_list (list_from s f d)
  list_right l z e = rw (list_is z) e

pub tally_append : (d : ℕ) (xs ys : List Pair) → tally d (xs ++ ys) ≡ tally d xs + tally d ys
unfolding tally
tally_append d [] ys = omega arith
tally_append d (x ∷ xs) ys = omega (arith, tally_append d xs ys)

-- what it counts
module _ (p : ℕ → Bool) (answer : ℕ) where
  pub listed_length : (n : ℕ) → length (listed p answer n) ≡ how_many p n
  listed_length n = rw (listed_is p answer n) (below_length p (paired answer) n)

  -- "only entries with that answer are counted": all of them are
  pub listed_tally : (n : ℕ) → tally answer (listed p answer n) ≡ how_many p n
  unfolding listed how_many bit tally
  listed_tally zero = refl
  listed_tally (suc n) = rw (tally_append answer (listed p answer n)) (by (p n) (listed_tally n))
    where
      by : (t : Bool) → tally answer (listed p answer n) ≡ how_many p n → tally answer (listed p answer n) + tally answer (pick t (record { number = n; answer = answer } ∷ []) []) ≡ bit t + how_many p n
      by true e = rw (eq-eqb answer answer refl) (omega arith)
      by false e = omega arith

  pub listed_answers : (n : ℕ) → answer_odd (record { number = 0; answer = answer }) ≡ false → any answer_odd (listed p answer n) ≡ false
  listed_answers n h = rw (listed_is p answer n) (below_none p (paired answer) answer_odd n (λ b l. h))

  pub listed_below : (k n : ℕ) → n ≤ k → any (λ q. leb k q.number) (listed p answer n) ≡ false
  listed_below k n h = rw (listed_is p answer n) (below_wide p (paired answer) pair_box (λ b. refl) k n h)

  -- "box numbers rise strictly"
  pub listed_rises : (n : ℕ) → falls pair_box 0 (listed p answer n) ≡ false
  listed_rises n = rw (listed_is p answer n) (below_rises p (paired answer) pair_box (λ b. refl) n)
