-- Tests 3 and 4 by their keys: at one row, over all rows where they pass, and the numbers of the first vote by its outcomes.
use Prim.Native.Nat.{ℕ, ◌+◌, ◌*◌, ◌<◌, ◌≤◌}
use native.Mathlib.Omega.{arith}
use mathlib.Core.Path.{◌≡◌, refl, sym, ◌∙◌}
use mathlib.Core.List.{List}
use mathlib.Core.Bool.{Bool, true, false, ◌&&◌}
use borrow.Author.Tests.{lt-ltb, le-ltb}
use lib.Dec.{eqb, ltb}
use lib.ListN.{length}
use Rattle.terms.specs.Choice.{pick, any}
use Rattle.terms.proofs.Scans.{tab_length}
use Rattle.records.specs.declared.Read.{Read}
use Rattle.records.specs.Tx.{r_count, w_count, read_at, write_at, writes_from, read_key, read_version}
use Rattle.rules.specs.declared.Reason.TheVariants.{Overwritten, ReadMark, Undercuts}
use Rattle.rules.specs.declared.Told.{Told}
use Rattle.rules.specs.declared.Vote.{Vote}
use Rattle.rules.specs.declared.Vote.TheVariants.{Waiting as waiting, Abort as vote_abort}
use Rattle.rules.specs.Bodies.{Body, reads_of, stamp_of, writes_key, writes_of}
use Rattle.rules.specs.Table.{Box, Entry, live}
use Rattle.rules.specs.Tests.{fold_above, is_folded, is_low, names, test1, test2, test3, test4, test5, waiting_rule, first_vote}
use Rattle.rules.specs.Visits.{fails3, fails4, new_last, test_visits, visits2, visits3, visits4, waiting_visits}
use Rattle.rules.proofs.Visits.{four_most, three_most, two_most, visits3_all, visits4_all, waiting_as_test2, waiting_most as eight_waiting, waiting_new_last}
use Rattle.table.specs.Table.{row_tx, entry_of}
use Rattle.table.proofs.Bodies.{body_stamp, body_reads, body_writes_key, reads_are, writes_are}
use Rattle.scans.specs.Scans.{below, entries_only, marks_only}
use Rattle.scans.specs.Visits.{read_below, later_vote, later_visits}
use Rattle.scans.proofs.Outcomes.{any_same, any_never, and_yes, and_no, and_true, and_false}
use Rattle.scans.proofs.Outcomes.{unmarked, marks_2, marks_3, marks_4, marks_5, marks_wait}

-- ---- one key and one row
module _ (b : Body) (r : List ℕ) (p : Read) where
  pub fails3_late : stamp_of b ≤ stamp_of (row_tx r) → false ≡ fails3 b p (entry_of r)
  unfolding fails3
  fails3_late h =
      rw (body_writes_key r (read_key p), body_stamp r, le-ltb (stamp_of (row_tx r)) (stamp_of b) h, and_false (writes_key (row_tx r) (read_key p)) (ltb (read_version p) (stamp_of (row_tx r))))
      (and_no (live (entry_of r)))

  module _ (h : stamp_of (row_tx r) < stamp_of b) where
    fails3_is : fails3 b p (entry_of r) ≡ (live (entry_of r) && below (row_tx r) p)
    unfolding fails3 below
    fails3_is =
        rw (body_writes_key r (read_key p), body_stamp r, lt-ltb (stamp_of (row_tx r)) (stamp_of b) h, and_true (writes_key (row_tx r) (read_key p)) (ltb (read_version p) (stamp_of (row_tx r))))

    pub fails3_under : {w : Bool} → w ≡ live (entry_of r) → below (row_tx r) p ≡ true → w ≡ fails3 b p (entry_of r)
    fails3_under l d = rw (fails3_is, d, l) (and_yes (live (entry_of r)))

    pub fails3_clear : below (row_tx r) p ≡ false → false ≡ fails3 b p (entry_of r)
    fails3_clear d = rw (fails3_is, d) (and_no (live (entry_of r)))

module _ (b : Body) (r : List ℕ) (k : ℕ) where
  -- what test 4 asks of a read, l telling how the stamps stand
  abbrev asked : Bool → Read → Bool
  asked l q = eqb k (read_key q) && (ltb (read_version q) (stamp_of b) && l)

  pub fails4_early : stamp_of (row_tx r) ≤ stamp_of b → false ≡ fails4 b k (entry_of r)
  unfolding fails4
  fails4_early h =
      rw (body_reads r, body_stamp r, le-ltb (stamp_of b) (stamp_of (row_tx r)) h, any_never (asked false) (λ q. and_false (eqb k (read_key q)) (ltb (read_version q) (stamp_of b))) (reads_of (row_tx r)))
      (and_no (live (entry_of r)))

  module _ (h : stamp_of b < stamp_of (row_tx r)) where
    fails4_is : fails4 b k (entry_of r) ≡ (live (entry_of r) && any (read_below k (stamp_of b)) (reads_of (row_tx r)))
    unfolding fails4 read_below
    fails4_is =
        rw (body_reads r, body_stamp r, lt-ltb (stamp_of b) (stamp_of (row_tx r)) h, any_same (asked true) (λ q. eqb k (read_key q) && ltb (read_version q) (stamp_of b)) (λ q. and_true (eqb k (read_key q)) (ltb (read_version q) (stamp_of b))) (reads_of (row_tx r)))

    pub fails4_under : {w : Bool} → w ≡ live (entry_of r) → any (read_below k (stamp_of b)) (reads_of (row_tx r)) ≡ true → w ≡ fails4 b k (entry_of r)
    fails4_under l d = rw (fails4_is, d, l) (and_yes (live (entry_of r)))

    pub fails4_clear : any (read_below k (stamp_of b)) (reads_of (row_tx r)) ≡ false → false ≡ fails4 b k (entry_of r)
    fails4_clear d = rw (fails4_is, d) (and_no (live (entry_of r)))

reads_count : (b : Body) → length (reads_of b) ≡ r_count b
reads_count b = rw (reads_are b) (tab_length (read_at b 12) 0 (r_count b))

writes_count : (b : Body) → length (writes_of b) ≡ w_count b
writes_count b = rw (writes_are b) (tab_length (write_at b (writes_from b)) 0 (w_count b))

-- ---- no number is large
module _ (x : Box) (b : Body) (n : ℕ) (l : length x.table ≡ n) where
  module _ (r : r_count b ≤ 8) where
    pub visits2_most : visits2 x b ≤ 8 * n
    visits2_most = rw (← l) (two_most x b (rw (reads_count b) r))

    pub waiting_most : waiting_visits x.low x.table b ≤ 8 * n
    waiting_most = rw (← l) (eight_waiting x.low x.table b (rw (reads_count b) r))

    pub visits3_most : visits3 x b ≤ 8 * n
    visits3_most = rw (← l) (three_most x b (rw (reads_count b) r))

  pub visits4_most : w_count b ≤ 8 → visits4 x b ≤ 8 * n
  visits4_most w = rw (← l) (four_most x b (rw (writes_count b) w))

-- ---- behind test 2, by the outcomes; n rows, g visited by test 2
module _ (x : Box) (b : Body) (n g : ℕ) (w : Vote) (l : length x.table ≡ n) where
  marks_v3 : visits3 x b ≡ visits3 (unmarked x) b
  unfolding visits3 fold_above
  marks_v3 = refl

  marks_v4 : visits4 x b ≡ visits4 (entries_only x.table) b
  unfolding visits4
  marks_v4 = refl

  module _ (d : test3 (unmarked x) b ≡ true) where
    pub later_3 : vote_abort Overwritten ≡ later_vote x b w
    unfolding later_vote
    later_3 = rw (sym (marks_3 x b) ∙ d)

    pub number_3 : (y : ℕ) → y ≡ visits3 (unmarked x) b → g + y ≡ g + later_visits x b g
    unfolding later_visits
    number_3 y e = rw (sym (marks_3 x b) ∙ d, marks_v3) (omega arith)

  module _ (d : test3 (unmarked x) b ≡ false) where
    third : (r : ℕ) → r ≡ r_count b → visits3 x b ≡ r * n
    third r e = rw (e, ← l, ← reads_count b) (marks_v3 ∙ visits3_all (unmarked x) b d)

    module _ (f : test4 (entries_only x.table) b ≡ true) where
      pub later_4 : vote_abort Undercuts ≡ later_vote x b w
      unfolding later_vote
      later_4 = rw (sym (marks_3 x b) ∙ d, sym (marks_4 x b) ∙ f)

      pub number_4 : (r y : ℕ) → r ≡ r_count b → y ≡ visits4 (entries_only x.table) b → g + r * n + y ≡ g + later_visits x b g
      unfolding later_visits
      number_4 r y p e = rw (sym (marks_3 x b) ∙ d, sym (marks_4 x b) ∙ f, third r p, marks_v4) (omega arith)

    module _ (f : test4 (entries_only x.table) b ≡ false) where
      fourth : (r : ℕ) → r ≡ w_count b → visits4 x b ≡ r * n
      fourth r e = rw (e, ← l, ← writes_count b) (marks_v4 ∙ visits4_all (entries_only x.table) b f)

      module _ (i : test5 (marks_only x.marks) b ≡ true) where
        pub later_5 : vote_abort ReadMark ≡ later_vote x b w
        unfolding later_vote
        later_5 = rw (sym (marks_3 x b) ∙ d, sym (marks_4 x b) ∙ f, sym (marks_5 x b) ∙ i)

        pub number_5 : (r k : ℕ) → r ≡ r_count b → k ≡ w_count b → g + r * n + k * n ≡ g + later_visits x b g
        unfolding later_visits
        number_5 r k p q = rw (sym (marks_3 x b) ∙ d, sym (marks_4 x b) ∙ f, sym (marks_5 x b) ∙ i, third r p, fourth k q) (omega arith)

      module _ (i : test5 (marks_only x.marks) b ≡ false) where
        pub later_6 : w ≡ later_vote x b w
        unfolding later_vote
        later_6 = rw (sym (marks_3 x b) ∙ d, sym (marks_4 x b) ∙ f, sym (marks_5 x b) ∙ i)

        pub number_6 : (r k : ℕ) → r ≡ r_count b → k ≡ w_count b → g + r * n + k * n + g ≡ g + later_visits x b g
        unfolding later_visits
        number_6 r k p q = rw (sym (marks_3 x b) ∙ d, sym (marks_4 x b) ∙ f, sym (marks_5 x b) ∙ i, third r p, fourth k q) (omega arith)

  later_most : r_count b ≤ 8 → w_count b ≤ 8 → g ≤ 8 * n → g + later_visits x b g ≤ 32 * n
  unfolding later_visits
  later_most r k h =
      by (test3 x b) (test4 x b) (test5 x b) (visits3 x b) (visits4 x b) (visits3_most x b n l r) (visits4_most x b n l k)
    where
      by : (o p q : Bool) (u v : ℕ) → u ≤ 8 * n → v ≤ 8 * n → g + (u + pick o 0 (v + pick p 0 (pick q 0 g))) ≤ 32 * n
      by true p q u v i j = omega arith
      by false true q u v i j = omega arith
      by false false true u v i j = omega arith
      by false false false u v i j = omega arith

-- ---- the first vote and its number, by tests 1 and 2
module _ (told : Told) (x : Box) (b : Body) where
  pub number_1 : test1 told b ≡ true → (st : List Entry) → 0 ≡ test_visits told x b st
  unfolding test_visits
  number_1 a st = rw a

  marks_v2 : visits2 x b ≡ visits2 (unmarked x) b
  unfolding visits2 names is_low is_folded
  marks_v2 = refl

  module _ (a : test1 told b ≡ false) where
    pub number_2 : test2 (unmarked x) b ≡ true → (g : ℕ) → g ≡ visits2 (unmarked x) b → (st : List Entry) → g ≡ test_visits told x b st
    unfolding test_visits
    number_2 d g e st = rw (a, sym (marks_2 x b) ∙ d, marks_v2) (omega arith)

    module _ (d : test2 (unmarked x) b ≡ false) where
      pub vote_on : (v w : Vote) → w ≡ waiting_rule (unmarked x) b → v ≡ later_vote x b w → v ≡ first_vote told x b
      unfolding first_vote later_vote
      vote_on v w p e = e ∙ (rw (a, sym (marks_2 x b) ∙ d, p, marks_wait x b))

      module _ (g y : ℕ) (e : g ≡ visits2 (unmarked x) b) (f : y ≡ g + later_visits x b g) where
        -- every version above the low mark is found, so that test 2 and the waiting rule visit the same entries
        number_on : (st : List Entry) → waiting_visits x.low st b ≡ visits2 (unmarked x) b → y ≡ test_visits told x b st
        unfolding test_visits later_visits
        number_on st h = f ∙ (rw (a, sym (marks_2 x b) ∙ d, marks_v2, h, e))

        pub number_held : y ≡ test_visits told x b x.table
        number_held = number_on x.table (waiting_as_test2 (unmarked x) b d)

        pub number_new : y ≡ test_visits told x b (new_last b x.table)
        number_new = number_on (new_last b x.table) (waiting_new_last (unmarked x) b d)

        pub number_most : (n : ℕ) → length x.table ≡ n → r_count b ≤ 8 → w_count b ≤ 8 → y ≤ 32 * n
        number_most n l r k =
            let h : g ≤ 8 * n = rw e (visits2_most (unmarked x) b n l r) in
            rw f (later_most x b n g waiting l r k h)
