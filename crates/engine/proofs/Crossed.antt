-- Two decisions in either order on a table of zeros: each call is the rules' call, and those are computed.
use Rattle.std.specs.Prelude.{Err}
use Prim.Native.Nat.{ℕ, ◌≤◌}
use native.Mathlib.Omega.{arith}
use mathlib.Core.Bool.{false}
use mathlib.Core.Path.{◌≡◌, refl, ap, sym, ◌∙◌}
use mathlib.Core.List.{List, [], ◌∷◌}
use lib.ListN.{length, length-replicate}
use Rattle.terms.specs.Checks.{passed, or_else, if_less, table}
use Rattle.terms.specs.Group.{capacity_wrong, group_wrong}
use Rattle.terms.proofs.Checks.{halt, less_no, less_yes, pass}
use Rattle.rules.specs.Bodies.{stamp_of}
use Rattle.rules.specs.Table.{Box, Entry, empty}
use Rattle.rules.specs.Calls.{Act}
use Rattle.rules.specs.Act.{receive, told_wrong}
use Rattle.rules.specs.Cases.{line}
use Rattle.rules.specs.Answers.{apart_from_number}
use Rattle.rules.specs.Order.{Call, NeedsNew, next, of_rules, replies, reply}
use Rattle.rules.specs.Crossed.{aborting, calls, committing, later_calls, later_messages}
use Rattle.rules.proofs.Room.{never_overfull}
use Rattle.rules.proofs.Running.{running}
use Rattle.table.specs.Table.{count_of, entries_of, table_len, table_wrong}
use Rattle.engine.specs.Outcome.{Kept, box_in, lent_wrong}
use Rattle.engine.specs.Busy.{zeros}
use Rattle.engine.specs.Order.{next_by, of_calls, reply_by}
use Rattle.engine.specs.Crossed.{CrossedCalls, later_answered, that_way, this_way}
use Rattle.engine.proofs.Safety.{is_refused}
use Rattle.engine.proofs.Starts.{empty_box, starts_empty, starts_taken}
use Rattle.engine.proofs.Order.{bad_in, calls_commute, count_is, next_fine, next_long, none_bad, one_call_refused, same_next, same_reply, taken_by}

-- a table with room for eight, beside the rules' box that it holds
record Holds (x : Kept) (y : Box) : Type 0 where
  long : length x.table ≡ table_len 8
  right : bad_in x.table ≡ false
  box : box_in x ≡ y

begun : Holds (zeros 8) empty
unfolding zeros
begun = record {
  long = length-replicate {A = ℕ} (table_len 8) 0;
  right = none_bad 8 _ (starts_taken 8);
  box = empty_box (zeros 8) (starts_empty 8);
}

-- a call that is told no more than eight, and no less than the box holds, is the rules' call
module _ {x : Kept} {y : Box} (h : Holds x y) (c : Call)
    (told : told_wrong c.told ≡ passed) (small : c.told.capacity ≤ 8) (room : length y.table ≤ c.told.capacity) where
  lent : lent_wrong c.told x.table ≡ passed
  unfolding lent_wrong
  lent =
      let n : count_of x.table ≡ length y.table = sym (count_is x) ∙ ap (λ (b : Box). length b.table) h.box in
      sym (pass told (sym (taken_by c.told.capacity x.table (omega (arith, h.long)) (omega arith) h.right)))

  replied : reply_by x c ≡ reply y c
  replied = same_reply x c lent ∙ ap (λ (b : Box). reply b c) h.box

  kept_on : Holds (next_by x c) (next y c)
  kept_on = record {
    long = next_long x c lent ∙ h.long;
    right = none_bad _ _ (next_fine x c lent);
    box = same_next x c lent ∙ ap (λ (b : Box). next b c) h.box;
  }

-- so are later calls
follows : {x : Kept} {y : Box} → Holds x y → length y.table ≤ 8 → (ms : List (List ℕ)) → replies of_calls x (calls ms) ≡ replies of_rules y (calls ms)
unfolding calls replies line told_wrong or_else group_wrong capacity_wrong if_less next
follows h n [] = refl
follows {x} {y} h n (m ∷ ms) =
    let c : Call = record { entry = receive; told = line; message = m } in
    λ i.
    apart_from_number (replied h c refl (omega arith) n i)
    ∷ follows {x = next_by x c} {y = next y c} (kept_on h c refl (omega arith) n) (never_overfull line y receive m n) ms i

-- ---- the two decisions, on the rules' empty box
one : Holds (next_by (zeros 8) (committing 8)) (next empty (committing 8))
unfolding running committing
one = kept_on begun (committing 8) refl (omega arith) (omega arith)

other : Holds (next_by (zeros 8) (aborting 5)) (next empty (aborting 5))
unfolding running aborting
other = kept_on begun (aborting 5) refl (omega arith) (omega arith)

this : Holds this_way (next (next empty (committing 8)) (aborting 5))
unfolding running next committing aborting this_way
this = kept_on one (aborting 5) refl (omega arith) (omega arith)

that : Holds that_way (next (next empty (aborting 5)) (committing 8))
unfolding running next committing aborting that_way
that = kept_on other (committing 8) refl (omega arith) (omega arith)

first_new : NeedsNew of_calls (zeros 8) (committing 8)
unfolding running reply committing zeros entries_of
first_new = record { new = refl; taken = replied begun (committing 8) refl (omega arith) (omega arith) }

second_new : NeedsNew of_calls (zeros 8) (aborting 5)
unfolding running reply aborting zeros entries_of
second_new = record { new = refl; taken = replied begun (aborting 5) refl (omega arith) (omega arith) }

-- with room for one
one_new_lem : NeedsNew of_calls (zeros 8) (committing 1)
unfolding running reply committing zeros entries_of
one_new_lem = record { new = refl; taken = replied begun (committing 1) refl (omega arith) (omega arith) }

other_new_lem : NeedsNew of_calls (zeros 8) (aborting 1)
unfolding running reply aborting zeros entries_of
other_new_lem = record { new = refl; taken = replied begun (aborting 1) refl (omega arith) (omega arith) }

-- the entry that stands first
unfoldable first_stamp : List Entry → ℕ
first_stamp [] = 0
first_stamp (e ∷ es) = stamp_of e.body

stands : {x : Kept} {y : Box} → Holds x y → first_stamp (entries_of x.table) ≡ first_stamp y.table
unfolding box_in
stands h = ap (λ (b : Box). first_stamp b.table) h.box

differ : this_way.table ≡ that_way.table → ⊥
unfolding running next committing aborting first_stamp
differ e =
    let a : first_stamp (entries_of this_way.table) ≡ 70 = stands this in
    let b : first_stamp (entries_of that_way.table) ≡ 65 = stands that in
    let c = ap (λ (t : List ℕ). first_stamp (entries_of t)) e in
    omega (arith, a, b, c)

-- two entries are more than a capacity of one
crowded : lent_wrong (committing 1).told this_way.table ≡ Err table
unfolding running next committing aborting lent_wrong table_wrong
crowded =
    let n : count_of this_way.table ≡ 2 = sym (count_is this_way) ∙ ap (λ (b : Box). length b.table) this.box in
    let l = this.long in
    sym (pass (less_no (length this_way.table) (table_len 1) table (omega arith))
    (halt _ (less_yes 1 (count_of this_way.table) table (omega arith))))

answers_this : replies of_calls this_way later_calls ≡ later_answered
unfolding running reply next replies apart_from_number calls committing aborting later_messages later_calls later_answered
answers_this = follows this (omega arith) later_messages

answers_that : replies of_calls that_way later_calls ≡ later_answered
unfolding running reply next replies apart_from_number calls committing aborting later_messages later_calls later_answered
answers_that = follows that (omega arith) later_messages

pub crossed_calls : CrossedCalls
unfolding running reply next committing aborting reply_by
crossed_calls =
    let n = (starts_empty 8).none in
    record {
      one_new = first_new;
      other_new = second_new;
      either =
          calls_commute (zeros 8) (committing 8) (aborting 5) refl refl (λ q. omega arith)
          (record { for_both = λ _ _. omega (arith, n); for_other = λ _ _. omega (arith, n) })
          (record { for_both = λ _ _. omega (arith, n); for_other = λ _ _. omega (arith, n) });
      bytes_differ = differ;
      answers_this_way = answers_this;
      answers_that_way = answers_that;
      other_second = one_call_refused (zeros 8) (committing 1) (aborting 1) refl refl (λ q. omega arith) one_new_lem other_new_lem (omega (arith, n));
      one_second = one_call_refused (zeros 8) (aborting 1) (committing 1) refl refl (λ q. omega arith) other_new_lem one_new_lem (omega (arith, n));
      held_first = replied one (committing 1) refl (omega arith) (omega arith);
      held_second = ap (λ (a : Act). a.answer) (is_refused (committing 1).entry (committing 1).told this_way (committing 1).message table crowded);
    }
