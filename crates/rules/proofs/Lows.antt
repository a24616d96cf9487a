-- The vectors and traces of specs/Lows, by computation.
use Prim.Native.Nat.{ℕ, zero, suc}
use mathlib.Core.Bool.{Bool, true}
use mathlib.Core.Path.{◌≡◌, refl}
use mathlib.Core.List.{[]}
use native.Mathlib.Omega.{arith}
use lib.Dec.{T}
use Rattle.terms.specs.Group.{boxes}
use Rattle.terms.specs.declared.Refusal.TheVariants.{Full, Old}
use Rattle.records.specs.Tx.{tx_bytes}
use Rattle.rules.specs.Answers.{Raised, Refused, apart_from_number, commit}
use Rattle.rules.specs.Bodies.{stamp_of, writes_key}
use Rattle.rules.specs.Act.{raising, receive}
use Rattle.rules.specs.System.{Fair, Sound, answer_to, how_many}
use Rattle.rules.specs.SlipUnder.{asks, holds, is_found, is_rd, watched}
use Rattle.rules.specs.Cases.{PR, RD, commits, found, reads, writes}
use Rattle.rules.specs.Counts.{aborts_by, commits_by, done, writers}
use Rattle.rules.specs.Traces.{liar}
use Rattle.rules.specs.Lows.{FoldCounts, Left, Lowered, NowIsTooWeak, Reused, called, count_due, count_of, counts, emptied, filled, folded, foldings}
use Rattle.rules.specs.Lows.{held_by, leavings, leaves, left_by, lent_low, let_go, low_cases, named, olds, pack_each, packed, read_without_now}
use Rattle.rules.specs.Lows.{reads_without_now, reused, roomy, shown, version}
use Rattle.rules.proofs.Made.{provable, provable_proof}
use Rattle.rules.proofs.Running.{running, tracing}
use Rattle.rules.proofs.Safety.{safety}
use Rattle.rules.proofs.Traces.{checking, fair_by, fair_test, few}

unfoldable lowering : ℕ
unfolding called version folded lent_low olds named shown roomy low_cases
lowering = 0

unfoldable letting : ℕ
unfolding lowering leaves held_by left_by leavings done writers commits_by aborts_by count_of count_due counts foldings
letting = 0

pub lowered : Lowered
unfolding running letting
lowered = refl

pub left : Left
unfolding running letting
left = refl

pub fold_counts : FoldCounts
unfolding running letting
fold_counts = refl

unfoldable raising_marks : ℕ
unfolding packed pack_each filled emptied reused let_go holds is_rd asks is_found reads_without_now read_without_now
raising_marks = 0

record ReusedTests : Type 0 where
  fair : T (fair_test 1 liar reused)
  full : answer_to 1 (packed receive 0 (PR (reads 60 3 50))) filled ≡ Refused Full
  raised : answer_to 1 (packed (raising 55) 0 []) filled ≡ Raised
  shows : answer_to 1 (packed receive 0 (RD 3 60)) emptied ≡ found 50 7 0 0
  taken : apart_from_number (answer_to 1 (packed receive 4 (PR (reads 60 3 50))) emptied) ≡ commits
  old : answer_to 1 (packed receive 0 (PR (writes 54 3))) reused ≡ Refused Old
  full_again : answer_to 1 (packed receive 0 (PR (writes 80 5))) reused ≡ Refused Full
  writer : T (provable 1 liar reused (tx_bytes (writes 50 3)) commit)
  reader : T (provable 1 liar reused (tx_bytes (reads 60 3 50)) commit)
  next : T (provable 1 liar reused (tx_bytes (writes 70 4)) commit)

reused_tests : ReusedTests
unfolding tracing checking raising_marks
reused_tests = record {
  fair = tt;
  full = refl;
  raised = refl;
  shows = refl;
  taken = refl;
  old = refl;
  full_again = refl;
  writer = tt;
  reader = tt;
  next = tt;
}

reused_fair : Fair 1 liar reused
reused_fair = fair_by 1 liar reused reused_tests.fair

pub reused_trace : Reused
reused_trace = record {
  fair = reused_fair;
  full = reused_tests.full;
  raised = reused_tests.raised;
  shows = reused_tests.shows;
  taken = reused_tests.taken;
  old = reused_tests.old;
  full_again = reused_tests.full_again;
  writer_commits = provable_proof 1 liar reused _ commit reused_tests.writer;
  reader_commits = provable_proof 1 liar reused _ commit reused_tests.reader;
  next_commits = provable_proof 1 liar reused _ commit reused_tests.next;
  safe = safety 1 liar few reused reused_fair;
}

-- all six are asked; a sound box is one of the first five
all_boxes : ℕ → Bool
all_boxes i = true

module _ (P : ℕ → Type 0) where
  first_five : P 0 → P 1 → P 2 → P 3 → P 4 → (i : ℕ) → Sound 1 liar i → P i
  unfolding liar
  first_five a b c d e zero s = a
  first_five a b c d e (suc zero) s = b
  first_five a b c d e (suc (suc zero)) s = c
  first_five a b c d e (suc (suc (suc zero))) s = d
  first_five a b c d e (suc (suc (suc (suc zero)))) s = e
  first_five a b c d e (suc (suc (suc (suc (suc zero))))) s = absurd s.1
  first_five a b c d e (suc (suc (suc (suc (suc (suc i)))))) s = absurd (omega (arith, s.0))

abbrev Unheld : ℕ → Type 0
Unheld i = T (read_without_now (watched 1 i) i 3 60 (tx_bytes (writes 50 3)) let_go)

record NowTests : Type 0 where
  fair : T (fair_test 1 liar let_go)
  enough : how_many all_boxes (boxes 1) ≡ 6
  unheld_0 : Unheld 0
  unheld_1 : Unheld 1
  unheld_2 : Unheld 2
  unheld_3 : Unheld 3
  unheld_4 : Unheld 4
  writes_it : T (writes_key (tx_bytes (writes 50 3)) 3)
  stamp : stamp_of (tx_bytes (writes 50 3)) ≡ 50
  commits : T (provable 1 liar let_go (tx_bytes (writes 50 3)) commit)

now_tests : NowTests
unfolding tracing checking raising_marks all_boxes
now_tests = record {
  fair = tt;
  enough = refl;
  unheld_0 = tt;
  unheld_1 = tt;
  unheld_2 = tt;
  unheld_3 = tt;
  unheld_4 = tt;
  writes_it = tt;
  stamp = refl;
  commits = tt;
}

pub now_is_too_weak : NowIsTooWeak
now_is_too_weak = record {
  fair = fair_by 1 liar let_go now_tests.fair;
  none_now = record {
    asked = all_boxes;
    enough = omega (arith, now_tests.enough);
    answered = λ i z a. first_five Unheld now_tests.unheld_0 now_tests.unheld_1 now_tests.unheld_2 now_tests.unheld_3 now_tests.unheld_4 i z;
    writes = now_tests.writes_it;
    below = omega (arith, now_tests.stamp);
  };
  commits = provable_proof 1 liar let_go _ commit now_tests.commits;
}
