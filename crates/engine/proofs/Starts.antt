-- A box can start empty: a table of zeros is taken for its capacity, counts no entry, and has let nothing go.
use Prim.Native.Nat.{ℕ, zero, suc, ◌+◌, ◌*◌, ◌≤◌, ◌<◌}
use native.Mathlib.Omega.{arith}
use mathlib.Core.Path.{◌≡◌, refl, sym, ◌∙◌}
use lib.ListN.{replicate, length-replicate, take, drop}
use Rattle.std.specs.Prelude.{Err}
use Rattle.terms.specs.Checks.{passed, table}
use Rattle.terms.proofs.Checks.{pass, halt, less_no, less_yes, when_no}
use Rattle.terms.proofs.Scans.{tab_same}
use Rattle.records.specs.Numbers.{le_val, num_at}
use Rattle.rules.specs.Table.{empty, no_version}
use Rattle.table.specs.Table.{entries_of, fold_in, folds_of, low_of, table_wrong, table_len, row_len}
use Rattle.engine.specs.Outcome.{Kept, box_in}
use Rattle.engine.specs.Safety.{Empty}
use Rattle.engine.specs.Busy.{zeros}

-- what starts empty holds the rules' empty box
pub empty_box : (x : Kept) → Empty x → box_in x ≡ empty
unfolding box_in entries_of empty
empty_box x e = rw (e.none, e.unread, e.low, e.folds)

-- ---- zeros say 0
front_none : (n m : ℕ) → le_val (take n (replicate m 0)) ≡ 0
front_none zero m = refl
front_none (suc n) zero = refl
front_none (suc n) (suc m) = omega (arith, front_none n m)

num_none : (n p m : ℕ) → le_val (take n (drop p (replicate m 0))) ≡ 0
num_none n zero m = front_none n m
num_none zero (suc p) zero = refl
num_none (suc n) (suc p) zero = refl
num_none n (suc p) (suc m) = num_none n p m

pub low_none : (m : ℕ) → low_of (replicate m 0) ≡ 0
unfolding low_of num_at
low_none m = num_none 8 1 m

fold_none : (m k : ℕ) → fold_in (replicate m 0) k ≡ no_version
unfolding fold_in num_at
fold_none m k = rw (num_none 8 _ m, num_none 8 _ m)

pub folds_none : (m : ℕ) → folds_of (replicate m 0) ≡ replicate 512 no_version
unfolding folds_of
folds_none m = tab_same (λ _. no_version) (fold_in (replicate m 0)) 0 512 (λ k p q. fold_none m k) ∙ refl

-- also where the slice is longer than its capacity needs
pub zeros_taken : (capacity n : ℕ) → table_len capacity ≤ suc n → table_wrong capacity (replicate (suc n) 0) ≡ passed
unfolding table_wrong
zeros_taken capacity n h =
    sym (pass (less_no _ _ _ (omega (arith, length-replicate {A = ℕ} n 0))) (pass (less_no _ _ _ (omega arith)) (sym (when_no _ _ refl))))

pub starts_empty : (capacity : ℕ) → Empty (zeros capacity)
unfolding zeros
starts_empty capacity =
    let e : table_len capacity ≡ suc (8200 + capacity * row_len) = omega arith in
    record { none = rw e; unread = refl; low = low_none (table_len capacity); folds = folds_none (table_len capacity) }

pub starts_taken : (capacity : ℕ) → table_wrong capacity (zeros capacity).table ≡ passed
unfolding zeros
starts_taken capacity =
    let e : table_len capacity ≡ suc (8200 + capacity * row_len) = omega arith in
    rw e (zeros_taken capacity (8200 + capacity * row_len) (omega arith))

-- one whose table has no room for what it is told
pub too_short : (capacity more : ℕ) → capacity < more → table_wrong more (zeros capacity).table ≡ Err table
unfolding zeros table_wrong
too_short capacity more h = sym (halt _ (less_yes _ _ _ (omega (arith, length-replicate {A = ℕ} (table_len capacity) 0))))
