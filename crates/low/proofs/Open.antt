-- 18 and 19: a row that is open at or below the mark, by its outcomes.
use Prim.Native.Nat.{ℕ, ◌<◌, ◌≤◌}
use mathlib.Core.Path.{◌≡◌, refl}
use native.Mathlib.Omega.{arith}
use mathlib.Core.Bool.{Bool, true, false}
use mathlib.Core.List.{List}
use borrow.Author.Tests.{eqb-false, le-leb, lt-leb, ne_eqb}
use lib.Dec.{eqb, leb}
use lib.ListN.{drop, get_or}
use Rattle.terms.specs.Choice.{any}
use Rattle.terms.specs.Checks.{old, or_else, undecided, when}
use Rattle.rules.specs.Bodies.{stamp_of}
use Rattle.rules.specs.Calls.{is_undecided, old_wrong}
use Rattle.rules.specs.Low.{low_wrong, open_up_to, up_to}
use Rattle.table.specs.Table.{box_from, count_of, decided_at, entries, entries_of, entry_of, entry_with, head_len, low_of, row_tx, state_at}
use Rattle.table.proofs.Bodies.{body_stamp}
use Rattle.table.proofs.Looking.{entries_are}

module _ (l : ℕ) (r : List ℕ) where
  pub up_no : l < stamp_of (row_tx r) → up_to l (entry_of r) ≡ false
  unfolding up_to
  up_no h = rw (body_stamp r) (lt-leb (stamp_of (row_tx r)) l h)

  pub up_yes : stamp_of (row_tx r) ≤ l → up_to l (entry_of r) ≡ true
  unfolding up_to
  up_yes h = rw (body_stamp r) (le-leb (stamp_of (row_tx r)) l h)

  pub open_above : l < stamp_of (row_tx r) → false ≡ open_up_to l (entry_of r)
  unfolding open_up_to
  open_above h = rw (up_no h)

  module _ (h : stamp_of (row_tx r) ≤ l) where
    closed_by : is_undecided (entry_of r).decided ≡ false → false ≡ open_up_to l (entry_of r)
    unfolding open_up_to
    closed_by e = rw (up_yes h, e)

    pub open_decided : 1 ≤ get_or r decided_at 0 → get_or r decided_at 0 ≤ 2 → false ≡ open_up_to l (entry_of r)
    unfolding entry_of entry_with state_at is_undecided
    open_decided a b = by (eqb (get_or r decided_at 0) 1) refl
      where
        by : (t : Bool) → eqb (get_or r decided_at 0) 1 ≡ t → false ≡ open_up_to l (entry_of r)
        by true e = closed_by (rw e)
        by false e =
            let n = eqb-false (get_or r decided_at 0) 1 e in
            let z : get_or r decided_at 0 ≡ 2 = omega arith in
            closed_by (rw z)

    pub open_yes : (get_or r decided_at 0 ≡ 1 → ⊥) → (get_or r decided_at 0 ≡ 2 → ⊥) → true ≡ open_up_to l (entry_of r)
    unfolding open_up_to entry_of entry_with state_at is_undecided
    open_yes a b = rw (up_yes h, ne_eqb (get_or r decided_at 0) 1 a, ne_eqb (get_or r decided_at 0) 2 b)

-- the check of a low mark
pub low_is : (t : List ℕ) (l : ℕ) (marks : List ℕ)
    → or_else (when (leb l (low_of t)) old) (when (any (open_up_to l) (entries (drop head_len t) (count_of t))) undecided) ≡ low_wrong (box_from t (entries_of t) marks) l
unfolding low_wrong old_wrong
low_is t l marks = rw (entries_are t)
