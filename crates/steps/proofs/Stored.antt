-- What is put: its place is one that the capacity has, and its entry is its body with what the step holds beside it.
use Prim.Native.Nat.{ℕ, ◌<◌, ◌≤◌}
use native.Mathlib.Omega.{arith}
use mathlib.Core.Path.{◌≡◌, refl}
use mathlib.Core.List.{List}
use mathlib.Core.Logic.{◌⊎◌, inl, inr}
use mathlib.Core.Bool.{Bool, true, false}
use mathlib.Core.Option.{none}
use borrow.Author.Tests.{ltb-true, ltb-false}
use lib.Dec.{ltb}
use lib.ListN.{length}
use Rattle.terms.proofs.Scans.{tab_length}
use Rattle.rules.specs.Table.{Entry, find}
use Rattle.table.specs.Table.{entry_at, entries, entry_with, state_in, place}
use Rattle.table.proofs.Looking.{find_none}
use Rattle.table.proofs.Placing.{place_within}

lt_cases : (m n : ℕ) → (m < n) ⊎ (n ≤ m)
lt_cases m n = go (ltb m n) refl
  where
    go : (t : Bool) → ltb m n ≡ t → (m < n) ⊎ (n ≤ m)
    go true e = inl (ltb-true m n e)
    go false e = inr (ltb-false m n e)

-- a stamp that is held has its place within the table, one that is not behind it, where there is room
pub below : (t : List ℕ) (n s capacity : ℕ) → n ≤ capacity → (find s (entries t n) ≡ none → length (entries t n) < capacity)
    → place s (entries t n) < capacity
below t n s capacity h k = by (lt_cases (place s (entries t n)) n)
  where
    long : length (entries t n) ≡ n
    long = tab_length (entry_at t) 0 n

    by : (place s (entries t n) < n) ⊎ (n ≤ place s (entries t n)) → place s (entries t n) < capacity
    by (inl p) = omega arith
    by (inr p) =
        let w : place s (entries t n) ≤ n = omega (arith, place_within s (entries t n), long) in
        let r : length (entries t n) < capacity = k (find_none s t n (place s (entries t n)) refl p w) in
        omega (arith, r, long)

pub put_entry : (e : Entry) → entry_with e.body (state_in e) ≡ e
unfolding entry_with state_in
put_entry e = refl
