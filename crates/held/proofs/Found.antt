-- Where the body that is held stands, and what is told of it.
use Prim.Native.Nat.{ℕ, ◌+◌, ◌*◌, ◌<◌, ◌≤◌}
use native.Mathlib.Omega.{arith}
use mathlib.Core.Path.{◌≡◌}
use mathlib.Core.List.{List}
use mathlib.Core.Option.{some, none}
use lib.ListN.{length, drop}
use Rattle.terms.proofs.Checks.{first_none, rest_none}
use Rattle.terms.proofs.Groups.{capacity_small}
use Rattle.rules.specs.Table.{find}
use Rattle.table.specs.declared.State.{State}
use Rattle.table.specs.Table.{head_len, row_len, body_at, row_at, entry_with, entry_of, entries, entries_of, state_at, state_in, count_of, table_wrong, place, Wf}
use Rattle.table.proofs.Checked.{table_room, table_count, table_wf}
use Rattle.table.proofs.Looking.{find_none, find_some, entries_are}
use Rattle.held.specs.declared.Holding.{Holding}
use Rattle.std.specs.Prelude.{Ok, Some, None, Option as Maybe}
use Rattle.terms.specs.Checks.{passed, or_else}
use Rattle.held.specs.Held.{held_wrong, holding_of, body_place, found_in, held_of}

-- what 14 and 16 leave of a table
module _ (t : List ℕ) (capacity : ℕ) (e : held_wrong capacity t ≡ passed) where
  small : capacity ≤ 255
  unfolding held_wrong
  small = capacity_small capacity (first_none _ _ e)

  taken : table_wrong capacity t ≡ passed
  unfolding held_wrong
  taken = rest_none _ _ e

  pub right : Wf (drop head_len t) (count_of t) × (head_len ≤ length t) × (count_of t ≤ 255)
  right =
      let a = small in
      let b = table_room capacity t taken in
      let c = table_count capacity t taken in
      (table_wf capacity t taken, omega arith, omega arith)

pub passed_on : (t : List ℕ) (capacity s : ℕ) → held_wrong capacity t ≡ passed → Ok (found_in t s) ≡ held_of t capacity s
unfolding held_of or_else
passed_on t capacity s e = rw e

-- the entry of a row, told
pub told_of : (r : List ℕ) (at : ℕ) (n : ℕ) (x : State) → n ≡ length (entry_of r).body → x ≡ state_at r
    → ◌≡◌ {A = Maybe Holding} (Some (record { at = at; len = n; state = x })) (holding_of at (some (entry_of r)))
unfolding holding_of state_in entry_of entry_with state_at
told_of r at n x p q = rw (p, q)

-- found at its place, or not at all
module _ (t : List ℕ) (s i : ℕ) (p : i ≡ place s (entries (drop head_len t) (count_of t))) where
  its_place : head_len + i * row_len + body_at ≡ body_place t s
  its_place = rw (entries_are t, ← p)

  pub found : i < count_of t → find s (entries_of t) ≡ some (entry_of (row_at (drop head_len t) i))
  found h = rw (entries_are t) (find_some s (drop head_len t) (count_of t) i p h)

  pub tells_found : i < count_of t → holding_of (head_len + i * row_len + body_at) (some (entry_of (row_at (drop head_len t) i))) ≡ found_in t s
  unfolding found_in
  tells_found h = rw (found h, its_place)

  pub not_found : count_of t ≤ i → i ≤ count_of t → find s (entries_of t) ≡ none
  not_found h k = rw (entries_are t) (find_none s (drop head_len t) (count_of t) i p h k)

  pub tells_none : count_of t ≤ i → i ≤ count_of t → None ≡ found_in t s
  unfolding found_in holding_of
  tells_none h k = rw (not_found h k)

-- the same by the rows and the count that were taken of the table
module _ (t rs : List ℕ) (n : ℕ) (a : rs ≡ drop head_len t) (b : n ≡ count_of t) where
  pub rows_wf : Wf (drop head_len t) (count_of t) → Wf rs n
  rows_wf w = rw (a, b) w

  module _ (s i : ℕ) (p : i ≡ place s (entries rs n)) where
    place_of : i ≡ place s (entries (drop head_len t) (count_of t))
    place_of = rw (a, b) at p

    pub row_found : i < n → (r : List ℕ) → r ≡ row_at rs i → holding_of (head_len + i * row_len + body_at) (some (entry_of r)) ≡ found_in t s
    row_found h r q = rw (q, a) (tells_found t s i place_of (omega arith))

    pub row_none : n ≤ i → i ≤ n → None ≡ found_in t s
    row_none h k = tells_none t s i place_of (omega arith) (omega arith)
