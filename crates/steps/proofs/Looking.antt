-- What is held under a message's stamp, over the rows of a table.
use Prim.Native.Nat.{ℕ, ◌+◌, ◌<◌, ◌≤◌}
use mathlib.Core.Path.{◌≡◌}
use mathlib.Core.List.{List}
use mathlib.Core.Bool.{true, false}
use mathlib.Core.Option.{some}
use Rattle.rules.specs.Bodies.{Body, same_body, stamp_of}
use Rattle.rules.specs.Table.{Entry}
use Rattle.table.specs.declared.State.{State}
use Rattle.table.specs.Table.{row_at, entry_of, entries, entry_with, state_at, state_in, place}
use Rattle.table.proofs.Looking.{find_none, find_some}
use Rattle.rules.specs.Visits.{look_up}
use Rattle.scans.proofs.Visits.{look_found, look_free, look_most}
use Rattle.steps.specs.declared.Held.{Held}
use Rattle.steps.specs.declared.Held.TheVariants.{Not, Same, Other}
use Rattle.steps.specs.declared.Look.{Look}
use Rattle.steps.specs.Step.{held_by, look_of}

-- a row of the stamp: whose body it holds
module _ (r b : List ℕ) (e : State) (q : e ≡ state_at r) where
  its : e ≡ state_in (entry_of r)
  unfolding state_in entry_of state_at entry_with
  its = q

  pub held_same : true ≡ same_body (entry_of r).body b → Same e ≡ held_by b (some (entry_of r))
  held_same s = rw (← s, its)

  pub held_other : false ≡ same_body (entry_of r).body b → Other e ≡ held_by b (some (entry_of r))
  held_other s = rw (← s, its)

module _ (t : List ℕ) (n : ℕ) (b : Body) (i : ℕ) (p : i ≡ place (stamp_of b) (entries t n)) where
  pub look_none : n ≤ i → i ≤ n → ◌≡◌ {A = Look} (record { place = i; held = Not; visited = n }) (look_of (entries t n) b)
  unfolding look_of
  look_none h k = rw (find_none (stamp_of b) t n i p h k, ← look_free t (stamp_of b) n i p h, ← p)

  pub look_held : i < n → (r : List ℕ) → r ≡ row_at t i → (h : Held) → h ≡ held_by b (some (entry_of r)) → ◌≡◌ {A = Look} (record { place = i; held = h; visited = i + 1 }) (look_of (entries t n) b)
  unfolding look_of
  look_held l r w h q = rw (q, w, find_some (stamp_of b) t n i p l, ← look_found t (stamp_of b) n i p l, ← p)

-- the entries that the own look-up visited: no more than there are
pub own_visits : (es : List Entry) (b : Body) (look : Look) → look ≡ look_of es b → look.visited ≡ look_up (stamp_of b) es
unfolding look_of
own_visits es b look l = rw l

pub own_most : (t : List ℕ) (n s own : ℕ) → own ≡ look_up s (entries t n) → own ≤ n
own_most t n s own e = rw e (look_most t s n)
