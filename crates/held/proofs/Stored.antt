-- What a call stores is what is told of its stamp afterwards.
use Prim.Native.Nat.{ℕ, ◌<◌}
use mathlib.Core.Path.{◌≡◌, sym}
use mathlib.Core.List.{List}
use mathlib.Core.Option.{some}
use lib.ListN.{length}
use Rattle.terms.proofs.Checks.{pass, first_none, rest_none}
use Rattle.records.specs.Tx.{tx_len, TxThere}
use Rattle.rules.specs.Bodies.{Body, stamp_of}
use Rattle.rules.specs.Table.{find}
use Rattle.rules.proofs.Laws.{find_put_same}
use Rattle.table.specs.declared.State.{State}
use Rattle.table.specs.Table.{entries_of, entry_with, place, state_in, stored}
use Rattle.table.proofs.Storing.{stored_put, stored_right}
use Rattle.terms.specs.Checks.{passed, or_else}
use Rattle.held.specs.Held.{held_wrong, holding_of, found_in, held_of, body_by, body_held, Told, StoredHeld}

module _ (capacity i : ℕ) (b : Body) (x : State) (whole : length b ≡ tx_len b) (there : TxThere b) (free : i < capacity) (t : List ℕ)
    (e : held_wrong capacity t ≡ passed) (p : i ≡ place (stamp_of b) (entries_of t)) where
  right_still : held_wrong capacity (stored t i b x) ≡ passed
  unfolding held_wrong
  right_still = sym (pass (first_none _ _ e) (sym (stored_right capacity i b x whole there free t (rest_none _ _ e) p)))

  found_again : find (stamp_of b) (entries_of (stored t i b x)) ≡ some (entry_with b x)
  unfolding held_wrong entry_with
  found_again = rw (stored_put capacity i b x whole there free t (rest_none _ _ e) p) (find_put_same (entry_with b x) (entries_of t))

  body_again : body_held (stored t i b x) capacity (stamp_of b) ≡ b
  unfolding body_held body_by entry_with
  body_again = rw (right_still, found_again)

  state_again : Told (λ h. h.state ≡ x) (held_of (stored t i b x) capacity (stamp_of b))
  unfolding held_of found_in holding_of state_in entry_with or_else
  state_again = rw (right_still, found_again)

pub stored_held : StoredHeld
stored_held capacity i b x whole there free t e p = (body_again capacity i b x whole there free t e p, state_again capacity i b x whole there free t e p)
