-- What is told, computed: 50, which writes 7 at key 3, voted on and logged in view 3, stored in an empty table with room for two.
use Prim.Native.Nat.{ℕ}
use native.Mathlib.Omega.{arith}
use mathlib.Core.List.{List, [], ◌∷◌}
use mathlib.Core.Path.{◌≡◌, refl}
use lib.ListN.{replicate, take}
use Rattle.terms.specs.Checks.{or_else, when, if_less, if_same}
use Rattle.terms.specs.Group.{capacity_wrong}
use Rattle.terms.specs.declared.Decision.TheVariants.{Abort as abort}
use Rattle.records.specs.Numbers.{num_at}
use Rattle.records.specs.Tx.{tx_of}
use Rattle.rules.specs.Answers.{logged_at, unsettled}
use Rattle.rules.specs.declared.Vote.TheVariants.{Commit as vote_commit}
use Rattle.rules.specs.Answers.{view_as}
use Rattle.rules.specs.Bodies.{Body, stamp_of}
use Rattle.rules.specs.Table.{find}
use Rattle.table.specs.declared.State.{State}
use Rattle.table.specs.Table.{entries_of, entry_of, entry_with, new_count, new_row, place, reason_wrong, row_body, row_wrong, state_at, state_in, stored, table_len, table_wrong}
use Rattle.std.specs.Prelude.{Ok, Err, Some, None}
use Rattle.terms.specs.Checks.{passed, group, table as bad_table}
use Rattle.held.specs.Held.{body_held, found_in, held_of, held_wrong, holding_of, Told, Telling}
use Rattle.held.proofs.Stored.{stored_held}

abbrev body : Body
body = 84 ∷ 88 ∷ 0 ∷ 1 ∷ 50 ∷ 0 ∷ 0 ∷ 0 ∷ 0 ∷ 0 ∷ 0 ∷ 0 ∷ 3 ∷ 0 ∷ 7 ∷ 0 ∷ 0 ∷ 0 ∷ 0 ∷ 0 ∷ 0 ∷ 0 ∷ []

abbrev state : State
state = record { vote = vote_commit; log = logged_at abort (view_as 3); view = view_as 300; decided = unsettled }

abbrev empty : List ℕ
empty = replicate (table_len 2) 0

abbrev table : List ℕ
table = stored empty 0 body state

-- an empty table, with room for two, is taken
empty_taken : held_wrong 2 empty ≡ passed
unfolding held_wrong capacity_wrong table_wrong or_else when if_less
empty_taken = refl

first_place : 0 ≡ place 50 (entries_of empty)
unfolding place entries_of
first_place = refl

its_stamp : stamp_of body ≡ 50
unfolding stamp_of tx_of num_at
its_stamp = refl

-- so the premises of `stored_held` can be met
pub met : (body_held table 2 (stamp_of body) ≡ body) × Told (λ h. h.state ≡ state) (held_of table 2 (stamp_of body))
met = stored_held 2 0 body state refl (omega arith, omega arith, omega arith) (omega arith) empty empty_taken (rw its_stamp first_place)

-- held under 50, from byte 8209 on, behind the head, codes and views; nothing under 51; 14 before 16; 16 of a table that is too short
pub told : ◌≡◌ {A = List Telling} (held_of table 2 50 ∷ held_of table 2 51 ∷ held_of table 0 50 ∷ held_of (take 15 table) 256 50 ∷ held_of (take 15 table) 2 50 ∷ [])
    (Ok (Some (record { at = 8209; len = 22; state = state })) ∷ Ok None ∷ Err group ∷ Err group ∷ Err bad_table ∷ [])
unfolding held_of held_wrong capacity_wrong table_wrong row_wrong reason_wrong or_else when if_less if_same found_in holding_of stored new_row new_count entries_of entry_of entry_with row_body state_at state_in place find stamp_of tx_of num_at
told = refl
