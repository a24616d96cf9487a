-- What 14 and 16 leave of a lent table.
use Prim.Native.Nat.{ℕ, ◌+◌, ◌*◌, ◌≤◌}
use mathlib.Core.Path.{◌≡◌}
use mathlib.Core.List.{List}
use lib.ListN.{length, drop}
use Rattle.terms.specs.Checks.{passed}
use Rattle.terms.specs.Group.{largest_f}
use Rattle.terms.proofs.Checks.{first_none, rest_none}
use Rattle.terms.proofs.Groups.{capacity_small, group_small}
use Rattle.rules.specs.declared.Told.{Told}
use Rattle.rules.specs.Act.{told_wrong}
use Rattle.table.specs.Table.{table_wrong, count_of, Wf, head_len, row_len}
use Rattle.table.proofs.Checked.{table_room, table_count, table_wf}
use Rattle.engine.specs.Outcome.{lent_wrong}

pub told_small : (told : Told) → told_wrong told ≡ passed → told.capacity ≤ 255
unfolding told_wrong
told_small told e = capacity_small _ (rest_none _ _ e)

module _ (told : Told) (t : List ℕ) (e : lent_wrong told t ≡ passed) where
  pub in_order : told_wrong told ≡ passed
  unfolding lent_wrong
  in_order = first_none _ _ e

  pub taken : table_wrong told.capacity t ≡ passed
  unfolding lent_wrong
  taken = rest_none _ _ e

  pub small_f : told.f ≤ largest_f
  unfolding told_wrong
  small_f = (group_small _ (first_none _ _ in_order)).1

  pub small_capacity : told.capacity ≤ 255
  small_capacity = told_small told in_order

  pub long : head_len + told.capacity * row_len ≤ length t
  long = table_room told.capacity t taken

  pub few : count_of t ≤ told.capacity
  few = table_count told.capacity t taken

  pub wf : (rs : List ℕ) (n : ℕ) → rs ≡ drop head_len t → n ≡ count_of t → Wf rs n
  wf rs n p q = rw (p, q) (table_wf told.capacity t taken)
