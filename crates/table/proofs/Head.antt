-- The head of a table: what the bytes of a key's fold say is the key's folded version.
use Prim.Native.Nat.{ℕ, ◌+◌, ◌<◌, ◌≤◌}
use native.Mathlib.Omega.{arith}
use mathlib.Core.Path.{◌≡◌, ap, ◌∙◌}
use mathlib.Core.List.{List}
use lib.ListN.{length, get_or-eq_default}
use Rattle.terms.specs.Choice.{tab}
use Rattle.terms.proofs.Scans.{tab_get, tab_length}
use Rattle.rules.specs.Table.{fold_at, no_version}
use Rattle.table.specs.Table.{fold_in, folds_of}

pub fold_there : (t : List ℕ) (k : ℕ) → k ≤ 511 → fold_at (folds_of t) k ≡ fold_in t k
unfolding folds_of
fold_there t k h =
    let z : 0 + k ≡ k = omega arith in
    tab_get (fold_in t) 0 512 k no_version (omega arith) ∙ ap (fold_in t) z

pub fold_past : (t : List ℕ) (k : ℕ) → 511 < k → fold_at (folds_of t) k ≡ no_version
unfolding folds_of
fold_past t k h =
    let l = tab_length (fold_in t) 0 512 in
    let past : length (tab (fold_in t) 0 512) ≤ k = omega arith in
    get_or-eq_default (tab (fold_in t) 0 512) no_version past
