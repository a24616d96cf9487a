-- A read mark that is raised, and the body of a message.
use Prim.Native.Nat.{ℕ, ◌<◌, ◌≤◌, max}
use native.Mathlib.Omega.{arith}
use mathlib.Core.Path.{◌≡◌, refl}
use mathlib.Core.List.{List}
use lib.ListN.{length, get_or, set, take, length-take}
use lib.Seq.{set-get_or, get_or-take}
use Rattle.terms.specs.Checks.{passed}
use Rattle.records.specs.Tx.{tx_len, r_count, w_count, TxThere}
use Rattle.records.specs.Cutting.{tx_cut, behind_mark, tx_part}
use Rattle.reading.proofs.Cuts.{tx_there, part_is}
use Rattle.rules.specs.Act.{raise}

pub keep_mark : (ms : List ℕ) (k s : ℕ) → s ≤ get_or ms k 0 → ms ≡ raise ms k s
unfolding raise
keep_mark ms k s h = let e : max (get_or ms k 0) s ≡ get_or ms k 0 = omega arith in rw (e, set-get_or ms k 0)

pub new_mark : (ms : List ℕ) (k s : ℕ) → get_or ms k 0 < s → set ms k s ≡ raise ms k s
unfolding raise
new_mark ms k s h = let e : max (get_or ms k 0) s ≡ s = omega arith in rw e

-- the body of a message that is cut: all of it is there, its length is what its counts give, and it fits a row
module _ (m : List ℕ) (cut : tx_cut (behind_mark m) ≡ passed) where
  pub body_there : TxThere (tx_part m)
  unfolding tx_part
  body_there = (part_is m cut _ _ refl refl).1

  pub body_long : length (tx_part m) ≡ tx_len (tx_part m)
  unfolding tx_part
  body_long =
      let s = behind_mark m in
      let h : TxThere s = tx_there _ cut in
      let a : r_count (take (tx_len s) s) ≡ r_count s = get_or-take (tx_len s) s 2 0 (omega arith) in
      let b : w_count (take (tx_len s) s) ≡ w_count s = get_or-take (tx_len s) s 3 0 (omega arith) in
      rw (a, b) (simp length-take (omega arith))

  pub body_small : length (tx_part m) ≤ 172
  body_small = let h = body_there in let l = body_long in omega arith
