-- The first n places of an array filled one by one, in an array of zeros.
use Rattle.std.proofs.Common.{◌≡◌, ℕ, ◌-◌, ◌≤◌, List, ◌++◌, take, drop, replicate, arith}
use Rattle.std.proofs.lemmas.List.{take-replicate, drop-replicate, append-nil}
use Rattle.terms.proofs.Scans.{Grown, none}
use Rattle.records.specs.Tx.{padded}

module _ {A : Type 0} {f : ℕ → A} {z : A} (m : ℕ) {n : ℕ} where
  pub fill_none : n ≤ m → Grown f z n (take n (replicate m z)) 0
  fill_none h = rw (take-replicate n m z h) none

  pub fill_all : {items : List A} {j : ℕ} → Grown f z n items j → n ≤ j → items ++ drop n (replicate m z) ≡ padded f n m z
  fill_all {items} {j} g h =
      let e : j ≡ n = omega (arith, g.within) in
      let o : n - n ≡ 0 = omega arith in
      rw (drop-replicate n m z, g.is, e, o, append-nil)
