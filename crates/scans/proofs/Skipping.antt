-- Loops that leave none behind: the lowest version read, and a set that has every key.
use Prim.Native.Nat.{ℕ, ◌+◌, ◌<◌, ◌≤◌, zero-le}
use native.Mathlib.Omega.{arith}
use mathlib.Core.Path.{◌≡◌, refl}
use mathlib.Core.Bool.{Bool, true, false}
use borrow.Author.Tests.{le-ltb, ltb-true, ltb-false}
use lib.Dec.{ltb}
use Rattle.terms.specs.Choice.{tab, any}
use Rattle.records.specs.declared.Read.{Read}
use Rattle.records.specs.Tx.{read_version}
use Rattle.table.proofs.Checked.{any_false}
use Rattle.scans.specs.Scans.{older}

-- none of the first j passes
pub record NoneYet {A : Type 0} (P : A → Bool) (f : ℕ → A) (n j : ℕ) : Type 0 where
  pub within : j ≤ n
  pub all : (i : ℕ) → i < j → P (f i) ≡ false

module _ {A : Type 0} {f : ℕ → A} {n : ℕ} where
  pub none_begin : {P : A → Bool} → NoneYet P f n 0
  none_begin = record { within = zero-le; all = λ i h. absurd (omega arith) }

  module _ {P : A → Bool} {j : ℕ} (r : NoneYet P f n j) where
    -- one more, by a test Q that passes nothing new
    pub none_more : {Q : A → Bool} → j < n → ((x : A) → P x ≡ false → Q x ≡ false) → Q (f j) ≡ false → NoneYet Q f n (j + 1)
    none_more {Q} h less last = record { within = omega arith; all = λ i k. by i k (ltb i j) refl }
      where
        by : (i : ℕ) → i < j + 1 → (c : Bool) → ltb i j ≡ c → Q (f i) ≡ false
        by i k true e = less (f i) (r.all i (ltb-true i j e))
        by i k false e = let g : j ≤ i = ltb-false i j e in let d : i ≡ j = omega arith in rw d last

    pub none_end : n ≤ j → any P (tab f 0 n) ≡ false
    none_end h = any_false P f 0 n (λ i p q. r.all i (omega arith))

-- a bound that falls, and one that a version reaches
pub older_less : {low to : ℕ} → to ≤ low → (r : Read) → older low r ≡ false → older to r ≡ false
unfolding older
older_less {low} {to} h r e = let g : low ≤ read_version r = ltb-false (read_version r) low e in le-ltb (read_version r) to (omega arith)

pub older_not : {low : ℕ} (r : Read) → low ≤ read_version r → older low r ≡ false
unfolding older
older_not {low} r h = le-ltb (read_version r) low h
