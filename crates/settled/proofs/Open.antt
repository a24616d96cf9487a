-- That a contract settles a call is not had for nothing: one that leaves a byte open does not.
use mathlib.Core.Path.{refl, ap}
use mathlib.Core.HLevel.{⊥_prop}
use mathlib.Core.Logic.{∥∥₁_elim}
use mathlib.Core.List.{List, [], ◌∷◌}
use Prim.Native.Nat.{ℕ}
use native.Mathlib.Omega.{arith}
use seplogic.Ra.Ura.{Ura}
use Rattle.settled.specs.Settled.{Call, Outcome, NoSecond}
use Rattle.settled.specs.Open.{count_alone}
use Rattle.records.specs.contracts.put_u16

first : List ℕ → ℕ
first [] = 0
first (b ∷ s) = b

module _ {M : Type 1} (𝓤 : Ura M) where
  pub count_alone_open : Call 𝓤 put_u16.ended (count_alone 𝓤) → NoSecond 𝓤 put_u16.ended (count_alone 𝓤) → ⊥
  unfolding first
  count_alone_open k no_second =
      ∥∥₁_elim ((no_second k (tt, (0 ∷ 0 ∷ [], (tt, tt))) (tt, (1 ∷ 0 ∷ [], (tt, tt)))).apply 𝓤.one (∣ (refl, tt) ∣₁, ∣ (refl, tt) ∣₁)) ⊥_prop (λ t.
      omega (arith, ap (λ (s : List ℕ). first s) (ap (λ (o : Outcome 𝓤 put_u16.ended (count_alone 𝓤) k). o.1.0) t.0)))
