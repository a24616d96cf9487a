-- Each public function of `low`: its contract settles every call.
use mathlib.Core.Path.{refl}
use mathlib.Core.List.{[]}
use seplogic.Ra.Ura.{Ura}
use types.Logic.{Logic}
use Rattle.settled.specs.Settled.{Settled}
use Rattle.settled.proofs.Lemma.{settled, one, ◌&◌}
use Rattle.low.specs.contracts as low

module _ {M : Type 1} {𝓤 : Ura M} (𝓛 : Logic 𝓤) where
  pub low_wrong : Settled 𝓛 low.low_wrong.ended (low.low_wrong.spec 𝓛) (low.low_wrong.clauses 𝓛)
  low_wrong mem run = (refl, λ k o o'. settled 𝓤 (λ p q. one (p []) (q []) & refl))

  pub raise : Settled 𝓛 low.raise.ended (low.raise.spec 𝓛) (low.raise.clauses 𝓛)
  raise mem run = (refl, λ k o o'. settled 𝓤 (λ p q. refl & one p q & refl))
