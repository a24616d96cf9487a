-- Each public function of `replay`: its contract settles every call.
use mathlib.Core.Path.{refl}
use seplogic.Ra.Ura.{Ura}
use types.Logic.{Logic}
use Rattle.settled.specs.Settled.{Settled}
use Rattle.settled.proofs.Lemma.{settled, one, ◌&◌}
use Rattle.replay.specs.contracts as bench

module _ {M : Type 1} {𝓤 : Ura M} (𝓛 : Logic 𝓤) where
  pub replay : Settled 𝓛 bench.replay.ended (bench.replay.spec 𝓛) (bench.replay.clauses 𝓛)
  replay mem run = (refl, λ k o o'. settled 𝓤 (λ p q. one p.0 q.0 & refl & one p.1 q.1 & refl))
