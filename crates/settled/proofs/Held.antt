-- Each public function of `held`: its contract settles every call.
use mathlib.Core.Path.{refl}
use seplogic.Ra.Ura.{Ura}
use types.Logic.{Logic}
use Rattle.settled.specs.Settled.{Settled, SettledPart}
use Rattle.settled.proofs.Lemma.{settled, one, ◌&◌}
use Rattle.held.specs.contracts as holdings

module _ {M : Type 1} {𝓤 : Ura M} (𝓛 : Logic 𝓤) where
  pub held : Settled 𝓛 holdings.held.ended (holdings.held.spec 𝓛) (holdings.held.clauses 𝓛)
  held mem run = (refl, λ k o o'. settled 𝓤 (λ p q. one p q & refl))

  pub held_body : SettledPart 𝓛 holdings.held_body.ended (λ κs r. r.now) (holdings.held_body.spec 𝓛) (holdings.held_body.clauses 𝓛)
  held_body mem run = (refl, λ k o o'. settled 𝓤 (λ p q. one p q & refl))

  pub numbers : Settled 𝓛 holdings.numbers.ended (holdings.numbers.spec 𝓛) (holdings.numbers.clauses 𝓛)
  numbers mem run = (refl, λ k o o'. settled 𝓤 (λ p q. one p q & refl))

  pub entry : Settled 𝓛 holdings.entry.ended (holdings.entry.spec 𝓛) (holdings.entry.clauses 𝓛)
  entry mem run = (refl, λ k o o'. settled 𝓤 (λ p q. one p q & refl))

  pub how_many : Settled 𝓛 holdings.how_many.ended (holdings.how_many.spec 𝓛) (holdings.how_many.clauses 𝓛)
  how_many mem run = (refl, λ k o o'. settled 𝓤 (λ p q. one p q & refl))
