-- Each public function of `election`: its contract settles every call.
use mathlib.Core.Path.{refl}
use seplogic.Ra.Ura.{Ura}
use types.Logic.{Logic}
use Rattle.settled.specs.Settled.{Settled}
use Rattle.settled.proofs.Lemma.{settled, one, ◌&◌}
use Rattle.election.specs.contracts as election

module _ {M : Type 1} {𝓤 : Ura M} (𝓛 : Logic 𝓤) where
  pub heard_values : Settled 𝓛 election.Heard.values.ended (election.Heard.values.spec 𝓛) (election.Heard.values.clauses 𝓛)
  heard_values mem run = (refl, λ k o o'. settled 𝓤 (λ p q. one p q & refl))

  pub said : Settled 𝓛 election.said.ended (election.said.spec 𝓛) (election.said.clauses 𝓛)
  said mem run = (refl, λ k o o'. settled 𝓤 (λ p q. one p q & refl))

  pub sheet_heard : Settled 𝓛 election.sheet_heard.ended (election.sheet_heard.spec 𝓛) (election.sheet_heard.clauses 𝓛)
  sheet_heard mem run = (refl, λ k o o'. settled 𝓤 (λ p q. one p q & refl))

  pub gather : Settled 𝓛 election.gather.ended (election.gather.spec 𝓛) (election.gather.clauses 𝓛)
  gather mem run = (refl, λ k o o'. settled 𝓤 (λ p q. one p q & refl))

  pub taller : Settled 𝓛 election.taller.ended (election.taller.spec 𝓛) (election.taller.clauses 𝓛)
  taller mem run = (refl, λ k o o'. settled 𝓤 (λ p q. one p.0 q.0 & refl))

  pub listed : Settled 𝓛 election.listed.ended (election.listed.spec 𝓛) (election.listed.clauses 𝓛)
  listed mem run = (refl, λ k o o'. settled 𝓤 (λ p q. one p q & refl))
