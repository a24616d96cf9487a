-- Each public function of `rules`: its contract settles every call.
use mathlib.Core.Path.{refl}
use seplogic.Ra.Ura.{Ura}
use types.Logic.{Logic}
use Rattle.settled.specs.Settled.{Settled}
use Rattle.settled.proofs.Lemma.{settled, one, ◌&◌}
use Rattle.rules.specs.contracts as rules

module _ {M : Type 1} {𝓤 : Ura M} (𝓛 : Logic 𝓤) where
  pub reason_number : Settled 𝓛 rules.Reason.number.ended (rules.Reason.number.spec 𝓛) (rules.Reason.number.clauses 𝓛)
  reason_number mem run = (refl, λ k o o'. settled 𝓤 (λ p q. one p q & refl))

  pub vote_number : Settled 𝓛 rules.Vote.number.ended (rules.Vote.number.spec 𝓛) (rules.Vote.number.clauses 𝓛)
  vote_number mem run = (refl, λ k o o'. settled 𝓤 (λ p q. one p q & refl))

  pub vote_reason : Settled 𝓛 rules.Vote.reason.ended (rules.Vote.reason.spec 𝓛) (rules.Vote.reason.clauses 𝓛)
  vote_reason mem run = (refl, λ k o o'. settled 𝓤 (λ p q. one p q & refl))

  pub settled_number : Settled 𝓛 rules.settled_number.ended (rules.settled_number.spec 𝓛) (rules.settled_number.clauses 𝓛)
  settled_number mem run = (refl, λ k o o'. settled 𝓤 (λ p q. one p q & refl))

  pub log_number : Settled 𝓛 rules.log_number.ended (rules.log_number.spec 𝓛) (rules.log_number.clauses 𝓛)
  log_number mem run = (refl, λ k o o'. settled 𝓤 (λ p q. one p q & refl))

  pub log_view : Settled 𝓛 rules.log_view.ended (rules.log_view.spec 𝓛) (rules.log_view.clauses 𝓛)
  log_view mem run = (refl, λ k o o'. settled 𝓤 (λ p q. one p q & refl))

  pub visited_told : Settled 𝓛 rules.visited_told.ended (rules.visited_told.spec 𝓛) (rules.visited_told.clauses 𝓛)
  visited_told mem run = (refl, λ k o o'. settled 𝓤 (λ p q. one p q & refl))

  pub visited_number : Settled 𝓛 rules.visited_number.ended (rules.visited_number.spec 𝓛) (rules.visited_number.clauses 𝓛)
  visited_number mem run = (refl, λ k o o'. settled 𝓤 (λ p q. one p q & refl))

  pub leader_of : Settled 𝓛 rules.leader_of.ended (rules.leader_of.spec 𝓛) (rules.leader_of.clauses 𝓛)
  leader_of mem run = (refl, λ k o o'. settled 𝓤 (λ p q. one p q & refl))
