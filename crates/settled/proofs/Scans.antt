-- Each public function of `scans`: its contract settles every call.
use mathlib.Core.Path.{◌≡◌, refl}
use seplogic.Ra.Ura.{Ura}
use types.Logic.{Logic}
use Rattle.settled.specs.Settled.{Settled}
use Rattle.settled.proofs.Lemma.{settled, one, ◌&◌}
use Rattle.scans.specs.declared.Cast.{Cast}
use Rattle.scans.specs.contracts as scans

-- a vote and a number are what they are by both
same_cast : (a b : Cast) → a.vote ≡ b.vote → a.visited ≡ b.visited → a ≡ b
same_cast a b e f i = record { vote = e i; visited = f i }

module _ {M : Type 1} {𝓤 : Ura M} (𝓛 : Logic 𝓤) where
  pub ahead : Settled 𝓛 scans.ahead.ended (scans.ahead.spec 𝓛) (scans.ahead.clauses 𝓛)
  ahead mem run = (refl, λ k o o'. settled 𝓤 (λ p q. one p q & refl))

  pub test_1 : Settled 𝓛 scans.test_1.ended (scans.test_1.spec 𝓛) (scans.test_1.clauses 𝓛)
  test_1 mem run = (refl, λ k o o'. settled 𝓤 (λ p q. one p q & refl))

  pub test_3 : Settled 𝓛 scans.test_3.ended (scans.test_3.spec 𝓛) (scans.test_3.clauses 𝓛)
  test_3 mem run = (refl, λ k o o'. settled 𝓤 (λ p q. one p q & refl))

  pub test_4 : Settled 𝓛 scans.test_4.ended (scans.test_4.spec 𝓛) (scans.test_4.clauses 𝓛)
  test_4 mem run = (refl, λ k o o'. settled 𝓤 (λ p q. one p q & refl))

  pub test_5 : Settled 𝓛 scans.test_5.ended (scans.test_5.spec 𝓛) (scans.test_5.clauses 𝓛)
  test_5 mem run = (refl, λ k o o'. settled 𝓤 (λ p q. one p q & refl))

  pub waiting_rule : Settled 𝓛 scans.waiting_rule.ended (scans.waiting_rule.spec 𝓛) (scans.waiting_rule.clauses 𝓛)
  waiting_rule mem run = (refl, λ k o o'. settled 𝓤 (λ p q. same_cast o.0 o'.0 (one p.0 q.0) (one p.1 q.1) & refl))

  pub first_vote : Settled 𝓛 scans.first_vote.ended (scans.first_vote.spec 𝓛) (scans.first_vote.clauses 𝓛)
  first_vote mem run = (refl, λ k o o'. settled 𝓤 (λ p q. same_cast o.0 o'.0 (one p.0 q.0) (one p.1 q.1) & refl))

  pub newest : Settled 𝓛 scans.newest.ended (scans.newest.spec 𝓛) (scans.newest.clauses 𝓛)
  newest mem run = (refl, λ k o o'. settled 𝓤 (λ p q. one p q & refl))

  pub found : Settled 𝓛 scans.found.ended (scans.found.spec 𝓛) (scans.found.clauses 𝓛)
  found mem run = (refl, λ k o o'. settled 𝓤 (λ p q. one p q & refl))
