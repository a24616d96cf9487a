-- Each public function of `passage`: its contract settles every call.
use mathlib.Core.Path.{refl}
use seplogic.Ra.Ura.{Ura}
use types.Logic.{Logic}
use Rattle.settled.specs.Settled.{Settled}
use Rattle.settled.proofs.Lemma.{settled, one, ◌&◌}
use Rattle.passage.specs.contracts as passage

module _ {M : Type 1} {𝓤 : Ura M} (𝓛 : Logic 𝓤) where
  pub values_wrong : Settled 𝓛 passage.values_wrong.ended (passage.values_wrong.spec 𝓛) (passage.values_wrong.clauses 𝓛)
  values_wrong mem run = (refl, λ k o o'. settled 𝓤 (λ p q. one p q & refl))

  pub values_of : Settled 𝓛 passage.values_of.ended (passage.values_of.spec 𝓛) (passage.values_of.clauses 𝓛)
  values_of mem run = (refl, λ k o o'. settled 𝓤 (λ p q. one p q & refl))

  pub seen_wrong : Settled 𝓛 passage.seen_wrong.ended (passage.seen_wrong.spec 𝓛) (passage.seen_wrong.clauses 𝓛)
  seen_wrong mem run = (refl, λ k o o'. settled 𝓤 (λ p q. one p q & refl))

  pub report_of : Settled 𝓛 passage.report_of.ended (passage.report_of.spec 𝓛) (passage.report_of.clauses 𝓛)
  report_of mem run = (refl, λ k o o'. settled 𝓤 (λ p q. one p q & refl))

  pub asks : Settled 𝓛 passage.asks.ended (passage.asks.spec 𝓛) (passage.asks.clauses 𝓛)
  asks mem run = (refl, λ k o o'. settled 𝓤 (λ p q. one p q & refl))

  pub sight_of : Settled 𝓛 passage.sight_of.ended (passage.sight_of.spec 𝓛) (passage.sight_of.clauses 𝓛)
  sight_of mem run = (refl, λ k o o'. settled 𝓤 (λ p q. one p q & refl))

  pub read_report : Settled 𝓛 passage.read_report.ended (passage.read_report.spec 𝓛) (passage.read_report.clauses 𝓛)
  read_report mem run = (refl, λ k o o'. settled 𝓤 (λ p q. one p q & refl))

  pub correct_direction : Settled 𝓛 passage.correct_direction.ended (passage.correct_direction.spec 𝓛) (passage.correct_direction.clauses 𝓛)
  correct_direction mem run = (refl, λ k o o'. settled 𝓤 (λ p q. one p q & refl))

  pub correct : Settled 𝓛 passage.correct.ended (passage.correct.spec 𝓛) (passage.correct.clauses 𝓛)
  correct mem run = (refl, λ k o o'. settled 𝓤 (λ p q. one p q & refl))

  pub enter : Settled 𝓛 passage.enter.ended (passage.enter.spec 𝓛) (passage.enter.clauses 𝓛)
  enter mem run = (refl, λ k o o'. settled 𝓤 (λ p q. one p q & refl))
