-- Each public function of `engine`: its contract settles every call.
use mathlib.Core.Path.{refl}
use seplogic.Ra.Ura.{Ura}
use types.Logic.{Logic}
use mir.Syntax.{Dict}
use denote.Exit.{Last}
use denote.RattleType.{RattleType}
use Rattle.std.specs.Prelude.{Result}
use Rattle.std.specs.contracts.result.Result as OfResult
use Rattle.records.specs.declared.Mark.{Mark}
use Rattle.records.specs.contracts.Mark as OfMark
use Rattle.settled.specs.Settled.{Settled}
use Rattle.settled.proofs.Lemma.{settled, one, none_left, ◌&◌}
use Rattle.engine.specs.contracts as engine

-- what is left of a mark that was handed over
abbrev Left : (E : RattleType) → Dict → Result Mark E.Denot → Type 0
Left E d = Last ((OfResult.the_row OfMark.the_row (engine.due.E-row E)).exit (engine.due.ended E d).kept.0)

module _ {M : Type 1} {𝓤 : Ura M} (𝓛 : Logic 𝓤) where
  pub told_wrong : Settled 𝓛 engine.told_wrong.ended (engine.told_wrong.spec 𝓛) (engine.told_wrong.clauses 𝓛)
  told_wrong mem run = (refl, λ k o o'. settled 𝓤 (λ p q. one p q & refl))

  pub due : (E : RattleType) (d : Dict) → Settled 𝓛 (engine.due.ended E d) (engine.due.spec E d 𝓛) (engine.due.clauses E d 𝓛)
  due E d mem run = (refl, λ k o o'. settled 𝓤 (λ p q. one p.0 q.0 & none_left (Left E d) (λ x w w'. refl) (λ e w w'. refl) k.1.0 o.1.0 o'.1.0 & one p.1 q.1 & one p.2 q.2 & refl))

  pub receive : Settled 𝓛 engine.receive.ended (engine.receive.spec 𝓛) (engine.receive.clauses 𝓛)
  receive mem run = (refl, λ k o o'. settled 𝓤 (λ p q. one p.0 q.0 & one p.1 q.1 & one p.2 q.2 & refl))

  pub raise_low : Settled 𝓛 engine.raise_low.ended (engine.raise_low.spec 𝓛) (engine.raise_low.clauses 𝓛)
  raise_low mem run = (refl, λ k o o'. settled 𝓤 (λ p q. one p.0 q.0 & one p.1 q.1 & refl))
