-- Each public function of `steps`: its contract settles every call.
use mathlib.Core.Path.{refl}
use mathlib.Core.List.{[]}
use seplogic.Ra.Ura.{Ura}
use types.Logic.{Logic}
use Rattle.settled.specs.Settled.{Settled}
use Rattle.settled.proofs.Lemma.{settled, one, ◌&◌}
use Rattle.steps.specs.contracts as steps

module _ {M : Type 1} {𝓤 : Ura M} (𝓛 : Logic 𝓤) where
  pub step_refuse : Settled 𝓛 steps.Step.refuse.ended (steps.Step.refuse.spec 𝓛) (steps.Step.refuse.clauses 𝓛)
  step_refuse mem run = (refl, λ k o o'. settled 𝓤 (λ p q. one p q & refl))

  pub pr_step : Settled 𝓛 steps.pr_step.ended (steps.pr_step.spec 𝓛) (steps.pr_step.clauses 𝓛)
  pr_step mem run = (refl, λ k o o'. settled 𝓤 (λ p q. one p q & refl))

  pub lg_step : Settled 𝓛 steps.lg_step.ended (steps.lg_step.spec 𝓛) (steps.lg_step.clauses 𝓛)
  lg_step mem run = (refl, λ k o o'. settled 𝓤 (λ p q. one (p [] 0 []) (q [] 0 []) & refl))

  pub dc_step : Settled 𝓛 steps.dc_step.ended (steps.dc_step.spec 𝓛) (steps.dc_step.clauses 𝓛)
  dc_step mem run = (refl, λ k o o'. settled 𝓤 (λ p q. one (p [] 0 []) (q [] 0 []) & refl))

  pub rd_step : Settled 𝓛 steps.rd_step.ended (steps.rd_step.spec 𝓛) (steps.rd_step.clauses 𝓛)
  rd_step mem run = (refl, λ k o o'. settled 𝓤 (λ p q. one (p 0 []) (q 0 []) & refl))

  pub iv_step : Settled 𝓛 steps.iv_step.ended (steps.iv_step.spec 𝓛) (steps.iv_step.clauses 𝓛)
  iv_step mem run = (refl, λ k o o'. settled 𝓤 (λ p q. one (p [] 0 []) (q [] 0 []) & refl))

  pub ld_step : Settled 𝓛 steps.ld_step.ended (steps.ld_step.spec 𝓛) (steps.ld_step.clauses 𝓛)
  ld_step mem run = (refl, λ k o o'. settled 𝓤 (λ p q. one (p [] 0 []) (q [] 0 []) & refl))
