-- Each public function of `writing`: its contract settles every call.
use mathlib.Core.Path.{refl}
use seplogic.Ra.Ura.{Ura}
use types.Logic.{Logic}
use Rattle.settled.specs.Settled.{Settled}
use Rattle.settled.proofs.Lemma.{settled, one, ◌&◌}
use Rattle.writing.specs.contracts as writing

module _ {M : Type 1} {𝓤 : Ura M} (𝓛 : Logic 𝓤) where
  pub write_tx : Settled 𝓛 writing.write_tx.ended (writing.write_tx.spec 𝓛) (writing.write_tx.clauses 𝓛)
  write_tx mem run = (refl, λ k o o'. settled 𝓤 (λ p q. one p.0 q.0 & refl & one p.1 q.1 & refl))

  pub write_vl : Settled 𝓛 writing.write_vl.ended (writing.write_vl.spec 𝓛) (writing.write_vl.clauses 𝓛)
  write_vl mem run = (refl, λ k o o'. settled 𝓤 (λ p q. one p.0 q.0 & refl & refl & one p.1 q.1 & refl))

  pub write_pr : Settled 𝓛 writing.write_pr.ended (writing.write_pr.spec 𝓛) (writing.write_pr.clauses 𝓛)
  write_pr mem run = (refl, λ k o o'. settled 𝓤 (λ p q. one p.0 q.0 & refl & one p.1 q.1 & refl))

  pub write_listed : Settled 𝓛 writing.write_listed.ended (writing.write_listed.spec 𝓛) (writing.write_listed.clauses 𝓛)
  write_listed mem run = (refl, λ k o o'. settled 𝓤 (λ p q. one p.0 q.0 & refl & refl & refl & refl & one p.1 q.1 & refl))

  pub write_rd : Settled 𝓛 writing.write_rd.ended (writing.write_rd.spec 𝓛) (writing.write_rd.clauses 𝓛)
  write_rd mem run = (refl, λ k o o'. settled 𝓤 (λ p q. one p.0 q.0 & refl & refl & one p.1 q.1 & refl))

  pub write_views : Settled 𝓛 writing.write_views.ended (writing.write_views.spec 𝓛) (writing.write_views.clauses 𝓛)
  write_views mem run = (refl, λ k o o'. settled 𝓤 (λ p q. one p.0 q.0 & refl & refl & refl & one p.1 q.1 & refl))

  pub write_viewed : Settled 𝓛 writing.write_viewed.ended (writing.write_viewed.spec 𝓛) (writing.write_viewed.clauses 𝓛)
  write_viewed mem run = (refl, λ k o o'. settled 𝓤 (λ p q. one p.0 q.0 & refl & refl & refl & refl & one p.1 q.1 & refl))
