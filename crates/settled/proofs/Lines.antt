-- Each public function of `lines`: its contract settles every call.
use mathlib.Core.Path.{refl}
use seplogic.Ra.Ura.{Ura}
use types.Logic.{Logic}
use Rattle.settled.specs.Settled.{Settled}
use Rattle.settled.proofs.Lemma.{settled, one, ◌&◌}
use Rattle.lines.specs.contracts as lines

module _ {M : Type 1} {𝓤 : Ura M} (𝓛 : Logic 𝓤) where
  pub put_text : Settled 𝓛 lines.put_text.ended (lines.put_text.spec 𝓛) (lines.put_text.clauses 𝓛)
  put_text mem run = (refl, λ k o o'. settled 𝓤 (λ p q. one p.0 q.0 & one p.1 q.1 & refl))

  pub put_line : Settled 𝓛 lines.put_line.ended (lines.put_line.spec 𝓛) (lines.put_line.clauses 𝓛)
  put_line mem run = (refl, λ k o o'. settled 𝓤 (λ p q. one p.0 q.0 & one p.1 q.1 & refl))
