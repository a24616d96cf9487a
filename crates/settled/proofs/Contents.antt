-- Each public function of `contents`: its contract settles every call.
use mathlib.Core.Path.{refl}
use seplogic.Ra.Ura.{Ura}
use types.Logic.{Logic}
use Rattle.settled.specs.Settled.{Settled}
use Rattle.settled.proofs.Lemma.{settled, one, ◌&◌}
use Rattle.contents.specs.contracts as contents

module _ {M : Type 1} {𝓤 : Ura M} (𝓛 : Logic 𝓤) where
  pub counts_wrong : Settled 𝓛 contents.counts_wrong.ended (contents.counts_wrong.spec 𝓛) (contents.counts_wrong.clauses 𝓛)
  counts_wrong mem run = (refl, λ k o o'. settled 𝓤 (λ p q. one p q & refl))

  pub count_wrong : Settled 𝓛 contents.count_wrong.ended (contents.count_wrong.spec 𝓛) (contents.count_wrong.clauses 𝓛)
  count_wrong mem run = (refl, λ k o o'. settled 𝓤 (λ p q. one p q & refl))

  pub tx_wrong : Settled 𝓛 contents.tx_wrong.ended (contents.tx_wrong.spec 𝓛) (contents.tx_wrong.clauses 𝓛)
  tx_wrong mem run = (refl, λ k o o'. settled 𝓤 (λ p q. one p q & refl))

  pub list_wrong : Settled 𝓛 contents.list_wrong.ended (contents.list_wrong.spec 𝓛) (contents.list_wrong.clauses 𝓛)
  list_wrong mem run = (refl, λ k o o'. settled 𝓤 (λ p q. one p q & refl))

  pub log_list_wrong : Settled 𝓛 contents.log_list_wrong.ended (contents.log_list_wrong.spec 𝓛) (contents.log_list_wrong.clauses 𝓛)
  log_list_wrong mem run = (refl, λ k o o'. settled 𝓤 (λ p q. one p q & refl))

  pub rd_wrong : Settled 𝓛 contents.rd_wrong.ended (contents.rd_wrong.spec 𝓛) (contents.rd_wrong.clauses 𝓛)
  rd_wrong mem run = (refl, λ k o o'. settled 𝓤 (λ p q. one p q & refl))

  pub views_wrong : Settled 𝓛 contents.views_wrong.ended (contents.views_wrong.spec 𝓛) (contents.views_wrong.clauses 𝓛)
  views_wrong mem run = (refl, λ k o o'. settled 𝓤 (λ p q. one p q & refl))
