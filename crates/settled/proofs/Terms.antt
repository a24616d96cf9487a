-- Each public function of `terms`: its contract settles every call.
use mathlib.Core.Path.{refl}
use seplogic.Ra.Ura.{Ura}
use types.Logic.{Logic}
use mir.Syntax.{Dict}
use contract.Lifetimes.{Lfts}
use denote.RattleType.{RattleType}
use denote.Triple.Clauses.{Lasts}
use Rattle.std.specs.Prelude.{◌≡◌, ⊤, Result, Ok, Err}
use Rattle.settled.specs.Settled.{Settled}
use Rattle.settled.proofs.Lemma.{settled, one, ◌&◌}
use Rattle.terms.specs.contracts as terms

-- nothing is left of two checks that were handed over
first_left : (E : RattleType) (d : Dict) (κs : Lfts (terms.first.ended E d).signature.lifetimes) (a b : Result ⊤ E.Denot) (w w' : Lasts (terms.first.ended E d) κs (a, (b, tt))) → w ≡ w'
first_left E d κs (Ok x) (Ok y) w w' = refl
first_left E d κs (Ok x) (Err r) w w' = refl
first_left E d κs (Err r) (Ok y) w w' = refl
first_left E d κs (Err r) (Err s) w w' = refl

module _ {M : Type 1} {𝓤 : Ura M} (𝓛 : Logic 𝓤) where
  pub first : (E : RattleType) (d : Dict) → Settled 𝓛 (terms.first.ended E d) (terms.first.spec E d 𝓛) (terms.first.clauses E d 𝓛)
  first E d mem run = (refl, λ k o o'. settled 𝓤 (λ p q. one p q & first_left E d k.0 k.1.0 k.1.1.0 o.1 o'.1))

  pub refuse_if : (E : RattleType) (d : Dict) → Settled 𝓛 (terms.refuse_if.ended E d) (terms.refuse_if.spec E d 𝓛) (terms.refuse_if.clauses E d 𝓛)
  refuse_if E d mem run = (refl, λ k o o'. settled 𝓤 (λ p q. one p q & refl))

  pub decision_number : Settled 𝓛 terms.Decision.number.ended (terms.Decision.number.spec 𝓛) (terms.Decision.number.clauses 𝓛)
  decision_number mem run = (refl, λ k o o'. settled 𝓤 (λ p q. one p q & refl))

  pub refusal_values : Settled 𝓛 terms.Refusal.values.ended (terms.Refusal.values.spec 𝓛) (terms.Refusal.values.clauses 𝓛)
  refusal_values mem run = (refl, λ k o o'. settled 𝓤 (λ p q. one p q & refl))

  pub refusal_lacking : Settled 𝓛 terms.Refusal.lacking.ended (terms.Refusal.lacking.spec 𝓛) (terms.Refusal.lacking.clauses 𝓛)
  refusal_lacking mem run = (refl, λ k o o'. settled 𝓤 (λ p q. one p q & refl))

  pub refusal_number : Settled 𝓛 terms.Refusal.number.ended (terms.Refusal.number.spec 𝓛) (terms.Refusal.number.clauses 𝓛)
  refusal_number mem run = (refl, λ k o o'. settled 𝓤 (λ p q. one p q & refl))

  pub refusal_of : Settled 𝓛 terms.Refusal.of.ended (terms.Refusal.of.spec 𝓛) (terms.Refusal.of.clauses 𝓛)
  refusal_of mem run = (refl, λ k o o'. settled 𝓤 (λ p q. one p q & refl))

  pub group_wrong : Settled 𝓛 terms.group_wrong.ended (terms.group_wrong.spec 𝓛) (terms.group_wrong.clauses 𝓛)
  group_wrong mem run = (refl, λ k o o'. settled 𝓤 (λ p q. one p q & refl))

  pub capacity_wrong : Settled 𝓛 terms.capacity_wrong.ended (terms.capacity_wrong.spec 𝓛) (terms.capacity_wrong.clauses 𝓛)
  capacity_wrong mem run = (refl, λ k o o'. settled 𝓤 (λ p q. one p q & refl))

  pub group_of : Settled 𝓛 terms.Group.of.ended (terms.Group.of.spec 𝓛) (terms.Group.of.clauses 𝓛)
  group_of mem run = (refl, λ k o o'. settled 𝓤 (λ p q. one p q & refl))

  pub group_n : Settled 𝓛 terms.Group.n.ended (terms.Group.n.spec 𝓛) (terms.Group.n.clauses 𝓛)
  group_n mem run = (refl, λ k o o'. settled 𝓤 (λ p q. one p q & refl))

  pub group_commit_list : Settled 𝓛 terms.Group.commit_list.ended (terms.Group.commit_list.spec 𝓛) (terms.Group.commit_list.clauses 𝓛)
  group_commit_list mem run = (refl, λ k o o'. settled 𝓤 (λ p q. one p q & refl))

  pub group_abort_list : Settled 𝓛 terms.Group.abort_list.ended (terms.Group.abort_list.spec 𝓛) (terms.Group.abort_list.clauses 𝓛)
  group_abort_list mem run = (refl, λ k o o'. settled 𝓤 (λ p q. one p q & refl))

  pub group_commit_proof : Settled 𝓛 terms.Group.commit_proof.ended (terms.Group.commit_proof.spec 𝓛) (terms.Group.commit_proof.clauses 𝓛)
  group_commit_proof mem run = (refl, λ k o o'. settled 𝓤 (λ p q. one p q & refl))

  pub group_abort_proof : Settled 𝓛 terms.Group.abort_proof.ended (terms.Group.abort_proof.spec 𝓛) (terms.Group.abort_proof.clauses 𝓛)
  group_abort_proof mem run = (refl, λ k o o'. settled 𝓤 (λ p q. one p q & refl))

  pub group_log_proof : Settled 𝓛 terms.Group.log_proof.ended (terms.Group.log_proof.spec 𝓛) (terms.Group.log_proof.clauses 𝓛)
  group_log_proof mem run = (refl, λ k o o'. settled 𝓤 (λ p q. one p q & refl))
