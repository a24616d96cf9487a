-- Each public function of `arrays`: its contract settles every call.
use mathlib.Core.Path.{refl, ap}
use seplogic.Ra.Ura.{Ura}
use types.Logic.{Logic}
use mir.Syntax.{Dict}
use denote.RattleType.{RattleType}
use Rattle.terms.specs.declared.AsRefusal.{Ghosts}
use Rattle.arrays.specs.declared.Marked.{Ghosts as MarkGhosts}
use Rattle.settled.specs.Settled.{Settled}
use Rattle.settled.proofs.Lemma.{settled, one, ◌&◌}
use Rattle.arrays.specs.Arrays.{Fields, ListFields, TxFields, ViewFields}
use Rattle.arrays.specs.contracts as arrays

module _ {M : Type 1} {𝓤 : Ura M} (𝓛 : Logic 𝓤) where
  pub tx : Settled 𝓛 arrays.tx.ended (arrays.tx.spec 𝓛) (arrays.tx.clauses 𝓛)
  tx mem run = (refl, λ k o o'. settled 𝓤 (λ p q. one p q & refl))

  pub list : Settled 𝓛 arrays.list.ended (arrays.list.spec 𝓛) (arrays.list.clauses 𝓛)
  list mem run = (refl, λ k o o'. settled 𝓤 (λ p q. one p q & refl))

  pub marked_of : Settled 𝓛 arrays.marked_of.ended (arrays.marked_of.spec 𝓛) (arrays.marked_of.clauses 𝓛)
  marked_of mem run = (refl, λ k o o'. settled 𝓤 (λ p q. one p q & refl))

  pub wrote : Settled 𝓛 arrays.wrote.ended (arrays.wrote.spec 𝓛) (arrays.wrote.clauses 𝓛)
  wrote mem run = (refl, λ k o o'. settled 𝓤 (λ p q. one p.0 q.0 & refl & one p.1 q.1 & refl))

  pub found_number : (T E : RattleType) (g : Ghosts E.Denot) (d : Dict) → Settled 𝓛 (arrays.found_number.ended T E g d) (arrays.found_number.spec T E g d 𝓛) (arrays.found_number.clauses T E g d 𝓛)
  found_number T E g d mem run = (refl, λ k o o'. settled 𝓤 (λ p q. one p q & refl))

  pub put_tx : Settled 𝓛 arrays.put_tx.ended (arrays.put_tx.spec 𝓛) (arrays.put_tx.clauses 𝓛)
  put_tx mem run = (refl, λ k o o'. settled 𝓤 (λ p q. refl & refl & ap (λ (x : TxFields). x.reads) (one p q) & ap (λ (x : TxFields). x.versions) (one p q) & ap (λ (x : TxFields). x.writes) (one p q) & ap (λ (x : TxFields). x.values) (one p q) & refl))

  pub put_fields : Settled 𝓛 arrays.put_fields.ended (arrays.put_fields.spec 𝓛) (arrays.put_fields.clauses 𝓛)
  put_fields mem run = (refl, λ k o o'. settled 𝓤 (λ p q. refl & refl & ap (λ (x : Fields). x.head) (one p q) & ap (λ (x : Fields). x.reads) (one p q) & ap (λ (x : Fields). x.versions) (one p q) & ap (λ (x : Fields). x.writes) (one p q) & ap (λ (x : Fields). x.values) (one p q) & ap (λ (x : Fields). x.numbers) (one p q) & ap (λ (x : Fields). x.answers) (one p q) & refl))

  pub views : Settled 𝓛 arrays.views.ended (arrays.views.spec 𝓛) (arrays.views.clauses 𝓛)
  views mem run = (refl, λ k o o'. settled 𝓤 (λ p q. one p q & refl))

  pub found_mark : (T E : RattleType) (g : MarkGhosts T.Denot) (d : Dict) → Settled 𝓛 (arrays.found_mark.ended T E g d) (arrays.found_mark.spec T E g d 𝓛) (arrays.found_mark.clauses T E g d 𝓛)
  found_mark T E g d mem run = (refl, λ k o o'. settled 𝓤 (λ p q. one p q & refl))

  pub put_views : Settled 𝓛 arrays.put_views.ended (arrays.put_views.spec 𝓛) (arrays.put_views.clauses 𝓛)
  put_views mem run = (refl, λ k o o'. settled 𝓤 (λ p q. refl & refl & ap (λ (x : ViewFields). x.head) (one p q) & ap (λ (x : ViewFields). x.numbers) (one p q) & ap (λ (x : ViewFields). x.answers) (one p q) & ap (λ (x : ViewFields). x.views) (one p q) & refl))

  pub put_list : Settled 𝓛 arrays.put_list.ended (arrays.put_list.spec 𝓛) (arrays.put_list.clauses 𝓛)
  put_list mem run = (refl, λ k o o'. settled 𝓤 (λ p q. refl & refl & ap (λ (x : ListFields). x.head) (one p q) & ap (λ (x : ListFields). x.numbers) (one p q) & ap (λ (x : ListFields). x.answers) (one p q) & refl))

  pub refusal_number : (T E : RattleType) (g : Ghosts E.Denot) (d : Dict) → Settled 𝓛 (arrays.refusal_number.ended T E g d) (arrays.refusal_number.spec T E g d 𝓛) (arrays.refusal_number.clauses T E g d 𝓛)
  refusal_number T E g d mem run = (refl, λ k o o'. settled 𝓤 (λ p q. one p q & refl))

  pub parts_of : Settled 𝓛 arrays.parts_of.ended (arrays.parts_of.spec 𝓛) (arrays.parts_of.clauses 𝓛)
  parts_of mem run = (refl, λ k o o'. settled 𝓤 (λ p q. one p q & refl))
