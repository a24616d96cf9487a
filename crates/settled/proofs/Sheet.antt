-- Each public function of `sheet`: its contract settles every call.
use mathlib.Core.Path.{refl}
use seplogic.Ra.Ura.{Ura}
use types.Logic.{Logic}
use Rattle.settled.specs.Settled.{Settled}
use Rattle.settled.proofs.Lemma.{settled, one, ◌&◌}
use Rattle.sheet.specs.contracts as sheet

module _ {M : Type 1} {𝓤 : Ura M} (𝓛 : Logic 𝓤) where
  pub reply_values : Settled 𝓛 sheet.Reply.values.ended (sheet.Reply.values.spec 𝓛) (sheet.Reply.values.clauses 𝓛)
  reply_values mem run = (refl, λ k o o'. settled 𝓤 (λ p q. one p q & refl))

  pub empty : Settled 𝓛 sheet.empty.ended (sheet.empty.spec 𝓛) (sheet.empty.clauses 𝓛)
  empty mem run = (refl, λ k o o'. settled 𝓤 (λ p q. one p q & refl))

  pub sheet_wrong : Settled 𝓛 sheet.sheet_wrong.ended (sheet.sheet_wrong.spec 𝓛) (sheet.sheet_wrong.clauses 𝓛)
  sheet_wrong mem run = (refl, λ k o o'. settled 𝓤 (λ p q. one p q & refl))

  pub answer_wrong : Settled 𝓛 sheet.answer_wrong.ended (sheet.answer_wrong.spec 𝓛) (sheet.answer_wrong.clauses 𝓛)
  answer_wrong mem run = (refl, λ k o o'. settled 𝓤 (λ p q. one p q & refl))

  pub added : Settled 𝓛 sheet.added.ended (sheet.added.spec 𝓛) (sheet.added.clauses 𝓛)
  added mem run = (refl, λ k o o'. settled 𝓤 (λ p q. one p q & refl))

  pub reply_to : Settled 𝓛 sheet.reply_to.ended (sheet.reply_to.spec 𝓛) (sheet.reply_to.clauses 𝓛)
  reply_to mem run = (refl, λ k o o'. settled 𝓤 (λ p q. one p q & refl))

  pub take : Settled 𝓛 sheet.take.ended (sheet.take.spec 𝓛) (sheet.take.clauses 𝓛)
  take mem run = (refl, λ k o o'. settled 𝓤 (λ p q. one p.0 q.0 & one p.1 q.1 & refl))

  pub list_from : Settled 𝓛 sheet.list_from.ended (sheet.list_from.spec 𝓛) (sheet.list_from.clauses 𝓛)
  list_from mem run = (refl, λ k o o'. settled 𝓤 (λ p q. one p q & refl))

  pub has_box : Settled 𝓛 sheet.has_box.ended (sheet.has_box.spec 𝓛) (sheet.has_box.clauses 𝓛)
  has_box mem run = (refl, λ k o o'. settled 𝓤 (λ p q. one p q & refl))

  pub with_box : Settled 𝓛 sheet.with_box.ended (sheet.with_box.spec 𝓛) (sheet.with_box.clauses 𝓛)
  with_box mem run = (refl, λ k o o'. settled 𝓤 (λ p q. one p q & refl))

  pub counted : Settled 𝓛 sheet.counted.ended (sheet.counted.spec 𝓛) (sheet.counted.clauses 𝓛)
  counted mem run = (refl, λ k o o'. settled 𝓤 (λ p q. one p q & refl))

  pub mask_wide : Settled 𝓛 sheet.mask_wide.ended (sheet.mask_wide.spec 𝓛) (sheet.mask_wide.clauses 𝓛)
  mask_wide mem run = (refl, λ k o o'. settled 𝓤 (λ p q. one p q & refl))

  pub on_sheet : Settled 𝓛 sheet.on_sheet.ended (sheet.on_sheet.spec 𝓛) (sheet.on_sheet.clauses 𝓛)
  on_sheet mem run = (refl, λ k o o'. settled 𝓤 (λ p q. one p q & refl))

  pub join : Settled 𝓛 sheet.join.ended (sheet.join.spec 𝓛) (sheet.join.clauses 𝓛)
  join mem run = (refl, λ k o o'. settled 𝓤 (λ p q. one p q & refl))

  pub lacking : Settled 𝓛 sheet.lacking.ended (sheet.lacking.spec 𝓛) (sheet.lacking.clauses 𝓛)
  lacking mem run = (refl, λ k o o'. settled 𝓤 (λ p q. one p q & refl))

  pub reached : Settled 𝓛 sheet.reached.ended (sheet.reached.spec 𝓛) (sheet.reached.clauses 𝓛)
  reached mem run = (refl, λ k o o'. settled 𝓤 (λ p q. one p q & refl))

  pub list_by : Settled 𝓛 sheet.list_by.ended (sheet.list_by.spec 𝓛) (sheet.list_by.clauses 𝓛)
  list_by mem run = (refl, λ k o o'. settled 𝓤 (λ p q. one p q & refl))
