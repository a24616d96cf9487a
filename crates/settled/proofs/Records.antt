-- Each public function of `records`: its contract settles every call.
use mathlib.Core.Path.{refl}
use seplogic.Ra.Ura.{Ura}
use types.Logic.{Logic}
use Rattle.settled.specs.Settled.{Settled}
use Rattle.settled.proofs.Lemma.{settled, one, ◌&◌}
use Rattle.records.specs.contracts as records

module _ {M : Type 1} {𝓤 : Ura M} (𝓛 : Logic 𝓤) where
  pub mark_bytes : Settled 𝓛 records.Mark.bytes.ended (records.Mark.bytes.spec 𝓛) (records.Mark.bytes.clauses 𝓛)
  mark_bytes mem run = (refl, λ k o o'. settled 𝓤 (λ p q. one p q & refl))

  pub wide : Settled 𝓛 records.wide.ended (records.wide.spec 𝓛) (records.wide.clauses 𝓛)
  wide mem run = (refl, λ k o o'. settled 𝓤 (λ p q. one p.0 q.0 & refl))

  pub widened : Settled 𝓛 records.widened.ended (records.widened.spec 𝓛) (records.widened.clauses 𝓛)
  widened mem run = (refl, λ k o o'. settled 𝓤 (λ p q. one p.0 q.0 & refl))

  pub u64_at : Settled 𝓛 records.u64_at.ended (records.u64_at.spec 𝓛) (records.u64_at.clauses 𝓛)
  u64_at mem run = (refl, λ k o o'. settled 𝓤 (λ p q. one p q & refl))

  pub u16_at : Settled 𝓛 records.u16_at.ended (records.u16_at.spec 𝓛) (records.u16_at.clauses 𝓛)
  u16_at mem run = (refl, λ k o o'. settled 𝓤 (λ p q. one p q & refl))

  pub put_u64 : Settled 𝓛 records.put_u64.ended (records.put_u64.spec 𝓛) (records.put_u64.clauses 𝓛)
  put_u64 mem run = (refl, λ k o o'. settled 𝓤 (λ p q. refl & one p q & refl))

  pub put_u16 : Settled 𝓛 records.put_u16.ended (records.put_u16.spec 𝓛) (records.put_u16.clauses 𝓛)
  put_u16 mem run = (refl, λ k o o'. settled 𝓤 (λ p q. refl & one p q & refl))

  pub tx_len : Settled 𝓛 records.tx_len.ended (records.tx_len.spec 𝓛) (records.tx_len.clauses 𝓛)
  tx_len mem run = (refl, λ k o o'. settled 𝓤 (λ p q. one p q & refl))

  pub read_at : Settled 𝓛 records.read_at.ended (records.read_at.spec 𝓛) (records.read_at.clauses 𝓛)
  read_at mem run = (refl, λ k o o'. settled 𝓤 (λ p q. one p q & refl))

  pub write_at : Settled 𝓛 records.write_at.ended (records.write_at.spec 𝓛) (records.write_at.clauses 𝓛)
  write_at mem run = (refl, λ k o o'. settled 𝓤 (λ p q. one p q & refl))

  pub transaction_of : Settled 𝓛 records.transaction_of.ended (records.transaction_of.spec 𝓛) (records.transaction_of.clauses 𝓛)
  transaction_of mem run = (refl, λ k o o'. settled 𝓤 (λ p q. one p.0 q.0 & refl))

  pub view_len : Settled 𝓛 records.view_len.ended (records.view_len.spec 𝓛) (records.view_len.clauses 𝓛)
  view_len mem run = (refl, λ k o o'. settled 𝓤 (λ p q. one p.0 q.0 & refl))

  pub own_view : Settled 𝓛 records.own_view.ended (records.own_view.spec 𝓛) (records.own_view.clauses 𝓛)
  own_view mem run = (refl, λ k o o'. settled 𝓤 (λ p q. (λ i. record { 0 = one p q i }) & refl))

  pub vl_len : Settled 𝓛 records.vl_len.ended (records.vl_len.spec 𝓛) (records.vl_len.clauses 𝓛)
  vl_len mem run = (refl, λ k o o'. settled 𝓤 (λ p q. one p q & refl))

  pub list_of : Settled 𝓛 records.list_of.ended (records.list_of.spec 𝓛) (records.list_of.clauses 𝓛)
  list_of mem run = (refl, λ k o o'. settled 𝓤 (λ p q. one p.0 q.0 & refl))

  pub viewmark_bytes : Settled 𝓛 records.ViewMark.bytes.ended (records.ViewMark.bytes.spec 𝓛) (records.ViewMark.bytes.clauses 𝓛)
  viewmark_bytes mem run = (refl, λ k o o'. settled 𝓤 (λ p q. one p q & refl))

  pub viewmark_carrier : Settled 𝓛 records.ViewMark.carrier.ended (records.ViewMark.carrier.spec 𝓛) (records.ViewMark.carrier.clauses 𝓛)
  viewmark_carrier mem run = (refl, λ k o o'. settled 𝓤 (λ p q. one p q & refl))

  pub viewmark_count_at : Settled 𝓛 records.ViewMark.count_at.ended (records.ViewMark.count_at.spec 𝓛) (records.ViewMark.count_at.clauses 𝓛)
  viewmark_count_at mem run = (refl, λ k o o'. settled 𝓤 (λ p q. one p.0 q.0 & refl))

  pub viewmark_ballot_len : Settled 𝓛 records.ViewMark.ballot_len.ended (records.ViewMark.ballot_len.spec 𝓛) (records.ViewMark.ballot_len.clauses 𝓛)
  viewmark_ballot_len mem run = (refl, λ k o o'. settled 𝓤 (λ p q. one p.0 q.0 & refl))

  pub views_len : Settled 𝓛 records.views_len.ended (records.views_len.spec 𝓛) (records.views_len.clauses 𝓛)
  views_len mem run = (refl, λ k o o'. settled 𝓤 (λ p q. one p q & refl))

  pub views_of : Settled 𝓛 records.views_of.ended (records.views_of.spec 𝓛) (records.views_of.clauses 𝓛)
  views_of mem run = (refl, λ k o o'. settled 𝓤 (λ p q. one p.0 q.0 & refl))
