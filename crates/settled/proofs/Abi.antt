-- Each public function of `abi`: its contract settles every call.
use mathlib.Core.Path.{refl, ap}
use seplogic.Ra.Ura.{Ura}
use types.Logic.{Logic}
use Rattle.settled.specs.Settled.{Settled}
use Rattle.settled.proofs.Lemma.{settled, one, ◌&◌}
use Rattle.abi.specs.Left.{Left}
use Rattle.abi.specs.Register.{Lent}
use Rattle.arrays.specs.Arrays.{Fields, ListFields, TxFields, ViewFields}
use Rattle.abi.specs.contracts as abi

module _ {M : Type 1} {𝓤 : Ura M} (𝓛 : Logic 𝓤) where
  pub values : Settled 𝓛 abi.values.ended (abi.values.spec 𝓛) (abi.values.clauses 𝓛)
  values mem run = (refl, λ k o o'. settled 𝓤 (λ p q. one p q & refl))

  pub stobbarel_receive : Settled 𝓛 abi.stobbarel_receive.ended (abi.stobbarel_receive.spec 𝓛) (abi.stobbarel_receive.clauses 𝓛)
  stobbarel_receive mem run = (refl, λ k o o'. settled 𝓤 (λ p q. refl & one p.1 q.1 & one p.2 q.2 & refl & refl & refl & refl & refl & one p.0 q.0 & refl))

  pub stobbarel_due : Settled 𝓛 abi.stobbarel_due.ended (abi.stobbarel_due.spec 𝓛) (abi.stobbarel_due.clauses 𝓛)
  stobbarel_due mem run = (refl, λ k o o'. settled 𝓤 (λ p q. refl & refl & one p.1 q.1 & one p.2 q.2 & refl & refl & refl & refl & refl & one p.0 q.0 & refl))

  pub stobbarel_held : Settled 𝓛 abi.stobbarel_held.ended (abi.stobbarel_held.spec 𝓛) (abi.stobbarel_held.clauses 𝓛)
  stobbarel_held mem run = (refl, λ k o o'. settled 𝓤 (λ p q. one p.0 q.0 & refl & refl & refl & one p.1 q.1 & refl))

  pub stobbarel_reading : Settled 𝓛 abi.stobbarel_reading.ended (abi.stobbarel_reading.spec 𝓛) (abi.stobbarel_reading.clauses 𝓛)
  stobbarel_reading mem run = (refl, λ k o o'. settled 𝓤 (λ p q. one p q & refl))

  pub stobbarel_reading_tx : Settled 𝓛 abi.stobbarel_reading_tx.ended (abi.stobbarel_reading_tx.spec 𝓛) (abi.stobbarel_reading_tx.clauses 𝓛)
  stobbarel_reading_tx mem run = (refl, λ k o o'. settled 𝓤 (λ p q. one p q & refl))

  pub stobbarel_reading_vl : Settled 𝓛 abi.stobbarel_reading_vl.ended (abi.stobbarel_reading_vl.spec 𝓛) (abi.stobbarel_reading_vl.clauses 𝓛)
  stobbarel_reading_vl mem run = (refl, λ k o o'. settled 𝓤 (λ p q. one p q & refl))

  pub stobbarel_fields : Settled 𝓛 abi.stobbarel_fields.ended (abi.stobbarel_fields.spec 𝓛) (abi.stobbarel_fields.clauses 𝓛)
  stobbarel_fields mem run = (refl, λ k o o'. settled 𝓤 (λ p q. one p.0 q.0 & refl & refl & ap (λ (x : Fields). x.head) (one p.1 q.1) & ap (λ (x : Fields). x.reads) (one p.1 q.1) & ap (λ (x : Fields). x.versions) (one p.1 q.1) & ap (λ (x : Fields). x.writes) (one p.1 q.1) & ap (λ (x : Fields). x.values) (one p.1 q.1) & ap (λ (x : Fields). x.numbers) (one p.1 q.1) & ap (λ (x : Fields). x.answers) (one p.1 q.1) & refl))

  pub stobbarel_part : Settled 𝓛 abi.stobbarel_part.ended (abi.stobbarel_part.spec 𝓛) (abi.stobbarel_part.clauses 𝓛)
  stobbarel_part mem run = (refl, λ k o o'. settled 𝓤 (λ p q. one p q & refl))

  pub stobbarel_take : Settled 𝓛 abi.stobbarel_take.ended (abi.stobbarel_take.spec 𝓛) (abi.stobbarel_take.clauses 𝓛)
  stobbarel_take mem run = (refl, λ k o o'. settled 𝓤 (λ p q. refl & refl & one p.1 q.1 & one p.2 q.2 & refl & refl & refl & one p.0 q.0 & refl))

  pub stobbarel_thresholds : Settled 𝓛 abi.stobbarel_thresholds.ended (abi.stobbarel_thresholds.spec 𝓛) (abi.stobbarel_thresholds.clauses 𝓛)
  stobbarel_thresholds mem run = (refl, λ k o o'. settled 𝓤 (λ p q. one p.0 q.0 & refl & one p.1 q.1 & refl))

  pub stobbarel_write_tx : Settled 𝓛 abi.stobbarel_write_tx.ended (abi.stobbarel_write_tx.spec 𝓛) (abi.stobbarel_write_tx.clauses 𝓛)
  stobbarel_write_tx mem run = (refl, λ k o o'. settled 𝓤 (λ p q. ap (λ (x : Left). x.number) (one p q) & refl & refl & refl & refl & refl & refl & refl & ap (λ (x : Left). x.buffer) (one p q) & ap (λ (x : Left). x.length) (one p q) & refl))

  pub stobbarel_write_vl : Settled 𝓛 abi.stobbarel_write_vl.ended (abi.stobbarel_write_vl.spec 𝓛) (abi.stobbarel_write_vl.clauses 𝓛)
  stobbarel_write_vl mem run = (refl, λ k o o'. settled 𝓤 (λ p q. ap (λ (x : Left). x.number) (one p q) & refl & refl & refl & refl & refl & refl & refl & ap (λ (x : Left). x.buffer) (one p q) & ap (λ (x : Left). x.length) (one p q) & refl))

  pub stobbarel_write_pr : Settled 𝓛 abi.stobbarel_write_pr.ended (abi.stobbarel_write_pr.spec 𝓛) (abi.stobbarel_write_pr.clauses 𝓛)
  stobbarel_write_pr mem run = (refl, λ k o o'. settled 𝓤 (λ p q. ap (λ (x : Left). x.number) (one p q) & refl & refl & refl & refl & refl & refl & refl & ap (λ (x : Left). x.buffer) (one p q) & ap (λ (x : Left). x.length) (one p q) & refl))

  pub stobbarel_write_listed : Settled 𝓛 abi.stobbarel_write_listed.ended (abi.stobbarel_write_listed.spec 𝓛) (abi.stobbarel_write_listed.clauses 𝓛)
  stobbarel_write_listed mem run = (refl, λ k o o'. settled 𝓤 (λ p q. ap (λ (x : Left). x.number) (one p q) & refl & refl & refl & refl & refl & refl & refl & refl & refl & refl & refl & refl & refl & refl & refl & ap (λ (x : Left). x.buffer) (one p q) & ap (λ (x : Left). x.length) (one p q) & refl))

  pub stobbarel_write_rd : Settled 𝓛 abi.stobbarel_write_rd.ended (abi.stobbarel_write_rd.spec 𝓛) (abi.stobbarel_write_rd.clauses 𝓛)
  stobbarel_write_rd mem run = (refl, λ k o o'. settled 𝓤 (λ p q. ap (λ (x : Left). x.number) (one p q) & refl & refl & ap (λ (x : Left). x.buffer) (one p q) & ap (λ (x : Left). x.length) (one p q) & refl))

  pub stobbarel_asks : Settled 𝓛 abi.stobbarel_asks.ended (abi.stobbarel_asks.spec 𝓛) (abi.stobbarel_asks.clauses 𝓛)
  stobbarel_asks mem run = (refl, λ k o o'. settled 𝓤 (λ p q. one p.0 q.0 & refl & refl & one p.1 q.1 & refl))

  pub stobbarel_report : Settled 𝓛 abi.stobbarel_report.ended (abi.stobbarel_report.spec 𝓛) (abi.stobbarel_report.clauses 𝓛)
  stobbarel_report mem run = (refl, λ k o o'. settled 𝓤 (λ p q. one p.0 q.0 & refl & refl & refl & one p.1 q.1 & refl))

  pub stobbarel_correct_direction : Settled 𝓛 abi.stobbarel_correct_direction.ended (abi.stobbarel_correct_direction.spec 𝓛) (abi.stobbarel_correct_direction.clauses 𝓛)
  stobbarel_correct_direction mem run = (refl, λ k o o'. settled 𝓤 (λ p q. ap (λ (x : Lent). x.number) (one p q) & refl & refl & refl & refl & ap (λ (x : Lent). x.tx.reads) (one p q) & ap (λ (x : Lent). x.tx.versions) (one p q) & ap (λ (x : Lent). x.tx.writes) (one p q) & ap (λ (x : Lent). x.tx.values) (one p q) & refl))

  pub stobbarel_correct : Settled 𝓛 abi.stobbarel_correct.ended (abi.stobbarel_correct.spec 𝓛) (abi.stobbarel_correct.clauses 𝓛)
  stobbarel_correct mem run = (refl, λ k o o'. settled 𝓤 (λ p q. ap (λ (x : Lent). x.number) (one p q) & refl & refl & refl & refl & refl & ap (λ (x : Lent). x.tx.reads) (one p q) & ap (λ (x : Lent). x.tx.versions) (one p q) & ap (λ (x : Lent). x.tx.writes) (one p q) & ap (λ (x : Lent). x.tx.values) (one p q) & refl))

  pub stobbarel_enter : Settled 𝓛 abi.stobbarel_enter.ended (abi.stobbarel_enter.spec 𝓛) (abi.stobbarel_enter.clauses 𝓛)
  stobbarel_enter mem run = (refl, λ k o o'. settled 𝓤 (λ p q. ap (λ (x : Lent). x.number) (one p q) & refl & refl & refl & refl & refl & ap (λ (x : Lent). x.tx.reads) (one p q) & ap (λ (x : Lent). x.tx.versions) (one p q) & ap (λ (x : Lent). x.tx.writes) (one p q) & ap (λ (x : Lent). x.tx.values) (one p q) & refl))

  pub stobbarel_reading_vs : Settled 𝓛 abi.stobbarel_reading_vs.ended (abi.stobbarel_reading_vs.spec 𝓛) (abi.stobbarel_reading_vs.clauses 𝓛)
  stobbarel_reading_vs mem run = (refl, λ k o o'. settled 𝓤 (λ p q. one p q & refl))

  pub stobbarel_reading_el : Settled 𝓛 abi.stobbarel_reading_el.ended (abi.stobbarel_reading_el.spec 𝓛) (abi.stobbarel_reading_el.clauses 𝓛)
  stobbarel_reading_el mem run = (refl, λ k o o'. settled 𝓤 (λ p q. one p q & refl))

  pub stobbarel_views : Settled 𝓛 abi.stobbarel_views.ended (abi.stobbarel_views.spec 𝓛) (abi.stobbarel_views.clauses 𝓛)
  stobbarel_views mem run = (refl, λ k o o'. settled 𝓤 (λ p q. one p.0 q.0 & refl & refl & one p.1 q.1 & one p.2 q.2 & one p.3 q.3 & one p.4 q.4 & refl))

  pub stobbarel_write_vs : Settled 𝓛 abi.stobbarel_write_vs.ended (abi.stobbarel_write_vs.spec 𝓛) (abi.stobbarel_write_vs.clauses 𝓛)
  stobbarel_write_vs mem run = (refl, λ k o o'. settled 𝓤 (λ p q. ap (λ (x : Left). x.number) (one p q) & refl & refl & refl & refl & ap (λ (x : Left). x.buffer) (one p q) & ap (λ (x : Left). x.length) (one p q) & refl))

  pub stobbarel_write_el : Settled 𝓛 abi.stobbarel_write_el.ended (abi.stobbarel_write_el.spec 𝓛) (abi.stobbarel_write_el.clauses 𝓛)
  stobbarel_write_el mem run = (refl, λ k o o'. settled 𝓤 (λ p q. ap (λ (x : Left). x.number) (one p q) & refl & refl & refl & refl & refl & refl & refl & refl & ap (λ (x : Left). x.buffer) (one p q) & ap (λ (x : Left). x.length) (one p q) & refl))

  pub stobbarel_write_iv : Settled 𝓛 abi.stobbarel_write_iv.ended (abi.stobbarel_write_iv.spec 𝓛) (abi.stobbarel_write_iv.clauses 𝓛)
  stobbarel_write_iv mem run = (refl, λ k o o'. settled 𝓤 (λ p q. ap (λ (x : Left). x.number) (one p q) & refl & refl & refl & refl & refl & refl & refl & refl & refl & refl & refl & ap (λ (x : Left). x.buffer) (one p q) & ap (λ (x : Left). x.length) (one p q) & refl))

  pub stobbarel_write_ld : Settled 𝓛 abi.stobbarel_write_ld.ended (abi.stobbarel_write_ld.spec 𝓛) (abi.stobbarel_write_ld.clauses 𝓛)
  stobbarel_write_ld mem run = (refl, λ k o o'. settled 𝓤 (λ p q. ap (λ (x : Left). x.number) (one p q) & refl & refl & refl & refl & refl & refl & refl & refl & refl & refl & refl & refl & refl & refl & refl & ap (λ (x : Left). x.buffer) (one p q) & ap (λ (x : Left). x.length) (one p q) & refl))

  pub stobbarel_elect : Settled 𝓛 abi.stobbarel_elect.ended (abi.stobbarel_elect.spec 𝓛) (abi.stobbarel_elect.clauses 𝓛)
  stobbarel_elect mem run = (refl, λ k o o'. settled 𝓤 (λ p q. refl & refl & one p.1 q.1 & one p.2 q.2 & refl & refl & refl & refl & one p.0 q.0 & refl))

  pub stobbarel_election : Settled 𝓛 abi.stobbarel_election.ended (abi.stobbarel_election.spec 𝓛) (abi.stobbarel_election.clauses 𝓛)
  stobbarel_election mem run = (refl, λ k o o'. settled 𝓤 (λ p q. one p.0 q.0 & refl & refl & refl & refl & refl & ap (λ (x : ViewFields). x.head) (one p.1 q.1) & ap (λ (x : ViewFields). x.numbers) (one p.1 q.1) & ap (λ (x : ViewFields). x.answers) (one p.1 q.1) & ap (λ (x : ViewFields). x.views) (one p.1 q.1) & refl))

  pub stobbarel_tell : Settled 𝓛 abi.stobbarel_tell.ended (abi.stobbarel_tell.spec 𝓛) (abi.stobbarel_tell.clauses 𝓛)
  stobbarel_tell mem run = (refl, λ k o o'. settled 𝓤 (λ p q. one p.0 q.0 & one p.1 q.1 & one p.2 q.2 & refl))

  pub stobbarel_told : Settled 𝓛 abi.stobbarel_told.ended (abi.stobbarel_told.spec 𝓛) (abi.stobbarel_told.clauses 𝓛)
  stobbarel_told mem run = (refl, λ k o o'. settled 𝓤 (λ p q. one p.0 q.0 & refl & refl & refl & one p.1 q.1 & one p.2 q.2 & one p.3 q.3 & refl))

  pub stobbarel_version : Settled 𝓛 abi.stobbarel_version.ended (abi.stobbarel_version.spec 𝓛) (abi.stobbarel_version.clauses 𝓛)
  stobbarel_version mem run = (refl, λ k o o'. settled 𝓤 (λ p q. one p q & refl))

  pub stobbarel_raise : Settled 𝓛 abi.stobbarel_raise.ended (abi.stobbarel_raise.spec 𝓛) (abi.stobbarel_raise.clauses 𝓛)
  stobbarel_raise mem run = (refl, λ k o o'. settled 𝓤 (λ p q. refl & one p.1 q.1 & refl & refl & refl & one p.0 q.0 & refl))

  pub stobbarel_entries : Settled 𝓛 abi.stobbarel_entries.ended (abi.stobbarel_entries.spec 𝓛) (abi.stobbarel_entries.clauses 𝓛)
  stobbarel_entries mem run = (refl, λ k o o'. settled 𝓤 (λ p q. one p.0 q.0 & refl & refl & one p.1 q.1 & refl))

  pub stobbarel_entry : Settled 𝓛 abi.stobbarel_entry.ended (abi.stobbarel_entry.spec 𝓛) (abi.stobbarel_entry.clauses 𝓛)
  stobbarel_entry mem run = (refl, λ k o o'. settled 𝓤 (λ p q. one p.0 q.0 & refl & refl & refl & one p.1 q.1 & refl))

  pub stobbarel_tx_of : Settled 𝓛 abi.stobbarel_tx_of.ended (abi.stobbarel_tx_of.spec 𝓛) (abi.stobbarel_tx_of.clauses 𝓛)
  stobbarel_tx_of mem run = (refl, λ k o o'. settled 𝓤 (λ p q. one p.0 q.0 & refl & one p.1 q.1 & ap (λ (x : TxFields). x.reads) (one p.2 q.2) & ap (λ (x : TxFields). x.versions) (one p.2 q.2) & ap (λ (x : TxFields). x.writes) (one p.2 q.2) & ap (λ (x : TxFields). x.values) (one p.2 q.2) & refl))

  pub stobbarel_reached : Settled 𝓛 abi.stobbarel_reached.ended (abi.stobbarel_reached.spec 𝓛) (abi.stobbarel_reached.clauses 𝓛)
  stobbarel_reached mem run = (refl, λ k o o'. settled 𝓤 (λ p q. refl & refl & refl & refl & refl & one p q & refl))

  pub stobbarel_sheet_list : Settled 𝓛 abi.stobbarel_sheet_list.ended (abi.stobbarel_sheet_list.spec 𝓛) (abi.stobbarel_sheet_list.clauses 𝓛)
  stobbarel_sheet_list mem run = (refl, λ k o o'. settled 𝓤 (λ p q. one p.0 q.0 & refl & refl & refl & refl & refl & refl & ap (λ (x : ListFields). x.head) (one p.1 q.1) & ap (λ (x : ListFields). x.numbers) (one p.1 q.1) & ap (λ (x : ListFields). x.answers) (one p.1 q.1) & refl))
