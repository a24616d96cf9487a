-- Each public function of `table`: its contract settles every call.
use mathlib.Core.Path.{refl}
use seplogic.Ra.Ura.{Ura}
use types.Logic.{Logic}
use Rattle.settled.specs.Settled.{Settled, SettledPart}
use Rattle.settled.proofs.Lemma.{settled, one, same_stamp, ◌&◌}
use Rattle.table.specs.contracts as table

module _ {M : Type 1} {𝓤 : Ura M} (𝓛 : Logic 𝓤) where
  pub table_len : Settled 𝓛 table.table_len.ended (table.table_len.spec 𝓛) (table.table_len.clauses 𝓛)
  table_len mem run = (refl, λ k o o'. settled 𝓤 (λ p q. one p q & refl))

  pub rows : SettledPart 𝓛 table.rows.ended (λ κs r. r.now) (table.rows.spec 𝓛) (table.rows.clauses 𝓛)
  rows mem run = (refl, λ k o o'. settled 𝓤 (λ p q. one p q & refl))

  pub count_of : Settled 𝓛 table.count_of.ended (table.count_of.spec 𝓛) (table.count_of.clauses 𝓛)
  count_of mem run = (refl, λ k o o'. settled 𝓤 (λ p q. one p.0 q.0 & refl))

  pub row : SettledPart 𝓛 table.row.ended (λ κs r. r.now) (table.row.spec 𝓛) (table.row.clauses 𝓛)
  row mem run = (refl, λ k o o'. settled 𝓤 (λ p q. one p.0 q.0 & refl))

  pub tx_of : SettledPart 𝓛 table.tx_of.ended (λ κs r. r.now) (table.tx_of.spec 𝓛) (table.tx_of.clauses 𝓛)
  tx_of mem run = (refl, λ k o o'. settled 𝓤 (λ p q. one p.0 q.0 & refl))

  pub body_of : SettledPart 𝓛 table.body_of.ended (λ κs r. r.now) (table.body_of.spec 𝓛) (table.body_of.clauses 𝓛)
  body_of mem run = (refl, λ k o o'. settled 𝓤 (λ p q. one p q & refl))

  pub live : Settled 𝓛 table.live.ended (table.live.spec 𝓛) (table.live.clauses 𝓛)
  live mem run = (refl, λ k o o'. settled 𝓤 (λ p q. one p q & refl))

  pub stamp_of : Settled 𝓛 table.stamp_of.ended (table.stamp_of.spec 𝓛) (table.stamp_of.clauses 𝓛)
  stamp_of mem run = (refl, λ k o o'. settled 𝓤 (λ p q. same_stamp o.0 o'.0 (one p q) & refl))

  pub read_count : Settled 𝓛 table.read_count.ended (table.read_count.spec 𝓛) (table.read_count.clauses 𝓛)
  read_count mem run = (refl, λ k o o'. settled 𝓤 (λ p q. one p.0 q.0 & refl))

  pub write_count : Settled 𝓛 table.write_count.ended (table.write_count.spec 𝓛) (table.write_count.clauses 𝓛)
  write_count mem run = (refl, λ k o o'. settled 𝓤 (λ p q. one p.0 q.0 & refl))

  pub read_at : Settled 𝓛 table.read_at.ended (table.read_at.spec 𝓛) (table.read_at.clauses 𝓛)
  read_at mem run = (refl, λ k o o'. settled 𝓤 (λ p q. one p q & refl))

  pub write_at : Settled 𝓛 table.write_at.ended (table.write_at.spec 𝓛) (table.write_at.clauses 𝓛)
  write_at mem run = (refl, λ k o o'. settled 𝓤 (λ p q. one p q & refl))

  pub writes_key : Settled 𝓛 table.writes_key.ended (table.writes_key.spec 𝓛) (table.writes_key.clauses 𝓛)
  writes_key mem run = (refl, λ k o o'. settled 𝓤 (λ p q. one p q & refl))

  pub place : Settled 𝓛 table.place.ended (table.place.spec 𝓛) (table.place.clauses 𝓛)
  place mem run = (refl, λ k o o'. settled 𝓤 (λ p q. one p.0 q.0 & refl))

  pub table_wrong : Settled 𝓛 table.table_wrong.ended (table.table_wrong.spec 𝓛) (table.table_wrong.clauses 𝓛)
  table_wrong mem run = (refl, λ k o o'. settled 𝓤 (λ p q. one p q & refl))

  pub state_of : Settled 𝓛 table.state_of.ended (table.state_of.spec 𝓛) (table.state_of.clauses 𝓛)
  state_of mem run = (refl, λ k o o'. settled 𝓤 (λ p q. one p q & refl))

  pub same : Settled 𝓛 table.same.ended (table.same.spec 𝓛) (table.same.clauses 𝓛)
  same mem run = (refl, λ k o o'. settled 𝓤 (λ p q. one p q & refl))

  pub store : Settled 𝓛 table.store.ended (table.store.spec 𝓛) (table.store.clauses 𝓛)
  store mem run = (refl, λ k o o'. settled 𝓤 (λ p q. refl & one p q & refl))

  pub low_of : Settled 𝓛 table.low_of.ended (table.low_of.spec 𝓛) (table.low_of.clauses 𝓛)
  low_of mem run = (refl, λ k o o'. settled 𝓤 (λ p q. same_stamp o.0 o'.0 (one p q) & refl))

  pub fold_of : Settled 𝓛 table.fold_of.ended (table.fold_of.spec 𝓛) (table.fold_of.clauses 𝓛)
  fold_of mem run = (refl, λ k o o'. settled 𝓤 (λ p q. one p q & refl))
