-- Each public function of `reading`: its contract settles every call.
use mathlib.Core.Path.{refl}
use seplogic.Ra.Ura.{Ura}
use types.Logic.{Logic}
use mir.Syntax.{Dict}
use contract.Lifetimes.{Lfts}
use denote.RattleType.{RattleType}
use denote.Triple.Clauses.{Lasts}
use Rattle.std.specs.Prelude.{◌≡◌, ℕ, List, Result, Ok, Err}
use Rattle.std.specs.Borrow.{Bor}
use Rattle.records.specs.declared.Mark.{Mark}
use Rattle.terms.specs.declared.AsRefusal.{Ghosts}
use Rattle.settled.specs.Settled.{Settled, SettledPart}
use Rattle.settled.proofs.Lemma.{settled, one, same_key, same_stamp, ◌&◌}
use Rattle.reading.specs.contracts as reading

-- nothing is left of a mark that was handed over, nor of what stood in its place
marked_left : (E : RattleType) (g : Ghosts E.Denot) (d : Dict) (κs : Lfts (reading.read_marked.ended E g d).signature.lifetimes) (marked : Result Mark E.Denot) (f : ℕ) (m : Bor (List ℕ)) (w w' : Lasts (reading.read_marked.ended E g d) κs (marked, (f, (m, tt)))) → w ≡ w'
marked_left E g d κs (Ok k) f m w w' = refl
marked_left E g d κs (Err e) f m w w' = refl

module _ {M : Type 1} {𝓤 : Ura M} (𝓛 : Logic 𝓤) where
  pub mark_wrong : Settled 𝓛 reading.mark_wrong.ended (reading.mark_wrong.spec 𝓛) (reading.mark_wrong.clauses 𝓛)
  mark_wrong mem run = (refl, λ k o o'. settled 𝓤 (λ p q. one p q & refl))

  pub tx_cut : Settled 𝓛 reading.tx_cut.ended (reading.tx_cut.spec 𝓛) (reading.tx_cut.clauses 𝓛)
  tx_cut mem run = (refl, λ k o o'. settled 𝓤 (λ p q. one p q & refl))

  pub vl_cut : Settled 𝓛 reading.vl_cut.ended (reading.vl_cut.spec 𝓛) (reading.vl_cut.clauses 𝓛)
  vl_cut mem run = (refl, λ k o o'. settled 𝓤 (λ p q. one p q & refl))

  pub behind_wrong : Settled 𝓛 reading.behind_wrong.ended (reading.behind_wrong.spec 𝓛) (reading.behind_wrong.clauses 𝓛)
  behind_wrong mem run = (refl, λ k o o'. settled 𝓤 (λ p q. one p q & refl))

  pub behind : SettledPart 𝓛 reading.behind.ended (λ κs r. r.now) (reading.behind.spec 𝓛) (reading.behind.clauses 𝓛)
  behind mem run = (refl, λ k o o'. settled 𝓤 (λ p q. one p q & refl))

  pub message_cut : Settled 𝓛 reading.message_cut.ended (reading.message_cut.spec 𝓛) (reading.message_cut.clauses 𝓛)
  message_cut mem run = (refl, λ k o o'. settled 𝓤 (λ p q. one p q & refl))

  pub tx_part_of : SettledPart 𝓛 reading.tx_part_of.ended (λ κs r. r.now) (reading.tx_part_of.spec 𝓛) (reading.tx_part_of.clauses 𝓛)
  tx_part_of mem run = (refl, λ k o o'. settled 𝓤 (λ p q. one p.0 q.0 & refl))

  pub list_part_of : SettledPart 𝓛 reading.list_part_of.ended (λ κs r. r.now) (reading.list_part_of.spec 𝓛) (reading.list_part_of.clauses 𝓛)
  list_part_of mem run = (refl, λ k o o'. settled 𝓤 (λ p q. one p q & refl))

  pub list_behind : Settled 𝓛 reading.list_behind.ended (reading.list_behind.spec 𝓛) (reading.list_behind.clauses 𝓛)
  list_behind mem run = (refl, λ k o o'. settled 𝓤 (λ p q. one p.0 q.0 & refl))

  pub views_behind : Settled 𝓛 reading.views_behind.ended (reading.views_behind.spec 𝓛) (reading.views_behind.clauses 𝓛)
  views_behind mem run = (refl, λ k o o'. settled 𝓤 (λ p q. one p.0 q.0 & refl))

  pub rd_key : Settled 𝓛 reading.rd_key.ended (reading.rd_key.spec 𝓛) (reading.rd_key.clauses 𝓛)
  rd_key mem run = (refl, λ k o o'. settled 𝓤 (λ p q. same_key o.0 o'.0 (one p q) & refl))

  pub rd_stamp : Settled 𝓛 reading.rd_stamp.ended (reading.rd_stamp.spec 𝓛) (reading.rd_stamp.clauses 𝓛)
  rd_stamp mem run = (refl, λ k o o'. settled 𝓤 (λ p q. same_stamp o.0 o'.0 (one p q) & refl))

  pub due_wrong : Settled 𝓛 reading.due_wrong.ended (reading.due_wrong.spec 𝓛) (reading.due_wrong.clauses 𝓛)
  due_wrong mem run = (refl, λ k o o'. settled 𝓤 (λ p q. one p q & refl))

  pub message_len : Settled 𝓛 reading.message_len.ended (reading.message_len.spec 𝓛) (reading.message_len.clauses 𝓛)
  message_len mem run = (refl, λ k o o'. settled 𝓤 (λ p q. one p q & refl))

  pub refused : (E : RattleType) → Settled 𝓛 (reading.refused.ended E) (reading.refused.spec E 𝓛) (reading.refused.clauses E 𝓛)
  refused E mem run = (refl, λ k o o'. settled 𝓤 (λ p q. one p q & refl))

  pub read_tx : Settled 𝓛 reading.read_tx.ended (reading.read_tx.spec 𝓛) (reading.read_tx.clauses 𝓛)
  read_tx mem run = (refl, λ k o o'. settled 𝓤 (λ p q. one p q & refl))

  pub read_vl : Settled 𝓛 reading.read_vl.ended (reading.read_vl.spec 𝓛) (reading.read_vl.clauses 𝓛)
  read_vl mem run = (refl, λ k o o'. settled 𝓤 (λ p q. one p q & refl))

  pub read_due : Settled 𝓛 reading.read_due.ended (reading.read_due.spec 𝓛) (reading.read_due.clauses 𝓛)
  read_due mem run = (refl, λ k o o'. settled 𝓤 (λ p q. one p q & refl))

  pub is_mark : Settled 𝓛 reading.is_mark.ended (reading.is_mark.spec 𝓛) (reading.is_mark.clauses 𝓛)
  is_mark mem run = (refl, λ k o o'. settled 𝓤 (λ p q. one p q & refl))

  pub mark_of : Settled 𝓛 reading.mark_of.ended (reading.mark_of.spec 𝓛) (reading.mark_of.clauses 𝓛)
  mark_of mem run = (refl, λ k o o'. settled 𝓤 (λ p q. one p q & refl))

  pub read_marked : (E : RattleType) (g : Ghosts E.Denot) (d : Dict) → Settled 𝓛 (reading.read_marked.ended E g d) (reading.read_marked.spec E g d 𝓛) (reading.read_marked.clauses E g d 𝓛)
  read_marked E g d mem run = (refl, λ k o o'. settled 𝓤 (λ p q. one p q & marked_left E g d k.0 k.1.0 k.1.1.0 k.1.1.1.0 o.1 o'.1))

  pub read : Settled 𝓛 reading.read.ended (reading.read.spec 𝓛) (reading.read.clauses 𝓛)
  read mem run = (refl, λ k o o'. settled 𝓤 (λ p q. one p q & refl))

  pub tx_part : SettledPart 𝓛 reading.tx_part.ended (λ κs r. r.now) (reading.tx_part.spec 𝓛) (reading.tx_part.clauses 𝓛)
  tx_part mem run = (refl, λ k o o'. settled 𝓤 (λ p q. one p q & refl))

  pub read_views : Settled 𝓛 reading.read_views.ended (reading.read_views.spec 𝓛) (reading.read_views.clauses 𝓛)
  read_views mem run = (refl, λ k o o'. settled 𝓤 (λ p q. one p q & refl))
