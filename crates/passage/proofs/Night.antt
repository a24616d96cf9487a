-- The incident, by computation.
use Prim.Native.Nat.{ℕ}
use mathlib.Core.Path.{refl}
use Rattle.records.specs.Tx.{tx_in, held_tx}
use Rattle.rules.proofs.Running.{running}
use Rattle.passage.specs.Passages.{passage_wrong, versions_wrong, values_wrong, seen_wrong, from_lead, reported, reported_by, report_of, sight_by, sight_of, report_by, report_from}
use Rattle.passage.specs.Corrections.{turned, passage_tx, made_by, made_after, direction_corrected, entered}
use Rattle.passage.specs.Register.{seen_in, report_in}
use Rattle.passage.specs.Night.{takes, detected, evening, night, morning, told, Incident}
use Rattle.passage.specs.Night.{lifted, evening_gone, night_after, night_gone, morning_after, IncidentLetGo}

unfoldable judging : ℕ
unfolding passage_wrong versions_wrong values_wrong seen_wrong from_lead reported reported_by report_of sight_by sight_of report_by report_from
judging = 0

unfoldable making : ℕ
unfolding held_tx tx_in turned passage_tx made_by made_after direction_corrected entered
making = 0

unfoldable looking : ℕ
unfolding seen_in report_in takes detected evening night morning told
looking = 0

pub incident : Incident
unfolding running judging making looking
incident = refl

unfoldable letting : ℕ
unfolding lifted evening_gone night_after night_gone morning_after
letting = 0

pub incident_let_go : IncidentLetGo
unfolding running judging making looking letting
incident_let_go = (refl, refl)
