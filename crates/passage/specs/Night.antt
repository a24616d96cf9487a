-- The incident over message bytes: a box takes an entry and two corrections of the direction, each made of what it shows, and is looked at in between.
-- A11: the same with each let go as soon as it is taken.
use Rattle.std.specs.Prelude.{ℕ, ◌≡◌, [], ◌∷◌, length, Result, Ok, Err}
use Rattle.terms.specs.declared.Decision.TheVariants.{Commit as commit}
use Rattle.terms.specs.declared.Kind.TheVariants.{Votes as votes}
use Rattle.terms.specs.declared.Refusal.{Refusal}
use Rattle.terms.specs.declared.Refusal.TheVariants.{AxleCount}
use Rattle.records.specs.declared.Transaction.{Transaction}
use Rattle.records.specs.Tx.{tx_in, held_tx, no_tx}
use Rattle.rules.specs.Table.{Box, empty}
use Rattle.rules.specs.Act.{after, raising, receive}
use Rattle.rules.specs.Cases.{DC, line}
use Rattle.passage.specs.declared.Values.{Values}
use Rattle.passage.specs.declared.Report.{Report}
use Rattle.passage.specs.Corrections.{direction_corrected, entered}
use Rattle.passage.specs.Register.{seen_in, report_in}

-- the box after the DC of what was made, proved by six votes (f = 1); where nothing was made, of a transaction of zeros
unfoldable pub takes : Box → Result Transaction Refusal → Box
takes x (Ok t) = after receive line x (DC (tx_in t) votes commit 6)
takes x (Err r) = after receive line x (DC (tx_in (held_tx no_tx)) votes commit 6)

-- train 7402 has 240 axles, and axle 3 in the detector's order runs hot
unfoldable pub detected : Values
detected = record { train = 7402; direction = 0; axles = 240; hot = 3 }

unfoldable pub evening : Box
evening = takes empty (entered 5 (seen_in empty 5 45) 50 detected)

unfoldable pub night : Box
night = takes evening (direction_corrected 5 (seen_in evening 5 55) 60)

unfoldable pub morning : Box
morning = takes night (direction_corrected 5 (seen_in night 5 65) 70)

unfoldable pub told : ℕ → ℕ → Result Report Refusal
told d hot = Ok (record { train = 7402; direction = d; axles = 240; hot = hot })

-- never written; axle 3; corrected, axle 238; corrected again, axle 3
abbrev pub Incident : Type 0
Incident = report_in empty 5 45 ∷ report_in evening 5 55 ∷ report_in night 5 65 ∷ report_in morning 5 75 ∷ [] ≡ Err AxleCount ∷ told 0 3 ∷ told 1 238 ∷ told 0 3 ∷ []

-- A11: the box once its low mark is raised
unfoldable pub lifted : ℕ → Box → Box
lifted l x = after (raising l) line x []

-- the entry is let go before it is corrected, and the correction before it is looked at again
unfoldable pub evening_gone : Box
evening_gone = lifted 50 evening

unfoldable pub night_after : Box
night_after = takes evening_gone (direction_corrected 5 (seen_in evening_gone 5 55) 60)

unfoldable pub night_gone : Box
night_gone = lifted 60 night_after

unfoldable pub morning_after : Box
morning_after = takes night_gone (direction_corrected 5 (seen_in night_gone 5 65) 70)

-- the reports are the same, from a table that holds nothing or one entry
abbrev pub IncidentLetGo : Type 0
IncidentLetGo =
    (report_in evening_gone 5 55 ∷ report_in night_after 5 65 ∷ report_in night_gone 5 65 ∷ report_in morning_after 5 75 ∷ []
    ≡ told 0 3 ∷ told 1 238 ∷ told 1 238 ∷ told 0 3 ∷ [])
    × (length evening_gone.table ∷ length night_after.table ∷ length night_gone.table ∷ length morning_after.table ∷ [] ≡ 0 ∷ 1 ∷ 0 ∷ 1 ∷ [])
