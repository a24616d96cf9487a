-- Demand 3 of calls is not empty: the rules' busy trace, with its liar and every entry point, on tables of zeros; and between its calls one that
-- is told a capacity for which the table is too short.
use Rattle.std.specs.Prelude.{ℕ, ◌≡◌, List, ◌∷◌, replicate}
use Rattle.terms.specs.declared.Refusal.TheVariants.{Table}
use Rattle.records.specs.Tx.{tx_bytes}
use Rattle.rules.specs.declared.Answer.TheVariants.{Refused}
use Rattle.terms.specs.declared.Decision.TheVariants.{Commit as commit, Abort as abort}
use Rattle.rules.specs.Act.{receive}
use Rattle.rules.specs.Cases.{PR, reads, writes}
use Rattle.rules.specs.System.{Event, ProofBy, SafeBy}
use Rattle.rules.specs.Traces.{busy_first, busy_then, liar}
use Rattle.table.specs.Table.{table_len}
use Rattle.engine.specs.Outcome.{Kept}
use Rattle.engine.specs.Safety.{FairCalls, answered, gave_by}

-- a table of zeros with room for a capacity, and no read mark
unfoldable pub zeros : ℕ → Kept
zeros capacity = record { table = replicate (table_len capacity) 0; marks = replicate 512 0 }

-- each box starts with room for eight
unfoldable pub eight : ℕ → Kept
eight i = zeros 8

-- box 4 is told a capacity of nine
unfoldable pub too_large : Event
too_large = record { box = 4; entry = receive; capacity = 9; clock = 100; delta = 10; message = PR (writes 50 3) }

unfoldable pub busy_calls : List Event
busy_calls = busy_then (too_large ∷ busy_first)

pub record BusyCalls : Type 0 where
  pub fair : FairCalls 1 liar eight busy_calls
  pub refused : answered 1 eight too_large busy_first ≡ Refused Table
  pub reader_commits : ProofBy 1 liar (gave_by 1 eight busy_calls) (tx_bytes (reads 60 3 50)) commit
  pub other_aborts : ProofBy 1 liar (gave_by 1 eight busy_calls) (tx_bytes (writes 55 3)) abort
  pub logs_commit : ProofBy 1 liar (gave_by 1 eight busy_calls) (tx_bytes (writes 70 4)) commit
  pub safe : SafeBy 1 liar (gave_by 1 eight busy_calls)
