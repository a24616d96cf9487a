-- One turn of the bench, as the engine takes it: over the bytes that are kept for the box.
use Rattle.std.specs.Prelude.{ℕ, ◌≤◌, ◌≡◌, List, length}
use Rattle.terms.specs.Choice.{pick}
use Rattle.records.specs.Messages.{is_mark}
use Rattle.rules.specs.declared.Told.{Told}
use Rattle.engine.specs.Outcome.{Kept, called}
use Rattle.engine.specs.Safety.{leaves}
use Rattle.lines.specs.declared.Said.{Said}
use Rattle.lines.specs.declared.Said.TheVariants.{Taken, Answered}
use Rattle.lines.specs.Lines.{mark_ck}
use Rattle.replay.specs.Bench.{entry_point, front, record_len}

-- m is the record at the front of s
abbrev pub Fronted : List ℕ → List ℕ → Type 0
Fronted s m = (m ≡ front s) × (length m ≡ record_len s) × (10 ≤ length m) × (length m ≤ length s)

unfoldable pub said_to : Told → Kept → List ℕ → Said
said_to told x m = pick (is_mark mark_ck m) Taken (Answered (called (entry_point m) told x m).answer)

unfoldable pub kept_next : Told → Kept → List ℕ → Kept
kept_next told x m = pick (is_mark mark_ck m) x (leaves (entry_point m) told x m)
