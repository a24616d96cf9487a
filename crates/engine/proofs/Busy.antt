-- The busy trace as calls on tables of zeros: what is refused with 16 is left out, and all else is what the rules' trace has.
use Rattle.std.specs.Prelude.{Err}
use Prim.Native.Nat.{ℕ, zero, suc, ◌≤◌}
use native.Mathlib.Omega.{arith}
use mathlib.Core.Path.{◌≡◌, refl, ap}
use mathlib.Core.List.{List}
use Rattle.records.specs.declared.Mark.TheVariants.{PR, LG, DC, RD, IV, LD}
use Rattle.rules.specs.declared.Answer.TheVariants.{Refused}
use Rattle.terms.specs.declared.Refusal.TheVariants.{Table}
use Rattle.terms.specs.Checks.{table, or_else, if_less}
use Rattle.rules.proofs.Running.{running}
use Rattle.terms.specs.Group.{boxes, capacity_wrong, group_wrong}
use Rattle.terms.specs.declared.Decision.TheVariants.{Commit as commit, Abort as abort}
use Rattle.rules.specs.Lists.{bit}
use Rattle.rules.specs.Table.{empty}
use Rattle.rules.specs.Calls.{Act}
use Rattle.rules.specs.Act.{EntryPoint, told_wrong, due_mark, mark_by}
use Rattle.rules.specs.System.{Event, told_at, how_many, HonestBy, Given, Carries}
use Rattle.rules.specs.Traces.{liar, at, each, busy_first, busy_then, busy}
use Rattle.rules.proofs.Alike.{proof_alike}
use Rattle.rules.proofs.Traces.{busy_trace}
use Rattle.engine.specs.Outcome.{lent_wrong}
use Rattle.engine.specs.Safety.{kept_at, answered, FairCalls, Empty}
use Rattle.engine.specs.Busy.{zeros, eight, too_large, busy_calls, BusyCalls}
use Rattle.engine.proofs.Safety.{engine_safety, is_refused}
use Rattle.engine.proofs.Beside.{Held, Runs, alike, done, drops, fair_calls, takes, zeros_held}
use Rattle.engine.proofs.Starts.{starts_empty, too_short}

pub begun : (i : ℕ) → Held 8 (eight i) empty
unfolding eight
begun i = zeros_held 8

pub started : (i : ℕ) → Empty (eight i)
unfolding eight
started i = starts_empty 8

-- ---- the busy trace
each_runs : {es rs : List Event} (way : EntryPoint) (i n : ℕ) (m : List ℕ) → Runs 8 eight es rs → Runs 8 eight (each way i n m es) (each way i n m rs)
unfolding each at
each_runs way i zero m r = r
each_runs way i (suc n) m r = takes _ refl (each_runs way i n m r)

first_runs : Runs 8 eight busy_first busy_first
unfolding busy_first at
first_runs = takes _ refl (each_runs _ _ _ _ done)

then_runs : {es rs : List Event} → Runs 8 eight es rs → Runs 8 eight (busy_then es) (busy_then rs)
unfolding busy_then
then_runs r =
    each_runs _ _ _ _ (each_runs _ _ _ _ (each_runs _ _ _ _ (each_runs _ _ _ _ (each_runs _ _ _ _ (each_runs _ _ _ _ (each_runs _ _ _ _ (each_runs _ _ _ _ (each_runs _ _ _ _ r))))))))

-- box 4 has got nothing yet
untouched : kept_at 1 eight 4 busy_first ≡ zeros 8
unfolding kept_at busy_first each at eight
untouched = refl

short_told : lent_wrong (told_at 1 too_large) (kept_at 1 eight 4 busy_first).table ≡ Err table
unfolding lent_wrong told_wrong too_large or_else if_less group_wrong capacity_wrong
short_told = rw (untouched, too_short 8 9 (omega arith))

no_list_lem : (g : Given) → HonestBy 1 liar g too_large.entry too_large.message
unfolding HonestBy too_large Carries due_mark mark_by running
no_list_lem g PR q z = tt
no_list_lem g LG q z = let z : ◌≡◌ {A = ℕ} 0 1 = cc in absurd (omega arith)
no_list_lem g DC q z = let z : ◌≡◌ {A = ℕ} 0 1 = cc in absurd (omega arith)
no_list_lem g RD q z = tt
no_list_lem g IV q z = tt
no_list_lem g LD q z = let z : ◌≡◌ {A = ℕ} 0 1 = cc in absurd (omega arith)

runs : Runs 8 eight busy_calls busy
unfolding busy_calls busy too_large
runs = then_runs (drops too_large table short_told no_list_lem first_runs)

pub few : how_many liar (boxes 1) ≤ 1
unfolding how_many liar bit
few = omega arith

was_refused : answered 1 eight too_large busy_first ≡ Refused Table
unfolding answered too_large
was_refused =
    ap (λ (a : Act). a.answer) (is_refused too_large.entry (told_at 1 too_large) (kept_at 1 eight 4 busy_first) too_large.message table short_told)

pub busy_calls_lem : BusyCalls
busy_calls_lem = record {
  fair = F;
  refused = was_refused;
  reader_commits = proof_alike 1 liar _ _ (alike begun runs) _ commit busy_trace.reader_commits;
  other_aborts = proof_alike 1 liar _ _ (alike begun runs) _ abort busy_trace.other_aborts;
  logs_commit = proof_alike 1 liar _ _ (alike begun runs) _ commit busy_trace.logs_commit;
  safe = engine_safety 1 liar few eight (λ i s. started i) busy_calls F;
}
  where
    F : FairCalls 1 liar eight busy_calls
    F = fair_calls begun runs busy_trace.fair
