-- The trace in which low marks rise, as calls on tables of zeros.
use Prim.Native.Nat.{ℕ}
use mathlib.Core.Path.{◌≡◌, refl, ap, ◌∙◌}
use mathlib.Core.List.{List}
use Rattle.terms.specs.declared.Decision.TheVariants.{Commit as commit}
use Rattle.rules.specs.Answers.{apart_from_number}
use Rattle.rules.specs.Table.{empty}
use Rattle.rules.specs.System.{Event, answer_to}
use Rattle.rules.specs.Act.{EntryPoint}
use Rattle.rules.specs.Traces.{liar}
use Rattle.rules.specs.Lows.{emptied, filled, pack_each, packed, reused}
use Rattle.rules.proofs.Alike.{proof_alike}
use Rattle.rules.proofs.Lows.{reused_trace}
use Rattle.engine.specs.Safety.{Empty, FairCalls, answered}
use Rattle.engine.specs.Lows.{LowCalls, two}
use Rattle.engine.proofs.Safety.{engine_safety}
use Rattle.engine.proofs.Starts.{starts_empty}
use Rattle.engine.proofs.Beside.{Held, Runs, alike, all_run, answers, fair_calls, roomy, zeros_held}
use Rattle.engine.proofs.Busy.{few}

begun : (i : ℕ) → Held 2 (two i) empty
unfolding two
begun i = zeros_held 2

started : (i : ℕ) → Empty (two i)
unfolding two
started i = starts_empty 2

filled_runs : Runs 2 two filled filled
unfolding filled pack_each packed roomy
filled_runs = all_run 2 filled tt

emptied_runs : Runs 2 two emptied emptied
unfolding emptied filled pack_each packed roomy
emptied_runs = all_run 2 emptied tt

reused_runs : Runs 2 two reused reused
unfolding reused emptied filled pack_each packed roomy
reused_runs = all_run 2 reused tt

-- the calls answer as the rules do
same_answer : {es : List Event} → Runs 2 two es es → (way : EntryPoint) (i : ℕ) (m : List ℕ)
    → answered 1 two (packed way i m) es ≡ answer_to 1 (packed way i m) es
unfolding packed
same_answer r way i m = answers begun r _ refl

pub low_calls_lem : LowCalls
low_calls_lem = record {
  fair = F;
  full = same_answer filled_runs _ _ _ ∙ reused_trace.full;
  raised = same_answer filled_runs _ _ _ ∙ reused_trace.raised;
  shows = same_answer emptied_runs _ _ _ ∙ reused_trace.shows;
  taken = ap apart_from_number (same_answer emptied_runs _ _ _) ∙ reused_trace.taken;
  old = same_answer reused_runs _ _ _ ∙ reused_trace.old;
  full_again = same_answer reused_runs _ _ _ ∙ reused_trace.full_again;
  writer_commits = proof_alike 1 liar _ _ (alike begun reused_runs) _ commit reused_trace.writer_commits;
  reader_commits = proof_alike 1 liar _ _ (alike begun reused_runs) _ commit reused_trace.reader_commits;
  next_commits = proof_alike 1 liar _ _ (alike begun reused_runs) _ commit reused_trace.next_commits;
  safe = engine_safety 1 liar few two (λ i s. started i) reused F;
}
  where
    F : FairCalls 1 liar two reused
    F = fair_calls begun reused_runs reused_trace.fair
