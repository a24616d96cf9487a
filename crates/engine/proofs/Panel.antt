-- The rules' panel as calls on tables of zeros.
use Prim.Native.Nat.{ℕ}
use mathlib.Core.Path.{◌≡◌, ap, sym}
use mathlib.Core.Logic.{◌⊎◌, inl, inr}
use mathlib.Core.List.{List, ◌∷◌, ◌++◌}
use lib.Dec.{T}
use Rattle.terms.specs.declared.Decision.TheVariants.{Commit as commit}
use Rattle.records.specs.Tx.{tx_bytes}
use Rattle.rules.specs.Bodies.{Body}
use Rattle.rules.specs.Table.{Box}
use Rattle.rules.specs.Cases.{writes}
use Rattle.rules.specs.System.{Event, box_at}
use Rattle.rules.specs.SlipUnder.{NoneHeld, ever_held, holds, read_without, reads_now, watched}
use Rattle.rules.specs.Traces.{at, each, liar}
use Rattle.rules.specs.Panel.{afterwards, looked}
use Rattle.rules.proofs.Laws.{or_cases, or_l, or_r}
use Rattle.rules.proofs.Alike.{proof_alike}
use Rattle.rules.proofs.SlipUnder.{held_ever}
use Rattle.rules.proofs.Panel.{panel_trace}
use Rattle.table.specs.Table.{entries_of}
use Rattle.engine.specs.Outcome.{box_in}
use Rattle.engine.specs.Safety.{FairCalls, kept_at}
use Rattle.engine.specs.SlipUnder.{kept_for}
use Rattle.engine.specs.Busy.{eight}
use Rattle.engine.specs.Panel.{PanelCalls}
use Rattle.engine.proofs.Watching.{reads_on}
use Rattle.engine.proofs.SlipUnder.{nothing_slips_under_calls}
use Rattle.engine.proofs.Beside.{Runs, alike, all_run, answers, done, drops, fair_calls, roomy, takes}
use Rattle.engine.proofs.Beside.{holds as held}
use Rattle.engine.proofs.Busy.{begun, few, started}

-- what is held in the calls is held in the rules, at some time
module _ (i : ℕ) (b : Body) where
  held_now : {es rs : List Event} → Runs 8 eight es rs → T (holds b (entries_of (kept_at 1 eight i es).table)) → T (ever_held (watched 1 i) b rs)
  unfolding box_in
  held_now {es} {rs} r h =
      let same : entries_of (kept_at 1 eight i es).table ≡ (box_at 1 i rs).table = ap (λ (y : Box). y.table) (held begun r i).same in
      held_ever (watched 1 i) b rs (rw same at h)

  ever_runs : {es rs : List Event} → Runs 8 eight es rs → T (ever_held (kept_for 1 eight i) b es) → T (ever_held (watched 1 i) b rs)
  unfolding ever_held
  ever_runs done h = held_now done h
  ever_runs {es = e ∷ es} {rs = e' ∷ rs} (takes e₁ c r) h =
      go (or_cases (holds b (entries_of (kept_at 1 eight i (e ∷ es)).table)) (ever_held (kept_for 1 eight i) b es) h) (ever_runs r)
    where
      go : T (holds b (entries_of (kept_at 1 eight i (e ∷ es)).table)) ⊎ T (ever_held (kept_for 1 eight i) b es)
          → (T (ever_held (kept_for 1 eight i) b es) → T (ever_held (watched 1 i) b rs)) → T (ever_held (watched 1 i) b (e ∷ rs))
      go (inl y) before = held_now (takes e c r) y
      go (inr y) before = or_r (holds b (box_at 1 i (e ∷ rs)).table) (ever_held (watched 1 i) b rs) (before y)
  ever_runs {es = e ∷ es} {rs = rs} (drops e₁ n q o r) h =
      go (or_cases (holds b (entries_of (kept_at 1 eight i (e ∷ es)).table)) (ever_held (kept_for 1 eight i) b es) h) (ever_runs r)
    where
      go : T (holds b (entries_of (kept_at 1 eight i (e ∷ es)).table)) ⊎ T (ever_held (kept_for 1 eight i) b es)
          → (T (ever_held (kept_for 1 eight i) b es) → T (ever_held (watched 1 i) b rs)) → T (ever_held (watched 1 i) b rs)
      go (inl y) before = held_now (drops e n q o r) y
      go (inr y) before = before y

  -- and a read of the rules is one of the calls
  read_runs : {es rs : List Event} (k s : ℕ) → Runs 8 eight es rs → T (read_without (watched 1 i) i k s b rs) → T (read_without (kept_for 1 eight i) i k s b es)
  unfolding read_without
  read_runs k s done h = absurd h
  read_runs {es = e ∷ es} {rs = e' ∷ rs} k s (takes e₁ c r) h =
      go (or_cases (reads_now (watched 1 i) i k s b e rs) (read_without (watched 1 i) i k s b rs) h) (read_runs k s r)
    where
      go : T (reads_now (watched 1 i) i k s b e rs) ⊎ T (read_without (watched 1 i) i k s b rs)
          → (T (read_without (watched 1 i) i k s b rs) → T (read_without (kept_for 1 eight i) i k s b es)) → T (read_without (kept_for 1 eight i) i k s b (e ∷ es))
      go (inl y) before =
          or_l (reads_now (kept_for 1 eight i) i k s b e es) (read_without (kept_for 1 eight i) i k s b es)
          (reads_on (watched 1 i) (kept_for 1 eight i) i k s b e rs es (sym (answers begun r e c)) (ever_runs r) y)
      go (inr y) before = or_r (reads_now (kept_for 1 eight i) i k s b e es) (read_without (kept_for 1 eight i) i k s b es) (before y)
  read_runs {es = e ∷ es} k s (drops e₁ n q o r) h =
      or_r (reads_now (kept_for 1 eight i) i k s b e es) (read_without (kept_for 1 eight i) i k s b es) (read_runs k s r h)

looked_runs : Runs 8 eight looked looked
unfolding looked each at roomy
looked_runs = all_run 8 looked tt

panel_runs : Runs 8 eight (afterwards ++ looked) (afterwards ++ looked)
unfolding afterwards looked each at roomy
panel_runs = all_run 8 (afterwards ++ looked) tt

panel_none_held : NoneHeld 1 liar (kept_for 1 eight) 3 90 (tx_bytes (writes 60 3)) looked
panel_none_held =
    let N = panel_trace.none_held in
    record {
      asked = N.asked;
      enough = N.enough;
      answered = λ i s a. read_runs i (tx_bytes (writes 60 3)) 3 90 looked_runs (N.answered i s a);
      writes = N.writes;
      below = N.below;
    }

panel_fair : FairCalls 1 liar eight (afterwards ++ looked)
panel_fair = fair_calls begun panel_runs panel_trace.fair

pub panel_calls : PanelCalls
panel_calls = record {
  fair = panel_fair;
  none_held = panel_none_held;
  never = nothing_slips_under_calls 1 liar few eight (λ i s. started i) looked afterwards panel_fair 3 90 (tx_bytes (writes 60 3)) panel_none_held;
  other_commits = proof_alike 1 liar _ _ (alike begun panel_runs) _ commit panel_trace.other_commits;
  equal_commits = proof_alike 1 liar _ _ (alike begun panel_runs) _ commit panel_trace.equal_commits;
}
