-- The rules' act as one step by value: what a call does to the rows of a table.
use Rattle.std.specs.Prelude.{ℕ, List, ◌≡◌, Option as Found, Some, None}
use Rattle.std.proofs.Math.Option.{Option, some, none}
use Rattle.terms.specs.Choice.{pick}
use Rattle.terms.specs.declared.Decision.{Decision}
use Rattle.terms.specs.declared.Refusal.TheVariants.{NotLogged, OtherBody}
use Rattle.terms.specs.declared.View.{View}
use Rattle.records.specs.Vl.{Vl}
use Rattle.records.specs.Views.{Views}
use Rattle.rules.specs.declared.Answer.{Answer}
use Rattle.rules.specs.declared.Answer.TheVariants.{Voted, Refused}
use Rattle.rules.specs.Answers.{Log, unsettled}
use Rattle.rules.specs.declared.Told.{Told}
use Rattle.rules.specs.Answers.{visited}
use Rattle.rules.specs.declared.Vote.{Vote}
use Rattle.rules.specs.Bodies.{Body, same_body, stamp_of}
use Rattle.rules.specs.Table.{Entry, Box, find, log_in, view_in, vote_in}
use Rattle.rules.specs.Calls.{Act, Change, nothing, puts, raises, raises_low, pr_by_entry, pr_by_decision, lg_by_entry, lg_by_decision, dc_same, dc_other, dc_by_entry}
use Rattle.rules.specs.Visits.{look_up}
use Rattle.rules.specs.Fallback.{iv_by_decision, ld_by_decision, ld_by_entry}
use Rattle.table.specs.declared.State.{State}
use Rattle.table.specs.Table.{entry_with, state_in, place}
use Rattle.steps.specs.declared.Change.{Change as Changed}
use Rattle.steps.specs.declared.Change.TheVariants.{Nothing, Put, Raise}
use Rattle.steps.specs.declared.Held.{Held}
use Rattle.steps.specs.declared.Held.TheVariants.{Not, Same, Other}
use Rattle.steps.specs.declared.Look.{Look}
use Rattle.steps.specs.declared.Step.{Step}

-- the step of an act, i the place of the message's stamp; no message raises the low mark
unfoldable pub change_by : ℕ → Change → Changed
change_by i nothing = Nothing
change_by i (puts e) = Put i (state_in e)
change_by i (raises k s) = Raise (record { 0 = k }) (record { 0 = s })
change_by i (raises_low l) = Nothing

unfoldable pub step_by : ℕ → Act → Step
step_by i a = record { answer = a.answer; change = change_by i a.change }

-- a step that changes nothing, and one that puts an entry
abbrev pub kept : Answer → Step
kept a = record { answer = a; change = Nothing }

abbrev pub put : ℕ → State → Answer → Step
put i e a = record { answer = a; change = Put i e }

-- a vote is cast and stored, log and view stay; n entries were visited
abbrev pub cast_step : ℕ → Log → View → Vote → ℕ → Step
cast_step i log view v n = put i (record { vote = v; log = log; view = view; decided = unsettled }) (Voted v (visited n))

-- ---- look-up: what is held under the stamp of a body, its place, and the entries visited
abbrev pub held_by : Body → Option Entry → Held
held_by b none = Not
held_by b (some e) = pick (same_body e.body b) (Same (state_in e)) (Other (state_in e))

unfoldable pub look_of : List Entry → Body → Look
look_of es b = record { place = place (stamp_of b) es; held = held_by b (find (stamp_of b) es); visited = look_up (stamp_of b) es }

-- ---- the rules by what is held
unfoldable pub pr_by : ℕ → Told → Box → Body → Held → Step
pr_by i told x b Not = step_by i (pr_by_entry told x b none)
pr_by i told x b (Same e) = step_by i (pr_by_decision told x b (entry_with b e) e.decided)
pr_by i told x b (Other e) = kept (Refused OtherBody)

unfoldable pub lg_by : ℕ → Told → Box → Body → Vl → Held → Step
lg_by i told x b l Not = step_by i (lg_by_entry told x b l none)
lg_by i told x b l (Same e) = step_by i (lg_by_decision told b l (entry_with b e) e.decided)
lg_by i told x b l (Other e) = kept (Refused OtherBody)

unfoldable pub dc_by : ℕ → Told → Box → Body → Decision → Held → Step
dc_by i told x b d Not = step_by i (dc_by_entry told x b d none)
dc_by i told x b d (Same e) = step_by i (dc_same b d (entry_with b e) e.decided)
dc_by i told x b d (Other e) = step_by i (dc_other b d e.decided)

-- once the list meets its threshold
unfoldable pub dc_proved : Told → Box → Body → Decision → Step
dc_proved told x b d = step_by (place (stamp_of b) x.table) (dc_by_entry told x b d (find (stamp_of b) x.table))

-- ---- views
-- the view that was found, as the code has an option
unfoldable pub found_view : Option ℕ → Found ℕ
found_view none = None
found_view (some v) = Some v

unfoldable pub iv_by : ℕ → Told → Body → Views → Held → Step
iv_by i told b l Not = kept (Refused NotLogged)
iv_by i told b l (Same e) = step_by i (iv_by_decision told b l.ballots (entry_with b e) e.decided)
iv_by i told b l (Other e) = kept (Refused OtherBody)

unfoldable pub ld_by : ℕ → Told → Box → Body → Views → Held → Step
ld_by i told x b l Not = step_by i (ld_by_entry told x b l none)
ld_by i told x b l (Same e) = step_by i (ld_by_decision told b l (entry_with b e) e.decided)
ld_by i told x b l (Other e) = kept (Refused OtherBody)

-- what stands beside a body that is or is not held
abbrev pub Beside : Option Entry → State → Type 0
Beside o e = (vote_in o ≡ e.vote) × (log_in o ≡ e.log) × (view_in o ≡ e.view)
