-- RD over the rows of a table: one law for each outcome.
use Prim.Native.Nat.{ℕ, ◌<◌, ◌≤◌}
use mathlib.Core.Path.{◌≡◌}
use mathlib.Core.Bool.{Bool, true, false}
use borrow.Author.Tests.{le-leb, lt-leb}
use lib.Dec.{ltb}
use Rattle.terms.specs.Checks.{if_less, when}
use Rattle.terms.specs.Refusals.{refusal_of}
use Rattle.terms.specs.declared.Key.{Key}
use Rattle.terms.specs.declared.Stamp.{Stamp}
use Rattle.terms.specs.declared.Refusal.TheVariants.{Ahead, Old}
use Rattle.rules.specs.declared.Answer.{Answer}
use Rattle.rules.specs.declared.Answer.TheVariants.{Refused}
use Rattle.rules.specs.declared.Told.{Told}
use Rattle.rules.specs.Table.{Box, limit}
use Rattle.rules.specs.Calls.{guarded, old_wrong, rd_answer, look_act, rd_rule}
use Rattle.scans.proofs.Outcomes.{unmarked}
use Rattle.steps.specs.declared.Change.TheVariants.{Raise}
use Rattle.steps.specs.declared.Step.{Step}
use Rattle.steps.specs.Step.{change_by, step_by, kept}

module _ (told : Told) (x : Box) (k : Key) (s : Stamp) (b : Bool) (q : b ≡ ltb (limit told) s.0) (i : ℕ) where
  pub rd_ahead : b ≡ true → kept (Refused Ahead) ≡ step_by i (rd_rule told x k.0 s.0)
  unfolding rd_rule guarded if_less refusal_of step_by change_by
  rd_ahead h = rw (← q, h)

  module _ (h : b ≡ false) where
    pub rd_old : s.0 ≤ x.low → kept (Refused Old) ≡ step_by i (rd_rule told x k.0 s.0)
    unfolding rd_rule guarded if_less old_wrong when refusal_of step_by change_by
    rd_old l = rw (← q, h, le-leb s.0 x.low l)

    pub rd_found : x.low < s.0 → (a : Answer) → a ≡ rd_answer (unmarked x) k.0 s.0
        → ◌≡◌ {A = Step} (record { answer = a; change = Raise k s }) (step_by i (rd_rule told x k.0 s.0))
    unfolding rd_rule guarded if_less old_wrong when look_act rd_answer step_by change_by
    rd_found l a y = rw (← q, h, lt-leb s.0 x.low l, y)
