-- A10 of the entry points: "a read that nothing can slip under", of any calls of any of them, in any order, on tables that start empty.
use Rattle.std.specs.Prelude.{ℕ, ◌≤◌, Bool, List, ◌++◌}
use Rattle.terms.specs.Group.{boxes}
use Rattle.terms.specs.declared.Decision.TheVariants.{Commit as commit}
use Rattle.rules.specs.Bodies.{Body}
use Rattle.rules.specs.System.{Event, ProofBy, Sound, how_many}
use Rattle.rules.specs.SlipUnder.{NoneHeld, NoneShown, Watched}
use Rattle.table.specs.Table.{entries_of}
use Rattle.engine.specs.Outcome.{Kept}
use Rattle.engine.specs.Safety.{Empty, FairCalls, answered, gave_by, kept_at}

-- what is kept for box i, as the entries of its lent table, and what the entry points answer. "no sound box loses its read marks": a call is lent
-- what the call before it left, the marks too (`kept_at`)
abbrev pub kept_for : ℕ → (ℕ → Kept) → ℕ → Watched
kept_for f start i = record { held = λ es. entries_of (kept_at f start i es).table; answer = answered f start }

-- the claim: the rules' `NothingSlipsUnder`, of calls
abbrev pub NothingSlipsUnderCalls : Type 0
NothingSlipsUnderCalls =
    (f : ℕ) (faulty : ℕ → Bool) → how_many faulty (boxes f) ≤ f
    → (start : ℕ → Kept) → ((i : ℕ) → Sound f faulty i → Empty (start i))
    → (es later : List Event) → FairCalls f faulty start (later ++ es)
    → (k s : ℕ) (b : Body) → NoneHeld f faulty (kept_for f start) k s b es
    → ProofBy f faulty (gave_by f start (later ++ es)) b commit → ⊥

-- beside it the rules' `NothingComesBetween`, of calls
abbrev pub NothingComesBetweenCalls : Type 0
NothingComesBetweenCalls =
    (f : ℕ) (faulty : ℕ → Bool) → how_many faulty (boxes f) ≤ f
    → (start : ℕ → Kept) → ((i : ℕ) → Sound f faulty i → Empty (start i))
    → (es later : List Event) → FairCalls f faulty start (later ++ es)
    → (k s : ℕ) (b : Body) → NoneShown f faulty (kept_for f start) k s b es
    → ProofBy f faulty (gave_by f start (later ++ es)) b commit → ⊥
