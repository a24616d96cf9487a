-- DEMAND 3 of the entry points: any calls of any of them, in any order, on tables that start empty. A trace lists the calls, the newest first.
use Rattle.terms.specs.Checks.{passed}
use Rattle.std.specs.Prelude.{ℕ, ◌≤◌, Bool, false, ◌&&◌, ◌||◌, ◌≡◌, List, [], ◌∷◌, eqb, replicate}
use Rattle.terms.specs.Choice.{pick}
use Rattle.terms.specs.Group.{boxes}
use Rattle.records.specs.Cutting.{tx_part}
use Rattle.rules.specs.declared.Answer.{Answer}
use Rattle.rules.specs.declared.Told.{Told}
use Rattle.rules.specs.Bodies.{Body, same_body}
use Rattle.rules.specs.Act.{EntryPoint, marks_after}
use Rattle.rules.specs.System.{Event, Given, HonestBy, SafeBy, Sound, Word, answer_to, box_at, given_in, how_many, is_word, told_at, word_in}
use Rattle.rules.specs.Table.{no_version}
use Rattle.table.specs.Table.{count_of, folds_of, low_of}
use Rattle.engine.specs.Outcome.{Kept, box_in, called, lent_wrong, table_by}

-- what an entry point leaves of what is kept: the two equations of its contract
unfoldable pub leaves : EntryPoint → Told → Kept → List ℕ → Kept
leaves way told x m =
    record { table = table_by x.table (called way told x m).change; marks = marks_after x.marks (called way told x m).change }

-- what is kept for box i after a trace, from what it started with
unfoldable pub kept_at : ℕ → (ℕ → Kept) → ℕ → List Event → Kept
kept_at f start i [] = start i
kept_at f start i (e ∷ es) = pick (eqb e.box i) (leaves e.entry (told_at f e) (kept_at f start i es) e.message) (kept_at f start i es)

-- what is answered to a call that comes after a trace: the third equation
unfoldable pub answered : ℕ → (ℕ → Kept) → Event → List Event → Answer
answered f start e es = (called e.entry (told_at f e) (kept_at f start e.box es) e.message).answer

-- box i gave this word "for exactly this body"
unfoldable pub gave_by : ℕ → (ℕ → Kept) → List Event → Given
gave_by f start [] i b w = false
gave_by f start (e ∷ es) i b w =
    (eqb e.box i && (same_body (tx_part e.message) b && is_word w (word_in (answered f start e es)))) || gave_by f start es i b w

-- ---- the premises
-- "starting empty": no entry is counted, no key was read, nothing was let go. Any slice will do: a call whose capacity needs a longer one is refused with 16
pub record Empty (x : Kept) : Type 0 where
  pub none : count_of x.table ≡ 0
  pub unread : x.marks ≡ replicate 512 0
  pub low : low_of x.table ≡ 0
  pub folds : folds_of x.table ≡ replicate 512 no_version

-- the lists that sound boxes read are backed by what the entry points answered before
unfoldable pub FairCalls : ℕ → (ℕ → Bool) → (ℕ → Kept) → List Event → Type 0
FairCalls f faulty start [] = Unit {0}
FairCalls f faulty start (e ∷ es) =
    FairCalls f faulty start es
    × (Sound f faulty e.box → HonestBy f faulty (gave_by f start es) e.entry e.message)

-- the claim, with all that it asks: at most f faulty boxes, sound boxes that start empty, fair calls
abbrev pub EngineSafety : Type 0
EngineSafety =
    (f : ℕ) (faulty : ℕ → Bool) → how_many faulty (boxes f) ≤ f
    → (start : ℕ → Kept) → ((i : ℕ) → Sound f faulty i → Empty (start i))
    → (es : List Event) → FairCalls f faulty start es
    → SafeBy f faulty (gave_by f start es)

-- ---- beside it: the entry points answer as the rules do. To every such trace there is one of the rules, which leaves out what is refused with 14
-- or 16 and what reaches no sound box: in it sound boxes hold what is kept for them, gave the same, and answer the same to whatever comes next
pub record Tracks (f : ℕ) (faulty : ℕ → Bool) (start : ℕ → Kept) (es : List Event) : Type 0 where
  pub rules : List Event
  pub held : (i : ℕ) → Sound f faulty i → box_in (kept_at f start i es) ≡ box_at f i rules
  pub said : (i : ℕ) → Sound f faulty i → (b : Body) (w : Word) → gave_by f start es i b w ≡ given_in f rules i b w
  pub answers : (e : Event) → Sound f faulty e.box → lent_wrong (told_at f e) (kept_at f start e.box es).table ≡ passed
      → answered f start e es ≡ answer_to f e rules

abbrev pub EngineTracks : Type 0
EngineTracks =
    (f : ℕ) (faulty : ℕ → Bool) (start : ℕ → Kept) → ((i : ℕ) → Sound f faulty i → Empty (start i)) → (es : List Event) → Tracks f faulty start es
