-- A10, "A read that nothing can slip under": the claim, of the rules, and the words in which crates/engine says it of the calls themselves.
use Rattle.std.specs.Prelude.{ℕ, ◌+◌, ◌*◌, ◌≤◌, ◌<◌, Bool, true, false, not, ◌&&◌, ◌||◌, List, [], ◌∷◌, ◌++◌, T, eqb, ltb}
use Rattle.terms.specs.Choice.{any}
use Rattle.terms.specs.Group.{boxes}
use Rattle.records.specs.declared.Mark.TheVariants.{PR, LG, DC, RD, IV, LD}
use Rattle.std.specs.Prelude.{Result, Ok, Err}
use Rattle.terms.specs.declared.Refusal.{Refusal}
use Rattle.records.specs.declared.Mark.{Mark}
use Rattle.records.specs.Messages.{rd_key, rd_stamp}
use Rattle.rules.specs.Answers.{Answer, Decided, Done, Elected, Found, Logged, Raised, Refused, Voted, commit}
use Rattle.rules.specs.Bodies.{Body, same_body, stamp_of, writes_key}
use Rattle.rules.specs.Table.{Entry}
use Rattle.rules.specs.Act.{mark_by}
use Rattle.rules.specs.System.{Event, Fair, Proof, Sound, answer_to, box_at, how_many}

-- one box along a trace: the entries that it holds after a trace, and what is answered to a message that comes after one
pub record Watched : Type 0 where
  pub held : List Event → List Entry
  pub answer : Event → List Event → Answer

-- a box of the rules: its read marks go on from one message to the next, so that "no sound box loses its read marks"
abbrev pub watched : ℕ → ℕ → Watched
watched f i = record { held = λ es. (box_at f i es).table; answer = answer_to f }

-- "had held .. a certain transaction": an entry has exactly this body
unfoldable pub holds : Body → List Entry → Bool
holds b t = any (λ e. same_body e.body b) t

-- "at any time": after the whole trace, or at an earlier moment of it
unfoldable pub ever_held : Watched → Body → List Event → Bool
ever_held x b [] = holds b (x.held [])
ever_held x b (e ∷ es) = holds b (x.held (e ∷ es)) || ever_held x b es

-- "an RD"
unfoldable pub is_rd : Result Mark Refusal → Bool
is_rd (Ok RD) = true
is_rd (Ok PR) = false
is_rd (Ok LG) = false
is_rd (Ok DC) = false
is_rd (Ok IV) = false
is_rd (Ok LD) = false
is_rd (Err n) = false

-- "of a key at stamp s"
unfoldable pub asks : ℕ → ℕ → Event → Bool
asks k s e = is_rd (mark_by e.entry e.message) && (eqb (rd_key e.message) k && eqb (rd_stamp e.message) s)

-- "has been answered": not refused
unfoldable pub is_found : Answer → Bool
is_found (Voted v n) = false
is_found (Decided d) = false
is_found (Logged d v) = false
is_found (Elected d v l) = false
is_found Done = false
is_found Raised = false
is_found (Found committed undecided) = true
is_found (Refused r) = false

-- with this message box i answers an RD of key k at stamp s, and has not held b "at any time up to its answer", which puts no entry
unfoldable pub reads_now : Watched → ℕ → ℕ → ℕ → Body → Event → List Event → Bool
reads_now x i k s b e es = eqb e.box i && (asks k s e && (is_found (x.answer e es) && not (ever_held x b es)))

-- and somewhere in the trace it did
unfoldable pub read_without : Watched → ℕ → ℕ → ℕ → Body → List Event → Bool
read_without x i k s b [] = false
read_without x i k s b (e ∷ es) = reads_now x i k s b e es || read_without x i k s b es

-- "answered by 3f + 1 boxes", the sound ones of them so, and "a certain transaction that writes the key with a stamp below s"; what a faulty one of
-- them answered, and whether it did, does not matter
pub record ReadBy (f : ℕ) (faulty : ℕ → Bool) (so : ℕ → Bool) (k s : ℕ) (b : Body) : Type 0 where
  pub asked : ℕ → Bool
  pub enough : 3 * f + 1 ≤ how_many asked (boxes f)
  pub answered : (i : ℕ) → Sound f faulty i → T (asked i) → T (so i)
  pub writes : T (writes_key b k)
  pub below : stamp_of b < s

-- "no sound one of them had held .."
abbrev pub NoneHeld : (f : ℕ) (faulty : ℕ → Bool) (box : ℕ → Watched) (k s : ℕ) (b : Body) → List Event → Type 0
NoneHeld f faulty box k s b es = ReadBy f faulty (λ i. read_without (box i) i k s b es) k s b

-- "Then that transaction never has a commit proof": whatever comes later. "The premises are those of demand 3"
abbrev pub NothingSlipsUnder : Type 0
NothingSlipsUnder =
    (f : ℕ) (faulty : ℕ → Bool) → how_many faulty (boxes f) ≤ f
    → (es later : List Event) → Fair f faulty (later ++ es)
    → (k s : ℕ) (b : Body) → NoneHeld f faulty (watched f) k s b es
    → Proof f faulty (later ++ es) b commit → ⊥

-- ---- beside it, what whoever reads can go by: he sees what boxes show, not what they held
-- both versions of an answer are below v
unfoldable pub shows_below : ℕ → Answer → Bool
shows_below v (Voted w n) = false
shows_below v (Decided d) = false
shows_below v (Logged d w) = false
shows_below v (Elected d w l) = false
shows_below v Done = false
shows_below v Raised = false
shows_below v (Found committed undecided) = ltb committed.stamp.0 v && ltb undecided.stamp.0 v
shows_below v (Refused r) = false

unfoldable pub shows_now : Watched → ℕ → ℕ → ℕ → ℕ → Event → List Event → Bool
shows_now x i k s v e es = eqb e.box i && (asks k s e && shows_below v (x.answer e es))

-- somewhere in the trace box i answered an RD of key k at stamp s so
unfoldable pub shown_below : Watched → ℕ → ℕ → ℕ → ℕ → List Event → Bool
shown_below x i k s v [] = false
shown_below x i k s v (e ∷ es) = shows_now x i k s v e es || shown_below x i k s v es

-- each sound one of the 3f + 1 showed versions below the writer's stamp
abbrev pub NoneShown : (f : ℕ) (faulty : ℕ → Bool) (box : ℕ → Watched) (k s : ℕ) (b : Body) → List Event → Type 0
NoneShown f faulty box k s b es = ReadBy f faulty (λ i. shown_below (box i) i k s (stamp_of b) es) k s b

-- then it never has a commit proof either: nothing comes between the highest version that they show and s
abbrev pub NothingComesBetween : Type 0
NothingComesBetween =
    (f : ℕ) (faulty : ℕ → Bool) → how_many faulty (boxes f) ≤ f
    → (es later : List Event) → Fair f faulty (later ++ es)
    → (k s : ℕ) (b : Body) → NoneShown f faulty (watched f) k s b es
    → Proof f faulty (later ++ es) b commit → ⊥
