-- A9, "Decisions may arrive in either order": the claim, of any one box, whatever its table and marks hold, one stamp twice included.
use Rattle.std.specs.Prelude.{ℕ, ◌+◌, ◌≤◌, ◌≡◌, List, [], ◌∷◌, length}
use Rattle.std.proofs.Math.Option.{none}
use Rattle.terms.specs.declared.Refusal.TheVariants.{Full}
use Rattle.records.specs.declared.Mark.TheVariants.{DC}
use Rattle.std.specs.Prelude.{Ok}
use Rattle.records.specs.Cutting.{tx_part}
use Rattle.rules.specs.Answers.{Answer, Done, Refused, Version, apart_from_number}
use Rattle.rules.specs.Bodies.{stamp_of}
use Rattle.rules.specs.Table.{Box, Entry, Told, find}
use Rattle.rules.specs.Act.{EntryPoint, act, after, mark_by}

-- a call: any bytes that reach a box by any entry point, and what the box is told beside them, each call its own
pub record Call : Type 0 where
  pub entry : EntryPoint
  pub told : Told
  pub message : List ℕ

-- "DC calls": a message that is taken for a DC, by its own mark or since a DC is due
abbrev pub IsDC : Call → Type 0
IsDC c = mark_by c.entry c.message ≡ Ok DC

-- the stamp of its transaction
abbrev pub stamp_in : Call → ℕ
stamp_in c = stamp_of (tx_part c.message)

-- "if the boxes then differ": the same entries, where neighbours with different stamps may have changed places, any number of times
pub data Reordered : List Entry → List Entry → Type 0 where
  same : {t : List Entry} → Reordered t t
  behind : {e : Entry} {t u : List Entry} → Reordered t u → Reordered (e ∷ t) (e ∷ u)
  swapped : {a b : Entry} {t : List Entry} → (stamp_of a.body ≡ stamp_of b.body → ⊥) → Reordered (a ∷ b ∷ t) (b ∷ a ∷ t)
  further : {t u v : List Entry} → Reordered t u → Reordered u v → Reordered t v

-- what answers calls: the answer, what stands afterwards, and the entries, read marks, low mark and folds that it holds
pub record Answering (X : Type 0) : Type 0 where
  pub reply : X → Call → Answer
  pub next : X → Call → X
  pub entries : X → List Entry
  pub marks : X → List ℕ
  pub low : X → ℕ
  pub folds : X → List Version

module _ {X : Type 0} (w : Answering X) where
  -- what is answered to calls that follow one another
  unfoldable pub replies : X → List Call → List Answer
  replies x [] = []
  replies x (c ∷ cs) = apart_from_number (w.reply x c) ∷ replies (w.next x c) cs

  -- "need a new entry": alone it would be taken, and its stamp is not held
  pub record NeedsNew (x : X) (c : Call) : Type 0 where
    pub new : find (stamp_in c) (w.entries x) ≡ none
    pub taken : w.reply x c ≡ Done

  pub record EitherOrder (x : X) (p q : Call) : Type 0 where
    -- "made in either order .. give each its same answer"
    pub one : w.reply (w.next x q) p ≡ w.reply x p
    pub other : w.reply (w.next x p) q ≡ w.reply x q
    -- "every later call then answers alike, apart from A6's number"
    pub later : (cs : List Call) → replies (w.next (w.next x p) q) cs ≡ replies (w.next (w.next x q) p) cs
    -- and in which way "the boxes then differ"
    pub tables : Reordered (w.entries (w.next (w.next x p) q)) (w.entries (w.next (w.next x q) p))
    pub marks : w.marks (w.next (w.next x p) q) ≡ w.marks (w.next (w.next x q) p)
    pub low : w.low (w.next (w.next x p) q) ≡ w.low (w.next (w.next x q) p)
    pub folds : w.folds (w.next (w.next x p) q) ≡ w.folds (w.next (w.next x q) p)

-- ---- of the rules: what is answered, and the box afterwards
unfoldable pub reply : Box → Call → Answer
reply x c = (act c.entry c.told x c.message).answer

unfoldable pub next : Box → Call → Box
next x c = after c.entry c.told x c.message

abbrev pub of_rules : Answering Box
of_rules = record { reply = reply; next = next; entries = λ x. x.table; marks = λ x. x.marks; low = λ x. x.low; folds = λ x. x.folds }

-- "with room for both": it matters only where both need a new entry
abbrev pub Room : Box → Call → Call → Type 0
Room x p q =
    NeedsNew of_rules x p → NeedsNew of_rules x q
    → (length x.table + 2 ≤ p.told.capacity) × (length x.table + 2 ≤ q.told.capacity)

-- "two DC calls with different stamps, made in either order on one table with room for both"
abbrev pub DecisionsCommute : Type 0
DecisionsCommute =
    (x : Box) (p q : Call) → IsDC p → IsDC q → (stamp_in p ≡ stamp_in q → ⊥) → Room x p q → EitherOrder of_rules x p q

-- "Where both need a new entry and there is room for one, the second is refused with 13": p and q are any two, so whichever is the second
abbrev pub OneRefused : Type 0
OneRefused =
    (x : Box) (p q : Call) → IsDC p → IsDC q → (stamp_in p ≡ stamp_in q → ⊥) → NeedsNew of_rules x p → NeedsNew of_rules x q
    → q.told.capacity ≡ length x.table + 1
    → reply (next x p) q ≡ Refused Full
