-- A4: what is claimed of the register, on the numbers and over the rules.
use Rattle.std.specs.Prelude.{ℕ, ◌+◌, ◌-◌, ◌<◌, ◌≤◌, Bool, ◌≡◌, ◌⊎◌, T, Result, Ok, IsOkAnd}
use mathlib.Core.List.{List, [], ◌∷◌, Memᴰ as In}
use Rattle.terms.specs.Checks.{passed}
use Rattle.terms.specs.Group.{boxes}
use Rattle.terms.specs.declared.Refusal.{Refusal}
use Rattle.records.specs.declared.Transaction.{Transaction}
use Rattle.records.specs.Tx.{tx_in, tx_of}
use Rattle.records.specs.Contents.{largest_key, rd_wrong}
use Rattle.records.specs.Cutting.{tx_part}
use Rattle.records.specs.Messages.{list_behind}
use Rattle.records.specs.declared.Mark.TheVariants.{DC}
use Rattle.rules.specs.declared.Version.{Version}
use Rattle.terms.specs.declared.Decision.TheVariants.{Commit as commit}
use Rattle.rules.specs.declared.Answer.TheVariants.{Done}
use Rattle.rules.specs.Answers.{settled}
use Rattle.rules.specs.Bodies.{Body, stamp_of, writes_key, writes_of}
use Rattle.rules.specs.Lists.{decision_of}
use Rattle.rules.specs.Table.{Box, Entry, folded_at, no_version}
use Rattle.rules.specs.Calls.{rd_answer, raises, value_at}
use Rattle.rules.specs.Act.{box_after, mark_by}
use Rattle.rules.specs.System.{Event, Fair, Proof, answer_to, box_at, how_many}
use Rattle.passage.specs.declared.Values.{Values}
use Rattle.passage.specs.declared.Seen.{Seen}
use Rattle.passage.specs.declared.Report.{Report}
use Rattle.passage.specs.Passages.{half, key_at, values_of, seen_wrong, from_lead, reported, report_of, halves, report_from, asks_wrong}
use Rattle.passage.specs.Corrections.{turned, direction_corrected, corrected, entered}

-- ---- "The report counts from the train's leading end"
-- "none stays none"
abbrev pub NoneStays : Type 0
NoneStays = (d count : ℕ) → from_lead d count 0 ≡ 0

-- "direction 0 gives the number itself"
abbrev pub Itself : Type 0
Itself = (count n : ℕ) → from_lead 0 count n ≡ n

-- "1 gives count + 1 − number"
abbrev pub FromTheOtherEnd : Type 0
FromTheOtherEnd = (count n : ℕ) → 1 ≤ n → from_lead 1 count n ≡ count + 1 - n

-- turned twice, a number is itself
abbrev pub TurnedTwice : Type 0
TurnedTwice = (d count n : ℕ) → n ≤ count → from_lead d count (from_lead d count n) ≡ n

-- the same axle under both directions: counted from both ends
abbrev pub BothEnds : Type 0
BothEnds = (d count n : ℕ) → d ≤ 1 → 1 ≤ n → n ≤ count → from_lead d count n + from_lead (1 - d) count n ≡ count + 1

-- ---- "Correcting the direction twice in a row gives the first report back", on the numbers
-- what stands at the keys once a transaction of a passage has committed: its stamp and its values
abbrev pub version_at : ℕ → ℕ → Version
version_at s v = record { stamp = record { 0 = s }; value = v }

unfoldable pub standing : ℕ → Values → Seen
standing s v =
    record {
      train = version_at s v.train;
      direction = version_at s v.direction;
      axles = version_at s v.axles;
      hot = version_at s v.hot;
    }

abbrev pub NumbersBack : Type 0
NumbersBack = (p r t : ℕ) (s : Seen) → seen_wrong p s ≡ passed
    → report_of p (standing t (turned (values_of (standing r (turned (values_of s)))))) ≡ report_of p s

-- ---- over the rules
-- "the committed halves of four RD answers taken at one stamp", and the report from those answers
unfoldable pub seen_in : Box → ℕ → ℕ → Seen
seen_in x p s = halves (rd_answer x (key_at p 0) s) (rd_answer x (key_at p 1) s) (rd_answer x (key_at p 2) s) (rd_answer x (key_at p 3) s)

unfoldable pub report_in : Box → ℕ → ℕ → Result Report Refusal
report_in x p s = report_from p (rd_answer x (key_at p 0) s) (rd_answer x (key_at p 1) s) (rd_answer x (key_at p 2) s) (rd_answer x (key_at p 3) s)

-- what is asked no box refuses for its contents (5)
abbrev pub AsksRight : Type 0
AsksRight = (p s : ℕ) → asks_wrong p s ≡ passed → (i : ℕ) → i < 4 → rd_wrong (key_at p i) s ≡ passed

-- the four may be asked in turn: an RD raises a read mark, and alters nothing of what the others show
abbrev pub AskedInTurn : Type 0
AskedInTurn = (x : Box) (p s k t : ℕ) → seen_in (box_after x (raises k t)) p s ≡ seen_in x p s

-- a body that stands committed in a box
pub record Stands (x : Box) (b : Body) : Type 0 where
  pub entry : Entry
  pub inside : In entry x.table
  pub body : entry.body ≡ b
  pub committed : entry.decided ≡ settled commit

-- "with no other committed writer of the four keys between" b and the stamp at which it is looked
unfoldable pub Alone : Box → ℕ → ℕ → Body → Type 0
Alone x p s b =
    (c : Body) → Stands x c → (i : ℕ) → i < 4 → T (writes_key c (key_at p i)) → stamp_of c < s → stamp_of b ≤ stamp_of c → c ≡ b

-- b is the last that was committed of passage p, looked at from stamp s
pub record Last (x : Box) (p s : ℕ) (b : Body) : Type 0 where
  pub stands : Stands x b
  pub below : stamp_of b < s
  pub alone : Alone x p s b

-- a body with the transaction that was made
abbrev pub MadeAs : Result Transaction Refusal → Body → Type 0
MadeAs m b = IsOkAnd m (λ t. tx_of b ≡ tx_in t)

-- box i has taken the decision commit of b: it answered Done to a DC of it
pub record Takes (f i : ℕ) (b : Body) (e : Event) (es : List Event) : Type 0 where
  pub here : e.box ≡ i
  pub mark : mark_by e.entry e.message ≡ Ok DC
  pub body : tx_part e.message ≡ b
  pub names : decision_of (list_behind e.message).decision ≡ commit
  pub done : answer_to f e es ≡ Done

unfoldable pub Taken : ℕ → ℕ → Body → List Event → Type 0
Taken f i b [] = ⊥
Taken f i b (e ∷ es) = Takes f i b e es ⊎ Taken f i b es

-- A11: let go by a raised low mark, and folded: at each key that it writes the folded version is its own or a newer one
pub record LetGo (x : Box) (b : Body) : Type 0 where
  pub below : stamp_of b ≤ x.low
  pub folded : (k : ℕ) → k ≤ largest_key → T (writes_key b k) → stamp_of b ≤ folded_at x k

-- what a box has taken stands in it or was let go, whatever came since; and what stands in it committed it has taken
abbrev pub TakenStands : Type 0
TakenStands = (f i : ℕ) (b : Body) (es : List Event) → Taken f i b es → Stands (box_at f i es) b ⊎ LetGo (box_at f i es) b

abbrev pub StandsTaken : Type 0
StandsTaken = (f i : ℕ) (b : Body) (es : List Event) → Stands (box_at f i es) b → Taken f i b es

-- where no low mark was raised, all that was taken stands
abbrev pub AllStand : Type 0
AllStand = (f i : ℕ) (b : Body) (es : List Event) → (box_at f i es).low ≡ 0 → Taken f i b es → Stands (box_at f i es) b

-- at one box one body is taken under a stamp, though it was let go since
abbrev pub TakenOnce : Type 0
TakenOnce = (f i : ℕ) (b c : Body) (es : List Event) → Taken f i b es → Taken f i c es → stamp_of b ≡ stamp_of c → b ≡ c

-- taken, a writer of the key, below the stamp
pub record TakenBelow (f i : ℕ) (es : List Event) (k s : ℕ) (b : Body) : Type 0 where
  pub taken : Taken f i b es
  pub writes : T (writes_key b k)
  pub below : stamp_of b < s

-- a version: none where nothing such was taken, else of the newest
pub data NewestTaken (f i : ℕ) (es : List Event) (k s : ℕ) : Version → Type 0 where
  never : ((b : Body) → TakenBelow f i es k s b → ⊥) → NewestTaken f i es k s no_version
  top : (b : Body) → TakenBelow f i es k s b → ((c : Body) → TakenBelow f i es k s c → stamp_of c ≤ stamp_of b)
      → NewestTaken f i es k s (version_at (stamp_of b) (value_at k (writes_of b)))

-- A11: "RD shows only what that box took", and of that the newest, let go or not
abbrev pub ShowsTaken : Type 0
ShowsTaken = (f i : ℕ) (es : List Event) (k s : ℕ) → k ≤ largest_key → (box_at f i es).low < s → NewestTaken f i es k s (half (rd_answer (box_at f i es) k s))

-- a passage's transaction that is the last one is what every RD shows: an entry, and the direction's correction
abbrev pub EntryShown : Type 0
EntryShown = (x : Box) (p s : ℕ) (seen : Seen) (v : Values) (b : Body) → MadeAs (entered p seen (stamp_of b) v) b → Last x p s b
    → report_in x p s ≡ Ok (reported v)

abbrev pub CorrectionShown : Type 0
CorrectionShown = (x : Box) (p s : ℕ) (seen : Seen) (b : Body) → MadeAs (direction_corrected p seen (stamp_of b)) b → Last x p s b
    → report_in x p s ≡ Ok (reported (turned (values_of seen)))

-- "Correcting the direction twice in a row gives the first report back": b the entry, c and d the corrections made of what was seen; the box as it was
-- looked at each time, the same one or another
abbrev pub ReportBack : Type 0
ReportBack = (x y z : Box) (p q r s : ℕ) (seen : Seen) (v : Values) (b c d : Body)
    → MadeAs (entered p seen (stamp_of b) v) b → Last x p q b
    → MadeAs (direction_corrected p (seen_in x p q) (stamp_of c)) c → Last y p r c
    → MadeAs (direction_corrected p (seen_in y p r) (stamp_of d)) d → Last z p s d
    → report_in z p s ≡ report_in x p q

-- "from any two boxes that have taken the same decisions": the same bodies, though one has let go what the other holds; at a stamp that neither
-- refuses as old (18)
abbrev pub SameTaken : ℕ → ℕ → List Event → ℕ → ℕ → List Event → Type 0
SameTaken f i es g j ds = (b : Body) → (Taken f i b es → Taken g j b ds) × (Taken g j b ds → Taken f i b es)

abbrev pub SameReports : Type 0
SameReports = (f g i j : ℕ) (es ds : List Event) → SameTaken f i es g j ds → (p s : ℕ) → (box_at f i es).low < s → (box_at g j ds).low < s
    → report_in (box_at f i es) p s ≡ report_in (box_at g j ds) p s

-- and from any two that never raised a low mark and in which the same bodies stand committed
abbrev pub SameCommitted : Box → Box → Type 0
SameCommitted x y = (b : Body) → (Stands x b → Stands y b) × (Stands y b → Stands x b)

abbrev pub SameStanding : Type 0
SameStanding = (f g i j : ℕ) (es ds : List Event) → (box_at f i es).low ≡ 0 → (box_at g j ds).low ≡ 0 → SameCommitted (box_at f i es) (box_at g j ds)
    → (p s : ℕ) → report_in (box_at f i es) p s ≡ report_in (box_at g j ds) p s

-- b is the last that box i has taken of passage p, looked at from stamp s: "with no other committed writer of the four keys between"; the look is
-- not refused as old
pub record LastTaken (f i : ℕ) (es : List Event) (p s : ℕ) (b : Body) : Type 0 where
  pub taken : Taken f i b es
  pub below : stamp_of b < s
  pub high : (box_at f i es).low < s
  pub alone : (c : Body) → Taken f i c es → (n : ℕ) → n < 4 → T (writes_key c (key_at p n)) → stamp_of c < s → stamp_of b ≤ stamp_of c → c ≡ b

-- where no low mark was raised that is: taken, and alone among what stands
abbrev pub AloneTaken : Type 0
AloneTaken = (f i : ℕ) (es : List Event) (p s : ℕ) (b : Body) → (box_at f i es).low ≡ 0 → Taken f i b es → stamp_of b < s → Alone (box_at f i es) p s b
    → LastTaken f i es p s b

-- the first report is back on a box that has taken all three, looked at in three moments of its own; each may have been let go by then
abbrev pub BoxBack : Type 0
BoxBack = (f i : ℕ) (es ds cs : List Event) (p q r s : ℕ) (seen : Seen) (v : Values) (b c d : Body)
    → MadeAs (entered p seen (stamp_of b) v) b → LastTaken f i es p q b
    → MadeAs (direction_corrected p (seen_in (box_at f i es) p q) (stamp_of c)) c → LastTaken f i ds p r c
    → MadeAs (direction_corrected p (seen_in (box_at f i ds) p r) (stamp_of d)) d → LastTaken f i cs p s d
    → report_in (box_at f i cs) p s ≡ report_in (box_at f i es) p q

-- made of one look: an entry, a correction, the direction's correction
pub data MadeOf (p : ℕ) (seen : Seen) (b : Body) : Type 0 where
  by_entry : (v : Values) → MadeAs (entered p seen (stamp_of b) v) b → MadeOf p seen b
  by_correction : (v : Values) → MadeAs (corrected p seen (stamp_of b) v) b → MadeOf p seen b
  by_direction : MadeAs (direction_corrected p seen (stamp_of b)) b → MadeOf p seen b

-- of all that is made of one look, by whomever, one commits; under the premise of demand 3
abbrev pub OneOfALook : Type 0
OneOfALook = (f : ℕ) (faulty : ℕ → Bool) → how_many faulty (boxes f) ≤ f → (es : List Event) → Fair f faulty es
    → (p : ℕ) (seen : Seen) (b c : Body) → MadeOf p seen b → MadeOf p seen c
    → Proof f faulty es b commit → Proof f faulty es c commit → b ≡ c
