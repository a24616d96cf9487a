-- What each entry point answers and leaves, for any bytes and any numbers: 14, 16, the reading, then the rules on the lent table.
use Rattle.std.specs.Prelude.{ℕ, ◌+◌, ◌*◌, ◌≤◌, ◌<◌, Bool, false, List, [], ◌≡◌, leb, length}
use Rattle.terms.specs.Checks.{Check, passed, or_else}
use Rattle.records.specs.declared.Mark.{Mark}
use Rattle.records.specs.declared.Mark.TheVariants.{PR, LG, DC, RD, IV, LD}
use Rattle.std.specs.Prelude.{Result, Ok}
use Rattle.terms.specs.declared.Refusal.{Refusal}
use Rattle.records.specs.Contents.{largest_key}
use Rattle.records.specs.Cutting.{tx_cut, behind_mark, tx_part}
use Rattle.rules.specs.declared.Answer.{Answer}
use Rattle.rules.specs.declared.Told.{Told}
use Rattle.rules.specs.Bodies.{Body, stamp_of}
use Rattle.rules.specs.Table.{Box}
use Rattle.rules.specs.Calls.{Act, Change, nothing, puts, raises, raises_low, guarded}
use Rattle.rules.specs.Act.{EntryPoint, due, raising, told_wrong, act_by, marked_act, raise, marks_after}
use Rattle.table.specs.Table.{box_from, entries_of, table_wrong, state_in, place, stored, head_len, row_len}
use Rattle.low.specs.Raising.{raised}
use Rattle.steps.specs.declared.Change.{Change as Changed}
use Rattle.steps.specs.declared.Change.TheVariants.{Nothing, Put, Raise}
use Rattle.steps.specs.declared.Step.{Step}

-- what a box's owner keeps for it, and lends: the bytes of its table, and its read marks
pub record Kept : Type 0 where
  pub table : List ℕ
  pub marks : List ℕ

abbrev pub kept : List ℕ → List ℕ → Kept
kept t marks = record { table = t; marks = marks }

-- the box that is lent
unfoldable pub box_in : Kept → Box
box_in x = box_from x.table (entries_of x.table) x.marks

-- "Order: 14, 16; then .."
unfoldable pub lent_wrong : Told → List ℕ → Check
lent_wrong told t = or_else (told_wrong told) (table_wrong told.capacity t)

-- what an entry point does: 14, 16, then the message by its own mark or by the one that is due, or A11's low mark
unfoldable pub called : EntryPoint → Told → Kept → List ℕ → Act
called way told x m = guarded (lent_wrong told x.table) (act_by way told (box_in x) m)

-- A11: the low mark raised to l; no read mark matters
abbrev pub lowered : ℕ → Told → List ℕ → Act
lowered l told t = called (raising l) told (kept t []) []

-- ---- what an act leaves
-- the table after a change: an entry is stored at the place of its stamp
unfoldable pub table_by : List ℕ → Change → List ℕ
table_by t nothing = t
table_by t (puts e) = stored t (place (stamp_of e.body) (entries_of t)) e.body (state_in e)
table_by t (raises k s) = t
table_by t (raises_low l) = raised l t

-- what a call leaves of what was kept, where its act is a: the answer, the table and the read marks
abbrev pub Leaves : Act → Kept → Answer → Kept → Type 0
Leaves a x r y = (r ≡ a.answer) × (y.table ≡ table_by x.table a.change) × (y.marks ≡ marks_after x.marks a.change)

-- PR, LG, DC, IV and LD leave the read marks as they are, RD the table
unfoldable pub leaves_alone : Mark → Kept → Change → Type 0
leaves_alone PR x c = marks_after x.marks c ≡ x.marks
leaves_alone LG x c = marks_after x.marks c ≡ x.marks
leaves_alone DC x c = marks_after x.marks c ≡ x.marks
leaves_alone RD x c = table_by x.table c ≡ x.table
leaves_alone IV x c = marks_after x.marks c ≡ x.marks
leaves_alone LD x c = marks_after x.marks c ≡ x.marks

abbrev pub LeavesAlone : Type 0
LeavesAlone = (k : Mark) (told : Told) (x : Kept) (m : List ℕ) → leaves_alone k x (called (due (Ok k)) told x m).change

-- ---- inside
-- a message by the mark that it is said to have
unfoldable pub called_by : Result Mark Refusal → Told → Kept → List ℕ → Act
called_by k told x m = guarded (lent_wrong told x.table) (marked_act k told (box_in x) m)

-- 18 of the messages with a transaction; RD has it behind 15
abbrev pub old_now : Mark → ℕ → List ℕ → Bool
old_now PR low m = leb (stamp_of (tx_part m)) low
old_now LG low m = leb (stamp_of (tx_part m)) low
old_now DC low m = leb (stamp_of (tx_part m)) low
old_now RD low m = false
old_now IV low m = leb (stamp_of (tx_part m)) low
old_now LD low m = leb (stamp_of (tx_part m)) low

-- what a step's change makes of the table, b the message's body, and of the read marks
abbrev pub table_of : List ℕ → Body → Changed → List ℕ
table_of t b Nothing = t
table_of t b (Put i e) = stored t i b e
table_of t b (Raise k s) = t

abbrev pub marks_of : List ℕ → Changed → List ℕ
marks_of marks Nothing = marks
marks_of marks (Put i e) = marks
marks_of marks (Raise k s) = raise marks k.0 s.0

-- a change that can be made: the row is there, and the message has a body; the key has a mark
abbrev pub Ready : List ℕ → List ℕ → Changed → Type 0
Ready t m Nothing = Unit {0}
Ready t m (Put i e) = (head_len + i * row_len + row_len ≤ length t) × (i < 255) × (2 ≤ length m) × (tx_cut (behind_mark m) ≡ passed)
Ready t m (Raise k s) = k.0 ≤ largest_key

-- a step that can be applied, and then leaves what the act leaves
pub record Does (a : Act) (t m : List ℕ) (s : Step) : Type 0 where
  pub ready : Ready t m s.change
  pub answer : s.answer ≡ a.answer
  pub table : table_of t (tx_part m) s.change ≡ table_by t a.change
  pub marks : (marks : List ℕ) → marks_of marks s.change ≡ marks_after marks a.change
