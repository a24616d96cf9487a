-- A check passes, or tells its refusal; an order of checks is a chain of them.
use Rattle.std.specs.Prelude.{ℕ, Bool, eqb, ltb, Result, Ok, Err, ⊤}
use Rattle.terms.specs.Choice.{pick}
use Rattle.terms.specs.declared.Refusal.{Refusal}
use Rattle.terms.specs.declared.Refusal.TheVariants.{Short, Mark, Count, Trailing, Range, Order, Misbehaviour, Code, Group, Ahead, Table, Buffer, Old, Undecided, Passage, Versions, Direction, AxleCount, HotAxle}

abbrev pub Check : Type 0
Check = Result ⊤ Refusal

abbrev pub passed : Check
passed = Ok tt

-- the first refusal of two, or what stands behind a check that passes; of whatever a caller holds as a refusal
unfoldable pub or_else : {E A : Type 0} → Result ⊤ E → Result A E → Result A E
or_else (Ok _) b = b
or_else (Err r) b = Err r

-- a refusal where a test tells so; where a is below b; where they are equal; where they differ
unfoldable pub when : {E : Type 0} → Bool → E → Result ⊤ E
when b r = pick b (Err r) (Ok tt)

unfoldable pub if_less : ℕ → ℕ → Refusal → Check
if_less a b r = pick (ltb a b) (Err r) passed

unfoldable pub if_same : ℕ → ℕ → Refusal → Check
if_same a b r = pick (eqb a b) (Err r) passed

unfoldable pub if_other : ℕ → ℕ → Refusal → Check
if_other a b r = pick (eqb a b) passed (Err r)

-- the refusals that the checks give, by the names of the table in 01
abbrev pub short : Refusal
short = Short

abbrev pub mark : Refusal
mark = Mark

abbrev pub count : Refusal
count = Count

abbrev pub trailing : Refusal
trailing = Trailing

abbrev pub range : Refusal
range = Range

abbrev pub order : Refusal
order = Order

abbrev pub misbehaviour : Refusal
misbehaviour = Misbehaviour

abbrev pub code : Refusal
code = Code

abbrev pub group : Refusal
group = Group

abbrev pub ahead : Refusal
ahead = Ahead

abbrev pub table : Refusal
table = Table

abbrev pub buffer : Refusal
buffer = Buffer

-- those of A11
abbrev pub old : Refusal
old = Old

abbrev pub undecided : Refusal
undecided = Undecided

-- those of A4
abbrev pub passage : Refusal
passage = Passage

abbrev pub versions : Refusal
versions = Versions

abbrev pub direction : Refusal
direction = Direction

abbrev pub axle_count : Refusal
axle_count = AxleCount

abbrev pub hot_axle : Refusal
hot_axle = HotAxle
