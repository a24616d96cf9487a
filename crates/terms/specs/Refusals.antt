-- "Refusal numbers": what each refusal tells, its number in the papers first, and the refusal of a check's number.
use Rattle.std.specs.Prelude.{ℕ, List, [], ◌∷◌, eqb, get_or}
use Rattle.terms.specs.Choice.{pick}
use Rattle.terms.specs.declared.Refusal.{Refusal}
use Rattle.terms.specs.declared.Refusal.TheVariants.{Short, Mark, Count, Trailing, Range, Order, Misbehaviour, Code, OtherBody, Unknown, TooFew, Contradiction, Full, Group, Ahead, Table, Buffer, Old, Undecided, Passed, NotLogged, Election, LastView, Passage, Versions, Direction, AxleCount, HotAxle}

-- its number, and then how many counted answers are lacking: A1, "Refusal 11 should carry how many counted answers are lacking"; 0 beside every other one
abbrev pub refusal_values : Refusal → List ℕ
refusal_values Short = 1 ∷ 0 ∷ []
refusal_values Mark = 2 ∷ 0 ∷ []
refusal_values Count = 3 ∷ 0 ∷ []
refusal_values Trailing = 4 ∷ 0 ∷ []
refusal_values Range = 5 ∷ 0 ∷ []
refusal_values Order = 6 ∷ 0 ∷ []
refusal_values Misbehaviour = 7 ∷ 0 ∷ []
refusal_values Code = 8 ∷ 0 ∷ []
refusal_values OtherBody = 9 ∷ 0 ∷ []
refusal_values Unknown = 10 ∷ 0 ∷ []
refusal_values (TooFew lacking) = 11 ∷ lacking ∷ []
refusal_values Contradiction = 12 ∷ 0 ∷ []
refusal_values Full = 13 ∷ 0 ∷ []
refusal_values Group = 14 ∷ 0 ∷ []
refusal_values Ahead = 15 ∷ 0 ∷ []
refusal_values Table = 16 ∷ 0 ∷ []
refusal_values Buffer = 17 ∷ 0 ∷ []
refusal_values Old = 18 ∷ 0 ∷ []
refusal_values Undecided = 19 ∷ 0 ∷ []
refusal_values Passed = 21 ∷ 0 ∷ []
refusal_values NotLogged = 22 ∷ 0 ∷ []
refusal_values Election = 23 ∷ 0 ∷ []
refusal_values LastView = 24 ∷ 0 ∷ []
refusal_values Passage = 26 ∷ 0 ∷ []
refusal_values Versions = 27 ∷ 0 ∷ []
refusal_values Direction = 28 ∷ 0 ∷ []
refusal_values AxleCount = 29 ∷ 0 ∷ []
refusal_values HotAxle = 30 ∷ 0 ∷ []

abbrev pub number_of : Refusal → ℕ
number_of r = get_or (refusal_values r) 0 0

abbrev pub lacking_of : Refusal → ℕ
lacking_of r = get_or (refusal_values r) 1 0

-- the refusal that a check's number stands for; a check gives 1 to 8, 14 to 19 and 26 to 30, never 9 to 13 and 21 to 24, which are the rules', and 17 stands for all others
unfoldable pub refusal_of : ℕ → Refusal
refusal_of n =
    pick (eqb n 1) Short
    (pick (eqb n 2) Mark
    (pick (eqb n 3) Count
    (pick (eqb n 4) Trailing
    (pick (eqb n 5) Range
    (pick (eqb n 6) Order
    (pick (eqb n 7) Misbehaviour
    (pick (eqb n 8) Code
    (pick (eqb n 14) Group
    (pick (eqb n 15) Ahead
    (pick (eqb n 16) Table
    (pick (eqb n 18) Old
    (pick (eqb n 19) Undecided
    (pick (eqb n 26) Passage
    (pick (eqb n 27) Versions
    (pick (eqb n 28) Direction
    (pick (eqb n 29) AxleCount
    (pick (eqb n 30) HotAxle Buffer)))))))))))))))))
