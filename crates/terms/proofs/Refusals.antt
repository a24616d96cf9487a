-- A refusal is told by its values: no two have the same ones.
use Prim.Native.Nat.{ℕ}
use mathlib.Core.Path.{◌≡◌, refl, sym, ap, ◌∙◌}
use mathlib.Core.List.{List, [], ◌∷◌, map}
use lib.Dec.{eqb}
use lib.ListN.{get_or}
use Rattle.terms.specs.Choice.{pick}
use Rattle.terms.specs.declared.Refusal.{Refusal}
use Rattle.terms.specs.declared.Refusal.TheVariants.{Short, Mark, Count, Trailing, Range, Order, Misbehaviour, Code, OtherBody, Unknown, TooFew, Contradiction, Full, Group, Ahead, Table, Buffer, Old, Undecided, Passed, NotLogged, Election, LastView, Passage, Versions, Direction, AxleCount, HotAxle}
use Rattle.terms.specs.Refusals.{refusal_values, number_of, refusal_of}

-- the refusal with these values
unfoldable refusal_in : List ℕ → Refusal
refusal_in v =
    pick (eqb (get_or v 0 0) 9) OtherBody
    (pick (eqb (get_or v 0 0) 10) Unknown
    (pick (eqb (get_or v 0 0) 11) (TooFew (get_or v 1 0))
    (pick (eqb (get_or v 0 0) 12) Contradiction
    (pick (eqb (get_or v 0 0) 13) Full
    (pick (eqb (get_or v 0 0) 21) Passed
    (pick (eqb (get_or v 0 0) 22) NotLogged
    (pick (eqb (get_or v 0 0) 23) Election
    (pick (eqb (get_or v 0 0) 24) LastView (refusal_of (get_or v 0 0))))))))))

back : (r : Refusal) → refusal_in (refusal_values r) ≡ r
unfolding refusal_in refusal_of
back Short = refl
back Mark = refl
back Count = refl
back Trailing = refl
back Range = refl
back Order = refl
back Misbehaviour = refl
back Code = refl
back OtherBody = refl
back Unknown = refl
back (TooFew lacking) = refl
back Contradiction = refl
back Full = refl
back Group = refl
back Ahead = refl
back Table = refl
back Buffer = refl
back Old = refl
back Undecided = refl
back Passed = refl
back NotLogged = refl
back Election = refl
back LastView = refl
back Passage = refl
back Versions = refl
back Direction = refl
back AxleCount = refl
back HotAxle = refl

pub values_tell : (a b : Refusal) → refusal_values a ≡ refusal_values b → a ≡ b
values_tell a b e = sym (back a) ∙ (ap refusal_in e ∙ back b)

-- a check's number is that of its refusal
pub number_kept : map (λ n. number_of (refusal_of n)) (1 ∷ 2 ∷ 3 ∷ 4 ∷ 5 ∷ 6 ∷ 7 ∷ 8 ∷ 14 ∷ 15 ∷ 16 ∷ 17 ∷ 18 ∷ 19 ∷ 26 ∷ 27 ∷ 28 ∷ 29 ∷ 30 ∷ []) ≡ 1 ∷ 2 ∷ 3 ∷ 4 ∷ 5 ∷ 6 ∷ 7 ∷ 8 ∷ 14 ∷ 15 ∷ 16 ∷ 17 ∷ 18 ∷ 19 ∷ 26 ∷ 27 ∷ 28 ∷ 29 ∷ 30 ∷ []
unfolding refusal_of
number_kept = refl
