-- A message that is no RD has a transaction, and is old by its stamp.
use Prim.Native.Nat.{ℕ}
use native.Mathlib.Omega.{arith}
use mathlib.Core.Path.{◌≡◌, refl}
use mathlib.Core.Bool.{true, false≢true}
use mathlib.Core.List.{List, [], ◌∷◌}
use mathlib.Core.Logic.{inl, inr}
use lib.Dec.{leb}
use types.Run.{OneOf}
use denote.Enum.Declared.{tag_of}
use Rattle.terms.specs.Checks.{old}
use Rattle.terms.specs.declared.Refusal.TheVariants.{Old}
use Rattle.terms.specs.declared.Stamp.{Stamp}
use Rattle.terms.proofs.Checks.{when_yes}
use Rattle.records.specs.declared.Mark.{Mark}
use Rattle.records.specs.declared.Mark.TheVariants.{PR, LG, DC, RD, IV, LD}
use Rattle.records.specs.Cutting.{tx_part}
use Rattle.records.specs.contracts.Mark as M
use Rattle.reading.specs.Judging.{has_tx}
use Rattle.rules.specs.declared.Answer.TheVariants.{Refused}
use Rattle.rules.specs.declared.Told.{Told}
use Rattle.rules.specs.Bodies.{stamp_of}
use Rattle.rules.specs.Calls.{Act, old_wrong}
use Rattle.rules.specs.Act.{rule, unless_old}
use Rattle.table.specs.Table.{low_of}
use Rattle.steps.specs.Step.{kept as kept_step}
use Rattle.engine.specs.Outcome.{Does, box_in, kept, old_now}
use Rattle.engine.proofs.Steps.{stops}

pub no_read : (k : Mark) → OneOf (0 ∷ 1 ∷ 2 ∷ 4 ∷ 5 ∷ []) (tag_of M.the_type k) → has_tx k ≡ true
no_read PR h = refl
no_read LG h = refl
no_read DC h = refl
no_read RD h =
    absurd (elim h [
      | inl e ↦ omega arith
      | inr r ↦ elim r [
        | inl e ↦ omega arith
        | inr r ↦ elim r [
          | inl e ↦ omega arith
          | inr r ↦ elim r [ inl e ↦ omega arith | inr e ↦ omega arith ]
        ]
      ]
    ])
no_read IV h = refl
no_read LD h = refl

old_by : (k : Mark) (low : ℕ) (m : List ℕ) → has_tx k ≡ true → leb (stamp_of (tx_part m)) low ≡ old_now k low m
old_by PR low m h = refl
old_by LG low m h = refl
old_by DC low m h = refl
old_by RD low m h = absurd (let z : ◌≡◌ {A = ℕ} 0 1 = cc in omega arith)
old_by IV low m h = refl
old_by LD low m h = refl

pub old_is : (k : Mark) (t m b : List ℕ) (s l : Stamp) → s.0 ≡ stamp_of b → b ≡ tx_part m → l.0 ≡ low_of t → OneOf (0 ∷ 1 ∷ 2 ∷ 4 ∷ 5 ∷ []) (tag_of M.the_type k)
    → leb s.0 l.0 ≡ old_now k (low_of t) m
old_is k t m b s l p u q h = rw (p, u, q) (old_by k (low_of t) m (no_read k h))

-- and then it is refused with 18
module _ (told : Told) (t marks m : List ℕ) where
  refuses_old : (a : Act) → leb (stamp_of (tx_part m)) (low_of t) ≡ true → Does (unless_old (box_in (kept t marks)) (tx_part m) a) t m (kept_step (Refused Old))
  unfolding unless_old old_wrong box_in
  refuses_old a e = stops old a (when_yes _ _ e)

  pub old_stops : (k : Mark) → old_now k (low_of t) m ≡ true → Does (rule k told (box_in (kept t marks)) m) t m (kept_step (Refused Old))
  unfolding rule
  old_stops PR e = refuses_old _ e
  old_stops LG e = refuses_old _ e
  old_stops DC e = refuses_old _ e
  old_stops RD e = absurd (false≢true e)
  old_stops IV e = refuses_old _ e
  old_stops LD e = refuses_old _ e
