-- What a list lacks of its threshold: 1 to the threshold where it misses it, 0 where it meets it; and what a box then tells.
use Prim.Native.Nat.{ℕ}
use mathlib.Core.Bool.{Bool, true, false}
use mathlib.Core.Path.{◌≡◌, refl}
use native.Mathlib.Omega.{arith}
use lib.Dec.{leb→le, nleb→lt}
use Rattle.terms.specs.declared.Refusal.TheVariants.{TooFew}
use Rattle.records.specs.Vl.{Vl}
use Rattle.rules.specs.Lists.{tally, meets, lacking, LacksSome, LacksNone}
use Rattle.rules.specs.Calls.{Act, refuse, needing}

pub lacks_some : LacksSome
unfolding meets lacking
lacks_some need l e = let h = nleb→lt need (tally l.decision l.pairs) (rw e tt) in (omega arith, omega arith)

pub lacks_none : LacksNone
unfolding meets lacking
lacks_none need l e = let h = leb→le need (tally l.decision l.pairs) (rw e tt) in omega arith

-- the box by what is lacking
module _ (need : ℕ) (l : Vl) (a : Act) (k : ℕ) (q : k ≡ lacking need l) where
  pub few : (k ≡ 0 → ⊥) → needing need l a ≡ refuse (TooFew k)
  unfolding needing
  few h = go (meets need l) refl
    where
      go : (t : Bool) → meets need l ≡ t → needing need l a ≡ refuse (TooFew k)
      go true e = absurd (h (rw q (lacks_none need l e)))
      go false e = rw (e, q)

  pub enough : k ≡ 0 → needing need l a ≡ a
  unfolding needing
  enough h = go (meets need l) refl
    where
      go : (t : Bool) → meets need l ≡ t → needing need l a ≡ a
      go true e = rw e
      go false e = let n = (lacks_some need l e).0 in absurd (omega arith)
