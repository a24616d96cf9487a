-- Where sound boxes gave the same, the same messages carry what was given, the same bodies have proofs, and both are safe or neither is.
use Prim.Native.Nat.{ℕ}
use mathlib.Core.Bool.{Bool}
use mathlib.Core.Path.{◌≡◌, sym}
use mathlib.Core.List.{List}
use Rattle.records.specs.declared.Mark.{Mark}
use Rattle.records.specs.declared.Mark.TheVariants.{PR, LG, DC, RD, IV, LD}
use Rattle.records.specs.Vl.{Vl}
use Rattle.records.specs.Views.{Views}
use Rattle.rules.specs.Answers.{Decision, abort, commit}
use Rattle.rules.specs.Bodies.{Body}
use Rattle.rules.specs.System.{BackedBy, Carries, ChosenBy, Given, ListsBy, ProofBy, SafeBy, Sound, Word}

module _ (f : ℕ) (faulty : ℕ → Bool) where
  abbrev pub Alike : Given → Given → Type 0
  Alike g h = (i : ℕ) → Sound f faulty i → (b : Body) (w : Word) → g i b w ≡ h i b w

  module _ (g h : Given) (e : Alike g h) where
    pub backed_alike : (b : Body) (l : Vl) → BackedBy f faulty g b l → BackedBy f faulty h b l
    unfolding BackedBy
    backed_alike b l B p m s = rw (e p.number s b _) at (B p m s)

    chosen_alike : (b : Body) (l : Views) → ChosenBy f faulty g b l → ChosenBy f faulty h b l
    unfolding ChosenBy
    chosen_alike b l C p m s = rw (e p.number s b _) at (C p m s)

    pub carries_alike : (k : Mark) (m : List ℕ) → Carries f faulty g k m → Carries f faulty h k m
    unfolding Carries
    carries_alike PR m c = tt
    carries_alike LG m c = backed_alike _ _ c
    carries_alike DC m c = backed_alike _ _ c
    carries_alike RD m c = tt
    carries_alike IV m c = tt
    carries_alike LD m c = chosen_alike _ _ c

    pub proof_alike : (b : Body) (d : Decision) → ProofBy f faulty g b d → ProofBy f faulty h b d
    proof_alike b d P =
        record { list = P.list; names = P.names; formed = P.formed; enough = P.enough; backed = backed_alike b P.list P.backed }

  lists_alike : (g h : Given) → Alike g h → Alike h g → (bs : List Body) → ListsBy f faulty g bs → ListsBy f faulty h bs
  lists_alike g h e u bs L =
      record { order = L.order; only = λ b i. proof_alike g h e b commit (L.only b i); every = λ b P. L.every b (proof_alike h g u b commit P) }

  pub safe_alike : (g h : Given) → Alike g h → SafeBy f faulty g → SafeBy f faulty h
  safe_alike g h e S = record {
    one_outcome = λ b P Q. S.one_outcome b (back b commit P) (back b abort Q);
    one_body = λ b c s P Q. S.one_body b c s (back b commit P) (back c commit Q);
    listed = (S.listed.0, lists_alike g h e u S.listed.0 S.listed.1);
    serial = λ bs L. S.serial bs (lists_alike h g u e bs L);
  }
    where
      u : Alike h g
      u i s b w = sym (e i s b w)

      back : (b : Body) (d : Decision) → ProofBy f faulty h b d → ProofBy f faulty g b d
      back b d P = proof_alike h g u b d P
