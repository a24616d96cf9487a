-- Raising the low mark looks at no read mark and at no message; and what each way through it answers and leaves.
use Prim.Native.Nat.{ℕ}
use native.Mathlib.Omega.{arith}
use mathlib.Core.Path.{◌≡◌, refl, ◌∙◌, subst}
use mathlib.Core.List.{List, []}
use Rattle.terms.specs.Checks.{passed}
use Rattle.std.specs.Prelude.{Err}
use Rattle.terms.specs.declared.Refusal.{Refusal}
use Rattle.rules.specs.declared.Answer.{Answer}
use Rattle.rules.specs.declared.Answer.TheVariants.{Raised, Refused}
use Rattle.rules.specs.declared.Told.{Told}
use Rattle.rules.specs.Calls.{Act, raises_low, refuse}
use Rattle.rules.specs.Low.{low_rule, low_wrong}
use Rattle.rules.specs.Act.{act_by, raising}
use Rattle.table.specs.Table.{box_from, entries_of}
use Rattle.low.specs.Raising.{raised, TableThere}
use Rattle.engine.specs.Outcome.{Kept, kept, box_in, called, lent_wrong, lowered, table_by}
use Rattle.engine.proofs.Guards.{through, halted}
use Rattle.engine.proofs.Lent.{long, wf}

pub low_alike : (l : ℕ) (told : Told) (x : Kept) (m : List ℕ) → lowered l told x.table ≡ called (raising l) told x m
unfolding called act_by low_rule low_wrong box_in
low_alike l told x m = refl

pub low_there : (told : Told) (t : List ℕ) → lent_wrong told t ≡ passed → TableThere t
low_there told t lent = let h = long told t lent in (omega arith, wf told t lent _ _ refl refl)

module _ (l : ℕ) (told : Told) (t : List ℕ) where
  -- the answer r, and the table s afterwards
  abbrev pub LowLeaves : Act → Answer → List ℕ → Type 0
  LowLeaves a r s = (r ≡ a.answer) × (s ≡ table_by t a.change)

  abbrev raises : Act
  raises = record { answer = Raised; change = raises_low l }

  refused : (r : Refusal) {a : Act} → refuse r ≡ a → LowLeaves a (Refused r) t
  unfolding table_by
  refused r p = subst (λ (y : Act). LowLeaves y (Refused r) t) p (refl, refl)

  -- 14, 16
  pub low_lent : (r : Refusal) → lent_wrong told t ≡ Err r → LowLeaves (lowered l told t) (Refused r) t
  unfolding called
  low_lent r e = refused r (halted r _ e)

  module _ (lent : lent_wrong told t ≡ passed) where
    taken : low_rule (box_in (kept t [])) l ≡ lowered l told t
    unfolding called act_by
    taken = through _ _ lent

    -- 18, 19
    pub low_stops : (r : Refusal) → ((marks : List ℕ) → low_wrong (box_from t (entries_of t) marks) l ≡ Err r) → LowLeaves (lowered l told t) (Refused r) t
    unfolding low_rule box_in
    low_stops r e = refused r (halted r raises (e []) ∙ taken)

    pub low_raised : ((marks : List ℕ) → low_wrong (box_from t (entries_of t) marks) l ≡ passed) → (s : List ℕ) → s ≡ raised l t
        → LowLeaves (lowered l told t) Raised s
    unfolding low_rule box_in table_by
    low_raised e s q =
        subst (λ (y : Act). LowLeaves y Raised s) (through _ raises (e []) ∙ taken) (refl, q)
