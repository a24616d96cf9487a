-- What it is that a contract settles a call: no second outcome satisfies it.
-- It speaks of the contract that a function is proved against: `spec` and `clauses` of the function's own module, which the check makes of its
-- `requires` and `ensures`.
use Rattle.std.specs.Prelude.{ℕ, ◌≡◌, List}
use seplogic.Ra.Ura.{Ura}
use base.Logic.{SProp, ent}
use prog.Memory.{Memory}
use prog.Routine.{Routine}
use types.Logic.{Logic}
use contract.Monad.{Fun, conj, fact}
use contract.Lifetimes.{Lfts}
use denote.Triple.Entry.{Args, Res}
use denote.Triple.Clauses.{Ended, Clauses, Lasts, at_exit, closing}
use denote.Triple.Spec.{Spec}

module _ {M : Type 1} (𝓤 : Ura M) (T : Ended) (c : Clauses 𝓤 T) where
  -- a call: the lifetimes, the values passed, and what the contract binds
  abbrev pub Call : Type 0
  Call = (κs : Lfts T.signature.lifetimes) × (a : Args T.signature κs) × (c κs a).ghost

  -- an outcome: the answer, and what is left in everything that was lent by `&mut`
  abbrev pub Outcome : Call → Type 0
  Outcome k = Res T.signature k.0 × Lasts T k.0 k.1

  -- what `ensures` says of an outcome
  abbrev pub Satisfies : (k : Call) → Outcome k → SProp 𝓤
  Satisfies k o = (c k.0 k.1).ensures k.2 o.0 (at_exit T k.0 k.1 o.1)

  -- of one call, two outcomes that satisfy it look the same; whether its `requires` holds is not asked
  abbrev pub NoSecondSeen : (S : Call → Type 0) → ((k : Call) → Outcome k → S k) → Type 1
  NoSecondSeen S see = (k : Call) (o o' : Outcome k) → ent 𝓤 (conj 𝓤 (Satisfies k o) (Satisfies k o')) (fact 𝓤 (see k o ≡ see k o'))

  -- seen whole, they are one
  abbrev pub NoSecond : Type 1
  NoSecond = NoSecondSeen Outcome (λ k o. o)

module _ {M : Type 1} {𝓤 : Ura M} (𝓛 : Logic 𝓤) (T : Ended) where
  -- in any memory and runs, and in the logic any ghost state: no contract here speaks of them
  abbrev pub Any : Type 2 → Type 2
  Any X = (Memory → SProp 𝓤) → (Routine → Fun 𝓤) → X

  -- the function's theorem is of `s`, and `c` is what `s` says: the answer and everything lent are settled by it
  abbrev pub Settled : Any (Spec 𝓤 T.signature) → Any (Clauses 𝓤 T) → Type 2
  Settled s c = (mem : Memory → SProp 𝓤) (run : Routine → Fun 𝓤) →
      (closing 𝓛 T (c mem run) ≡ s mem run) × NoSecond 𝓤 T (c mem run)

  -- of a part of a slice that is handed back, its bytes: where they stand no contract says, and no caller can ask
  abbrev pub SettledPart : ((κs : Lfts T.signature.lifetimes) → Res T.signature κs → List ℕ) → Any (Spec 𝓤 T.signature) → Any (Clauses 𝓤 T) → Type 2
  SettledPart bytes s c = (mem : Memory → SProp 𝓤) (run : Routine → Fun 𝓤) →
      (closing 𝓛 T (c mem run) ≡ s mem run) × NoSecondSeen 𝓤 T (c mem run) (λ k. List ℕ × Lasts T k.0 k.1) (λ k o. (bytes k.0 o.0, o.1))
