-- The choice by a test, a list read off by an index, and whether some element passes a test.
use Rattle.std.specs.Prelude.{ℕ, zero, suc, ◌+◌, List, [], ◌∷◌, Bool, true, false, ◌||◌, ltb}
use Rattle.std.specs.List.{list_any}

module _ {A : Type 0} where
  abbrev pub pick : Bool → A → A → A
  pick true a b = a
  pick false a b = b

  -- f i, f (i + 1), .., n of them
  abbrev pub tab : (ℕ → A) → ℕ → ℕ → List A
  tab f i zero = []
  tab f i (suc n) = f i ∷ tab f (i + 1) n

  abbrev pub any : (A → Bool) → List A → Bool
  any = list_any

  -- not "strictly rising", from lo on: some number is below lo, or not above the one before it
  abbrev pub falls : (A → ℕ) → ℕ → List A → Bool
  falls k lo [] = false
  falls k lo (x ∷ xs) = ltb (k x) lo || falls k (k x + 1) xs
