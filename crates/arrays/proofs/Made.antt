-- An array that a closure made, place by place.
use Rattle.std.proofs.Common.{◌≡◌, refl, sym, subst, ◌∙◌, ℕ, zero, suc, ◌+◌, List, [], ◌∷◌, length, get_or, append-nil}
use Rattle.std.specs.Array.{IsFromFnResult, IsFromFnResultFrom}
use denote.Param.Members.{Mut, Called}
use Rattle.terms.specs.Choice.{tab}
use Rattle.terms.proofs.Scans.{tab_front}

-- a list is its places
all : {A : Type 0} (ys : List A) (z : A) (n : ℕ) → length ys ≡ n → tab (λ j. get_or ys j z) 0 n ≡ ys
all ys z n e = rw (← e) (subst (λ l. tab (λ j. get_or l j z) 0 (length ys) ≡ ys) (append-nil ys) (tab_front z ys []))

module _ {F B : Type 0} where
  -- a closure that gives a place by its index, and stays as it is
  abbrev pub Makes : Mut F (ℕ × Unit {0}) B → (ℕ → B) → F → Type 0
  Makes g at f = (i : ℕ) (y : B) (f' : F) → Called g f (i, tt) y f' → (y ≡ at i) × (f' ≡ f)

  -- its places from i on
  places : (g : Mut F (ℕ × Unit {0}) B) (at : ℕ → B) (f : F) (h : Makes g at f) (ys : List B) (z : B) (n i : ℕ) (p : F) → p ≡ f → IsFromFnResultFrom g p ys i n → tab (λ j. get_or ys j z) i n ≡ tab at i n
  places g at f h ys z zero i p e x = refl
  places g at f h ys z (suc n) i p e x =
      let said = h i x.1 x.0 (rw (← e) x.3) in
      let rest : tab (λ j. get_or ys j z) (i + 1) n ≡ tab at (i + 1) n = places g at f h ys z n (i + 1) x.0 said.1 x.4 in
      let here : get_or ys i z ≡ at i = x.2.1 z ∙ said.0 in
      cc

  pub made : {g : Mut F (ℕ × Unit {0}) B} (at : ℕ → B) {f : F} {ys : List B} {n : ℕ} → IsFromFnResult g f ys n → Makes g at f → ys ≡ tab at 0 n
  made at {ys = []} x h = rw (← x.long)
  made {g = g} at {f = f} {ys = y ∷ ys} {n = n} x h = sym (all (y ∷ ys) y n x.long) ∙ places g at f h (y ∷ ys) y n 0 f refl x.each
