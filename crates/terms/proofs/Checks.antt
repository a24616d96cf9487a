-- Laws of checks and their order: every return of a checking function is a chain of these.
use Rattle.std.specs.Prelude.{⊤}
use Rattle.std.proofs.Common.{ℕ, ◌<◌, ◌≤◌, ◌≡◌, refl, sym, ap, Bool, true, false, true≢false, not, Ok, Err, is_err, Result}
use borrow.Author.Tests.{lt-ltb, le-ltb, eq-eqb, ne_eqb, ltb-false}
use lib.Dec.{ltb, eqb}
use Rattle.terms.specs.declared.Refusal.{Refusal}
use Rattle.terms.specs.Choice.{pick}
use Rattle.terms.specs.Checks.{Check, passed, or_else, when, if_less, if_same, if_other}

-- all of them, where a proof computes them
unfoldable pub chain : ℕ
unfolding or_else when if_less if_same if_other
chain = 0

-- a refusal is no pass
pub not_passed : {E : Type 0} {r : E} → ◌≡◌ {A = Result ⊤ E} (Err r) (Ok tt) → ⊥
not_passed e = true≢false (ap is_err e)

pub no_refusal : (c : Check) → is_err c ≡ false → c ≡ passed
no_refusal (Ok _) e = refl
no_refusal (Err r) e = absurd (true≢false e)

-- the first refusal: a check that passes is passed over, one that refuses is the answer
module _ {E A : Type 0} where
  pub pass : {a : Result ⊤ E} {b x : Result A E} → a ≡ Ok tt → x ≡ b → x ≡ or_else a b
  unfolding or_else
  pass e p = rw e p

  pub halt : {a : Result ⊤ E} {r : E} (b : Result A E) → a ≡ Err r → Err r ≡ or_else a b
  unfolding or_else
  halt b e = rw e

  -- where the whole is a value, each check has passed
  pub first_passed : (a : Result ⊤ E) (b : Result A E) (x : A) → or_else a b ≡ Ok x → a ≡ Ok tt
  unfolding or_else
  first_passed (Ok _) b x e = refl
  first_passed (Err r) b x e = absurd (true≢false (ap is_err e))

-- the first of two checks is the answer where it is no pass
pub stop : {E : Type 0} (a b x : Result ⊤ E) → x ≡ a → (x ≡ Ok tt → ⊥) → x ≡ or_else a b
unfolding or_else
stop (Ok _) b x e n = absurd (n e)
stop (Err r) b x e n = e

-- a chain in front of a chain; a chain told by its links
pub together : {E A : Type 0} (a b : Result ⊤ E) (c : Result A E) → or_else (or_else a b) c ≡ or_else a (or_else b c)
unfolding or_else
together (Ok _) b c = refl
together (Err r) b c = refl

pub links : {a b p q x : Check} → x ≡ or_else a b → a ≡ p → b ≡ q → x ≡ or_else p q
links e p q = cc

pub when_no : {E : Type 0} (b : Bool) (r : E) → b ≡ false → when b r ≡ Ok tt
unfolding when
when_no b r e = rw e

pub when_yes : {E : Type 0} (b : Bool) (r : E) → b ≡ true → when b r ≡ Err r
unfolding when
when_yes b r e = rw e

-- the same, told by a scan
pub tells : {E : Type 0} {b : Bool} (r : E) → true ≡ b → Err r ≡ when b r
tells r e = sym (when_yes _ _ (sym e))

pub tells_not : {E : Type 0} {b : Bool} (r : E) → false ≡ b → Ok tt ≡ when b r
tells_not r e = sym (when_no _ _ (sym e))

module _ (a b : ℕ) (r : Refusal) where
  pub less_no : b ≤ a → if_less a b r ≡ passed
  unfolding if_less
  less_no h = rw (le-ltb a b h)

  pub less_yes : a < b → if_less a b r ≡ Err r
  unfolding if_less
  less_yes h = rw (lt-ltb a b h)

  pub same_no : (a ≡ b → ⊥) → if_same a b r ≡ passed
  unfolding if_same
  same_no h = rw (ne_eqb a b h)

  pub same_yes : a ≡ b → if_same a b r ≡ Err r
  unfolding if_same
  same_yes h = rw (eq-eqb a b h)

  pub other_no : a ≡ b → if_other a b r ≡ passed
  unfolding if_other
  other_no h = rw (eq-eqb a b h)

  pub other_yes : (a ≡ b → ⊥) → if_other a b r ≡ Err r
  unfolding if_other
  other_yes h = rw (ne_eqb a b h)

  pub other_when : when (not (eqb a b)) r ≡ if_other a b r
  unfolding when if_other
  other_when = by (eqb a b)
    where
      by : (t : Bool) → pick (not t) (Err r) passed ≡ pick t passed (Err r)
      by true = refl
      by false = refl

  -- what a check that passed tells
  pub not_less : if_less a b r ≡ passed → b ≤ a
  unfolding if_less
  not_less e = by (ltb a b) refl e
    where
      by : (t : Bool) → ltb a b ≡ t → pick t (Err r) passed ≡ passed → b ≤ a
      by true p q = absurd (not_passed q)
      by false p q = ltb-false a b p

pub when_none : {E : Type 0} (b : Bool) (r : E) → when b r ≡ Ok tt → b ≡ false
unfolding when
when_none false r e = refl
when_none true r e = absurd (not_passed e)

-- if the whole passes, so does each
pub first_none : {E : Type 0} (a b : Result ⊤ E) → or_else a b ≡ Ok tt → a ≡ Ok tt
unfolding or_else
first_none (Ok _) b e = refl
first_none (Err r) b e = absurd (not_passed e)

pub rest_none : {E : Type 0} (a b : Result ⊤ E) → or_else a b ≡ Ok tt → b ≡ Ok tt
unfolding or_else
rest_none (Ok _) b e = e
rest_none (Err r) b e = absurd (not_passed e)
