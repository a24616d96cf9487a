-- What is told of views, by the answer of the one that was told.
use Rattle.std.proofs.Common.{ℕ, ◌≡◌, refl, sym, ap, subst, ◌∙◌, List, true≢false, Result, Ok, Err, is_err, IfErr}
use Rattle.std.specs.Result.{result_unwrap_or}
use Rattle.terms.specs.Checks.{Check, or_else}
use Rattle.terms.specs.Refusals.{number_of}
use Rattle.terms.specs.declared.Refusal.{Refusal}
use Rattle.election.specs.declared.Highest.{Highest}
use Rattle.election.specs.Telling.{tell_wrong, taller, highest}
use Rattle.arrays.specs.Arrays.{refusal_number}

-- a check, and what stands behind it
taken : {A : Type 0} (a : Check) (b x : A) → or_else a (Ok b) ≡ Ok x → (0 ≡ refusal_number a) × (x ≡ b)
unfolding or_else
taken (Ok _) b x e = (refl, ap (λ r. result_unwrap_or r b) (sym e))
taken (Err r) b x e = absurd (true≢false (ap is_err e))

refused : {A : Type 0} (a : Check) (b : A) (r : Refusal) → or_else a (Ok b) ≡ Err r → number_of r ≡ refusal_number a
unfolding or_else
refused (Ok _) b r e = absurd (true≢false (ap is_err (sym e)))
refused (Err s) b r e = ap refusal_number (sym e)

module _ (told : ℕ) (views : List ℕ) (f number view : ℕ) where
  pub told_taken : (h : Highest) → highest told views f number view ≡ Ok h
      → (0 ≡ refusal_number (tell_wrong told f number view)) × (h.told ≡ (taller told views f number view).told) × (h.views ≡ (taller told views f number view).views)
  unfolding highest
  told_taken h e = let t = taken _ _ _ e in (t.0, ap (λ x. x.told) t.1, ap (λ x. x.views) t.1)

  -- where it is refused, what was told before stands
  abbrev pub Stand : Refusal → Type 0
  Stand r = (told ≡ (taller told views f number view).told) × (views ≡ (taller told views f number view).views)

  pub told_refused : (x : Result Highest Refusal) (r : Refusal) → x ≡ highest told views f number view → x ≡ Err r → IfErr x Stand
      → (number_of r ≡ refusal_number (tell_wrong told f number view)) × (told ≡ (taller told views f number view).told) × (views ≡ (taller told views f number view).views)
  unfolding highest
  told_refused x r said e p = let left = subst (λ y. IfErr y Stand) e p in (refused _ _ _ (sym said ∙ e), left.0, left.1)
