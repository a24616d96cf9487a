-- The ballots of a list: the largest view that so many reach, and the view that is moved on to.
use Rattle.std.proofs.Common.{ℕ, ◌+◌, max, arith, add-one, ◌≡◌, refl, ◌∙◌, ap, Bool, true, false, cond, leb, List, [], ◌∷◌, map, filter, fold, Some, None}
use Rattle.std.specs.List.{reduce}
use mathlib.Core.Option.{Option, some, none}
use Rattle.terms.specs.Choice.{pick}
use Rattle.terms.specs.Group.{abort_list, commit_list}
use Rattle.records.specs.declared.Ballot.{Ballot}
use Rattle.records.specs.declared.ViewMark.TheVariants.{VS}
use Rattle.records.specs.Views.{own_ballot}
use Rattle.rules.specs.Fallback.{by_few, by_many, higher, next_view, reach, reached}
use Rattle.steps.specs.Step.{found_view}

-- ---- the largest view reached
fold_max : (x y : ℕ) (xs : List ℕ) → fold max (max x y) xs ≡ max x (fold max y xs)
fold_max x y [] = refl
fold_max x y (z ∷ xs) = ap (λ (n : ℕ). fold max n xs) (omega arith) ∙ fold_max x (max y z) xs

-- the larger of a view and of what is found behind it
larger_of : (v : ℕ) (o : Option ℕ) (xs : List ℕ) → found_view o ≡ reduce max xs → found_view (some (higher v o)) ≡ reduce max (v ∷ xs)
unfolding found_view higher
larger_of v none [] h = refl
larger_of v (some u) (x ∷ xs) h = let m = fold_max v x xs in cc
larger_of v none (x ∷ xs) h = cc
larger_of v (some u) [] h = cc

-- need of all, in a list of which a VS tells less than it holds
module _ (need : ℕ) (all : List Ballot) where
  abbrev reaches : Ballot → Bool
  reaches b = leb need (reach b.view.0 all)

  pub reached_top : (ps : List Ballot) → found_view (reached need all (map (own_ballot VS) ps)) ≡ reduce max (map (λ b. b.view.0) (filter reaches ps))
  unfolding found_view reached
  reached_top [] = refl
  reached_top (p ∷ ps) = by (reaches p) (reached_top ps)
    where
      by : (t : Bool) → found_view (reached need all (map (own_ballot VS) ps)) ≡ reduce max (map (λ b. b.view.0) (filter reaches ps))
          → found_view (pick t (some (higher p.view.0 (reached need all (map (own_ballot VS) ps)))) (reached need all (map (own_ballot VS) ps)))
          ≡ reduce max (map (λ b. b.view.0) (cond t (p ∷ filter reaches ps) (filter reaches ps)))
      by true r = larger_of p.view.0 (reached need all (map (own_ballot VS) ps)) (map (λ b. b.view.0) (filter reaches ps)) r
      by false r = r

-- ---- the view that is moved on to
is_found : (o : Option ℕ) (v : ℕ) → Some v ≡ found_view o → o ≡ some v
unfolding found_view
is_found none v h = cc
is_found (some u) v h = cc

is_not : (o : Option ℕ) → None ≡ found_view o → o ≡ none
unfolding found_view
is_not none h = refl
is_not (some u) h = cc

-- what 3f + 1 and f + 1 reach
module _ (f c : ℕ) (ps : List Ballot) where
  pub next_many : (v : ℕ) → Some v ≡ found_view (reached (commit_list f) ps ps) → max c (v + 1) ≡ next_view f c ps
  unfolding next_view by_many
  next_many v h = rw (is_found _ v h) (ap (max c) (rw add-one))

  module _ (h : None ≡ found_view (reached (commit_list f) ps ps)) where
    pub next_few : (v : ℕ) → Some v ≡ found_view (reached (abort_list f) ps ps) → max c v ≡ next_view f c ps
    unfolding next_view by_many by_few
    next_few v k = rw (is_not _ h, is_found _ v k)

    pub next_same : None ≡ found_view (reached (abort_list f) ps ps) → c ≡ next_view f c ps
    unfolding next_view by_many by_few
    next_same k = rw (is_not _ h, is_not _ k)
