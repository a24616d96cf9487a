-- The list's codes, and what is counted of its pairs and its ballots.
use Rattle.std.proofs.Common.{ℕ, zero, suc, ◌+◌, ◌-◌, ◌<◌, ◌≤◌, arith, add-one, ◌≡◌, refl, ap, sym, ◌∙◌, Bool, IsTrue, ◌↔◌, rules, true, false, not, cond, ◌&&◌, ◌||◌, count_by, List, [], ◌∷◌, map, length, take, drop, get_or, length-take, ◌⊎◌, inl, inr}
use Rattle.std.proofs.lemmas.List.Sums.{sum_by-cons, count_by-le-length, list_all-from_AllPass, AllPass-from_list_all}
use Rattle.std.specs.List.{list_all, AllPass}
use lib.Dec.{eqb, leb}
use lib.ListN.{drop_of_length-le}
use Rattle.terms.specs.Choice.{tab}
use Rattle.terms.proofs.Scans.{tab_map, tab_shift}
use Rattle.records.specs.declared.Ballot.{Ballot}
use Rattle.records.specs.declared.Pair.{Pair}
use Rattle.records.specs.declared.VoteList.{VoteList}
use Rattle.records.specs.declared.ViewList.{ViewList}
use Rattle.records.specs.declared.ViewMark.{ViewMark}
use Rattle.records.specs.declared.ViewMark.TheVariants.{VS, EL}
use Rattle.records.specs.Views.{ballot_pair, ballots_in, own_ballot, views_in, zero_ballot}
use Rattle.records.specs.Vl.{Vl, list_in, zero_pair}
use Rattle.terms.specs.declared.Decision.{Decision}
use Rattle.terms.specs.declared.Decision.TheVariants.{Commit as commit, Abort as abort}
use Rattle.terms.specs.declared.Kind.{Kind}
use Rattle.terms.specs.declared.Kind.TheVariants.{Votes as votes, Logs as logs}
use Rattle.terms.specs.Group.{log_proof}
use Rattle.rules.specs.Lists.{bit, tally, lacking, for_logging, for_proof}
use Rattle.rules.specs.Fallback.{one_view, reach}

-- after an arm of two patterns: by one or by the other
pub by_branch : {A B C : Type 0} → A ⊎ B → (A → C) → (B → C) → C
by_branch (inl a) f g = f a
by_branch (inr b) f g = g b

-- ---- the lists that structs hold, as the code has them: the front of an array
tab_taken : {A : Type 0} (a : List A) (z : A) (n : ℕ) → n ≤ length a → tab (λ j. get_or a j z) 0 n ≡ take n a
tab_taken a z zero h = refl
tab_taken [] z (suc n) h = absurd (omega arith)
tab_taken (x ∷ a) z (suc n) h = ap (λ (l : List _). x ∷ l) (tab_shift (λ j. get_or (x ∷ a) j z) (λ j. get_or a j z) 0 n (λ j. rw add-one) ∙ tab_taken a z n (omega arith))

pub pairs_taken : (l : VoteList) → l.count ≤ length l.pairs → (list_in l).pairs ≡ take l.count l.pairs
unfolding list_in
pairs_taken l h = tab_taken l.pairs zero_pair l.count h

module _ (l : ViewList) (h : l.count ≤ length l.ballots) where
  pub views_taken : (k : ViewMark) → (views_in k l).ballots ≡ map (own_ballot k) (take l.count l.ballots)
  unfolding views_in
  views_taken k = sym (tab_map (own_ballot k) (ballots_in l.ballots) 0 l.count) ∙ ap (map (own_ballot k)) (tab_taken l.ballots zero_ballot l.count h)

pub counted_small : {A : Type 0} (p : A → Bool) (a : List A) (n : ℕ) → n ≤ 26 → count_by p (take n a) ≤ 26
counted_small p a n h = omega (arith, count_by-le-length p (take n a), length-take n a)

-- a count that goes through a list: what it has found, and what is still to be found, are the whole
pub counted_all : {A : Type 0} (p : A → Bool) (a : List A) (i n : ℕ) → n + count_by p (drop i a) ≡ count_by p a → length a ≤ i → n ≡ count_by p a
counted_all p a i n h k = let q = rw (drop_of_length-le a k) at h in omega arith

-- ---- the counts of the rules: of pairs by their answer, of ballots by theirs and by their view
bit_cond : (t : Bool) → cond t 1 0 ≡ bit t
unfolding bit
bit_cond true = refl
bit_cond false = refl

pub tally_counts : (d : ℕ) (ps : List Pair) → count_by (λ p. eqb p.answer d) ps ≡ tally d ps
unfolding tally
tally_counts d [] = refl
tally_counts d (p ∷ ps) = sum_by-cons (λ x. cond (eqb x.answer d) 1 0) p ps ∙ (let b = bit_cond (eqb p.answer d) in let r = tally_counts d ps in cc)

pub agree_counts : (d : ℕ) (ps : List Ballot) → count_by (λ b. eqb b.answer d) ps ≡ tally d (map ballot_pair (map (own_ballot EL) ps))
unfolding tally
agree_counts d [] = refl
agree_counts d (p ∷ ps) = sum_by-cons (λ x. cond (eqb x.answer d) 1 0) p ps ∙ (let b = bit_cond (eqb p.answer d) in let r = agree_counts d ps in cc)

pub reach_counts : (v : ℕ) (ps : List Ballot) → count_by (λ b. leb v b.view.0) ps ≡ reach v (map (own_ballot VS) ps)
unfolding reach
reach_counts v [] = refl
reach_counts v (p ∷ ps) = sum_by-cons (λ x. cond (leb v x.view.0) 1 0) p ps ∙ (let b = bit_cond (leb v p.view.0) in let r = reach_counts v ps in cc)

-- ---- whether all ballots have a view
not_or : (a b : Bool) → (a && not b) ≡ not (not a || b)
not_or true b = refl
not_or false b = refl

one_view_all : (v : ℕ) (ps : List Ballot) → list_all (λ b. eqb b.view.0 v) ps ≡ one_view v (map (own_ballot EL) ps)
unfolding one_view
one_view_all v [] = refl
one_view_all v (p ∷ ps) = let r = one_view_all v ps in rw r (not_or (eqb p.view.0 v) _)

same_test : (t u : Bool) → (IsTrue t ↔ IsTrue u) → t ≡ u
same_test true true h = refl
same_test true false h = search rules
same_test false true h = search rules
same_test false false h = refl

pub one_view_told : (t : Bool) (v : ℕ) (ps : List Ballot) → (IsTrue t ↔ AllPass (λ b. eqb b.view.0 v) ps) → t ≡ one_view v (map (own_ballot EL) ps)
one_view_told t v ps h =
    same_test t (list_all (λ b. eqb b.view.0 v) ps) (λ k. list_all-from_AllPass _ ps (h.0 k), λ k. h.1 (AllPass-from_list_all _ ps k))
    ∙ one_view_all v ps

-- how many are lacking of need, x being counted
module _ (l : Vl) (x need : ℕ) (e : x ≡ tally l.decision l.pairs) where
  pub some_lack : (k : ℕ) → x < need → k ≡ need - x → k ≡ lacking need l
  unfolding lacking
  some_lack k h q = omega arith

  pub none_lack : need ≤ x → 0 ≡ lacking need l
  unfolding lacking
  none_lack h = omega arith

-- no threshold is above 26
pub log_small : (f : ℕ) (d : Decision) → f ≤ 5 → for_logging f d ≤ 26
log_small f commit h = omega arith
log_small f abort h = omega arith

pub proof_small : (f : ℕ) (k : Kind) (d : Decision) → f ≤ 5 → for_proof f k d ≤ 26
proof_small f votes commit h = omega arith
proof_small f votes abort h = omega arith
proof_small f logs commit h = omega arith
proof_small f logs abort h = omega arith

-- "proof from logs: 4f + 1 equal logged decisions", of either
pub by_logs_lem : (f : ℕ) (k : Kind) (d : Decision) → k ≡ logs → log_proof f ≡ for_proof f k d
by_logs_lem f k commit h = rw h
by_logs_lem f k abort h = rw h
