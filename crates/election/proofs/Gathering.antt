-- Laws of the EL from a sheet: how its ballots are listed and counted.
use Prim.Native.Nat.{ℕ, zero, suc, ◌+◌, ◌<◌, ◌≤◌, min}
use native.Mathlib.Omega.{arith}
use native.Mathlib.Nat.{zero-add}
use mathlib.Core.Path.{◌≡◌, refl, sym}
use mathlib.Core.List.{List, [], ◌∷◌, ◌++◌, map}
use mathlib.Core.Bool.{Bool, true, false, cond, ◌&&◌, ◌||◌}
use lib.Dec.{eqb}
use lib.ListN.{length, length-append, length-take, take}
use lib.Seq.{take_all, take_at}
use Rattle.std.proofs.Math.Seq.{take-nil}
use Rattle.std.proofs.lemmas.List.{take-append-le}
use Rattle.std.proofs.lemmas.List.Recursion.{is_count_by}
use Rattle.std.specs.List.{count_by}
use Rattle.terms.specs.Choice.{any}
use Rattle.terms.specs.Checks.{passed}
use Rattle.terms.specs.Group.{boxes, log_proof}
use Rattle.terms.proofs.Checks.{rest_none, when_none}
use Rattle.records.specs.declared.Ballot.{Ballot}
use Rattle.records.specs.declared.ViewList.{ViewList}
use Rattle.records.specs.Views.{ballot_pair, held_views, zero_ballot}
use Rattle.rules.specs.Fallback.{leader_of}
use Rattle.rules.specs.Lists.{bit, tally}
use Rattle.rules.specs.System.{how_many}
use Rattle.sheet.specs.declared.Sheet.{Sheet}
use Rattle.sheet.specs.Masks.{has}
use Rattle.sheet.specs.Sheets.{counted, numbers, on, sheet_damaged, sheet_wrong, twice}
use Rattle.sheet.proofs.Below.{Noted, below, below_no, below_yes}
use Rattle.sheet.proofs.Sheets.{sheet_group}
use Rattle.sheet.proofs.Sound.{any_none}
use Rattle.election.specs.Elections.{ballot_on, ballots_on, chosen, election_for, election_wrong, majority, present, unled}
use Rattle.election.proofs.Hearing.{sheet_right}

-- ---- the ballots of a sheet
module _ (s : Sheet) where
  pub ballots_are : (n : ℕ) → ballots_on s n ≡ below (on s) (ballot_on s) n
  unfolding ballots_on below
  ballots_are zero = refl
  ballots_are (suc n) = rw (ballots_are n)

  pub ballots_none : ballots_on s 0 ≡ []
  unfolding ballots_on
  ballots_none = refl

  pub ballots_yes : (b : ℕ) (x : Ballot) → on s b ≡ true → x ≡ ballot_on s b → ballots_on s (b + 1) ≡ ballots_on s b ++ (x ∷ [])
  ballots_yes b x h e = rw (ballots_are (b + 1), ballots_are b, e) (below_yes (on s) (ballot_on s) b h)

  pub ballots_no : (b : ℕ) → on s b ≡ false → ballots_on s (b + 1) ≡ ballots_on s b
  ballots_no b h = rw (ballots_are (b + 1), ballots_are b) (below_no (on s) (ballot_on s) b h)

  -- the first of them are listed until there are as many as are needed
  module _ (need : ℕ) where
    pub listed_none : take need (ballots_on s 0) ≡ []
    listed_none = rw ballots_none (take-nil need)

    pub listed_yes : (b : ℕ) (x : Ballot) → length (take need (ballots_on s b)) < need → on s b ≡ true → x ≡ ballot_on s b
        → take need (ballots_on s (b + 1)) ≡ take need (ballots_on s b) ++ (x ∷ [])
    listed_yes b x l h e =
        let m : length (take need (ballots_on s b)) ≡ min need (length (ballots_on s b)) = length-take need (ballots_on s b) in
        let n : length (ballots_on s b ++ (x ∷ [])) ≡ length (ballots_on s b) + 1 = length-append (ballots_on s b) (x ∷ []) in
        rw (ballots_yes b x h e, take_all need (ballots_on s b) (omega arith)) (take_all need (ballots_on s b ++ (x ∷ [])) (omega arith))

    pub listed_no : (b : ℕ) → on s b ≡ false → take need (ballots_on s (b + 1)) ≡ take need (ballots_on s b)
    listed_no b h = rw (ballots_no b h)

    pub listed_full : (b : ℕ) → need ≤ length (take need (ballots_on s b)) → take need (ballots_on s (b + 1)) ≡ take need (ballots_on s b)
    listed_full b l = by (on s b) refl
      where
        enough : need ≤ length (ballots_on s b)
        enough = omega (arith, length-take need (ballots_on s b))

        by : (t : Bool) → on s b ≡ t → take need (ballots_on s (b + 1)) ≡ take need (ballots_on s b)
        by true h = rw (ballots_yes b _ h refl) (take-append-le need (ballots_on s b) _ enough)
        by false h = listed_no b h

pub unled_held : (s : Sheet) (f : ℕ) {need : ℕ} {a : List Ballot} {j : ℕ} → need ≡ log_proof f → Noted (λ b. take need (ballots_on s b)) zero_ballot 26 a j (boxes f)
    → record { leader = 0; decision = 0; view = record { 0 = s.view }; count = j; ballots = a } ≡ held_views (unled f s)
unfolding held_views unled chosen
unled_held s f q g = rw (← q, g.counts, ← g.is)

-- with leader and majority it is the sheet's
pub led_held : (s : Sheet) (f stamp : ℕ) (l : ViewList) (leader decision : ℕ) → l ≡ held_views (unled f s) → leader ≡ leader_of f s.view stamp → decision ≡ majority (take l.count l.ballots)
    → record { leader = leader; decision = decision; view = l.view; count = l.count; ballots = l.ballots } ≡ held_views (election_for s f stamp)
unfolding held_views unled election_for
led_held s f stamp l leader decision e p q =
    let t : take (held_views (unled f s)).count (held_views (unled f s)).ballots ≡ chosen f s = take_at (chosen f s) _ _ refl in
    let d : decision ≡ majority (chosen f s) = rw (e, t) at q in
    rw (e, p, d)

-- ---- their majority
pub tallied : (ps : List Ballot) → count_by (λ b. eqb b.answer 1) ps ≡ tally 1 (map ballot_pair ps)
unfolding tally bit
tallied ps = sym (is_count_by (λ xs. tally 1 (map ballot_pair xs)) (λ b. eqb b.answer 1) refl (λ x xs. by (eqb x.answer 1) _) ps)
  where
    by : (t : Bool) (k : ℕ) → bit t + k ≡ cond t (1 + k) k
    by true k = refl
    by false k = zero-add k

-- ---- whether there is one
-- how many are on a sheet that is right: no box is under both answers
either_count : (p q : ℕ → Bool) (n : ℕ) → ((b : ℕ) → b < n → (p b && q b) ≡ false) → how_many p n + how_many q n ≡ how_many (λ b. p b || q b) n
unfolding how_many bit
either_count p q zero h = refl
either_count p q (suc n) h = by (p n) (q n) (h n (omega arith)) (either_count p q n (λ b l. h b (omega arith)))
  where
    by : (t u : Bool) → (t && u) ≡ false → how_many p n + how_many q n ≡ how_many (λ b. p b || q b) n → bit t + how_many p n + (bit u + how_many q n) ≡ bit (t || u) + how_many (λ b. p b || q b) n
    by true true e r = absurd (let z : ◌≡◌ {A = ℕ} 0 1 = cc in omega arith)
    by true false e r = omega arith
    by false true e r = omega arith
    by false false e r = omega arith

pub present_is : (f : ℕ) (s : Sheet) → sheet_wrong f s ≡ passed → present f s ≡ how_many (on s) (boxes f)
unfolding present counted on twice sheet_wrong sheet_damaged
present_is f s z =
    let d = rest_none _ _ (rest_none _ _ (rest_none _ _ (rest_none _ _ (rest_none _ _ z)))) in
    let t : any (twice s) (numbers (boxes f)) ≡ false = when_none _ _ d in
    either_count (has s.commits) (has s.aborts) (boxes f) (λ b l. any_none (twice s) 0 (boxes f) b t (omega arith) (omega arith))

module _ (s : Sheet) (f : ℕ) where
  pub small : election_wrong f s ≡ passed → f ≤ 5
  small z = (sheet_group f s (sheet_right f s z)).1

  pub enough_on : election_wrong f s ≡ passed → log_proof f ≤ present f s → log_proof f ≤ how_many (on s) (boxes f)
  enough_on z h = rw (← present_is f s (sheet_right f s z)) h
