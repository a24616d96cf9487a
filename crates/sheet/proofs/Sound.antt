-- A sheet without refusal 16 stays one: what a box that joins changes, and what not.
use Prim.Native.Nat.{ℕ, zero, suc, ◌+◌, ◌^◌, ◌<◌, ◌≤◌}
use native.Mathlib.Omega.{arith}
use mathlib.Core.Path.{◌≡◌, refl, ap, sym, ◌∙◌}
use mathlib.Core.Logic.{◌⊎◌, inl, inr}
use mathlib.Core.Bool.{Bool, true, false, ◌&&◌, ◌||◌}
use lib.Dec.{eqb, eqb→eq}
use borrow.Author.Tests.{eqb-false, leb-false, lt-leb}
use Rattle.terms.specs.Choice.{pick, tab, any}
use Rattle.terms.specs.Checks.{passed, if_same, if_less, table}
use Rattle.terms.specs.Group.{boxes}
use Rattle.terms.specs.declared.Decision.{Decision}
use Rattle.terms.specs.declared.Decision.TheVariants.{Commit as commit, Abort as abort}
use Rattle.terms.proofs.Checks.{pass, first_none, rest_none, when_none, when_no, not_less, not_passed}
use Rattle.records.specs.Contents.{code_wrong}
use Rattle.terms.specs.Codes.{decision_number}
use Rattle.sheet.specs.declared.Sheet.{Sheet}
use Rattle.sheet.specs.Masks.{has, with_box}
use Rattle.sheet.specs.Sheets.{joined, numbers, on, sheet_damaged, sheet_wrong, twice, under}
use Rattle.sheet.proofs.Masks.{clear, has_joined, has_other, room}
use Rattle.sheet.proofs.Sheets.{off_aborts, off_commits}

-- no box passes a test, one by one and all together
module _ (p : ℕ → Bool) where
  pub none_any : (i n : ℕ) → ((b : ℕ) → i ≤ b → b < i + n → p b ≡ false) → any p (tab (λ b. b) i n) ≡ false
  none_any i zero h = refl
  none_any i (suc n) h =
      let e : p i ≡ false = h i (omega arith) (omega arith) in
      rw e (none_any (i + 1) n (λ b l m. h b (omega arith) (omega arith)))

  pub any_none : (i n b : ℕ) → any p (tab (λ b. b) i n) ≡ false → i ≤ b → b < i + n → p b ≡ false
  any_none i zero b e l m = absurd (omega arith)
  any_none i (suc n) b e l m = by (p i) refl (eqb i b) refl e (λ h k. any_none (i + 1) n b h k (omega arith))
    where
      by : (t : Bool) → p i ≡ t → (u : Bool) → eqb i b ≡ u → (t || any p (tab (λ b. b) (i + 1) n)) ≡ false → (any p (tab (λ b. b) (i + 1) n) ≡ false → i + 1 ≤ b → p b ≡ false) → p b ≡ false
      by true q u w h k = absurd (let z : ◌≡◌ {A = ℕ} 0 1 = cc in omega arith)
      by false q true w h k = let s : i ≡ b = eqb→eq i b (rw w tt) in rw (← s) q
      by false q false w h k = k h (let s : i ≡ b → ⊥ = eqb-false i b w in omega arith)

-- an answer without refusal 8 is 1 or 2
pub one_or_two : (a : ℕ) → code_wrong a ≡ passed → (a ≡ 1) ⊎ (a ≡ 2)
unfolding code_wrong if_same
one_or_two zero e = absurd (not_passed (first_none _ _ e))
one_or_two (suc zero) e = inl refl
one_or_two (suc (suc zero)) e = inr refl
one_or_two (suc (suc (suc a))) e = absurd (let l : suc (suc (suc a)) ≤ 2 = not_less _ _ _ (rest_none _ _ e) in omega arith)

-- the bit of box b after box `number` has joined
pick_same : (m number b : ℕ) → has m number ≡ false → has (with_box m number) b ≡ pick (eqb number b) true (has m b)
pick_same m number b h = by (eqb number b) refl
  where
    by : (t : Bool) → eqb number b ≡ t → has (with_box m number) b ≡ pick t true (has m b)
    by true e = let s : number ≡ b = eqb→eq number b (rw e tt) in rw (← s) (has_joined m number h)
    by false e = has_other m number b h (eqb-false number b e)

pick_kept : (m number b : ℕ) → has m number ≡ false → has m b ≡ pick (eqb number b) false (has m b)
pick_kept m number b h = by (eqb number b) refl
  where
    by : (t : Bool) → eqb number b ≡ t → has m b ≡ pick t false (has m b)
    by true e = let s : number ≡ b = eqb→eq number b (rw e tt) in rw (← s) h
    by false e = refl

-- "the box joins under its answer and nothing else on the sheet changes"
module _ (s : Sheet) (number answer : ℕ) (off : on s number ≡ false) where
  pub joins_under : (d : Decision) (b : ℕ) → (answer ≡ 1) ⊎ (answer ≡ 2) → has (under d (joined s number answer)) b ≡ pick (eqb number b) (eqb answer (decision_number d)) (has (under d s) b)
  unfolding joined
  joins_under commit b (inl e) = rw e (pick_same s.commits number b (off_commits s number off))
  joins_under commit b (inr e) = rw e (pick_kept s.commits number b (off_commits s number off))
  joins_under abort b (inl e) = rw e (pick_kept s.aborts number b (off_aborts s number off))
  joins_under abort b (inr e) = rw e (pick_same s.aborts number b (off_aborts s number off))

  pub joins_on : (b : ℕ) → (answer ≡ 1) ⊎ (answer ≡ 2) → on (joined s number answer) b ≡ pick (eqb number b) true (on s b)
  unfolding on
  joins_on b w = rw (joins_under commit b w, joins_under abort b w) (by (eqb number b) w)
    where
      by : (t : Bool) → (answer ≡ 1) ⊎ (answer ≡ 2) → (pick t (eqb answer 1) (has s.commits b) || pick t (eqb answer 2) (has s.aborts b)) ≡ pick t true (has s.commits b || has s.aborts b)
      by true (inl e) = rw e
      by true (inr e) = rw e
      by false w = refl

  joins_twice : (b : ℕ) → (answer ≡ 1) ⊎ (answer ≡ 2) → twice s b ≡ false → twice (joined s number answer) b ≡ false
  unfolding twice
  joins_twice b w h = rw (joins_under commit b w, joins_under abort b w) (by (eqb number b) w)
    where
      by : (t : Bool) → (answer ≡ 1) ⊎ (answer ≡ 2) → (pick t (eqb answer 1) (has s.commits b) && pick t (eqb answer 2) (has s.aborts b)) ≡ false
      by true (inl e) = rw e
      by true (inr e) = rw e
      by false w = h

  joins_kind : (joined s number answer).kind ≡ s.kind
  unfolding joined
  joins_kind = by (eqb answer 1)
    where
      by : (t : Bool) → (pick {A = Sheet} t (record { kind = s.kind; view = s.view; commits = with_box s.commits number; aborts = s.aborts }) (record { kind = s.kind; view = s.view; commits = s.commits; aborts = with_box s.aborts number })).kind ≡ s.kind
      by true = refl
      by false = refl

  -- no box n or more comes onto the sheet
  joins_fits : (d : Decision) (n : ℕ) → number < n → (answer ≡ 1) ⊎ (answer ≡ 2) → under d s < 2 ^ n → under d (joined s number answer) < 2 ^ n
  unfolding joined with_box
  joins_fits commit n l (inl e) h = rw e (room number n s.commits l h (clear s.commits number (off_commits s number off)))
  joins_fits commit n l (inr e) h = rw e h
  joins_fits abort n l (inl e) h = rw e h
  joins_fits abort n l (inr e) h = rw e (room number n s.aborts l h (clear s.aborts number (off_aborts s number off)))

  -- a sheet without a refusal stays one
  module _ (f : ℕ) (sound : sheet_wrong f s ≡ passed) (l : number < boxes f) (w : (answer ≡ 1) ⊎ (answer ≡ 2)) where
    damaged : sheet_damaged f s ≡ passed
    unfolding sheet_wrong
    damaged = rest_none _ _ sound

    pub joins_sound : sheet_wrong f (joined s number answer) ≡ passed
    unfolding sheet_wrong sheet_damaged
    joins_sound =
        let d₁ = rest_none _ _ damaged in
        let d₂ = rest_none _ _ d₁ in
        let d₃ = rest_none _ _ d₂ in
        let c : s.commits < 2 ^ boxes f = leb-false _ _ (when_none _ _ (first_none _ _ d₂)) in
        let a : s.aborts < 2 ^ boxes f = leb-false _ _ (when_none _ _ (first_none _ _ d₃)) in
        let t : any (twice s) (numbers (boxes f)) ≡ false = when_none _ _ (rest_none _ _ d₃) in
        sym
        (pass (first_none _ _ sound)
        (pass (ap (λ (k : ℕ). if_same k 0 table) joins_kind ∙ first_none _ _ damaged)
        (pass (ap (λ (k : ℕ). if_less 2 k table) joins_kind ∙ first_none _ _ d₁)
        (pass (when_no _ _ (lt-leb (2 ^ boxes f) _ (joins_fits commit (boxes f) l w c)))
        (pass (when_no _ _ (lt-leb (2 ^ boxes f) _ (joins_fits abort (boxes f) l w a)))
        (sym (when_no _ _ (none_any (twice (joined s number answer)) 0 (boxes f) (λ b i m. joins_twice b w (any_none (twice s) 0 (boxes f) b t i m))))))))))
