-- Counting the box numbers below n at which a test passes, and what two large counts share; a list in order counts boxes, not answers.
use Prim.Native.Nat.{ℕ, zero, suc, ◌+◌, ◌≤◌, ◌<◌}
use mathlib.Core.Bool.{Bool, true, false, not, ◌&&◌, ◌||◌}
use mathlib.Core.Path.{◌≡◌, refl, ap}
use mathlib.Core.Logic.{◌⊎◌, inl, inr}
use mathlib.Core.List.Memᴰ
use mathlib.Core.List.{List, [], ◌∷◌, ◌++◌, Memᴰ as In}
use native.Mathlib.Omega.{arith}
use lib.Dec.{T, eqb, eqb→eq, leb, leb→le, le→leb, nleb→lt, ltb, ltb→lt, lt→ltb, nltb→le}
use Rattle.terms.specs.Choice.{any, falls}
use Rattle.terms.specs.Checks.{passed, or_else, when}
use Rattle.terms.specs.Group.{boxes}
use Rattle.terms.proofs.Checks.{first_none, rest_none, when_none}
use Rattle.records.specs.declared.Pair.{Pair}
use Rattle.records.specs.Vl.{Vl}
use Rattle.records.specs.Contents.{list_wrong, code_wrong, boxes_wrong, box_wide, pair_box, answer_odd}
use Rattle.rules.specs.Lists.{bit, tally}
use Rattle.rules.specs.Act.{after}
use Rattle.rules.specs.System.{how_many}
use Rattle.rules.proofs.Laws.{and_l, and_r, both, ands, or_cases, decide_t, not_eqb}

bit_both : (a b : Bool) → bit a + bit b ≤ 1 + bit (a && b)
unfolding bit
bit_both true true = omega arith
bit_both true false = omega arith
bit_both false true = omega arith
bit_both false false = omega arith

-- two counts and the how_many of what they share
pub count_both : (p q : ℕ → Bool) (n : ℕ) → how_many p n + how_many q n ≤ n + how_many (λ i. p i && q i) n
unfolding how_many
count_both p q zero = omega arith
count_both p q (suc n) = omega (arith, bit_both (p n) (q n), count_both p q n)

bit_mono : (a b : Bool) → (T a → T b) → bit a ≤ bit b
unfolding bit
bit_mono true true h = omega arith
bit_mono true false h = absurd (h tt)
bit_mono false b h = omega arith

pub count_mono : (p q : ℕ → Bool) (n : ℕ) → ((i : ℕ) → i < n → T (p i) → T (q i)) → how_many p n ≤ how_many q n
unfolding how_many
count_mono p q zero h = omega arith
count_mono p q (suc n) h =
    omega (arith, bit_mono (p n) (q n) (h n (omega arith)), count_mono p q n (λ i l. h i (omega arith)))

bit_or : (a b : Bool) → (T a → T b → ⊥) → bit a + bit b ≤ bit (a || b)
unfolding bit
bit_or true true h = absurd (h tt tt)
bit_or true false h = omega arith
bit_or false b h = omega arith

pub count_or : (p q : ℕ → Bool) (n : ℕ) → ((i : ℕ) → T (p i) → T (q i) → ⊥) → how_many p n + how_many q n ≤ how_many (λ i. p i || q i) n
unfolding how_many
count_or p q zero h = omega arith
count_or p q (suc n) h = omega (arith, bit_or (p n) (q n) (h n), count_or p q n h)

-- more pass p than r: one passes p and not r
pub count_more : (p r : ℕ → Bool) (n : ℕ) → how_many r n < how_many p n → (i : ℕ) × (i < n) × T (p i) × T (not (r i))
unfolding how_many bit
count_more p r zero h = absurd (omega arith)
count_more p r (suc n) h = go (p n) (r n) refl refl (λ k. count_more p r n k)
  where
    Found : ℕ → Type 0
    Found m = (i : ℕ) × (i < m) × T (p i) × T (not (r i))

    later : Found n → Found (suc n)
    later w = (w.0, omega (arith, w.1), w.2, w.3)

    go : (a b : Bool) → p n ≡ a → r n ≡ b → (how_many r n < how_many p n → Found n) → Found (suc n)
    go true false e e' k = (n, omega arith, rw e tt, rw e' tt)
    go true true e e' k = later (k (omega (arith, rw (e, e') at h)))
    go false true e e' k = later (k (omega (arith, rw (e, e') at h)))
    go false false e e' k = later (k (omega (arith, rw (e, e') at h)))

-- two counts that come to more than n and those that pass r: one passes both and not r
pub meet : (p q r : ℕ → Bool) (n : ℕ) → n + how_many r n < how_many p n + how_many q n → (i : ℕ) × (i < n) × T (p i) × T (q i) × T (not (r i))
meet p q r n h =
    let w = count_more (λ i. p i && q i) r n (omega (arith, count_both p q n)) in
    (w.0, w.1, and_l (p w.0) (q w.0) w.2, and_r (p w.0) (q w.0) w.2, w.3)

-- a list of pairs as a test of a box number: the box is there with this answer
unfoldable pub says : ℕ → List Pair → ℕ → Bool
says d ps i = any (λ p. eqb p.number i && eqb p.answer d) ps

bit_at : (a : ℕ) (b : Bool) (n : ℕ) → a < n → bit b ≤ how_many (λ i. eqb a i && b) n
unfolding how_many
bit_at a b zero h = absurd (omega arith)
bit_at a b (suc n) h = go (decide_t (eqb a n)) (λ k. bit_at a b n k)
  where
    go : T (eqb a n) ⊎ T (not (eqb a n)) → (a < n → bit b ≤ how_many (λ i. eqb a i && b) n) → bit b ≤ bit (eqb a n && b) + how_many (λ i. eqb a i && b) n
    go (inl k) r = omega (arith, bit_mono b (eqb a n && b) (λ t. both (eqb a n) b k t))
    go (inr k) r = omega (arith, r (omega (arith, not_eqb a n k)))

-- numbers below n that rise strictly from lo on
unfoldable pub rising : ℕ → ℕ → List Pair → Bool
rising lo n [] = true
rising lo n (p ∷ ps) = leb lo p.number && (ltb p.number n && rising (p.number + 1) n ps)

-- a test that fails
or_false : (a b : Bool) → (a || b) ≡ false → (a ≡ false) × (b ≡ false)
or_false true b h = let z : ◌≡◌ {A = ℕ} 0 1 = cc in absurd (omega arith)
or_false false b h = (refl, h)

not_of : (a : Bool) → a ≡ false → T (not a)
not_of a h = rw h tt

rising_of : (f lo : ℕ) (ps : List Pair) → any (box_wide f) ps ≡ false → falls pair_box lo ps ≡ false → T (rising lo (boxes f) ps)
unfolding rising
rising_of f lo [] h k = tt
rising_of f lo (p ∷ ps) h k =
    let w = or_false (box_wide f p) (any (box_wide f) ps) h in
    let v = or_false (ltb p.number lo) (falls pair_box (p.number + 1) ps) k in
    both (leb lo p.number) _ (le→leb lo p.number (nltb→le p.number lo (not_of _ v.0)))
    (both (ltb p.number (boxes f)) _ (lt→ltb p.number (boxes f) (nleb→lt (boxes f) p.number (not_of _ w.0)))
    (rising_of f (p.number + 1) ps w.1 v.1))

-- what boxes that are judged in order tell
pub boxes_rising : (f : ℕ) (ps : List Pair) → boxes_wrong f ps ≡ passed → T (rising 0 (boxes f) ps)
boxes_rising f ps h = rising_of f 0 ps (when_none _ _ (first_none _ _ h)) (when_none _ _ (rest_none _ _ h))

-- and a list so
pub formed_rising : (f : ℕ) (l : Vl) → list_wrong f l ≡ passed → T (rising 0 (boxes f) l.pairs)
unfolding list_wrong
formed_rising f l h = boxes_rising f l.pairs (rest_none _ _ (rest_none _ _ (rest_none _ _ h)))

nor : (a b : Bool) → (T a → ⊥) → b ≡ false → (a || b) ≡ false
nor true b h k = absurd (h tt)
nor false b h k = k

none_wide : (f lo : ℕ) (ps : List Pair) → T (rising lo (boxes f) ps) → any (box_wide f) ps ≡ false
unfolding rising
none_wide f lo [] h = refl
none_wide f lo (p ∷ ps) h =
    let l : T (ltb p.number (boxes f)) = search ands in
    let r : T (rising (p.number + 1) (boxes f) ps) = search ands in
    nor (box_wide f p) (any (box_wide f) ps)
    (λ y. omega (arith, leb→le (boxes f) p.number y, ltb→lt p.number (boxes f) l))
    (none_wide f (p.number + 1) ps r)

none_falls : (lo n : ℕ) (ps : List Pair) → T (rising lo n ps) → falls pair_box lo ps ≡ false
unfolding rising
none_falls lo n [] h = refl
none_falls lo n (p ∷ ps) h =
    let l : T (leb lo p.number) = search ands in
    let r : T (rising (p.number + 1) n ps) = search ands in
    nor (ltb p.number lo) (falls pair_box (p.number + 1) ps)
    (λ y. omega (arith, leb→le lo p.number l, ltb→lt p.number lo y))
    (none_falls (p.number + 1) n ps r)

-- the other way: right codes and rising numbers are all that is judged
pub rising_formed : (f : ℕ) (l : Vl) → code_wrong l.kind ≡ passed → code_wrong l.decision ≡ passed → any answer_odd l.pairs ≡ false
    → T (rising 0 (boxes f) l.pairs) → list_wrong f l ≡ passed
unfolding list_wrong or_else when
rising_formed f l k d a h = rw (k, d, a, none_wide f 0 l.pairs h, none_falls 0 (boxes f) l.pairs h)

says_from : (d lo n : ℕ) (ps : List Pair) → T (rising lo n ps) → (i : ℕ) → T (says d ps i) → lo ≤ i
unfolding says rising
says_from d lo n [] h i k = absurd k
says_from d lo n (p ∷ ps) h i k =
    go (or_cases (eqb p.number i && eqb p.answer d) (says d ps i) k) (λ u. says_from d (p.number + 1) n ps r i u)
  where
    l : T (leb lo p.number)
    l = search ands

    r : T (rising (p.number + 1) n ps)
    r = search ands

    go : T (eqb p.number i && eqb p.answer d) ⊎ T (says d ps i) → (T (says d ps i) → p.number + 1 ≤ i) → lo ≤ i
    go (inl u) s = omega (arith, leb→le lo p.number l, eqb→eq p.number i (and_l (eqb p.number i) (eqb p.answer d) u))
    go (inr u) s = omega (arith, leb→le lo p.number l, s u)

-- what is tallied on a list is counted over the boxes
pub tally_count : (d lo n : ℕ) (ps : List Pair) → T (rising lo n ps) → tally d ps ≤ how_many (says d ps) n
unfolding tally rising says
tally_count d lo n [] h = omega arith
tally_count d lo n (p ∷ ps) h =
    let r : T (rising (p.number + 1) n ps) = search ands in
    let l : T (ltb p.number n) = search ands in
    let apart : (i : ℕ) → T (eqb p.number i && eqb p.answer d) → T (says d ps i) → ⊥ =
    λ i u v. let a : T (eqb p.number i) = search ands in omega (arith, eqb→eq p.number i a, says_from d (p.number + 1) n ps r i v) in
    omega (
      arith,
      count_or (λ i. eqb p.number i && eqb p.answer d) (says d ps) n apart,
      bit_at p.number (eqb p.answer d) n (ltb→lt p.number n l),
      tally_count d (p.number + 1) n ps r,
    )

named_from : (lo n : ℕ) (ps : List Pair) → T (rising lo n ps) → (p : Pair) → In p ps → lo ≤ p.number
unfolding rising
named_from lo n [] h p m = elim m [ ]
named_from lo n (q ∷ ps) h p m = go (Memᴰ.cases_cons m) (named_from (q.number + 1) n ps r p)
  where
    l : T (leb lo q.number)
    l = search ands

    r : T (rising (q.number + 1) n ps)
    r = search ands

    go : (p ≡ q) ⊎ In p ps → (In p ps → q.number + 1 ≤ p.number) → lo ≤ p.number
    go (inl e) s = omega (arith, leb→le lo q.number l, ap (λ (z : Pair). z.number) e)
    go (inr i) s = omega (arith, leb→le lo q.number l, s i)

rising_rest : (lo n : ℕ) (before : List Pair) (ps : List Pair) → T (rising lo n (before ++ ps)) → (from : ℕ) × T (rising from n ps)
unfolding rising
rising_rest lo n [] ps h = (lo, h)
rising_rest lo n (q ∷ qs) ps h = rising_rest (q.number + 1) n qs ps r
  where
    r : T (rising (q.number + 1) n (qs ++ ps))
    r = search ands

-- "Counting answers, not boxes": a list that names a box at two places is not in order
pub named_once : (f : ℕ) (l : Vl) (before after : List Pair) (p q : Pair) → l.pairs ≡ before ++ (p ∷ after) → In q after → p.number ≡ q.number
    → list_wrong f l ≡ passed → ⊥
unfolding rising
named_once f l before after p q e m s h =
    let w = rising_rest 0 (boxes f) before (p ∷ after) (rw e at (formed_rising f l h)) in
    go w.0 w.1
  where
    go : (from : ℕ) → T (rising from (boxes f) (p ∷ after)) → ⊥
    go from k = let r : T (rising (p.number + 1) (boxes f) after) = search ands in omega (arith, named_from (p.number + 1) (boxes f) after r q m)
