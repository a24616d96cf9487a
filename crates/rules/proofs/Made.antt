-- Whether a proof can be made is a test.
use Prim.Native.Nat.{ℕ, zero, suc, ◌+◌, ◌≤◌, ◌<◌, max}
use mathlib.Core.Bool.{Bool, true, false, not, ◌||◌}
use mathlib.Core.Path.{◌≡◌, refl, sym, ap}
use mathlib.Core.Logic.{◌⊎◌, inl, inr}
use mathlib.Core.Option.{some}
use mathlib.Core.List.Memᴰ
use mathlib.Core.List.{List, [], ◌∷◌, Memᴰ as In}
use native.Mathlib.Omega.{arith}
use lib.Dec.{T, eqb, eqb→eq, eqb_refl, leb, leb→le, le→leb, ltb, lt→ltb}
use Rattle.terms.specs.Choice.{pick, any}
use Rattle.terms.specs.Checks.{passed, or_else, if_less, if_same}
use Rattle.terms.specs.Group.{boxes}
use Rattle.records.specs.declared.Pair.{Pair}
use Rattle.records.specs.Vl.{Vl}
use Rattle.records.specs.Contents.{code_wrong, answer_odd}
use Rattle.rules.specs.Answers.{Answer, Decided, Decision, Done, Elected, Found, Logged, Raised, Refused, Voted, abort, commit, decision_number}
use Rattle.rules.specs.Answers.{Kind, Settled, kind_number, logs, settled, unsettled, votes}
use Rattle.rules.specs.Bodies.{Body}
use Rattle.rules.specs.Lists.{kind_of, decision_of, for_proof, bit, tally, meets}
use Rattle.rules.specs.System.{Event, answer_to, log, cast, vote_word, word, word_in, is_word, gives_now, gave, how_many, BackedBy, Proof}
use Rattle.rules.proofs.Laws.{pick_elim, both, ands, or_cases, or_l, or_r, decide_t, not_eqb}
use Rattle.rules.proofs.Counting.{count_more, rising, rising_formed}
use Rattle.rules.proofs.Quorums.{quorums}
use Rattle.rules.proofs.Moves.{none_some, some_eq, word_eq}
use Rattle.rules.proofs.Backing.{upheld, upheld_gave, proof_count}

-- the list of the box numbers from lo on, m of them, that pass a test
build : (ℕ → Bool) → ℕ → ℕ → ℕ → List Pair
build p d lo zero = []
build p d lo (suc m) = pick (p lo) (record { number = lo; answer = d } ∷ build p d (suc lo) m) (build p d (suc lo) m)

rising_build : (p : ℕ → Bool) (d from lo m n : ℕ) → from ≤ lo → lo + m ≤ n → T (rising from n (build p d lo m))
unfolding build rising
rising_build p d from lo zero n h k = tt
rising_build p d from lo (suc m) n h k =
    pick_elim (λ (l : List Pair). T (rising from n l)) (p lo)
    (λ _. both (leb from lo) _ (le→leb from lo h)
    (both (ltb lo n) _ (lt→ltb lo n (omega arith)) (rising_build p d (lo + 1) (suc lo) m n (omega arith) (omega arith))))
    (λ _. rising_build p d from (suc lo) m n (omega arith) (omega arith))

bit_true : (c : Bool) → T c → bit c ≡ 1
unfolding bit
bit_true true h = refl
bit_true false h = absurd h

bit_false : (c : Bool) → T (not c) → bit c ≡ 0
unfolding bit
bit_false true h = absurd h
bit_false false h = refl

tally_build : (p : ℕ → Bool) (d lo m : ℕ) → how_many p (lo + m) ≤ how_many p lo + tally d (build p d lo m)
unfolding build how_many tally
tally_build p d lo zero = let e : lo + zero ≡ lo = omega arith in rw e (omega arith)
tally_build p d lo (suc m) =
    let e : lo + suc m ≡ suc lo + m = omega arith in
    let r = tally_build p d (suc lo) m in
    rw e
    (pick_elim (λ (l : List Pair). how_many p (suc lo + m) ≤ how_many p lo + tally d l) (p lo)
    (λ y. omega (arith, r, bit_true (p lo) y, bit_true (eqb d d) (eqb_refl d)))
    (λ y. omega (arith, r, bit_false (p lo) y)))

in_build : (p : ℕ → Bool) (d lo m : ℕ) (q : Pair) → In q (build p d lo m) → T (p q.number) × (d ≡ q.answer)
unfolding build
in_build p d lo zero q h = elim h [ ]
in_build p d lo (suc m) q h =
    pick_elim (λ (l : List Pair). In q l → T (p q.number) × (d ≡ q.answer)) (p lo)
    (λ y i. go y (Memᴰ.cases_cons i) (in_build p d (suc lo) m q))
    (λ _. in_build p d (suc lo) m q)
    h
  where
    go : T (p lo) → (q ≡ record { number = lo; answer = d }) ⊎ In q (build p d (suc lo) m)
        → (In q (build p d (suc lo) m) → T (p q.number) × (d ≡ q.answer)) → T (p q.number) × (d ≡ q.answer)
    go y (inl e) r = (rw (ap (λ (z : Pair). z.number) e) y, sym (ap (λ (z : Pair). z.answer) e))
    go y (inr i) r = r i

-- every answer on it has the code that it names
even_build : (p : ℕ → Bool) (d lo m : ℕ) → (eqb d 0 || ltb 2 d) ≡ false → any answer_odd (build p d lo m) ≡ false
unfolding build
even_build p d lo zero c = refl
even_build p d lo (suc m) c =
    pick_elim (λ (l : List Pair). any answer_odd l ≡ false) (p lo) (λ _. rw c (even_build p d (suc lo) m c)) (λ _. even_build p d (suc lo) m c)

-- the codes are in order, and say what they were made of
kind_code : (k : Kind) → code_wrong (kind_number k) ≡ passed
unfolding code_wrong or_else if_same if_less
kind_code votes = refl
kind_code logs = refl

decision_code : (d : Decision) → code_wrong (decision_number d) ≡ passed
unfolding code_wrong or_else if_same if_less
decision_code commit = refl
decision_code abort = refl

answer_code : (d : Decision) → (eqb (decision_number d) 0 || ltb 2 (decision_number d)) ≡ false
answer_code commit = refl
answer_code abort = refl

pub kind_of_lem : (k : Kind) → kind_of (kind_number k) ≡ k
unfolding kind_of
kind_of_lem votes = refl
kind_of_lem logs = refl

pub decision_of_lem : (d : Decision) → decision_of (decision_number d) ≡ d
unfolding decision_of
decision_of_lem commit = refl
decision_of_lem abort = refl

-- one of the numbers below n passes
unfoldable pub one_below : (ℕ → Bool) → ℕ → Bool
one_below p zero = false
one_below p (suc n) = p n || one_below p n

below_found : (p : ℕ → Bool) (n : ℕ) → T (one_below p n) → (i : ℕ) × T (p i)
unfolding one_below
below_found p zero h = absurd h
below_found p (suc n) h = go (or_cases (p n) (one_below p n) h) (below_found p n)
  where
    go : T (p n) ⊎ T (one_below p n) → (T (one_below p n) → (i : ℕ) × T (p i)) → (i : ℕ) × T (p i)
    go (inl y) r = (n, y)
    go (inr y) r = r y

below_of : (p : ℕ → Bool) (n i : ℕ) → i < n → T (p i) → T (one_below p n)
unfolding one_below
below_of p zero i l h = absurd (omega arith)
below_of p (suc n) i l h = go (decide_t (eqb i n)) (λ k. below_of p n i k h)
  where
    go : T (eqb i n) ⊎ T (not (eqb i n)) → (i < n → T (one_below p n)) → T (p n || one_below p n)
    go (inl y) r = or_l (p n) (one_below p n) (rw (eqb→eq i n y) at h)
    go (inr y) r = or_r (p n) (one_below p n) (r (omega (arith, not_eqb i n y)))

-- the highest view of the logs that were given
unfoldable pub logged_view : Answer → ℕ
logged_view (Logged d v) = v.0
logged_view (Elected d v l) = 0
logged_view (Voted v n) = 0
logged_view Raised = 0
logged_view Done = 0
logged_view (Decided d) = 0
logged_view (Found p q) = 0
logged_view (Refused r) = 0

unfoldable pub top_view : ℕ → List Event → ℕ
top_view f [] = 0
top_view f (e ∷ es) = max (logged_view (answer_to f e es)) (top_view f es)

vote_unlogged : (o : Settled) (d : Decision) (v : ℕ) → vote_word o ≡ some (log d v) → ⊥
unfolding vote_word
vote_unlogged unsettled d v h = none_some refl h
vote_unlogged (settled x) d v h = let q = some_eq refl h in let z : ◌≡◌ {A = ℕ} 0 1 = cc in omega arith

logged_view_lem : (a : Answer) (d : Decision) (v : ℕ) → word_in a ≡ some (log d v) → v ≡ logged_view a
unfolding word_in logged_view
logged_view_lem (Logged x u) d v h = let q : log x u.0 ≡ log d v = some_eq refl h in cc
logged_view_lem (Elected x u l) d v h = let q = some_eq refl h in let z : ◌≡◌ {A = ℕ} 0 1 = cc in absurd (omega arith)
logged_view_lem (Voted x n) d v h = absurd (vote_unlogged (cast x) d v h)
logged_view_lem Raised d v h = absurd (none_some refl h)
logged_view_lem Done d v h = absurd (none_some refl h)
logged_view_lem (Decided x) d v h = absurd (none_some refl h)
logged_view_lem (Found p q) d v h = absurd (none_some refl h)
logged_view_lem (Refused r) d v h = absurd (none_some refl h)

gave_view : (f i : ℕ) (b : Body) (d : Decision) (v : ℕ) (es : List Event) → T (gave f i b (log d v) es) → v ≤ top_view f es
unfolding gave gives_now top_view
gave_view f i b d v [] h = absurd h
gave_view f i b d v (e ∷ es) h = go (or_cases (gives_now f i b (log d v) e es) (gave f i b (log d v) es) h) (gave_view f i b d v es)
  where
    go : T (gives_now f i b (log d v) e es) ⊎ T (gave f i b (log d v) es) → (T (gave f i b (log d v) es) → v ≤ top_view f es)
        → v ≤ max (logged_view (answer_to f e es)) (top_view f es)
    go (inl u) r =
        let k : T (is_word (log d v) (word_in (answer_to f e es))) = search ands in
        omega (arith, logged_view_lem (answer_to f e es) d v (word_eq (log d v) (word_in (answer_to f e es)) k))
    go (inr u) r = omega (arith, r u)

module _ (f : ℕ) (faulty : ℕ → Bool) where
  -- a how_many that meets the threshold is a list that can be made
  pub proof_of : (es : List Event) (k : Kind) (v : ℕ) (b : Body) (d : Decision) → for_proof f k d ≤ how_many (upheld f faulty es b (word k v d)) (boxes f)
      → Proof f faulty es b d
  unfolding meets BackedBy how_many
  proof_of es k v b d h = record {
    list = made;
    names = decision_of_lem d;
    formed = rising_formed f made (kind_code k) (decision_code d) (even_build p (decision_number d) 0 (boxes f) (answer_code d))
        (rising_build p (decision_number d) 0 0 (boxes f) (boxes f) (omega arith) (omega arith));
    enough = rw (kind_of_lem k, decision_of_lem d) (le→leb (for_proof f k d) (tally (decision_number d) ps) enough);
    backed = λ q i s.
        let w = in_build p (decision_number d) 0 (boxes f) q i in
        rw (kind_of_lem k, ← w.1, decision_of_lem d) (upheld_gave f faulty es b (word k v d) q.number w.0 s.1);
  }
    where
      p : ℕ → Bool
      p = upheld f faulty es b (word k v d)

      ps : List Pair
      ps = build p (decision_number d) 0 (boxes f)

      made : Vl
      made = record { kind = kind_number k; decision = decision_number d; view = v; pairs = ps }

      enough : for_proof f k d ≤ tally (decision_number d) ps
      enough = let e : 0 + boxes f ≡ boxes f = omega arith in omega (arith, rw e at (tally_build p (decision_number d) 0 (boxes f)))

  -- whether a proof can be made, as a test: from votes, or from the logs of one view
  unfoldable pub enough_of : List Event → Body → Decision → Kind → ℕ → Bool
  enough_of es b d k v = leb (for_proof f k d) (how_many (upheld f faulty es b (word k v d)) (boxes f))

  unfoldable pub provable_by : List Event → Body → Decision → Kind → Bool
  provable_by es b d votes = enough_of es b d votes 0
  provable_by es b d logs = one_below (enough_of es b d logs) (suc (top_view f es))

  unfoldable pub provable : List Event → Body → Decision → Bool
  provable es b d = provable_by es b d votes || provable_by es b d logs

  pub provable_proof : (es : List Event) (b : Body) (d : Decision) → T (provable es b d) → Proof f faulty es b d
  unfolding provable provable_by enough_of
  provable_proof es b d h = go (or_cases (provable_by es b d votes) (provable_by es b d logs) h)
    where
      by : (k : Kind) (v : ℕ) → T (enough_of es b d k v) → Proof f faulty es b d
      by k v y = proof_of es k v b d (leb→le (for_proof f k d) _ y)

      go : T (provable_by es b d votes) ⊎ T (provable_by es b d logs) → Proof f faulty es b d
      go (inl y) = by votes 0 y
      go (inr y) = let w = below_found (enough_of es b d logs) (suc (top_view f es)) y in by logs w.0 w.1

  module _ (few : how_many faulty (boxes f) ≤ f) (es : List Event) (b : Body) (d : Decision) where
    -- a sound box is behind a proof from logs, so their view is one that was given
    kind_provable : (k : Kind) (v : ℕ) → for_proof f k d ≤ how_many (upheld f faulty es b (word k v d)) (boxes f) → T (provable_by es b d k)
    unfolding provable_by enough_of word
    kind_provable votes v h = le→leb (for_proof f votes d) _ h
    kind_provable logs v h =
        let w = count_more (upheld f faulty es b (log d v)) faulty (boxes f) (omega (arith, (quorums f).log_sound d)) in
        let i = gave_view f w.0 b d v es (upheld_gave f faulty es b (log d v) w.0 w.2 w.3) in
        below_of (enough_of es b d logs) (suc (top_view f es)) v (omega arith) (le→leb (for_proof f logs d) _ h)

    pub proof_by : (P : Proof f faulty es b d) → T (provable_by es b d (kind_of P.list.kind))
    proof_by P = kind_provable (kind_of P.list.kind) P.list.view (proof_count f faulty es b d P)

    pub proof_provable : Proof f faulty es b d → T (provable es b d)
    unfolding provable
    proof_provable P = go (kind_of P.list.kind) (proof_by P)
      where
        go : (k : Kind) → T (provable_by es b d k) → T (provable es b d)
        go votes h = or_l (provable_by es b d votes) (provable_by es b d logs) h
        go logs h = or_r (provable_by es b d votes) (provable_by es b d logs) h
