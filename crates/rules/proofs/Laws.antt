-- Taking the rules' tests apart, and the laws of look-up and put.
use Prim.Native.Nat.{ℕ, ◌≤◌, ◌<◌}
use mathlib.Core.Bool.{Bool, true, false, not, ◌&&◌, ◌||◌}
use mathlib.Core.Path.{◌≡◌, refl, sym, ◌∙◌, ap}
use mathlib.Core.Logic.{◌⊎◌, inl, inr}
use mathlib.Core.Option.{some, none}
use mathlib.Core.List.Memᴰ
use mathlib.Core.List.Memᴰ.{head as here}
use mathlib.Core.List.Memᴰ.{tail as there}
use mathlib.Core.List.{List, [], ◌∷◌, Memᴰ as In}
use native.Mathlib.Omega.{arith}
use lib.Dec.{T, eqb, eqb→eq, eqb_refl, ltb, ltb→lt, nltb→le}
use Rattle.terms.specs.Choice.{pick, any}
use Rattle.rules.specs.Answers.{Decision, commit, abort}
use Rattle.rules.specs.Bodies.{Body, stamp_of, same_body}
use Rattle.rules.specs.Table.{Entry, find, put}
use Rattle.rules.specs.Calls.{same_decision}

-- a choice: prove it of both sides
pub pick_elim : {A : Type 0} (P : A → Type 0) (c : Bool) {a b : A} → (T c → P a) → (T (not c) → P b) → P (pick c a b)
pick_elim P true h k = h tt
pick_elim P false h k = k tt

pub pick_true : {A : Type 0} (c : Bool) (a b : A) → T c → pick c a b ≡ a
pick_true true a b h = refl
pick_true false a b h = absurd h

pub pick_false : {A : Type 0} (c : Bool) (a b : A) → T (not c) → pick c a b ≡ b
pick_false true a b h = absurd h
pick_false false a b h = refl

pub and_l : (a b : Bool) → T (a && b) → T a
and_l true b h = tt
and_l false b h = h

pub and_r : (a b : Bool) → T (a && b) → T b
and_r true b h = h
and_r false b h = absurd h

pub both : (a b : Bool) → T a → T b → T (a && b)
both true b h k = k
both false b h k = h

-- the parts of a test that passed
pub ruleset ands = (and_l, and_r)

pub or_cases : (a b : Bool) → T (a || b) → T a ⊎ T b
or_cases true b h = inl tt
or_cases false b h = inr h

pub or_l : (a b : Bool) → T a → T (a || b)
or_l true b h = tt
or_l false b h = absurd h

pub or_r : (a b : Bool) → T b → T (a || b)
or_r true b h = tt
or_r false b h = h

pub nor_l : (a b : Bool) → T (not (a || b)) → T (not a)
nor_l true b h = h
nor_l false b h = tt

pub nor_r : (a b : Bool) → T (not (a || b)) → T (not b)
nor_r true b h = absurd h
nor_r false b h = h

pub decide_t : (b : Bool) → T b ⊎ T (not b)
decide_t true = inl tt
decide_t false = inr tt

pub lt_cases : (m n : ℕ) → (m < n) ⊎ (n ≤ m)
lt_cases m n = go (decide_t (ltb m n))
  where
    go : T (ltb m n) ⊎ T (not (ltb m n)) → (m < n) ⊎ (n ≤ m)
    go (inl h) = inl (ltb→lt m n h)
    go (inr h) = inr (nltb→le m n h)

pub no_both : (b : Bool) → T b → T (not b) → ⊥
no_both true h k = k
no_both false h k = h

any_at : {A : Type 0} (p : A → Bool) (x : A) → T (p x) → (xs : List A) → In x xs → T (any p xs)
any_at p x k xs (here {x = y} {xs = ys} e) = or_l (p y) (any p ys) (rw e at k)
any_at p x k xs (there {x = y} {xs = ys} m) = or_r (p y) (any p ys) (any_at p x k ys m)

pub any_of : {A : Type 0} (p : A → Bool) (xs : List A) (x : A) → In x xs → T (p x) → T (any p xs)
any_of p xs x m k = any_at p x k xs m

pub not_any : {A : Type 0} (p : A → Bool) (xs : List A) → T (not (any p xs)) → (x : A) → In x xs → T (p x) → ⊥
not_any p xs h x m k = no_both (any p xs) (any_of p xs x m k) h

pub any_found : {A : Type 0} (p : A → Bool) (xs : List A) → T (any p xs) → (x : A) × In x xs × T (p x)
any_found p [] h = absurd h
any_found {A} p (y ∷ ys) h = go (or_cases (p y) (any p ys) h) (λ k. any_found p ys k)
  where
    go : T (p y) ⊎ T (any p ys) → (T (any p ys) → (x : A) × In x ys × T (p x)) → (x : A) × In x (y ∷ ys) × T (p x)
    go (inl k) r = (y, here refl, k)
    go (inr k) r = let m = r k in (m.0, there m.1, m.2)

-- the equality tests
pub same_decision_eq : (a b : Decision) → T (same_decision a b) → a ≡ b
unfolding same_decision
same_decision_eq commit commit h = refl
same_decision_eq commit abort h = absurd h
same_decision_eq abort commit h = absurd h
same_decision_eq abort abort h = refl

pub same_decision_refl : (a : Decision) → T (same_decision a a)
unfolding same_decision
same_decision_refl commit = tt
same_decision_refl abort = tt

pub same_body_eq : (a b : Body) → T (same_body a b) → a ≡ b
unfolding same_body
same_body_eq [] [] h = refl
same_body_eq [] (y ∷ ys) h = absurd h
same_body_eq (x ∷ xs) [] h = absurd h
same_body_eq (x ∷ xs) (y ∷ ys) h =
    let k : T (eqb x y) = search ands in
    let r : T (same_body xs ys) = search ands in
    let e : x ≡ y = eqb→eq x y k in
    let t = same_body_eq xs ys r in
    cc

pub same_body_refl : (a : Body) → T (same_body a a)
unfolding same_body
same_body_refl [] = tt
same_body_refl (x ∷ xs) = both (eqb x x) (same_body xs xs) (eqb_refl x) (same_body_refl xs)

pub not_same : (a b : Body) → T (not (same_body a b)) → a ≡ b → ⊥
not_same a b h e = no_both (same_body a b) (rw e (same_body_refl b)) h

pub not_eqb : (m n : ℕ) → T (not (eqb m n)) → m ≡ n → ⊥
not_eqb m n h e = no_both (eqb m n) (rw e (eqb_refl n)) h

pub neqb : (m n : ℕ) → (m ≡ n → ⊥) → T (not (eqb m n))
neqb m n h = go (decide_t (eqb m n))
  where
    go : T (eqb m n) ⊎ T (not (eqb m n)) → T (not (eqb m n))
    go (inl k) = absurd (h (eqb→eq m n k))
    go (inr k) = k

-- the table
pub find_stamp : (s : ℕ) (t : List Entry) (e : Entry) → find s t ≡ some e → stamp_of e.body ≡ s
unfolding find
find_stamp s [] e h = let z : ◌≡◌ {A = ℕ} 0 1 = cc in absurd (omega arith)
find_stamp s (x ∷ xs) e h =
    pick_elim (λ o. o ≡ some e → stamp_of e.body ≡ s) (eqb (stamp_of x.body) s)
    (λ k p. let q : x ≡ e = cc in rw (← q) (eqb→eq (stamp_of x.body) s k))
    (λ k p. find_stamp s xs e p)
    h

pub find_in : (s : ℕ) (t : List Entry) (e : Entry) → find s t ≡ some e → In e t
unfolding find
find_in s [] e h = let z : ◌≡◌ {A = ℕ} 0 1 = cc in absurd (omega arith)
find_in s (x ∷ xs) e h =
    pick_elim (λ o. o ≡ some e → In e (x ∷ xs)) (eqb (stamp_of x.body) s) (λ k p. here (cc)) (λ k p. there (find_in s xs e p)) h

pub find_put_same : (e : Entry) (t : List Entry) → find (stamp_of e.body) (put e t) ≡ some e
unfolding find put
find_put_same e [] = pick_true (eqb (stamp_of e.body) (stamp_of e.body)) (some e) none (eqb_refl (stamp_of e.body))
find_put_same e (x ∷ xs) =
    pick_elim (λ l. find (stamp_of e.body) l ≡ some e) (eqb (stamp_of x.body) (stamp_of e.body))
    (λ k. pick_true (eqb (stamp_of e.body) (stamp_of e.body)) (some e) _ (eqb_refl (stamp_of e.body)))
    (λ k. pick_false (eqb (stamp_of x.body) (stamp_of e.body)) (some x) _ k ∙ find_put_same e xs)

pub find_put_other : (s : ℕ) (e : Entry) (t : List Entry) → (stamp_of e.body ≡ s → ⊥) → find s (put e t) ≡ find s t
unfolding find put
find_put_other s e [] h = pick_false (eqb (stamp_of e.body) s) (some e) none (neqb _ _ h)
find_put_other s e (x ∷ xs) h =
    pick_elim (λ l. find s l ≡ find s (x ∷ xs)) (eqb (stamp_of x.body) (stamp_of e.body))
    (λ k.
    pick_false (eqb (stamp_of e.body) s) (some e) (find s xs) (neqb _ _ h)
    ∙ sym (pick_false (eqb (stamp_of x.body) s) (some x) (find s xs) (neqb _ _ (λ p. h (sym (eqb→eq (stamp_of x.body) (stamp_of e.body) k) ∙ p)))))
    (λ k. ap (λ o. pick (eqb (stamp_of x.body) s) (some x) o) (find_put_other s e xs h))

pub in_put : (e o : Entry) (t : List Entry) → In o (put e t) → (o ≡ e) ⊎ In o t
unfolding put
in_put e o [] h = Memᴰ.cases_cons h
in_put e o (x ∷ xs) h =
    pick_elim (λ l. In o l → (o ≡ e) ⊎ In o (x ∷ xs)) (eqb (stamp_of x.body) (stamp_of e.body))
    (λ _ m. first (Memᴰ.cases_cons m))
    (λ _ m. later (Memᴰ.cases_cons m) (in_put e o xs))
    h
  where
    first : (o ≡ e) ⊎ In o xs → (o ≡ e) ⊎ In o (x ∷ xs)
    first (inl q) = inl q
    first (inr m) = inr (there m)

    later : (o ≡ x) ⊎ In o (put e xs) → (In o (put e xs) → (o ≡ e) ⊎ In o xs) → (o ≡ e) ⊎ In o (x ∷ xs)
    later (inl q) r = inr (here q)
    later (inr m) r = first (r m)
