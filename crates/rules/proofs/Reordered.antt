-- Tables with the same entries, those with different stamps in another order: what a call sees of them is the same.
use Prim.Native.Nat.{ℕ, suc}
use mathlib.Core.Bool.{Bool, true, false, not, ◌&&◌, ◌||◌}
use mathlib.Core.Path.{◌≡◌, refl, sym, ◌∙◌, ap}
use mathlib.Core.Logic.{◌⊎◌, inl, inr}
use mathlib.Core.Option.{Option, some, none}
use mathlib.Core.List.{List, [], ◌∷◌}
use native.Mathlib.Omega.{arith}
use lib.Dec.{T, eqb, eqb→eq, ltb, ltb→lt, lt→ltb, nltb→le, not_T}
use lib.ListN.{length}
use Rattle.terms.specs.Choice.{pick, any}
use Rattle.rules.specs.Bodies.{stamp_of, writes_key}
use Rattle.rules.specs.Table.{Entry, find, put}
use Rattle.rules.specs.Calls.{better, newest}
use Rattle.rules.specs.Low.{above, up_to}
use Rattle.rules.specs.Order.{Reordered, same, behind, swapped, further}
use Rattle.rules.proofs.Laws.{decide_t, neqb, not_eqb, pick_elim, pick_false, pick_true}
use Rattle.rules.proofs.Moves.{none_some}

-- ---- look-up: the first of a stamp
pick_swap : {A : Type 0} (c d : Bool) (x y z : A) → (T c → T d → ⊥) → pick c x (pick d y z) ≡ pick d y (pick c x z)
pick_swap true true x y z n = absurd (n tt tt)
pick_swap true false x y z n = refl
pick_swap false true x y z n = refl
pick_swap false false x y z n = refl

pub find_same : {t u : List Entry} (s : ℕ) → Reordered t u → find s t ≡ find s u
unfolding find
find_same s same = refl
find_same s (behind {e = e} w) = ap (λ o. pick (eqb (stamp_of e.body) s) (some e) o) (find_same s w)
find_same s (swapped {a = a} {b = b} n) =
    pick_swap (eqb (stamp_of a.body) s) (eqb (stamp_of b.body) s) _ _ _
    (λ p q. n (eqb→eq (stamp_of a.body) s p ∙ sym (eqb→eq (stamp_of b.body) s q)))
find_same s (further w v) = find_same s w ∙ find_same s v

-- ---- tests 3 and 4: every entry
or_swap : (a b c : Bool) → a || (b || c) ≡ b || (a || c)
or_swap true true c = refl
or_swap true false c = refl
or_swap false true c = refl
or_swap false false c = refl

pub any_same : {t u : List Entry} (p : Entry → Bool) → Reordered t u → any p t ≡ any p u
any_same p same = refl
any_same p (behind {e = e} w) = ap (λ c. p e || c) (any_same p w)
any_same p (swapped {a = a} {b = b} n) = or_swap (p a) (p b) _
any_same p (further w v) = any_same p w ∙ any_same p v

-- ---- 13: how many there are
pub length_same : {t u : List Entry} → Reordered t u → length t ≡ length u
length_same same = refl
length_same (behind w) = ap suc (length_same w)
length_same (swapped n) = refl
length_same (further w v) = length_same w ∙ length_same v

-- ---- RD: the highest stamp, the first among equals
higher : (a b : Entry) → (stamp_of a.body ≡ stamp_of b.body → ⊥)
    → pick (ltb (stamp_of a.body) (stamp_of b.body)) (some b) (some a) ≡ pick (ltb (stamp_of b.body) (stamp_of a.body)) (some a) (some b)
higher a b n =
    pick_elim (λ o. o ≡ pick (ltb (stamp_of b.body) (stamp_of a.body)) (some a) (some b)) (ltb (stamp_of a.body) (stamp_of b.body))
    (λ l.
    sym (pick_false (ltb (stamp_of b.body) (stamp_of a.body)) (some a) (some b)
    (not_T (ltb (stamp_of b.body) (stamp_of a.body))
    (λ m. omega (arith, ltb→lt (stamp_of a.body) (stamp_of b.body) l, ltb→lt (stamp_of b.body) (stamp_of a.body) m)))))
    (λ l.
    sym (pick_true (ltb (stamp_of b.body) (stamp_of a.body)) (some a) (some b)
    (lt→ltb (stamp_of b.body) (stamp_of a.body) (omega (arith, nltb→le (stamp_of a.body) (stamp_of b.body) l)))))

better_swap : (a b : Entry) (o : Option Entry) → (stamp_of a.body ≡ stamp_of b.body → ⊥) → better a (better b o) ≡ better b (better a o)
unfolding better
better_swap a b none n = higher a b n
better_swap a b (some x) n =
    pick_elim (λ o. better a o ≡ better b (pick (ltb (stamp_of a.body) (stamp_of x.body)) (some x) (some a))) (ltb (stamp_of b.body) (stamp_of x.body))
    (λ l.
    pick_elim (λ o. better a (some x) ≡ better b o) (ltb (stamp_of a.body) (stamp_of x.body))
    (λ m.
    pick_true (ltb (stamp_of a.body) (stamp_of x.body)) (some x) (some a) m
    ∙ sym (pick_true (ltb (stamp_of b.body) (stamp_of x.body)) (some x) (some b) l))
    (λ m.
    pick_false (ltb (stamp_of a.body) (stamp_of x.body)) (some x) (some a) m
    ∙ sym (pick_true (ltb (stamp_of b.body) (stamp_of a.body)) (some a) (some b)
    (lt→ltb (stamp_of b.body) (stamp_of a.body) (omega (arith, ltb→lt (stamp_of b.body) (stamp_of x.body) l, nltb→le (stamp_of a.body) (stamp_of x.body) m))))))
    (λ l.
    pick_elim (λ o. better a (some b) ≡ better b o) (ltb (stamp_of a.body) (stamp_of x.body))
    (λ m.
    pick_true (ltb (stamp_of a.body) (stamp_of b.body)) (some b) (some a)
    (lt→ltb (stamp_of a.body) (stamp_of b.body) (omega (arith, ltb→lt (stamp_of a.body) (stamp_of x.body) m, nltb→le (stamp_of b.body) (stamp_of x.body) l)))
    ∙ sym (pick_false (ltb (stamp_of b.body) (stamp_of x.body)) (some x) (some b) l))
    (λ m. higher a b n))

pick_both : {A : Type 0} (c d : Bool) (F G : A → A) (o : A) → F (G o) ≡ G (F o)
    → pick c (F (pick d (G o) o)) (pick d (G o) o) ≡ pick d (G (pick c (F o) o)) (pick c (F o) o)
pick_both true true F G o h = h
pick_both true false F G o h = refl
pick_both false true F G o h = refl
pick_both false false F G o h = refl

newest_swap : (p : Entry → Bool) (k s : ℕ) (a b : Entry) (t : List Entry) → (stamp_of a.body ≡ stamp_of b.body → ⊥)
    → newest p k s (a ∷ b ∷ t) ≡ newest p k s (b ∷ a ∷ t)
unfolding newest
newest_swap p k s a b t n =
    pick_both (p a && (writes_key a.body k && ltb (stamp_of a.body) s)) (p b && (writes_key b.body k && ltb (stamp_of b.body) s)) (better a) (better b)
    (newest p k s t) (better_swap a b (newest p k s t) n)

pub newest_same : {t u : List Entry} (p : Entry → Bool) (k s : ℕ) → Reordered t u → newest p k s t ≡ newest p k s u
unfolding newest
newest_same p k s same = refl
newest_same p k s (behind w) = rw (newest_same p k s w)
newest_same p k s (swapped {a = a} {b = b} {t = t} n) = newest_swap p k s a b t n
newest_same p k s (further w v) = newest_same p k s w ∙ newest_same p k s v

-- ---- an entry that is put into both
pub put_same : {t u : List Entry} (e : Entry) → Reordered t u → Reordered (put e t) (put e u)
unfolding put
put_same e same = same
put_same e (behind {e = x} {t = t} {u = u} w) = go (eqb (stamp_of x.body) (stamp_of e.body)) (put_same e w)
  where
    go : (c : Bool) → Reordered (put e t) (put e u) → Reordered (pick c (e ∷ t) (x ∷ put e t)) (pick c (e ∷ u) (x ∷ put e u))
    go true r = behind w
    go false r = behind r
put_same e (swapped {a = a} {b = b} {t = t} n) =
    go (eqb (stamp_of a.body) (stamp_of e.body)) (eqb (stamp_of b.body) (stamp_of e.body)) (eqb→eq _ _) (eqb→eq _ _)
  where
    go : (c d : Bool) → (T c → stamp_of a.body ≡ stamp_of e.body) → (T d → stamp_of b.body ≡ stamp_of e.body)
        → Reordered (pick c (e ∷ b ∷ t) (a ∷ pick d (e ∷ t) (b ∷ put e t))) (pick d (e ∷ a ∷ t) (b ∷ pick c (e ∷ t) (a ∷ put e t)))
    go true true p q = absurd (n (p tt ∙ sym (q tt)))
    go true false p q = swapped (λ r. n (p tt ∙ r))
    go false true p q = swapped (λ r. n (r ∙ sym (q tt)))
    go false false p q = swapped n
put_same e (further w v) = further (put_same e w) (put_same e v)

-- ---- what stays above a low mark
pub above_same : {t u : List Entry} (l : ℕ) → Reordered t u → Reordered (above l t) (above l u)
unfolding above
above_same l same = same
above_same l (behind {e = x} {t = t} {u = u} w) = go (up_to l x) (above_same l w)
  where
    go : (c : Bool) → Reordered (above l t) (above l u) → Reordered (pick c (above l t) (x ∷ above l t)) (pick c (above l u) (x ∷ above l u))
    go true r = r
    go false r = behind r
above_same l (swapped {a = a} {b = b} {t = t} n) = go (up_to l a) (up_to l b)
  where
    go : (c d : Bool)
        → Reordered (pick c (pick d (above l t) (b ∷ above l t)) (a ∷ pick d (above l t) (b ∷ above l t)))
        (pick d (pick c (above l t) (a ∷ above l t)) (b ∷ pick c (above l t) (a ∷ above l t)))
    go true true = same
    go true false = same
    go false true = same
    go false false = swapped n
above_same l (further w v) = further (above_same l w) (above_same l v)

put_here : (e x : Entry) (t : List Entry) → T (eqb (stamp_of x.body) (stamp_of e.body)) → put e (x ∷ t) ≡ e ∷ t
unfolding put
put_here e x t h = pick_true (eqb (stamp_of x.body) (stamp_of e.body)) (e ∷ t) (x ∷ put e t) h

put_there : (e x : Entry) (t : List Entry) → (stamp_of x.body ≡ stamp_of e.body → ⊥) → put e (x ∷ t) ≡ x ∷ put e t
unfolding put
put_there e x t h = pick_false (eqb (stamp_of x.body) (stamp_of e.body)) (e ∷ t) (x ∷ put e t) (neqb _ _ h)

-- two entries of different stamps, put in either order
pub put_put : (e o : Entry) (t : List Entry) → (stamp_of e.body ≡ stamp_of o.body → ⊥) → Reordered (put e (put o t)) (put o (put e t))
unfolding put
put_put e o [] n = rw (put_there e o [] (λ q. n (sym q)), put_there o e [] n) (swapped (λ q. n (sym q)))
put_put e o (x ∷ t) n =
    go (decide_t (eqb (stamp_of x.body) (stamp_of e.body))) (decide_t (eqb (stamp_of x.body) (stamp_of o.body))) (put_put e o t n)
  where
    is : (y : Entry) → T (eqb (stamp_of x.body) (stamp_of y.body)) → stamp_of x.body ≡ stamp_of y.body
    is y h = eqb→eq (stamp_of x.body) (stamp_of y.body) h

    go : T (eqb (stamp_of x.body) (stamp_of e.body)) ⊎ T (not (eqb (stamp_of x.body) (stamp_of e.body)))
        → T (eqb (stamp_of x.body) (stamp_of o.body)) ⊎ T (not (eqb (stamp_of x.body) (stamp_of o.body)))
        → Reordered (put e (put o t)) (put o (put e t)) → Reordered (put e (put o (x ∷ t))) (put o (put e (x ∷ t)))
    go (inl p) (inl q) r = absurd (n (sym (is e p) ∙ is o q))
    go (inl p) (inr q) r =
        rw (put_there o x t (not_eqb _ _ q), put_here e x (put o t) p, put_here e x t p, put_there o e t n) same
    go (inr p) (inl q) r =
        rw (put_here o x t q, put_there e o t (λ y. n (sym y)), put_there e x t (not_eqb _ _ p), put_here o x (put e t) q) same
    go (inr p) (inr q) r =
        rw (put_there o x t (not_eqb _ _ q), put_there e x (put o t) (not_eqb _ _ p), put_there e x t (not_eqb _ _ p), put_there o x (put e t) (not_eqb _ _ q))
        (behind r)

-- a put takes one place more where its stamp is not held, and none where it is
pub put_new : (e : Entry) (t : List Entry) → find (stamp_of e.body) t ≡ none → length (put e t) ≡ suc (length t)
unfolding put find
put_new e [] h = refl
put_new e (x ∷ t) h =
    pick_elim (λ o. o ≡ none → length (put e (x ∷ t)) ≡ suc (suc (length t))) (eqb (stamp_of x.body) (stamp_of e.body))
    (λ k p. absurd (none_some p refl))
    (λ k p. rw (put_there e x t (not_eqb _ _ k)) (ap suc (put_new e t p)))
    h

pub put_held : (e : Entry) (t : List Entry) (y : Entry) → find (stamp_of e.body) t ≡ some y → length (put e t) ≡ length t
unfolding put find
put_held e [] y h = absurd (none_some refl h)
put_held e (x ∷ t) y h =
    pick_elim (λ o. o ≡ some y → length (put e (x ∷ t)) ≡ suc (length t)) (eqb (stamp_of x.body) (stamp_of e.body))
    (λ k p. rw (put_here e x t k))
    (λ k p. rw (put_there e x t (not_eqb _ _ k)) (ap suc (put_held e t y p)))
    h
