-- What RD's committed half is: the highest stamp below, among the committed writers of the key.
use Prim.Native.Nat.{ℕ, ◌≤◌, ◌<◌}
use mathlib.Core.Bool.{Bool, not, ◌&&◌}
use mathlib.Core.Path.{◌≡◌, refl}
use mathlib.Core.Logic.{◌⊎◌, inl, inr}
use mathlib.Core.Option.{Option, some, none}
use mathlib.Core.List.Memᴰ
use mathlib.Core.List.Memᴰ.{head as here}
use mathlib.Core.List.Memᴰ.{tail as there}
use mathlib.Core.List.{List, [], ◌∷◌, Memᴰ as In}
use native.Mathlib.Omega.{arith}
use lib.Dec.{T, ltb, ltb→lt, nltb→le, lt→ltb}
use Rattle.terms.specs.declared.Decision.TheVariants.{Commit as commit, Abort as abort}
use Rattle.rules.specs.Answers.{Settled, settled, unsettled}
use Rattle.rules.specs.Bodies.{stamp_of, writes_key}
use Rattle.rules.specs.Table.{Entry}
use Rattle.rules.specs.Calls.{better, newest, is_committed}
use Rattle.rules.proofs.Laws.{pick_elim, and_l, and_r, both, no_both}

-- what is looked for: committed, a writer of the key, below the stamp
pub record Fits (k s : ℕ) (e : Entry) : Type 0 where
  pub committed : e.decided ≡ settled commit
  pub writes : T (writes_key e.body k)
  pub below : stamp_of e.body < s

abbrev pub committed : Entry → Bool
committed e = is_committed e.decided

is_committed_lem : (d : Settled) → T (is_committed d) → d ≡ settled commit
unfolding is_committed
is_committed_lem unsettled h = absurd h
is_committed_lem (settled commit) h = refl
is_committed_lem (settled abort) h = absurd h

committed_is : (d : Settled) → d ≡ settled commit → T (is_committed d)
unfolding is_committed
committed_is d e = rw e tt

passed : (k s : ℕ) (e : Entry) → T (committed e && (writes_key e.body k && ltb (stamp_of e.body) s)) → Fits k s e
passed k s e h =
    let r = and_r (committed e) (writes_key e.body k && ltb (stamp_of e.body) s) h in
    record {
      committed = is_committed_lem e.decided (and_l (committed e) (writes_key e.body k && ltb (stamp_of e.body) s) h);
      writes = and_l (writes_key e.body k) (ltb (stamp_of e.body) s) r;
      below = ltb→lt (stamp_of e.body) s (and_r (writes_key e.body k) (ltb (stamp_of e.body) s) r);
    }

pass_by : (k s : ℕ) (e : Entry) → Fits k s e → T (committed e && (writes_key e.body k && ltb (stamp_of e.body) s))
pass_by k s e h =
    both (committed e) (writes_key e.body k && ltb (stamp_of e.body) s) (committed_is e.decided h.committed)
    (both (writes_key e.body k) (ltb (stamp_of e.body) s) h.writes (lt→ltb (stamp_of e.body) s h.below))

-- the answer: none fits, or one that fits with no higher one
pub data Newest (k s : ℕ) (t : List Entry) : Option Entry → Type 0 where
  no_one : ((e : Entry) → In e t → Fits k s e → ⊥) → Newest k s t none
  this : (e : Entry) → In e t → Fits k s e → ((o : Entry) → In o t → Fits k s o → stamp_of o.body ≤ stamp_of e.body) → Newest k s t (some e)

module _ (k s : ℕ) (x : Entry) (xs : List Entry) where
  -- one more that fits
  with_it : Fits k s x → {o : Option Entry} → Newest k s xs o → Newest k s (x ∷ xs) (better x o)
  unfolding better
  with_it h (no_one n) = this x (here refl) h (λ o m q. first o q (Memᴰ.cases_cons m))
    where
      first : (o : Entry) → Fits k s o → (o ≡ x) ⊎ In o xs → stamp_of o.body ≤ stamp_of x.body
      first o q (inl e) = rw e (omega arith)
      first o q (inr m) = absurd (n o m q)
  with_it h (this y m q top) =
      pick_elim (Newest k s (x ∷ xs)) (ltb (stamp_of x.body) (stamp_of y.body))
      (λ l. this y (there m) q (λ o i g. old o g (ltb→lt (stamp_of x.body) (stamp_of y.body) l) (Memᴰ.cases_cons i)))
      (λ l. this x (here refl) h (λ o i g. new o g (not_below l) (Memᴰ.cases_cons i)))
    where
      not_below : T (not (ltb (stamp_of x.body) (stamp_of y.body))) → stamp_of y.body ≤ stamp_of x.body
      not_below l = nltb→le (stamp_of x.body) (stamp_of y.body) l

      old : (o : Entry) → Fits k s o → stamp_of x.body < stamp_of y.body → (o ≡ x) ⊎ In o xs → stamp_of o.body ≤ stamp_of y.body
      old o g l (inl e) = rw e (omega arith)
      old o g l (inr i) = top o i g

      new : (o : Entry) → Fits k s o → stamp_of y.body ≤ stamp_of x.body → (o ≡ x) ⊎ In o xs → stamp_of o.body ≤ stamp_of x.body
      new o g l (inl e) = rw e (omega arith)
      new o g l (inr i) = let r = top o i g in omega arith

  -- one that does not fit
  without_it : (Fits k s x → ⊥) → {o : Option Entry} → Newest k s xs o → Newest k s (x ∷ xs) o
  without_it n (no_one f) = no_one (λ e m q. go e q (Memᴰ.cases_cons m))
    where
      go : (e : Entry) → Fits k s e → (e ≡ x) ⊎ In e xs → ⊥
      go e q (inl u) = n (rw u at q)
      go e q (inr m) = f e m q
  without_it n (this y m q top) = this y (there m) q (λ o i g. go o g (Memᴰ.cases_cons i))
    where
      go : (o : Entry) → Fits k s o → (o ≡ x) ⊎ In o xs → stamp_of o.body ≤ stamp_of y.body
      go o g (inl u) = absurd (n (rw u at g))
      go o g (inr i) = top o i g

pub newest_is : (k s : ℕ) (t : List Entry) → Newest k s t (newest committed k s t)
unfolding newest
newest_is k s [] = no_one (λ e m q. elim m [ ])
newest_is k s (x ∷ xs) =
    pick_elim (Newest k s (x ∷ xs)) (committed x && (writes_key x.body k && ltb (stamp_of x.body) s))
    (λ h. with_it k s x xs (passed k s x h) (newest_is k s xs))
    (λ h. without_it k s x xs (λ g. clash h g) (newest_is k s xs))
  where
    clash : T (not (committed x && (writes_key x.body k && ltb (stamp_of x.body) s))) → Fits k s x → ⊥
    clash h g = no_both (committed x && (writes_key x.body k && ltb (stamp_of x.body) s)) (pass_by k s x g) h
