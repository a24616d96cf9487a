-- The newest writer of a key, and what a raised low mark leaves: the folds only rise, over what they take in, and the entries above it stay.
use Prim.Native.Nat.{ℕ, zero, suc, ◌+◌, ◌≤◌, ◌<◌}
use mathlib.Core.Bool.{Bool, not, ◌&&◌}
use mathlib.Core.Path.{◌≡◌, refl, sym, ◌∙◌, ap}
use mathlib.Core.Logic.{◌⊎◌, inl, inr}
use mathlib.Core.Option.{Option, some, none}
use mathlib.Core.List.Memᴰ
use mathlib.Core.List.Memᴰ.{head as here}
use mathlib.Core.List.Memᴰ.{tail as there}
use mathlib.Core.List.{List, [], ◌∷◌, Memᴰ as In}
use native.Mathlib.Omega.{arith}
use lib.Dec.{T, eqb, leb, leb→le, nleb→lt, ltb, ltb→lt, lt→ltb, nltb→le}
use lib.ListN.{get_or, length}
use Rattle.terms.specs.Choice.{pick, tab}
use Rattle.terms.proofs.Scans.{tab_get, tab_length}
use Rattle.rules.specs.Answers.{Settled, Version, abort, commit, settled, unsettled}
use Rattle.rules.specs.Bodies.{stamp_of, writes_key}
use Rattle.rules.specs.Table.{Entry, find, fold_at, no_version}
use Rattle.rules.specs.Calls.{better, is_committed, newest, version_of, version_or}
use Rattle.rules.specs.Low.{above, fold_up_to, folds_up_to, newer_fold, up_to}
use Rattle.rules.proofs.Laws.{ands, both, decide_t, neqb, pick_elim, pick_false, pick_true}
use Rattle.rules.proofs.Moves.{none_some, some_eq}

-- ---- the newest of those that pass and write the key
module _ (k : ℕ) where
  -- the stamp that is shown of what was found
  unfoldable pub shown : Option Entry → ℕ
  shown o = (version_of k o).stamp.0

  better_own : (e : Entry) (o : Option Entry) → stamp_of e.body ≤ shown (better e o)
  unfolding shown better version_of version_or
  better_own e none = omega arith
  better_own e (some o) =
      pick_elim (λ (r : Option Entry). stamp_of e.body ≤ shown r) (ltb (stamp_of e.body) (stamp_of o.body))
      (λ h. omega (arith, ltb→lt (stamp_of e.body) (stamp_of o.body) h))
      (λ h. omega arith)

  better_rest : (e : Entry) (o : Option Entry) → shown o ≤ shown (better e o)
  unfolding shown better version_of version_or
  better_rest e none = omega arith
  better_rest e (some o) =
      pick_elim (λ (r : Option Entry). stamp_of o.body ≤ shown r) (ltb (stamp_of e.body) (stamp_of o.body))
      (λ h. omega arith)
      (λ h. omega (arith, nltb→le (stamp_of e.body) (stamp_of o.body) h))

  -- no entry that passes and writes the key below the stamp is above what is found
  pub newest_up : (p : Entry → Bool) (s : ℕ) (t : List Entry) (e : Entry) → In e t → T (p e) → T (writes_key e.body k) → stamp_of e.body < s
      → stamp_of e.body ≤ shown (newest p k s t)
  unfolding newest
  newest_up p s [] e m h w l = elim m [ ]
  newest_up p s (x ∷ xs) e m h w l = go (Memᴰ.cases_cons m) (λ i. newest_up p s xs e i h w l)
    where
      own : T (p e && (writes_key e.body k && ltb (stamp_of e.body) s))
      own = both (p e) (writes_key e.body k && ltb (stamp_of e.body) s) h (both (writes_key e.body k) (ltb (stamp_of e.body) s) w (lt→ltb (stamp_of e.body) s l))

      go : (e ≡ x) ⊎ In e xs → (In e xs → stamp_of e.body ≤ shown (newest p k s xs))
          → stamp_of e.body ≤ shown (pick (p x && (writes_key x.body k && ltb (stamp_of x.body) s)) (better x (newest p k s xs)) (newest p k s xs))
      go (inl q) r =
          rw (pick_true (p x && (writes_key x.body k && ltb (stamp_of x.body) s)) (better x (newest p k s xs)) (newest p k s xs) (rw q at own))
          (omega (arith, better_own x (newest p k s xs), ap (λ (y : Entry). stamp_of y.body) q))
      go (inr i) r =
          pick_elim (λ (o : Option Entry). stamp_of e.body ≤ shown o) (p x && (writes_key x.body k && ltb (stamp_of x.body) s))
          (λ _. omega (arith, r i, better_rest x (newest p k s xs)))
          (λ _. r i)

  -- of the two one is taken
  better_which : (e : Entry) (o : Option Entry) (y : Entry) → better e o ≡ some y → (y ≡ e) ⊎ (o ≡ some y)
  unfolding better
  better_which e none y h = inl (some_eq h refl)
  better_which e (some o) y h =
      pick_elim (λ (r : Option Entry). r ≡ some y → (y ≡ e) ⊎ (some o ≡ some y)) (ltb (stamp_of e.body) (stamp_of o.body))
      (λ _ q. inr q)
      (λ _ q. inl (some_eq q refl))
      h

  -- what is found passes and writes the key below the stamp
  unfoldable pub fits : (Entry → Bool) → ℕ → Entry → Bool
  fits p s e = p e && (writes_key e.body k && ltb (stamp_of e.body) s)

  pub newest_in : (p : Entry → Bool) (s : ℕ) (t : List Entry) (e : Entry) → newest p k s t ≡ some e → In e t × T (fits p s e)
  unfolding newest fits
  newest_in p s [] e h = absurd (none_some refl h)
  newest_in p s (x ∷ xs) e h =
      pick_elim (λ (o : Option Entry). o ≡ some e → In e (x ∷ xs) × T (fits p s e)) (p x && (writes_key x.body k && ltb (stamp_of x.body) s))
      (λ u q. go u (better_which x (newest p k s xs) e q) (newest_in p s xs e))
      (λ _ q. later (newest_in p s xs e q))
      h
    where
      later : In e xs × T (fits p s e) → In e (x ∷ xs) × T (fits p s e)
      later w = (there w.0, w.1)

      go : T (fits p s x) → (e ≡ x) ⊎ (newest p k s xs ≡ some e) → (newest p k s xs ≡ some e → In e xs × T (fits p s e)) → In e (x ∷ xs) × T (fits p s e)
      go u (inl q) r = (here q, rw q u)
      go u (inr q) r = later (r q)

  -- RD shows what was found, or the fold where nothing was: not less than what was found
  pub shown_or : (g : Version) (o : Option Entry) → shown o ≤ (version_or k g o).stamp.0
  unfolding shown version_of version_or
  shown_or g none = omega arith
  shown_or g (some e) = omega arith

  -- ---- one fold
  newer_up : (g : Version) (o : Option Entry) → g.stamp.0 ≤ (newer_fold k g o).stamp.0
  unfolding newer_fold version_or
  newer_up g none = omega arith
  newer_up g (some e) =
      pick_elim (λ (y : Version). g.stamp.0 ≤ y.stamp.0) (ltb g.stamp.0 (stamp_of e.body))
      (λ l. omega (arith, ltb→lt g.stamp.0 (stamp_of e.body) l))
      (λ _. omega arith)

  newer_over : (g : Version) (o : Option Entry) → shown o ≤ (newer_fold k g o).stamp.0
  unfolding newer_fold version_or version_of shown
  newer_over g none = omega arith
  newer_over g (some e) =
      pick_elim (λ (y : Version). stamp_of e.body ≤ y.stamp.0) (ltb g.stamp.0 (stamp_of e.body))
      (λ _. omega arith)
      (λ n. nltb→le g.stamp.0 (stamp_of e.body) n)

  newer_from : (g : Version) (o : Option Entry)
      → ((newer_fold k g o).stamp.0 ≡ g.stamp.0) ⊎ ((e : Entry) × (o ≡ some e) × (stamp_of e.body ≡ (newer_fold k g o).stamp.0))
  unfolding newer_fold version_or
  newer_from g none = inl refl
  newer_from g (some e) =
      pick_elim (λ (y : Version). (y.stamp.0 ≡ g.stamp.0) ⊎ ((o : Entry) × (some e ≡ some o) × (stamp_of o.body ≡ y.stamp.0)))
      (ltb g.stamp.0 (stamp_of e.body))
      (λ _. inr (e, refl, refl))
      (λ _. inl refl)

committed_eq : (o : Settled) → T (is_committed o) → o ≡ settled commit
unfolding is_committed
committed_eq unsettled h = absurd h
committed_eq (settled commit) h = refl
committed_eq (settled abort) h = absurd h

-- a committed writer of the key at or below the low mark
pub record FoldsIn (t : List Entry) (l k : ℕ) (e : Entry) : Type 0 where
  pub inside : In e t
  pub committed : e.decided ≡ settled commit
  pub writes : T (writes_key e.body k)
  pub below : stamp_of e.body ≤ l

-- the fold of a key that there is; there is none of others
tab_past : {A : Type 0} (f : ℕ → A) (i n j : ℕ) (z : A) → n ≤ j → get_or (tab f i n) j z ≡ z
tab_past f i zero j z h = refl
tab_past f i (suc n) zero z h = absurd (omega arith)
tab_past f i (suc n) (suc j) z h = tab_past f (i + 1) n j z (omega arith)

module _ (l : ℕ) (t : List Entry) (folds : List Version) where
  pub folds_long : length (folds_up_to l t folds) ≡ 512
  unfolding folds_up_to
  folds_long = tab_length (fold_up_to l t folds) 0 512

  pub fold_is : (k : ℕ) → k < 512 → fold_at (folds_up_to l t folds) k ≡ fold_up_to l t folds k
  unfolding folds_up_to
  fold_is k h = let z : 0 + k ≡ k = omega arith in tab_get (fold_up_to l t folds) 0 512 k no_version h ∙ ap (fold_up_to l t folds) z

  fold_none : (k : ℕ) → 512 ≤ k → fold_at (folds_up_to l t folds) k ≡ no_version
  unfolding folds_up_to
  fold_none k h = tab_past (fold_up_to l t folds) 0 512 k no_version h

  -- it only rises
  pub fold_up : (k : ℕ) → k < 512 → (fold_at folds k).stamp.0 ≤ (fold_at (folds_up_to l t folds) k).stamp.0
  unfolding fold_up_to
  fold_up k h = rw (fold_is k h) (newer_up k (fold_at folds k) (newest (λ e. is_committed e.decided) k (suc l) t))

  -- over every committed writer at or below the mark
  pub fold_over : (k : ℕ) → k < 512 → (e : Entry) → FoldsIn t l k e → stamp_of e.body ≤ (fold_at (folds_up_to l t folds) k).stamp.0
  unfolding fold_up_to is_committed
  fold_over k h e w =
      rw (fold_is k h)
      (omega (
        arith,
        newest_up k (λ o. is_committed o.decided) (suc l) t e w.inside (rw w.committed tt) w.writes (omega (arith, w.below)),
        newer_over k (fold_at folds k) (newest (λ o. is_committed o.decided) k (suc l) t),
      ))

  -- and is what it was, none, or one of those
  pub data From (k : ℕ) : Type 0 where
    as_it_was : (fold_at (folds_up_to l t folds) k).stamp.0 ≡ (fold_at folds k).stamp.0 → From k
    without : (fold_at (folds_up_to l t folds) k).stamp.0 ≡ 0 → From k
    folded_in : (e : Entry) → FoldsIn t l k e → stamp_of e.body ≡ (fold_at (folds_up_to l t folds) k).stamp.0 → From k

  pub fold_from : (k : ℕ) → From k
  unfolding fold_up_to fits
  fold_from k = go (decide_t (ltb k 512))
    where
      found : Option Entry
      found = newest (λ e. is_committed e.decided) k (suc l) t

      writer : (e : Entry) → In e t × T (fits k (λ o. is_committed o.decided) (suc l) e) → FoldsIn t l k e
      writer e y =
          let z = y.1 in
          let c : T (is_committed e.decided) = search ands in
          let v : T (writes_key e.body k) = search ands in
          let u : T (ltb (stamp_of e.body) (suc l)) = search ands in
          record { inside = y.0; committed = committed_eq e.decided c; writes = v; below = omega (arith, ltb→lt (stamp_of e.body) (suc l) u) }

      by : fold_at (folds_up_to l t folds) k ≡ newer_fold k (fold_at folds k) found
          → ((newer_fold k (fold_at folds k) found).stamp.0 ≡ (fold_at folds k).stamp.0)
          ⊎ ((e : Entry) × (found ≡ some e) × (stamp_of e.body ≡ (newer_fold k (fold_at folds k) found).stamp.0)) → From k
      by q (inl y) = as_it_was (ap (λ (v : Version). v.stamp.0) q ∙ y)
      by q (inr y) =
          folded_in y.0 (writer y.0 (newest_in k (λ e. is_committed e.decided) (suc l) t y.0 y.1))
          (y.2 ∙ sym (ap (λ (v : Version). v.stamp.0) q))

      go : T (ltb k 512) ⊎ T (not (ltb k 512)) → From k
      go (inl y) = by (fold_is k (ltb→lt k 512 y)) (newer_from k (fold_at folds k) found)
      go (inr n) = without (ap (λ (v : Version). v.stamp.0) (fold_none k (nltb→le k 512 n)))

-- ---- what stays
pub in_above : (l : ℕ) (o : Entry) (t : List Entry) → In o (above l t) → In o t × (l < stamp_of o.body)
unfolding above up_to
in_above l o [] h = elim h [ ]
in_above l o (x ∷ xs) h =
    pick_elim (λ (t : List Entry). In o t → In o (x ∷ xs) × (l < stamp_of o.body)) (leb (stamp_of x.body) l)
    (λ _ i. later (in_above l o xs i))
    (λ n i. go (nleb→lt (stamp_of x.body) l n) (Memᴰ.cases_cons i) (in_above l o xs))
    h
  where
    later : In o xs × (l < stamp_of o.body) → In o (x ∷ xs) × (l < stamp_of o.body)
    later w = (there w.0, w.1)

    go : l < stamp_of x.body → (o ≡ x) ⊎ In o (above l xs) → (In o (above l xs) → In o xs × (l < stamp_of o.body)) → In o (x ∷ xs) × (l < stamp_of o.body)
    go n (inl q) r = (here q, rw q n)
    go n (inr i) r = later (r i)

pub find_above : (l s : ℕ) (t : List Entry) → l < s → find s (above l t) ≡ find s t
unfolding find above up_to
find_above l s [] h = refl
find_above l s (x ∷ xs) h =
    pick_elim (λ (t : List Entry). find s t ≡ find s (x ∷ xs)) (leb (stamp_of x.body) l)
    (λ k.
    find_above l s xs h
    ∙ sym (pick_false (eqb (stamp_of x.body) s) (some x) (find s xs) (neqb (stamp_of x.body) s (λ q. omega (arith, leb→le (stamp_of x.body) l k)))))
    (λ k. ap (λ o. pick (eqb (stamp_of x.body) s) (some x) o) (find_above l s xs h))

pub above_fewer : (l : ℕ) (t : List Entry) → length (above l t) ≤ length t
unfolding above up_to
above_fewer l [] = omega arith
above_fewer l (x ∷ xs) =
    pick_elim (λ (t : List Entry). length t ≤ length (x ∷ xs)) (leb (stamp_of x.body) l)
    (λ _. omega (arith, above_fewer l xs))
    (λ _. omega (arith, above_fewer l xs))
