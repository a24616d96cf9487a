-- What a box has taken, along every trace: it stands or was let go, and what is shown of a key is the newest of it.
use Prim.Native.Nat.{ℕ, suc, ◌≤◌, ◌<◌}
use mathlib.Core.Path.{◌≡◌, refl, sym, ap, ◌∙◌}
use mathlib.Core.Logic.{◌⊎◌, inl, inr}
use mathlib.Core.Option.{Option}
use mathlib.Core.List.{List, [], ◌∷◌, Memᴰ as In}
use native.Mathlib.Omega.{arith}
use lib.Dec.{T, ltb}
use lib.ListN.{get_or-replicate}
use Rattle.records.specs.Contents.{largest_key}
use Rattle.rules.specs.declared.Version.{Version}
use Rattle.rules.specs.Bodies.{Body, stamp_of, writes_of, writes_key}
use Rattle.rules.specs.Table.{Entry, empty, fold_at, no_version}
use Rattle.rules.specs.Calls.{rd_answer, value_at, version_or}
use Rattle.rules.specs.Low.{fold_up_to, newer_fold}
use Rattle.rules.specs.System.{Event, box_at}
use Rattle.rules.proofs.Laws.{pick_elim, find_in, lt_cases}
use Rattle.rules.proofs.Moves.{some_eq}
use Rattle.rules.proofs.Folds.{fold_is, fold_over, fold_up, find_above}
use Rattle.rules.proofs.Trace.{table, low, folds, Step, still, arrives, lifts, Lifted, step}
use Rattle.rules.proofs.Local.{local}
use Rattle.passage.specs.Register.{version_at, Takes, Taken, LetGo, Stands, TakenBelow, NewestTaken, never, top}
use Rattle.passage.specs.Register.{TakenStands, StandsTaken, AllStand, TakenOnce, ShowsTaken}
use Rattle.passage.proofs.Newest.{Fits, Newest, no_one, this, newest_is}
use Rattle.passage.proofs.Boxes.{shown}
use Rattle.passage.proofs.Taking.{Held, stays, taken_now}
use Rattle.passage.proofs.Coming.{committed_taken}

module _ (f i : ℕ) where
  -- ---- it stands, or was let go
  record Gone (es : List Event) (b : Body) : Type 0 where
    below : stamp_of b ≤ low f i es
    folded : (k : ℕ) → k ≤ largest_key → T (writes_key b k) → stamp_of b ≤ (fold_at (folds f i es) k).stamp.0

  abbrev Where : List Event → Body → Type 0
  Where es b = Held (table f i es) b ⊎ Gone es b

  gone_same : (b : Body) (e : Event) (es : List Event) → low f i (e ∷ es) ≡ low f i es → folds f i (e ∷ es) ≡ folds f i es → Gone es b → Gone (e ∷ es) b
  gone_same b e es l g y = record { below = rw l y.below; folded = λ k h w. rw g (y.folded k h w) }

  lifted : (b : Body) (e : Event) (es : List Event) → Lifted f i e es → Where es b → Where (e ∷ es) b
  lifted b e es s (inr y) = inr (record {
    below = rw s.low_now (omega (arith, y.below, s.higher));
    folded = λ k h w. rw s.folds_now (omega (arith, y.folded k h w, fold_up s.mark (table f i es) (folds f i es) k (omega arith)));
  })
  lifted b e es s (inl y) = go (lt_cases s.mark (stamp_of b))
    where
      go : (s.mark < stamp_of b) ⊎ (stamp_of b ≤ s.mark) → Where (e ∷ es) b
      go (inl h) = inl (record {
        entry = y.entry;
        at = rw s.table_now (find_above s.mark (stamp_of b) (table f i es) h ∙ y.at);
        body = y.body;
        committed = y.committed;
      })
      go (inr h) = inr (record {
        below = rw s.low_now h;
        folded = λ k j w. rw (s.folds_now, ← y.body) (fold_over s.mark (table f i es) (folds f i es) k (omega arith) y.entry (record {
          inside = find_in (stamp_of b) (table f i es) y.entry y.at;
          committed = y.committed;
          writes = rw y.body w;
          below = rw y.body h;
        }));
      })

  where_now : (b : Body) (e : Event) (es : List Event) → Where es b → Where (e ∷ es) b
  unfolding table
  where_now b e es y = go (step f i e es) y
    where
      go : Step f i e es → Where es b → Where (e ∷ es) b
      go (still s) (inl h) = inl (rw s.table_now h)
      go (still s) (inr h) = inr (gone_same b e es s.low_now s.folds_now h)
      go (lifts s) h = lifted b e es s h
      go (arrives s) (inr h) = inr (gone_same b e es s.low_now s.folds_now h)
      go (arrives s) (inl h) = inl (record {
        entry = h.entry;
        at = rw s.table_now (stays s.move b h.entry h.at h.committed);
        body = h.body;
        committed = h.committed;
      })

  where_is : (b : Body) (es : List Event) → Taken f i b es → Where es b
  unfolding Taken
  where_is b [] t = absurd t
  where_is b (e ∷ es) (inl t) = inl (taken_now f i b e es t).1
  where_is b (e ∷ es) (inr t) = where_now b e es (where_is b es t)

  -- no stamp that was taken is 0
  not_0 : (b : Body) (es : List Event) → Taken f i b es → 1 ≤ stamp_of b
  unfolding Taken
  not_0 b [] t = absurd t
  not_0 b (e ∷ es) (inl t) = omega (arith, (taken_now f i b e es t).0)
  not_0 b (e ∷ es) (inr t) = not_0 b es t

  -- ---- one body to a stamp
  one_held : (t : List Entry) (b c : Body) → Held t b → Held t c → stamp_of b ≡ stamp_of c → b ≡ c
  one_held t b c h k q =
      let e : h.entry ≡ k.entry = some_eq h.at (rw q k.at) in
      sym h.body ∙ (ap (λ (o : Entry). o.body) e ∙ k.body)

  with_new : (b c : Body) (e : Event) (es : List Event) → Takes f i b e es → Taken f i c es → stamp_of b ≡ stamp_of c → b ≡ c
  with_new b c e es t u q = go (where_now c e es (where_is c es u))
    where
      go : Where (e ∷ es) c → b ≡ c
      go (inl h) = one_held (table f i (e ∷ es)) b c (taken_now f i b e es t).1 h q
      go (inr y) = absurd (omega (arith, (taken_now f i b e es t).0, y.below, q))

  pub once : (b c : Body) (es : List Event) → Taken f i b es → Taken f i c es → stamp_of b ≡ stamp_of c → b ≡ c
  unfolding Taken
  once b c [] t u q = absurd t
  once b c (e ∷ es) (inl t) (inl u) q = sym t.body ∙ u.body
  once b c (e ∷ es) (inl t) (inr u) q = with_new b c e es t u q
  once b c (e ∷ es) (inr t) (inl u) q = sym (with_new c b e es u t (sym q))
  once b c (e ∷ es) (inr t) (inr u) q = once b c es t u q

  -- ---- what is folded was taken
  record Folding (es : List Event) (k : ℕ) (v : Version) : Type 0 where
    body : Body
    taken : Taken f i body es
    writes : T (writes_key body k)
    below : stamp_of body ≤ low f i es
    version : v ≡ version_at (stamp_of body) (value_at k (writes_of body))

  abbrev Folded : List Event → ℕ → Version → Type 0
  Folded es k v = (v ≡ no_version) ⊎ Folding es k v

  folded_later : (e : Event) (es : List Event) (k : ℕ) (v : Version) → low f i es ≤ low f i (e ∷ es) → Folded es k v → Folded (e ∷ es) k v
  unfolding Taken
  folded_later e es k v l (inl q) = inl q
  folded_later e es k v l (inr y) =
      inr (record { body = y.body; taken = inr y.taken; writes = y.writes; below = omega (arith, y.below, l); version = y.version })

  fold_new : (e : Event) (es : List Event) (l k : ℕ) (g : Version) → low f i (e ∷ es) ≡ l → Folded (e ∷ es) k g → {o : Option Entry}
      → Newest k (suc l) (table f i es) o → Folded (e ∷ es) k (newer_fold k g o)
  unfolding newer_fold version_or Taken
  fold_new e es l k g q y (no_one n) = y
  fold_new e es l k g q y (this o m w most) =
      pick_elim (Folded (e ∷ es) k) (ltb g.stamp.0 (stamp_of o.body))
      (λ _. inr (record {
        body = o.body;
        taken = inr (committed_taken f i es o m w.committed);
        writes = w.writes;
        below = rw q (omega (arith, w.below));
        version = refl;
      }))
      (λ _. y)

  folded_is : (k : ℕ) → k ≤ largest_key → (es : List Event) → Folded es k (fold_at (folds f i es) k)
  unfolding folds box_at empty fold_up_to
  folded_is k h [] = inl (get_or-replicate 512 k no_version no_version (omega arith))
  folded_is k h (e ∷ es) = go (step f i e es) (folded_is k h es)
    where
      go : Step f i e es → Folded es k (fold_at (folds f i es) k) → Folded (e ∷ es) k (fold_at (folds f i (e ∷ es)) k)
      go (still s) y = rw s.folds_now (folded_later e es k _ (rw s.low_now (omega arith)) y)
      go (arrives s) y = rw s.folds_now (folded_later e es k _ (rw s.low_now (omega arith)) y)
      go (lifts s) y =
          rw (s.folds_now, fold_is s.mark (table f i es) (folds f i es) k (omega arith))
          (fold_new e es s.mark k (fold_at (folds f i es) k) s.low_now
          (folded_later e es k _ (rw s.low_now (omega (arith, s.higher))) y)
          (newest_is k (suc s.mark) (table f i es)))

  -- ---- what is shown of a key: the newest of what was taken below the stamp, or none
  -- s is above what was let go
  abbrev pub Sees : List Event → ℕ → Type 0
  Sees es s = (n : ℕ) → 1 ≤ n → n ≤ low f i es → n < s

  pub sees_above : (es : List Event) (s : ℕ) → (box_at f i es).low < s → Sees es s
  unfolding low
  sees_above es s h n a b = omega arith

  pub sees_all : (es : List Event) (s : ℕ) → (box_at f i es).low ≡ 0 → Sees es s
  unfolding low
  sees_all es s z n a b = absurd (omega arith)

  module _ (es : List Event) (k s : ℕ) (h : k ≤ largest_key) (sees : Sees es s) where
    fits_held : (b : Body) → TakenBelow f i es k s b → (y : Held (table f i es) b) → Fits k s y.entry
    fits_held b w y = record { committed = y.committed; writes = rw y.body w.writes; below = rw y.body w.below }

    inside_held : (b : Body) (y : Held (table f i es) b) → In y.entry (table f i es)
    inside_held b y = find_in (stamp_of b) (table f i es) y.entry y.at

    -- where no entry fits, all was let go
    all_gone : ((e : Entry) → In e (table f i es) → Fits k s e → ⊥) → (b : Body) → TakenBelow f i es k s b → Gone es b
    all_gone n b w = go (where_is b es w.taken)
      where
        go : Where es b → Gone es b
        go (inl y) = absurd (n y.entry (inside_held b y) (fits_held b w y))
        go (inr y) = y

    by_fold : ((e : Entry) → In e (table f i es) → Fits k s e → ⊥) → (v : Version) → fold_at (folds f i es) k ≡ v → Folded es k v → NewestTaken f i es k s v
    by_fold n v q (inl z) =
        rw z (never (λ b w.
        omega (arith, not_0 b es w.taken, (all_gone n b w).folded k h w.writes, ap (λ (u : Version). u.stamp.0) (q ∙ z))))
    by_fold n v q (inr y) =
        rw y.version
        (top y.body
        (record { taken = y.taken; writes = y.writes; below = sees (stamp_of y.body) (not_0 y.body es y.taken) y.below })
        (λ c w. omega (arith, (all_gone n c w).folded k h w.writes, ap (λ (u : Version). u.stamp.0) (q ∙ y.version))))

    by_table : {o : Option Entry} → Newest k s (table f i es) o → NewestTaken f i es k s (version_or k (fold_at (folds f i es) k) o)
    unfolding version_or
    by_table (no_one n) = by_fold n (fold_at (folds f i es) k) refl (folded_is k h es)
    by_table (this e m q up) =
        top e.body (record { taken = committed_taken f i es e m q.committed; writes = q.writes; below = q.below })
        (λ c w. go c w (where_is c es w.taken))
      where
        go : (c : Body) → TakenBelow f i es k s c → Where es c → stamp_of c ≤ stamp_of e.body
        go c w (inl y) = rw y.body at (up y.entry (inside_held c y) (fits_held c w y))
        go c w (inr y) = omega (arith, y.below, (local f i es).high e m)

    pub shown_top : NewestTaken f i es k s (shown (box_at f i es) k s)
    unfolding shown table folds
    shown_top = by_table (newest_is k s (table f i es))

-- ---- the claims
pub taken_stands : TakenStands
unfolding table low folds
taken_stands f i b es t = go (where_is f i b es t)
  where
    go : Held (table f i es) b ⊎ Gone f i es b → Stands (box_at f i es) b ⊎ LetGo (box_at f i es) b
    go (inl h) =
        inl (record { entry = h.entry; inside = find_in (stamp_of b) (table f i es) h.entry h.at; body = h.body; committed = h.committed })
    go (inr y) = inr (record { below = y.below; folded = y.folded })

pub stands_taken : StandsTaken
unfolding table
stands_taken f i b es h = rw h.body at (committed_taken f i es h.entry h.inside h.committed)

pub all_stand : AllStand
all_stand f i b es z t = go (taken_stands f i b es t)
  where
    go : Stands (box_at f i es) b ⊎ LetGo (box_at f i es) b → Stands (box_at f i es) b
    go (inl h) = h
    go (inr y) = absurd (omega (arith, y.below, z, not_0 f i b es t))

pub taken_once : TakenOnce
taken_once f i b c es t u q = once f i b c es t u q

pub shows_taken : ShowsTaken
unfolding shown rd_answer
shows_taken f i es k s h l = shown_top f i es k s h (sees_above f i es s l)
