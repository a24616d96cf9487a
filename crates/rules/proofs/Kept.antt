-- What a move keeps of the words that a box gave.
use Prim.Native.Nat.{ℕ, ◌≤◌, ◌<◌}
use mathlib.Core.Bool.{not}
use mathlib.Core.Path.{◌≡◌, refl, sym, ◌∙◌, ap}
use mathlib.Core.Logic.{◌⊎◌, inl, inr}
use mathlib.Core.Option.{Option, some}
use mathlib.Core.List.{List}
use native.Mathlib.Omega.{arith}
use lib.Dec.{T, eqb, eqb→eq}
use Rattle.rules.specs.Answers.{Decision, commit, settled, Log, logged_at, unlogged, log_view, view_as}
use Rattle.rules.specs.Bodies.{Body, stamp_of}
use Rattle.rules.specs.Table.{Entry, Box, find, put}
use Rattle.rules.specs.Calls.{Act, Change, nothing, puts, raises, raises_low, cast_act, log_act, decide_act}
use Rattle.rules.specs.Fallback.{elect_act}
use Rattle.rules.specs.Low.{above}
use Rattle.rules.specs.Act.{table_after, low_after, folds_after, EntryPoint}
use Rattle.rules.specs.System.{Word, vote, log, elect, cast}
use Rattle.rules.proofs.Laws.{decide_t, not_eqb, find_put_same, find_put_other}
use Rattle.rules.proofs.Folds.{find_above}
use Rattle.rules.proofs.Moves.{some_eq, un_settled, un_logged, Holds, Prior, Move, quiet, again, casts, logs_first, takes, elects, decides, replaces}

-- after a put: the new entry at its stamp, the old one elsewhere
pub put_cases : (s : ℕ) (e : Entry) (t : List Entry) → ((stamp_of e.body ≡ s) × (find s (put e t) ≡ some e)) ⊎ (find s (put e t) ≡ find s t)
put_cases s e t = go (decide_t (eqb (stamp_of e.body) s))
  where
    go : T (eqb (stamp_of e.body) s) ⊎ T (not (eqb (stamp_of e.body) s))
        → ((stamp_of e.body ≡ s) × (find s (put e t) ≡ some e)) ⊎ (find s (put e t) ≡ find s t)
    go (inl k) = let p = eqb→eq (stamp_of e.body) s k in inl (p, rw (← p) (find_put_same e t))
    go (inr k) = inr (find_put_other s e t (not_eqb (stamp_of e.body) s k))

-- a log that was given is the one that is held, or has given way to one of a higher view
unfoldable pub Tops : Log → Decision → ℕ → Type 0
Tops y d v = (y ≡ logged_at d (view_as v)) ⊎ (v < (log_view y).0)

pub tops_logged : (y : Log) (d : Decision) (v : ℕ) → Tops y d v → y ≡ unlogged → ⊥
unfolding Tops
tops_logged y d v (inl p) q = un_logged q p
tops_logged y d v (inr p) q = omega (arith, p, ap (λ (z : Log). (log_view z).0) q)

-- what an entry still shows of a word that it gave; an election answer needs a log, and leaves the current view no lower
unfoldable pub Keeps : Entry → Word → Type 0
Keeps e (vote d) = cast e.vote ≡ settled d
Keeps e (log d v) = Tops e.log d v
Keeps e (elect d v) = (e.log ≡ unlogged → ⊥) × (v ≤ (e.view).0)

pub holds_keeps : (e : Entry) (w : Word) → Holds (some e) w → Keeps e w
unfolding Holds Keeps Tops
holds_keeps e (vote d) h = h
holds_keeps e (log d v) h = inl h
holds_keeps e (elect d v) h = absurd h

-- what a box gave it still keeps, or its body was replaced by a committed one
pub record Kept (t : List Entry) (b : Body) (w : Word) : Type 0 where
  pub entry : Entry
  pub at : find (stamp_of b) t ≡ some entry
  pub how : ((entry.body ≡ b) × Keeps entry w) ⊎ ((entry.decided ≡ settled commit) × (entry.body ≡ b → ⊥))

pub data Grow (o e : Entry) : Type 0 where
  same_body : o.body ≡ e.body → ((w : Word) → Keeps o w → Keeps e w) → (o.decided ≡ settled commit → e.decided ≡ settled commit) → Grow o e
  new_body : (o.body ≡ e.body → ⊥) → (o.decided ≡ settled commit → ⊥) → e.decided ≡ settled commit → Grow o e

kept_put : (e : Entry) (t : List Entry) → ((o : Entry) → find (stamp_of e.body) t ≡ some o → Grow o e) → (b : Body) (w : Word) → Kept t b w
    → Kept (put e t) b w
kept_put e t g b w y = go (put_cases (stamp_of b) e t)
  where
    by : find (stamp_of b) (put e t) ≡ some e → Grow y.entry e
        → ((y.entry.body ≡ b) × Keeps y.entry w) ⊎ ((y.entry.decided ≡ settled commit) × (y.entry.body ≡ b → ⊥)) → Kept (put e t) b w
    by q (same_body s h c) (inl u) = record { entry = e; at = q; how = inl (sym s ∙ u.0, h w u.1) }
    by q (same_body s h c) (inr u) = record { entry = e; at = q; how = inr (c u.0, λ p. u.1 (s ∙ p)) }
    by q (new_body s n c) (inl u) = record { entry = e; at = q; how = inr (c, λ p. s (u.0 ∙ sym p)) }
    by q (new_body s n c) (inr u) = absurd (n u.0)

    go : ((stamp_of e.body ≡ stamp_of b) × (find (stamp_of b) (put e t) ≡ some e)) ⊎ (find (stamp_of b) (put e t) ≡ find (stamp_of b) t)
        → Kept (put e t) b w
    go (inl u) = by u.1 (g y.entry (rw u.0 y.at)) y.how
    go (inr u) = record { entry = y.entry; at = u ∙ y.at; how = y.how }

GrowsBy : List Entry → Change → Type 0
GrowsBy t nothing = Unit {0}
GrowsBy t (raises k s) = ⊥
GrowsBy t (raises_low l) = ⊥
GrowsBy t (puts e) = (o : Entry) → find (stamp_of e.body) t ≡ some o → Grow o e

-- a log stays or gives way to one of a higher view, and the current view does not fall
record Rises (x e : Entry) : Type 0 where
  log : (e.log ≡ x.log) ⊎ ((log_view x.log).0 < (log_view e.log).0)
  view : (x.view).0 ≤ (e.view).0

rises_same : (x e : Entry) → e.log ≡ x.log → e.view ≡ x.view → Rises x e
rises_same x e p q = record { log = inl p; view = rw q (omega arith) }

-- votes stay, and logs so
keeps_up : (x e : Entry) → ((d : Decision) → cast x.vote ≡ settled d → cast e.vote ≡ settled d) → ((x.log ≡ unlogged → ⊥) → Rises x e)
    → (w : Word) → Keeps x w → Keeps e w
unfolding Keeps Tops
keeps_up x e v l (vote d) h = v d h
keeps_up x e v l (log d u) h = on h (l (tops_logged x.log d u h)).log
  where
    on : Tops x.log d u → (e.log ≡ x.log) ⊎ ((log_view x.log).0 < (log_view e.log).0) → Tops e.log d u
    on (inl p) (inl q) = inl (q ∙ p)
    on (inl p) (inr q) = inr (omega (arith, q, ap (λ (k : Log). (log_view k).0) p))
    on (inr p) (inl q) = inr (omega (arith, p, ap (λ (k : Log). (log_view k).0) q))
    on (inr p) (inr q) = inr (omega (arith, p, q))
keeps_up x e v l (elect d u) h = let r = l h.0 in (still r.log, omega (arith, r.view, h.1))
  where
    still : (e.log ≡ x.log) ⊎ ((log_view x.log).0 < (log_view e.log).0) → e.log ≡ unlogged → ⊥
    still (inl p) q = h.0 (sym p ∙ q)
    still (inr p) q = omega (arith, p, ap (λ (k : Log). (log_view k).0) q)

grow_prior : {t : List Entry} {b : Body} {o : Option Entry} → Prior t b o → (e : Entry) → b ≡ e.body
    → ((x : Entry) → o ≡ some x → (w : Word) → Keeps x w → Keeps e w) → (x : Entry) → find (stamp_of b) t ≡ some x → Grow x e
grow_prior p e s k x q = let u = sym p.at ∙ q in same_body (p.body x u ∙ s) (k x u) (λ h. absurd (un_settled (p.undecided x u) h))

grows : {f : ℕ} {x : Box} {way : EntryPoint} {m : List ℕ} {b : Body} {a : Act} → Move f x way m b a → GrowsBy x.table a.change
unfolding GrowsBy cast_act log_act elect_act decide_act
grows (quiet n) = tt
grows (again w e p h n) = tt
grows (casts v c o p n r cl) = grow_prior p _ refl (λ y u. keeps_up y _ (λ d h. absurd (un_settled (rw u at n) h)) (λ _. rises_same y _ (rw u refl) (rw u refl)))
grows (logs_first l o q k w p n) = grow_prior p _ refl (λ y u. keeps_up y _ (λ d h. rw u h) (λ h. absurd (h (rw u at n))))
grows (takes l o q w p c n) =
    grow_prior p _ refl (λ y u. keeps_up y _ (λ d h. rw u h) (λ _. record { log = inr (rw u at n); view = rw u at c }))
grows (elects told v e d u p q c) =
    grow_prior p _ refl
    (λ y z. let i : e ≡ y = some_eq refl z in keeps_up y _ (λ d h. rw i h) (λ _. record { log = inl (ap (λ (k : Entry). k.log) i); view = rw (← i) c }))
grows (decides l o w p) = grow_prior p _ refl (λ y u. keeps_up y _ (λ d h. rw u h) (λ _. rises_same y _ (rw u refl) (rw u refl)))
grows (replaces l e w p d) = λ o k. rw (some_eq k p.at) (new_body p.other p.not_committed refl)

pub kept_old : {f : ℕ} {x : Box} {way : EntryPoint} {m : List ℕ} {b : Body} (a : Act) → Move f x way m b a → (b' : Body) (w : Word) → Kept x.table b' w
    → Kept (table_after x.table a.change) b' w
unfolding GrowsBy table_after
kept_old {x = x} a m b' w y = go a.change (grows m)
  where
    go : (c : Change) → GrowsBy x.table c → Kept (table_after x.table c) b' w
    go nothing g = y
    go (raises k s) g = absurd g
    go (raises_low l) g = absurd g
    go (puts e) g = kept_put e x.table g b' w y

-- a move leaves the low mark and the folds
pub low_same : {f : ℕ} {x : Box} {way : EntryPoint} {m : List ℕ} {b : Body} (a : Act) → Move f x way m b a → low_after x.low a.change ≡ x.low
unfolding GrowsBy low_after
low_same {x = x} a m = go a.change (grows m)
  where
    go : (c : Change) → GrowsBy x.table c → low_after x.low c ≡ x.low
    go nothing g = refl
    go (puts e) g = refl
    go (raises k s) g = refl
    go (raises_low l) g = absurd g

pub folds_same : {f : ℕ} {x : Box} {way : EntryPoint} {m : List ℕ} {b : Body} (a : Act) → Move f x way m b a → folds_after x.table x.folds a.change ≡ x.folds
unfolding GrowsBy folds_after
folds_same {x = x} a m = go a.change (grows m)
  where
    go : (c : Change) → GrowsBy x.table c → folds_after x.table x.folds c ≡ x.folds
    go nothing g = refl
    go (puts e) g = refl
    go (raises k s) g = refl
    go (raises_low l) g = absurd g

-- what a box gave above a low mark it still keeps when that is raised
pub kept_above : (l : ℕ) (t : List Entry) (b : Body) (w : Word) → l < stamp_of b → Kept t b w → Kept (above l t) b w
kept_above l t b w h y = record { entry = y.entry; at = find_above l (stamp_of b) t h ∙ y.at; how = y.how }
