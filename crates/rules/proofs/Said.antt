-- Why a word is given, and that it contradicts none given before.
use Prim.Native.Nat.{ℕ, ◌≤◌, ◌<◌}
use mathlib.Core.Path.{◌≡◌, refl, sym, ◌∙◌, ap}
use mathlib.Core.Logic.{◌⊎◌, inl, inr}
use mathlib.Core.Option.{Option, some, none}
use mathlib.Core.List.{List}
use native.Mathlib.Omega.{arith}
use Rattle.records.specs.Vl.{Vl}
use Rattle.records.specs.Views.{Views}
use Rattle.rules.specs.Answers.{Decision, commit, votes, Vote, Settled, settled, unsettled}
use Rattle.rules.specs.Answers.{Log, View, logged_at, unlogged, log_view, view_as}
use Rattle.rules.specs.Bodies.{Body, stamp_of}
use Rattle.rules.specs.Lists.{kind_of, decision_of, for_logging}
use Rattle.rules.specs.Table.{Entry, Box, find, vote_in, log_in, view_in}
use Rattle.rules.specs.Calls.{Act, cast_act, log_act, decide_act}
use Rattle.rules.specs.Fallback.{elect_act}
use Rattle.rules.specs.Act.{table_after, EntryPoint}
use Rattle.rules.specs.System.{Word, vote, log, elect, cast, vote_word, word_in}
use Rattle.rules.proofs.Laws.{find_put_same}
use Rattle.rules.proofs.Moves.{none_some, some_eq, settled_eq, logged_eq, un_settled, un_logged, Holds, Ready, Prior, Listing, Brings, Leads, Leading}
use Rattle.rules.proofs.Moves.{Move, quiet, again, casts, logs_first, takes, elects, decides, replaces}
use Rattle.rules.proofs.Kept.{Tops, tops_logged, Keeps, holds_keeps, Kept}

-- the word of a vote
pub word_vote : (o : Settled) (w : Word) → vote_word o ≡ some w → (d : Decision) × (vote d ≡ w) × (o ≡ settled d)
unfolding vote_word
word_vote unsettled w h = absurd (none_some refl h)
word_vote (settled d) w h = (d, some_eq refl h, refl)

-- why a word is given
pub data Said (f : ℕ) (x : Box) (way : EntryPoint) (m : List ℕ) (b : Body) (w : Word) : Type 0 where
  repeats : (e : Entry) → Prior x.table b (some e) → Holds (some e) w → Said f x way m b w
  by_tests : (d : Decision) (v : Vote) (o : Option Entry) → vote d ≡ w → Prior x.table b o → cast (vote_in o) ≡ unsettled → cast v ≡ settled d
      → Ready x b v → Said f x way m b w
  by_list : (l : Vl) (o : Option Entry) → log (decision_of l.decision) 0 ≡ w → Brings f way m b l → kind_of l.kind ≡ votes
      → Listing f l (for_logging f (decision_of l.decision)) → Prior x.table b o → log_in o ≡ unlogged → Said f x way m b w
  by_leader : (l : Views) (o : Option Entry) → log (decision_of l.decision) l.view ≡ w → Leads f way m b l → Leading f l → Prior x.table b o
      → (view_in o).0 ≤ l.view → (log_view (log_in o)).0 < l.view → Said f x way m b w
  by_log : (v : ℕ) (e : Entry) (d : Decision) (u : View) → elect d v ≡ w → Prior x.table b (some e) → e.log ≡ logged_at d u → Said f x way m b w

pub said : {f : ℕ} {x : Box} {way : EntryPoint} {m : List ℕ} {b : Body} {a : Act} → Move f x way m b a → (w : Word) → word_in a.answer ≡ some w → Said f x way m b w
unfolding word_in cast_act log_act elect_act decide_act
said (quiet n) w h = absurd (none_some n h)
said (again w' e p k n) w h = repeats e p (rw (some_eq n h) at k)
said (casts v c o p n r cl) w h = let y = word_vote (cast v) w h in by_tests y.0 v o y.1 p n y.2 r
said (logs_first l o q k y p n) w h = by_list l o (some_eq refl h) q k y p n
said (takes l o q y p c n) w h = by_leader l o (some_eq refl h) q y p c n
said (elects told v e d u p q c) w h = by_log v e d u (some_eq refl h) p q
said (decides l o y p) w h = absurd (none_some refl h)
said (replaces l e y p d) w h = absurd (none_some refl h)

-- what was just given is held afterwards, of that body, undecided
pub record Spoken (t : List Entry) (b : Body) (w : Word) : Type 0 where
  pub entry : Entry
  pub at : find (stamp_of b) t ≡ some entry
  pub body : entry.body ≡ b
  pub undecided : entry.decided ≡ unsettled
  pub keeps : Keeps entry w

pub spoken : {f : ℕ} {x : Box} {way : EntryPoint} {m : List ℕ} {b : Body} {a : Act} → Move f x way m b a → (w : Word) → word_in a.answer ≡ some w
    → Spoken (table_after x.table a.change) b w
unfolding table_after word_in cast_act log_act elect_act decide_act Keeps Tops
spoken (quiet n) w h = absurd (none_some n h)
spoken (again w' e p k n) w h =
    record { entry = e; at = p.at; body = p.body e refl; undecided = p.undecided e refl; keeps = holds_keeps e w (rw (some_eq n h) at k) }
spoken {x = x} (casts v c o p n r cl) w h =
    let y = word_vote (cast v) w h in record { entry = _; at = find_put_same _ x.table; body = refl; undecided = refl; keeps = rw (← y.1) y.2 }
spoken {x = x} (logs_first l o q k y p n) w h =
    let i : log (decision_of l.decision) 0 ≡ w = some_eq refl h in
    record { entry = _; at = find_put_same _ x.table; body = refl; undecided = refl; keeps = rw (← i) (inl refl) }
spoken {x = x} (takes l o q y p c n) w h =
    let i : log (decision_of l.decision) l.view ≡ w = some_eq refl h in
    record { entry = _; at = find_put_same _ x.table; body = refl; undecided = refl; keeps = rw (← i) (inl refl) }
spoken {x = x} (elects told v e d u p q c) w h =
    let i : elect d v ≡ w = some_eq refl h in
    record { entry = _; at = find_put_same _ x.table; body = refl; undecided = refl; keeps = rw (← i) (λ k. un_logged k q, omega arith) }
spoken (decides l o y p) w h = absurd (none_some refl h)
spoken (replaces l e y p d) w h = absurd (none_some refl h)

pub kept_new : {t : List Entry} {b : Body} {w : Word} → Spoken t b w → Kept t b w
kept_new y = record { entry = y.entry; at = y.at; how = inl (y.body, y.keeps) }

-- what is held of b undecided, and a word given before for a body of that stamp: it is b, and the entry keeps the word
pub record StillKept (b b' : Body) (o : Option Entry) (w : Word) : Type 0 where
  pub same : b ≡ b'
  pub entry : Entry
  pub is : o ≡ some entry
  pub keeps : Keeps entry w

pub still_kept : {t : List Entry} {b b' : Body} {o : Option Entry} {w : Word} → Prior t b o → Kept t b' w → stamp_of b ≡ stamp_of b'
    → StillKept b b' o w
still_kept {t = t} {b = b} {b' = b'} {o = o} {w = w} p y s = go y.how
  where
    u : o ≡ some y.entry
    u = let k : find (stamp_of b) t ≡ some y.entry = rw s y.at in sym p.at ∙ k

    go : ((y.entry.body ≡ b') × Keeps y.entry w) ⊎ ((y.entry.decided ≡ settled commit) × (y.entry.body ≡ b' → ⊥)) → StillKept b b' o w
    go (inl h) = record { same = sym (p.body y.entry u) ∙ h.0; entry = y.entry; is = u; keeps = h.1 }
    go (inr h) = absurd (un_settled (p.undecided y.entry u) h.0)

-- no second vote, and no second body under one stamp
pub vote_once : {f : ℕ} {x : Box} {way : EntryPoint} {m : List ℕ} {b b' : Body} {d d' : Decision} → Said f x way m b (vote d) → Kept x.table b' (vote d')
    → stamp_of b ≡ stamp_of b' → (b ≡ b') × (d ≡ d')
unfolding Holds Keeps
vote_once (repeats e p h) k s = let y = still_kept p k s in let i : e ≡ y.entry = some_eq refl y.is in (y.same, settled_eq h (rw i y.keeps))
vote_once (by_tests d v o q p n c r) k s = let y = still_kept p k s in absurd (un_settled (rw y.is at n) y.keeps)
vote_once (by_list l o q c k₁ w p n) k s = let z : ◌≡◌ {A = ℕ} 0 1 = cc in absurd (omega arith)
vote_once (by_leader l o q c w p v n) k s = let z : ◌≡◌ {A = ℕ} 0 1 = cc in absurd (omega arith)
vote_once (by_log v e d u q p h) k s = let z : ◌≡◌ {A = ℕ} 0 1 = cc in absurd (omega arith)

-- a word held before
pub record Carried (t : List Entry) (b : Body) (w : Word) : Type 0 where
  pub entry : Entry
  pub prior : Prior t b (some entry)
  pub holds : Holds (some entry) w

pub carried : {t : List Entry} {b : Body} (o : Option Entry) → Prior t b o → (w : Word) → Holds o w → Carried t b w
unfolding Holds cast
carried none p (vote d) h = absurd (un_settled refl h)
carried none p (log d v) h = absurd (un_logged refl h)
carried none p (elect d v) h = absurd h
carried (some e) p w h = record { entry = e; prior = p; holds = h }

-- a log that is given was held, or its view is above all that the entry has
pub record Higher (t : List Entry) (b : Body) (v : ℕ) : Type 0 where
  pub held : Option Entry
  pub prior : Prior t b held
  pub lower : (e : Entry) → held ≡ some e → (e.log ≡ unlogged → ⊥) → ((e.view).0 ≤ v) × ((log_view e.log).0 < v)

log_cases : {f : ℕ} {x : Box} {way : EntryPoint} {m : List ℕ} {b : Body} {d : Decision} {v : ℕ} → Said f x way m b (log d v)
    → Carried x.table b (log d v) ⊎ Higher x.table b v
log_cases (repeats e p h) = inl (record { entry = e; prior = p; holds = h })
log_cases (by_tests d v o q p n c r) = let z : ◌≡◌ {A = ℕ} 0 1 = cc in absurd (omega arith)
log_cases (by_list l o q c k w p n) = inr (record { held = o; prior = p; lower = λ e u h. absurd (h (rw u at n)) })
log_cases {v = v} (by_leader l o q c w p n k) =
    let s : l.view ≡ v = cc in
    inr (record { held = o; prior = p; lower = λ e u h. (rw (u, s) at n, rw (u, s) at k) })
log_cases (by_log v e d u q p h) = let z : ◌≡◌ {A = ℕ} 0 1 = cc in absurd (omega arith)

-- an election answer tells the log
pub elect_log : {f : ℕ} {x : Box} {way : EntryPoint} {m : List ℕ} {b : Body} {d : Decision} {v : ℕ} → Said f x way m b (elect d v)
    → (u : ℕ) × Carried x.table b (log d u)
unfolding Holds
elect_log (repeats e p h) = absurd h
elect_log (by_tests d v o q p n c r) = let z : ◌≡◌ {A = ℕ} 0 1 = cc in absurd (omega arith)
elect_log (by_list l o q c k w p n) = let z : ◌≡◌ {A = ℕ} 0 1 = cc in absurd (omega arith)
elect_log (by_leader l o q c w p n m) = let z : ◌≡◌ {A = ℕ} 0 1 = cc in absurd (omega arith)
elect_log {d = d} (by_log v e x u q p h) = let i : x ≡ d = cc in (u.0, record { entry = e; prior = p; holds = rw (← i) h })

-- the log that is held, and one that was given before
pub log_top : {t : List Entry} {b : Body} {d d' : Decision} {u v : ℕ} → Carried t b (log d u) → Kept t b (log d' v) → ((d ≡ d') × (u ≡ v)) ⊎ (v < u)
unfolding Holds Keeps Tops
log_top {d = d} {d' = d'} {u = u} {v = v} x k =
    let y = still_kept x.prior k refl in
    let i : x.entry ≡ y.entry = some_eq refl y.is in
    go (sym x.holds ∙ ap (λ (e : Entry). e.log) i) y.keeps
  where
    go : {z : Log} → logged_at d (view_as u) ≡ z → (z ≡ logged_at d' (view_as v)) ⊎ (v < (log_view z).0) → ((d ≡ d') × (u ≡ v)) ⊎ (v < u)
    go p (inl q) = let r = logged_eq (p ∙ q) in inl (r.0, ap (λ (y : View). y.0) r.1)
    go p (inr q) = inr (omega (arith, q, ap (λ (y : Log). (log_view y).0) p))

-- one decision for each view
pub log_once : {f : ℕ} {x : Box} {way : EntryPoint} {m : List ℕ} {b : Body} {d d' : Decision} {v : ℕ} → Said f x way m b (log d v)
    → Kept x.table b (log d' v) → d ≡ d'
unfolding Keeps Tops
log_once {x = x₀} {b = b} {d = d} {d' = d'} {v = v} s k = go (log_cases s)
  where
    same : ((d ≡ d') × (v ≡ v)) ⊎ (v < v) → d ≡ d'
    same (inl q) = q.0
    same (inr q) = absurd (omega (arith, q))

    above : {y : Log} → (log_view y).0 < v → (y ≡ logged_at d' (view_as v)) ⊎ (v < (log_view y).0) → d ≡ d'
    above l (inl q) = absurd (omega (arith, l, ap (λ (y : Log). (log_view y).0) q))
    above l (inr q) = absurd (omega (arith, l, q))

    go : Carried x₀.table b (log d v) ⊎ Higher x₀.table b v → d ≡ d'
    go (inl x) = same (log_top x k)
    go (inr x) =
        let y = still_kept x.prior k refl in
        above (x.lower y.entry y.is (tops_logged y.entry.log d' v y.keeps)).1 y.keeps

-- below a view that an election answer was given for, no log is new
pub closed : {f : ℕ} {x : Box} {way : EntryPoint} {m : List ℕ} {b : Body} {d d' : Decision} {u v : ℕ} → Said f x way m b (log d u)
    → Kept x.table b (elect d' v) → u < v → Carried x.table b (log d u)
unfolding Keeps
closed {x = x₀} {b = b} {d = d} {u = u} s k l = go (log_cases s)
  where
    go : Carried x₀.table b (log d u) ⊎ Higher x₀.table b u → Carried x₀.table b (log d u)
    go (inl x) = x
    go (inr x) =
        let y = still_kept x.prior k refl in
        let z = y.keeps in
        absurd (omega (arith, l, z.1, (x.lower y.entry y.is z.0).0))
