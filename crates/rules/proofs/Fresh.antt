-- The entry that a move puts into the table.
use Prim.Native.Nat.{ℕ}
use mathlib.Core.Path.{◌≡◌, refl, sym, ◌∙◌}
use mathlib.Core.Logic.{◌⊎◌, inl, inr}
use mathlib.Core.Option.{Option, some, none}
use mathlib.Core.List.{List, Memᴰ as In}
use lib.Dec.{T}
use Rattle.records.specs.Vl.{Vl}
use Rattle.rules.specs.Answers.{Decision, commit, abort, Vote, unvoted, waiting, vote_commit, vote_abort, Answer, Voted, visited, Logged, Done, Settled, settled, unsettled}
use Rattle.rules.specs.Answers.{View, logged_at, unlogged, view_as}
use Rattle.rules.specs.Bodies.{Body, stamp_of}
use Rattle.rules.specs.Lists.{decision_of}
use Rattle.rules.specs.Table.{Entry, Box, vote_in, log_in, view_in, live_by, live}
use Rattle.rules.specs.Calls.{Act, Change, nothing, puts, raises, raises_low, cast_act, log_act, decide_act}
use Rattle.rules.specs.Fallback.{elect_act}
use Rattle.rules.specs.Act.{table_after, EntryPoint}
use Rattle.rules.specs.System.{Word, vote, log, elect, cast, vote_word, word_in}
use Rattle.rules.proofs.Laws.{find_in, in_put}
use Rattle.rules.proofs.Moves.{settled_eq, logged_eq, un_settled, un_logged, Holds, stands, stands_cast, Clear, Prior, Arrives}
use Rattle.rules.proofs.Moves.{Move, quiet, again, casts, logs_first, takes, elects, decides, replaces}
use Rattle.rules.proofs.Kept.{Keeps}
use Rattle.rules.proofs.Said.{Spoken, Carried, carried}

pub record Stands (e : Entry) : Type 0 where
  pub vote : T (stands e.vote)
  pub decided : e.decided ≡ settled abort → ⊥

-- a body that stands in a table
pub record Upright (t : List Entry) (b : Body) : Type 0 where
  pub entry : Entry
  pub inside : In entry t
  pub body : entry.body ≡ b
  pub here : Stands entry

upright_by : {t : List Entry} {b : Body} (o : Option Entry) → Prior t b o → T (stands (vote_in o)) → Upright t b
unfolding stands
upright_by none p h = absurd h
upright_by {t} {b} (some e) p h =
    record {
      entry = e;
      inside = find_in (stamp_of b) t e p.at;
      body = p.body e refl;
      here = record { vote = h; decided = λ q. un_settled (p.undecided e refl) q };
    }

pub upright_spoken : {t : List Entry} {b : Body} → Spoken t b (vote commit) → Upright t b
unfolding Keeps
upright_spoken {t} {b} y = record {
  entry = y.entry;
  inside = find_in (stamp_of b) t y.entry y.at;
  body = y.body;
  here = record { vote = stands_cast y.entry.vote y.keeps; decided = λ q. un_settled y.undecided q };
}

-- the new entry: whose it is, where what it holds comes from, who decided it, why it stands
pub record Fresh (f : ℕ) (x : Box) (way : EntryPoint) (m : List ℕ) (b : Body) (e : Entry) (a : Answer) : Type 0 where
  pub owner : e.body ≡ b
  pub told : (w : Word) → Holds (some e) w → (word_in a ≡ some w) ⊎ Carried x.table b w
  pub decided : (d : Decision) → e.decided ≡ settled d → (l : Vl) × Arrives f way m b l × (decision_of l.decision ≡ d)
  pub stood : Stands e → Upright x.table b ⊎ Clear x b

FreshBy : (f : ℕ) (x : Box) (way : EntryPoint) (m : List ℕ) (b : Body) → Answer → Change → Type 0
FreshBy f x way m b a nothing = Unit {0}
FreshBy f x way m b a (raises k s) = ⊥
FreshBy f x way m b a (raises_low l) = ⊥
FreshBy f x way m b a (puts e) = Fresh f x way m b e a

module _ {t : List Entry} {b : Body} (o : Option Entry) (p : Prior t b o) where
  -- what a move leaves of what was held is carried
  told_cast : (v : Vote) (n : ℕ) (x : Entry) → x.vote ≡ v → x.log ≡ log_in o → (w : Word) → Holds (some x) w → (word_in (Voted v (visited n)) ≡ some w) ⊎ Carried t b w
  unfolding Holds word_in vote_word
  told_cast v n x q k (vote d) h = inl (rw (rw q at h))
  told_cast v n x q k (log d u) h = inr (carried o p (log d u) (sym k ∙ h))
  told_cast v n x q k (elect d u) h = absurd h

  told_log : (y : Decision) (v : View) (x : Entry) → x.vote ≡ vote_in o → x.log ≡ logged_at y v → (w : Word) → Holds (some x) w
      → (word_in (Logged y v) ≡ some w) ⊎ Carried t b w
  unfolding Holds word_in
  told_log y v x q k (vote d) h = inr (carried o p (vote d) (rw q at h))
  told_log y v x q k (log d u) h =
      let r : (y ≡ d) × (v ≡ view_as u) = logged_eq (sym k ∙ h) in
      inl (rw (r.0, r.1) refl)
  told_log y v x q k (elect d u) h = absurd h

  told_kept : (x : Entry) → x.vote ≡ vote_in o → x.log ≡ log_in o → (w : Word) → Holds (some x) w → Carried t b w
  unfolding Holds
  told_kept x q k (vote d) h = carried o p (vote d) (rw q at h)
  told_kept x q k (log d u) h = carried o p (log d u) (sym k ∙ h)
  told_kept x q k (elect d u) h = absurd h

fresh : {f : ℕ} {x : Box} {way : EntryPoint} {m : List ℕ} {b : Body} {a : Act} → Move f x way m b a → FreshBy f x way m b a.answer a.change
unfolding FreshBy cast_act log_act elect_act decide_act stands Holds cast
fresh (quiet n) = tt
fresh (again w e p h n) = tt
fresh {x = x} {b = b} (casts v c o p n r cl) = record {
  owner = refl;
  told = told_cast o p v c (record { body = b; vote = v; log = log_in o; view = view_in o; decided = unsettled }) refl refl;
  decided = λ d h. absurd (un_settled refl h);
  stood = λ w. go (cl w.vote);
}
  where
    go : Clear x b ⊎ (vote_in o ≡ waiting) → Upright x.table b ⊎ Clear x b
    go (inl k) = inr k
    go (inr q) = inl (upright_by o p (rw q tt))
fresh {b = b} (logs_first l o q k w p n) = record {
  owner = refl;
  told = told_log o p (decision_of l.decision) (view_as 0) (record { body = b; vote = vote_in o; log = logged_at (decision_of l.decision) (view_as 0); view = view_in o; decided = unsettled }) refl refl;
  decided = λ d h. absurd (un_settled refl h);
  stood = λ w. inl (upright_by o p w.vote);
}
fresh {b = b} (takes l o q w p c n) = record {
  owner = refl;
  told = told_log o p (decision_of l.decision) (view_as l.view) (record { body = b; vote = vote_in o; log = logged_at (decision_of l.decision) (view_as l.view); view = view_as l.view; decided = unsettled }) refl refl;
  decided = λ d h. absurd (un_settled refl h);
  stood = λ w. inl (upright_by o p w.vote);
}
fresh {b = b} (elects told v e d u p q c) = record {
  owner = refl;
  told = λ w h. inr (told_kept (some e) p (record { body = b; vote = e.vote; log = e.log; view = view_as v; decided = unsettled }) refl refl w h);
  decided = λ d h. absurd (un_settled refl h);
  stood = λ w. inl (upright_by (some e) p w.vote);
}
fresh {b = b} (decides l o w p) = record {
  owner = refl;
  told = λ w h. inr (told_kept o p (record { body = b; vote = vote_in o; log = log_in o; view = view_in o; decided = settled (decision_of l.decision) }) refl refl w h);
  decided = λ d h. (l, w, settled_eq refl h);
  stood = λ w. inl (upright_by o p w.vote);
}
fresh {x = x} {b = b} (replaces l e w p d) = record {
  owner = refl;
  told = blank;
  decided = λ d' h. (l, w, d ∙ settled_eq refl h);
  stood = λ w. absurd w.vote;
}
  where
    blank : (w : Word) → Holds (some (record { body = b; vote = unvoted; log = unlogged; view = view_as 0; decided = settled commit })) w
        → (word_in Done ≡ some w) ⊎ Carried x.table b w
    blank (vote d) h = absurd (un_settled refl h)
    blank (log d v) h = absurd (un_logged refl h)
    blank (elect d v) h = absurd h

-- an entry after a move: an old one, or the new one
pub after_cases : {f : ℕ} {x : Box} {way : EntryPoint} {m : List ℕ} {b : Body} (a : Act) → Move f x way m b a → (e : Entry) → In e (table_after x.table a.change)
    → In e x.table ⊎ Fresh f x way m b e a.answer
unfolding table_after FreshBy
after_cases {f = f} {x = x} {way = way} {m = m} {b = b} a k e h = go a.change (fresh k) h
  where
    new : (y : Entry) → Fresh f x way m b y a.answer → (e ≡ y) ⊎ In e x.table → In e x.table ⊎ Fresh f x way m b e a.answer
    new y w (inl q) = inr (rw (← q) at w)
    new y w (inr i) = inl i

    go : (c : Change) → FreshBy f x way m b a.answer c → In e (table_after x.table c) → In e x.table ⊎ Fresh f x way m b e a.answer
    go nothing w i = inl i
    go (raises k s) w i = absurd w
    go (raises_low l) w i = absurd w
    go (puts y) w i = new y w (in_put y e x.table i)

-- a body that stands afterwards stood before, or has just passed the tests
pub upright_cases : {f : ℕ} {x : Box} {way : EntryPoint} {m : List ℕ} {b : Body} (a : Act) → Move f x way m b a → (b' : Body) → Upright (table_after x.table a.change) b'
    → Upright x.table b' ⊎ ((b ≡ b') × Clear x b)
upright_cases {f = f} {x = x} {way = way} {m = m} {b = b} a k b' w = go (after_cases a k w.entry w.inside)
  where
    go : In w.entry x.table ⊎ Fresh f x way m b w.entry a.answer → Upright x.table b' ⊎ ((b ≡ b') × Clear x b)
    go (inl i) = inl (record { entry = w.entry; inside = i; body = w.body; here = w.here })
    go (inr n) = by (n.stood w.here)
      where
        same : b ≡ b'
        same = sym n.owner ∙ w.body

        by : Upright x.table b ⊎ Clear x b → Upright x.table b' ⊎ ((b ≡ b') × Clear x b)
        by (inl o) = inl (rw same at o)
        by (inr c) = inr (same, c)

pub stands_live : (e : Entry) → Stands e → T (live e)
unfolding live live_by stands
stands_live e w = go e.decided e.vote refl w.vote
  where
    go : (o : Settled) (v : Vote) → e.decided ≡ o → T (stands v) → T (live_by o v)
    go (settled commit) v q h = tt
    go (settled abort) v q h = absurd (w.decided q)
    go unsettled unvoted q h = h
    go unsettled waiting q h = h
    go unsettled vote_commit q h = h
    go unsettled (vote_abort r) q h = h
