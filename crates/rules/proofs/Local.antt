-- What holds of one box along every trace.
use Prim.Native.Nat.{ℕ, ◌≤◌, ◌<◌}
use mathlib.Core.Path.{◌≡◌, refl, sym, ◌∙◌, ap}
use mathlib.Core.Logic.{◌⊎◌, inl, inr}
use mathlib.Core.Option.{some}
use mathlib.Core.List.{List, [], ◌∷◌, Memᴰ as In}
use native.Mathlib.Omega.{arith}
use lib.Dec.{T}
use Rattle.rules.specs.Answers.{Decision}
use Rattle.rules.specs.Bodies.{Body, stamp_of}
use Rattle.rules.specs.Table.{Entry, empty}
use Rattle.rules.specs.Calls.{Act}
use Rattle.records.specs.Cutting.{tx_part}
use Rattle.rules.specs.Act.{table_after}
use Rattle.rules.specs.System.{Event, box_at, Word, vote, log, elect, word_in, gave}
use Rattle.rules.proofs.Laws.{find_in}
use Rattle.rules.proofs.Moves.{some_eq, Holds, Move}
use Rattle.rules.proofs.Folds.{in_above}
use Rattle.rules.proofs.Kept.{Kept, kept_above, kept_old}
use Rattle.rules.proofs.Said.{said, spoken, kept_new, vote_once, Carried, elect_log, log_top, log_once, closed}
use Rattle.rules.proofs.Fresh.{Fresh, after_cases}
use Rattle.rules.proofs.Trace.{table, low, New, Idle, Moved, Lifted, Step, still, arrives, lifts, gave_later, step}

module _ (f i : ℕ) where
  -- an election answer tells a log that was given, of a view that is not below any other one under the answer's view
  pub record Elected (es : List Event) (b : Body) (d : Decision) (w : ℕ) : Type 0 where
    pub view : ℕ
    pub log_given : T (gave f i b (log d view) es)
    pub top : (d' : Decision) (v : ℕ) → v < w → T (gave f i b (log d' v) es) → v ≤ view

  -- what holds of one box along every trace
  pub record Local (es : List Event) : Type 0 where
    pub kept : (b : Body) (w : Word) → T (gave f i b w es) → low f i es < stamp_of b → Kept (table f i es) b w
    pub high : (e : Entry) → In e (table f i es) → low f i es < stamp_of e.body
    pub told : (e : Entry) (w : Word) → In e (table f i es) → Holds (some e) w → T (gave f i e.body w es)
    pub one_vote : (b c : Body) (d d' : Decision) → T (gave f i b (vote d) es) → T (gave f i c (vote d') es) → stamp_of b ≡ stamp_of c
        → (b ≡ c) × (d ≡ d')
    pub one_log : (b : Body) (d d' : Decision) (v : ℕ) → T (gave f i b (log d v) es) → T (gave f i b (log d' v) es) → d ≡ d'
    pub elections : (b : Body) (d : Decision) (w : ℕ) → T (gave f i b (elect d w) es) → Elected es b d w

  local_empty : Local []
  unfolding table box_at empty gave
  local_empty = record {
    kept = λ b w h l. absurd h;
    high = λ e p. elim p [ ];
    told = λ e w p q. elim p [ ];
    one_vote = λ b c d d' h h' q. absurd h;
    one_log = λ b d d' v h h'. absurd h;
    elections = λ b d w h. absurd h;
  }

  -- a word carried over was given before
  pub carried_gave : (es : List Event) → Local es → (b : Body) (w : Word) → Carried (table f i es) b w → T (gave f i b w es)
  carried_gave es L b w x =
      rw (← x.prior.body x.entry refl) (L.told x.entry w (find_in (stamp_of b) (table f i es) x.entry x.prior.at) x.holds)

  -- below a view that an election answer was given for, no log is new
  closed_by : (e : Event) (es : List Event) → Step f i e es → Local es → (b : Body) (d d' : Decision) (u v : ℕ) → u < v
      → T (gave f i b (elect d' v) es) → T (gave f i b (log d u) (e ∷ es)) → T (gave f i b (log d u) es)
  unfolding table
  closed_by e es (still s) L b d d' u v l k h = s.unsaid b (log d u) h
  closed_by e es (lifts s) L b d d' u v l k h = s.unsaid b (log d u) h
  closed_by e es (arrives s) L b d d' u v l k h = go (s.given b (log d u) h)
    where
      b₀ : Body
      b₀ = tx_part e.message

      go : New f i e es s.act b (log d u) → T (gave f i b (log d u) es)
      go (inl y) =
          rw (← y.0)
          (carried_gave es L b₀ (log d u) (closed (said s.move (log d u) y.1) (L.kept b₀ (elect d' v) (rw y.0 k) s.high) l))
      go (inr y) = y

  elected_later : (e : Event) (es : List Event) → Step f i e es → Local es → (b : Body) (d : Decision) (w : ℕ) → T (gave f i b (elect d w) es)
      → Elected (e ∷ es) b d w
  elected_later e es s L b d w h =
      let y = L.elections b d w h in
      record {
        view = y.view;
        log_given = gave_later f i e es b (log d y.view) y.log_given;
        top = λ d' v l k. y.top d' v l (closed_by e es s L b d' d v w l h k);
      }

  local_still : (e : Event) (es : List Event) → Idle f i e es → Local es → Local (e ∷ es)
  local_still e es s L = record {
    kept = λ b w h l. rw s.table_now (L.kept b w (s.unsaid b w h) (rw s.low_now at l));
    high = λ x p. rw s.low_now (L.high x (rw s.table_now at p));
    told = λ x w p q. gave_later f i e es x.body w (L.told x w (rw s.table_now at p) q);
    one_vote = λ b c d d' h h' q. L.one_vote b c d d' (s.unsaid b (vote d) h) (s.unsaid c (vote d') h') q;
    one_log = λ b d d' v h h'. L.one_log b d d' v (s.unsaid b (log d v) h) (s.unsaid b (log d' v) h');
    elections = λ b d w h. elected_later e es (still s) L b d w (s.unsaid b (elect d w) h);
  }

  local_lifted : (e : Event) (es : List Event) → Lifted f i e es → Local es → Local (e ∷ es)
  local_lifted e es s L = record {
    kept = λ b w h l. kept_by b w h (rw s.low_now at l);
    high = λ x p. rw s.low_now (in_above s.mark x (table f i es) (rw s.table_now at p)).1;
    told = λ x w p q. gave_later f i e es x.body w (L.told x w (in_above s.mark x (table f i es) (rw s.table_now at p)).0 q);
    one_vote = λ b c d d' h h' q. L.one_vote b c d d' (s.unsaid b (vote d) h) (s.unsaid c (vote d') h') q;
    one_log = λ b d d' v h h'. L.one_log b d d' v (s.unsaid b (log d v) h) (s.unsaid b (log d' v) h');
    elections = λ b d w h. elected_later e es (lifts s) L b d w (s.unsaid b (elect d w) h);
  }
    where
      kept_by : (b : Body) (w : Word) → T (gave f i b w (e ∷ es)) → s.mark < stamp_of b → Kept (table f i (e ∷ es)) b w
      kept_by b w h u = rw s.table_now (kept_above s.mark (table f i es) b w u (L.kept b w (s.unsaid b w h) (omega (arith, s.higher))))

  local_moved : (e : Event) (es : List Event) → Moved f i e es → Local es → Local (e ∷ es)
  unfolding table
  local_moved e es s L = record {
    kept = λ b w h l. rw s.table_now (kept_by b w (rw s.low_now at l) (s.given b w h));
    high = λ x p. rw s.low_now (high_by x (after_cases a m x (rw s.table_now at p)));
    told = λ x w p h. told_by_lem x w h (after_cases a m x (rw s.table_now at p));
    one_vote = λ b c d d' h h' q. vote_by b c d d' q (s.given b (vote d) h) (s.given c (vote d') h');
    one_log = λ b d d' v h h'. log_by b d d' v (s.given b (log d v) h) (s.given b (log d' v) h');
    elections = λ b d w h. elect_by b d w (s.given b (elect d w) h);
  }
    where
      b₀ : Body
      b₀ = tx_part e.message

      a : Act
      a = s.act

      m : Move f (box_at f i es) e.entry e.message b₀ a
      m = s.move

      kept_by : (b : Body) (w : Word) → low f i es < stamp_of b → New f i e es a b w → Kept (table_after (table f i es) a.change) b w
      kept_by b w l (inl u) = rw (← u.0) (kept_new (spoken m w u.1))
      kept_by b w l (inr u) = kept_old a m b w (L.kept b w u l)

      high_by : (x : Entry) → In x (table f i es) ⊎ Fresh f (box_at f i es) e.entry e.message b₀ x a.answer → low f i es < stamp_of x.body
      high_by x (inl o) = L.high x o
      high_by x (inr y) = omega (arith, s.high, ap stamp_of y.owner)

      told_by_lem : (x : Entry) (w : Word) → Holds (some x) w → In x (table f i es) ⊎ Fresh f (box_at f i es) e.entry e.message b₀ x a.answer
          → T (gave f i x.body w (e ∷ es))
      told_by_lem x w h (inl o) = gave_later f i e es x.body w (L.told x w o h)
      told_by_lem x w h (inr y) = from (y.told w h)
        where
          from : (word_in a.answer ≡ some w) ⊎ Carried (table f i es) b₀ w → T (gave f i x.body w (e ∷ es))
          from (inl u) = rw y.owner (s.gives w u)
          from (inr o) = rw y.owner (gave_later f i e es b₀ w (carried_gave es L b₀ w o))

      vote_by : (b c : Body) (d d' : Decision) → stamp_of b ≡ stamp_of c → New f i e es a b (vote d) → New f i e es a c (vote d') → (b ≡ c) × (d ≡ d')
      vote_by b c d d' q (inl u) (inl v) = let k : vote d ≡ vote d' = some_eq u.1 v.1 in (sym u.0 ∙ v.0, cc)
      vote_by b c d d' q (inl u) (inr v) =
          let l : low f i es < stamp_of c = omega (arith, s.high, q, ap stamp_of u.0) in
          rw (← u.0) (vote_once (said m (vote d) u.1) (L.kept c (vote d') v l) (rw u.0 q))
      vote_by b c d d' q (inr u) (inl v) =
          let l : low f i es < stamp_of b = omega (arith, s.high, q, ap stamp_of v.0) in
          let w = vote_once (said m (vote d') v.1) (L.kept b (vote d) u l) (rw v.0 (sym q)) in
          (sym w.0 ∙ v.0, sym w.1)
      vote_by b c d d' q (inr u) (inr v) = L.one_vote b c d d' u v q

      log_by : (b : Body) (d d' : Decision) (v : ℕ) → New f i e es a b (log d v) → New f i e es a b (log d' v) → d ≡ d'
      log_by b d d' v (inl x) (inl y) = let k : log d v ≡ log d' v = some_eq x.1 y.1 in cc
      log_by b d d' v (inl x) (inr y) = log_once (said m (log d v) x.1) (L.kept b₀ (log d' v) (rw x.0 y) s.high)
      log_by b d d' v (inr x) (inl y) = sym (log_once (said m (log d' v) y.1) (L.kept b₀ (log d v) (rw y.0 x) s.high))
      log_by b d d' v (inr x) (inr y) = L.one_log b d d' v x y

      elect_by : (b : Body) (d : Decision) (w : ℕ) → New f i e es a b (elect d w) → Elected (e ∷ es) b d w
      elect_by b d w (inr y) = elected_later e es (arrives s) L b d w y
      elect_by b d w (inl y) =
          rw (← y.0)
          (record {
            view = x.0;
            log_given = gave_later f i e es b₀ (log d x.0) (carried_gave es L b₀ (log d x.0) x.1);
            top = λ d' v l h. below d' v (s.given b₀ (log d' v) h);
          })
        where
          x : (u : ℕ) × Carried (table f i es) b₀ (log d u)
          x = elect_log (said m (elect d w) y.1)

          at_most : (d' : Decision) (v : ℕ) → ((d ≡ d') × (x.0 ≡ v)) ⊎ (v < x.0) → v ≤ x.0
          at_most d' v (inl k) = omega (arith, k.1)
          at_most d' v (inr k) = omega (arith, k)

          below : (d' : Decision) (v : ℕ) → New f i e es a b₀ (log d' v) → v ≤ x.0
          below d' v (inl k) = let c : elect d w ≡ log d' v = some_eq y.1 k.1 in let z : ◌≡◌ {A = ℕ} 0 1 = cc in absurd (omega arith)
          below d' v (inr k) = at_most d' v (log_top x.1 (L.kept b₀ (log d' v) k s.high))

  pub local : (es : List Event) → Local es
  local [] = local_empty
  local (e ∷ es) = go (step f i e es) (local es)
    where
      go : Step f i e es → Local es → Local (e ∷ es)
      go (still s) L = local_still e es s L
      go (arrives s) L = local_moved e es s L
      go (lifts s) L = local_lifted e es s L

  pub none_new : (e : Event) (es : List Event) (b : Body) (d d' : Decision) (u v : ℕ) → u < v → T (gave f i b (elect d' v) es)
      → T (gave f i b (log d u) (e ∷ es)) → T (gave f i b (log d u) es)
  none_new e es b d d' u v l k h = closed_by e es (step f i e es) (local es) b d d' u v l k h
