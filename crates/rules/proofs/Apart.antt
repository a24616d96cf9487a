-- Of two bodies that a sound box accepted, where one undercuts the other one is dead.
use Prim.Native.Nat.{ℕ, ◌≤◌, ◌<◌}
use mathlib.Core.Bool.{Bool, ◌&&◌}
use mathlib.Core.Path.{◌≡◌, refl, sym, ◌∙◌, ap}
use mathlib.Core.Logic.{◌⊎◌, inl, inr}
use mathlib.Core.List.{List, [], ◌∷◌, Memᴰ as In}
use native.Mathlib.Omega.{arith}
use lib.Dec.{T, ltb, ltb→lt}
use Rattle.records.specs.Contents.{largest_key}
use Rattle.records.specs.Tx.{read_key, read_version}
use Rattle.rules.specs.Answers.{Version, commit, abort, settled, Settled, unsettled}
use Rattle.rules.specs.Bodies.{Body, stamp_of, reads_of, writes_key}
use Rattle.rules.specs.Table.{Entry, empty, fold_at}
use Rattle.rules.specs.Tests.{undercut}
use Rattle.records.specs.Cutting.{tx_part}
use Rattle.rules.specs.Low.{above, folds_up_to}
use Rattle.rules.specs.Act.{table_after}
use Rattle.rules.specs.System.{Event, box_at, vote, gave, Sound, Fair, Proof}
use Rattle.rules.proofs.Laws.{ands, any_found, find_stamp, find_in, lt_cases}
use Rattle.rules.proofs.Moves.{abort_commit, stands_cast, Clear, un_settled}
use Rattle.rules.proofs.Folds.{fold_over, fold_up, in_above}
use Rattle.rules.proofs.Kept.{Keeps, Kept}
use Rattle.rules.proofs.Said.{spoken}
use Rattle.rules.proofs.Fresh.{Upright, upright_spoken, upright_cases, stands_live}
use Rattle.rules.proofs.Trace.{table, low, folds, New, Idle, Moved, Lifted, Step, still, arrives, lifts, step}
use Rattle.rules.proofs.Local.{local}
use Rattle.rules.proofs.Backing.{proof_later}
use Rattle.rules.proofs.Rests.{Rests, rests}

pub undercut_self : (b : Body) → T (undercut b b) → ⊥
unfolding undercut
undercut_self b h =
    let w = any_found (λ r. writes_key b (read_key r) && (ltb (read_version r) (stamp_of b) && ltb (stamp_of b) (stamp_of b))) (reads_of b) h in
    let k = w.2 in
    let l : T (ltb (stamp_of b) (stamp_of b)) = search ands in
    omega (arith, ltb→lt (stamp_of b) (stamp_of b) l)

module _ (f : ℕ) (faulty : ℕ → Bool) where
  -- a body that never commits any more: it has an abort proof, or a rival has a commit proof
  pub data Dead (es : List Event) (b : Body) : Type 0 where
    aborted : Proof f faulty es b abort → Dead es b
    rivalled : (c : Body) → stamp_of c ≡ stamp_of b → (c ≡ b → ⊥) → Proof f faulty es c commit → Dead es b

  pub dead_later : (e : Event) (es : List Event) (b : Body) → Dead es b → Dead (e ∷ es) b
  dead_later e es b (aborted P) = aborted (proof_later f faulty e es b abort P)
  dead_later e es b (rivalled c q n P) = rivalled c q n (proof_later f faulty e es c commit P)

  either_later : (e : Event) (es : List Event) (b c : Body) → Dead es b ⊎ Dead es c → Dead (e ∷ es) b ⊎ Dead (e ∷ es) c
  either_later e es b c (inl d) = inl (dead_later e es b d)
  either_later e es b c (inr d) = inr (dead_later e es c d)

  -- box i accepted b: it voted commit, or an entry with this body stands there
  pub data Accepts (i : ℕ) (es : List Event) (b : Body) : Type 0 where
    by_vote : T (gave f i b (vote commit) es) → Accepts i es b
    by_entry : Upright (table f i es) b → Accepts i es b

  -- dead, or under the folds of the keys that it writes
  pub data Under (g : List Version) (es : List Event) (b : Body) : Type 0 where
    is_dead : Dead es b → Under g es b
    under_folds : ((k : ℕ) → k ≤ largest_key → T (writes_key b k) → stamp_of b ≤ (fold_at g k).stamp.0) → Under g es b

  under_later : (e : Event) (es : List Event) (b : Body) (g g' : List Version)
      → ((k : ℕ) → k ≤ largest_key → (fold_at g k).stamp.0 ≤ (fold_at g' k).stamp.0) → Under g es b → Under g' (e ∷ es) b
  under_later e es b g g' up (is_dead d) = is_dead (dead_later e es b d)
  under_later e es b g g' up (under_folds o) = under_folds (λ k r w. omega (arith, up k r, o k r w))

  same_folds : (g g' : List Version) → g' ≡ g → (k : ℕ) → k ≤ largest_key → (fold_at g k).stamp.0 ≤ (fold_at g' k).stamp.0
  same_folds g g' q k r = omega (arith, ap (λ (o : List Version). (fold_at o k).stamp.0) q)

  -- of a sound box: what it accepted, and what it voted for and has let go
  pub record Parted (i : ℕ) (es : List Event) : Type 0 where
    pub apart : (b c : Body) → Accepts i es b → Accepts i es c → T (undercut b c) → Dead es b ⊎ Dead es c
    pub gone : (b : Body) → T (gave f i b (vote commit) es) → stamp_of b ≤ low f i es → Under (folds f i es) es b

  parted_empty : (i : ℕ) → Parted i []
  unfolding table box_at empty gave
  parted_empty i = record { apart = λ b c x y h. nobody x; gone = λ b h l. absurd h }
    where
      nobody : {A : Type 0} {b : Body} → Accepts i [] b → A
      nobody (by_vote h) = absurd h
      nobody (by_entry w) = elim w.inside [ ]

  -- an entry that keeps a commit vote stands, or its body is dead
  kept_or_dead : (i : ℕ) (es : List Event) → Rests f faulty i es → (b : Body) → Kept (table f i es) b (vote commit)
      → Dead es b ⊎ Upright (table f i es) b
  unfolding Keeps
  kept_or_dead i es R b K = go K.how
    where
      e : Entry
      e = K.entry

      inside : In e (table f i es)
      inside = find_in (stamp_of b) (table f i es) e K.at

      go : ((e.body ≡ b) × Keeps e (vote commit)) ⊎ ((e.decided ≡ settled commit) × (e.body ≡ b → ⊥)) → Dead es b ⊎ Upright (table f i es) b
      go (inr u) = inl (rivalled e.body (find_stamp (stamp_of b) (table f i es) e K.at) u.1 (R.decided e commit inside u.0))
      go (inl u) = by e.decided refl
        where
          stands_if : (e.decided ≡ settled abort → ⊥) → Upright (table f i es) b
          stands_if n = record { entry = e; inside = inside; body = u.0; here = record { vote = stands_cast e.vote u.1; decided = n } }

          by : (o : Settled) → e.decided ≡ o → Dead es b ⊎ Upright (table f i es) b
          by (settled abort) q = inl (aborted (rw u.0 at (R.decided e abort inside q)))
          by (settled commit) q = inr (stands_if (λ h. abort_commit h q))
          by unsettled q = inr (stands_if (λ h. un_settled q h))

  -- an accepted body above the low mark stands in the table, or is dead
  pub here_or_dead : (i : ℕ) (es : List Event) → Rests f faulty i es → (b : Body) → T (gave f i b (vote commit) es) → low f i es < stamp_of b
      → Dead es b ⊎ Upright (table f i es) b
  here_or_dead i es R b g l = kept_or_dead i es R b ((local f i es).kept b (vote commit) g l)

  -- a body that passed the tests, against one accepted before
  module _ (i : ℕ) (es : List Event) (R : Rests f faulty i es) (P : Parted i es) (b : Body) (high : low f i es < stamp_of b)
      (C : Clear (box_at f i es) b) where
    under_entry : (c : Body) → T (undercut b c) → Dead es c ⊎ Upright (table f i es) c → Dead es c
    unfolding table
    under_entry c h (inl d) = d
    under_entry c h (inr w) = absurd (C.under w.entry w.inside (stands_live w.entry w.here) (rw w.body h))

    over_entry : (c : Body) → T (undercut c b) → Dead es c ⊎ Upright (table f i es) c → Dead es c
    unfolding table
    over_entry c h (inl d) = d
    over_entry c h (inr w) = absurd (C.over w.entry w.inside (stands_live w.entry w.here) (rw w.body h))

    -- the fold was tested too
    under_fold : (c : Body) → T (undercut b c) → Under (folds f i es) es c → Dead es c
    unfolding undercut folds
    under_fold c h (is_dead d) = d
    under_fold c h (under_folds o) =
        let w = any_found (λ r. writes_key c (read_key r) && (ltb (read_version r) (stamp_of c) && ltb (stamp_of c) (stamp_of b))) (reads_of b) h in
        let y = w.2 in
        let k : T (writes_key c (read_key w.0)) = search ands in
        let v : T (ltb (read_version w.0) (stamp_of c)) = search ands in
        absurd (omega (arith, ltb→lt (read_version w.0) (stamp_of c) v, o (read_key w.0) (C.keys w.0 w.1) k, C.folds w.0 w.1))

    tested_under : (c : Body) → Accepts i es c → T (undercut b c) → Dead es c
    tested_under c (by_entry w) h = under_entry c h (inr w)
    tested_under c (by_vote g) h = go (lt_cases (low f i es) (stamp_of c))
      where
        go : (low f i es < stamp_of c) ⊎ (stamp_of c ≤ low f i es) → Dead es c
        go (inl l) = under_entry c h (here_or_dead i es R c g l)
        go (inr l) = under_fold c h (P.gone c g l)

    -- what reads above a write that is above the low mark is above it too
    above_low : (c : Body) → T (undercut c b) → low f i es < stamp_of c
    unfolding undercut
    above_low c h =
        let w = any_found (λ r. writes_key b (read_key r) && (ltb (read_version r) (stamp_of b) && ltb (stamp_of b) (stamp_of c))) (reads_of c) h in
        let y = w.2 in
        let v : T (ltb (stamp_of b) (stamp_of c)) = search ands in
        omega (arith, ltb→lt (stamp_of b) (stamp_of c) v)

    tested_over : (c : Body) → Accepts i es c → T (undercut c b) → Dead es c
    tested_over c (by_entry w) h = over_entry c h (inr w)
    tested_over c (by_vote g) h = over_entry c h (here_or_dead i es R c g (above_low c h))

  parted_still : (i : ℕ) (e : Event) (es : List Event) → Idle f i e es → Parted i es → Parted i (e ∷ es)
  parted_still i e es s P = record {
    apart = λ b c x y h. either_later e es b c (P.apart b c (back x) (back y) h);
    gone = λ b h l.
        under_later e es b (folds f i es) (folds f i (e ∷ es)) (same_folds _ _ s.folds_now)
        (P.gone b (s.unsaid b (vote commit) h) (rw s.low_now at l));
  }
    where
      back : {b : Body} → Accepts i (e ∷ es) b → Accepts i es b
      back {b} (by_vote h) = by_vote (s.unsaid b (vote commit) h)
      back (by_entry x) = by_entry (rw s.table_now at x)

  -- what stands above a raised low mark stood before
  upright_above : (l : ℕ) (t : List Entry) (b : Body) → Upright (above l t) b → Upright t b
  upright_above l t b u = record { entry = u.entry; inside = (in_above l u.entry t u.inside).0; body = u.body; here = u.here }

  pub accepted_lifted : (i : ℕ) (e : Event) (es : List Event) → Lifted f i e es → (b : Body) → Accepts i (e ∷ es) b → Accepts i es b
  accepted_lifted i e es s b (by_vote h) = by_vote (s.unsaid b (vote commit) h)
  accepted_lifted i e es s b (by_entry u) = by_entry (upright_above s.mark (table f i es) b (rw s.table_now at u))

  parted_lifted : (i : ℕ) (e : Event) (es : List Event) → Lifted f i e es → Rests f faulty i es → Parted i es → Parted i (e ∷ es)
  parted_lifted i e es s R P = record {
    apart = λ b c x y h. either_later e es b c (P.apart b c (accepted_lifted i e es s b x) (accepted_lifted i e es s c y) h);
    gone = λ b h l. rw s.folds_now (gone_by b (s.unsaid b (vote commit) h) (rw s.low_now at l) (lt_cases (low f i es) (stamp_of b)));
  }
    where
      g : List Version
      g = folds_up_to s.mark (table f i es) (folds f i es)

      -- what stood there is decided commit, and the folds take it in
      now : (b : Body) → stamp_of b ≤ s.mark → Dead es b ⊎ Upright (table f i es) b → Under g es b
      now b l (inl d) = is_dead d
      now b l (inr u) = under_folds (λ k r w. by k r w u.entry.decided refl)
        where
          by : (k : ℕ) → k ≤ largest_key → T (writes_key b k) → (o : Settled) → u.entry.decided ≡ o → stamp_of b ≤ (fold_at g k).stamp.0
          by k r w unsettled q = absurd (s.all_decided u.entry u.inside (rw u.body l) q)
          by k r w (settled abort) q = absurd (u.here.decided q)
          by k r w (settled commit) q =
              rw u.body at
              (fold_over s.mark (table f i es) (folds f i es) k (omega arith) u.entry
              (record { inside = u.inside; committed = q; writes = rw u.body w; below = rw u.body l }))

      gone_by : (b : Body) → T (gave f i b (vote commit) es) → stamp_of b ≤ s.mark → (low f i es < stamp_of b) ⊎ (stamp_of b ≤ low f i es)
          → Under g (e ∷ es) b
      gone_by b h l (inr y) =
          under_later e es b (folds f i es) g (λ k r. fold_up s.mark (table f i es) (folds f i es) k (omega arith)) (P.gone b h y)
      gone_by b h l (inl y) = under_later e es b g g (λ k r. omega arith) (now b l (here_or_dead i es R b h y))

  -- accepted before, or just now after the tests
  pub accepted : (i : ℕ) (e : Event) (es : List Event) → Moved f i e es → (b : Body) → Accepts i (e ∷ es) b
      → Accepts i es b ⊎ ((tx_part e.message ≡ b) × Clear (box_at f i es) (tx_part e.message))
  unfolding table
  accepted i e es s b x = from x
    where
      Before : Type 0
      Before = Accepts i es b ⊎ ((tx_part e.message ≡ b) × Clear (box_at f i es) (tx_part e.message))

      entry : Upright (table_after (table f i es) s.act.change) b → Before
      entry u = by (upright_cases s.act s.move b u)
        where
          by : Upright (table f i es) b ⊎ ((tx_part e.message ≡ b) × Clear (box_at f i es) (tx_part e.message)) → Before
          by (inl o) = inl (by_entry o)
          by (inr o) = inr o

      voted_now : New f i e es s.act b (vote commit) → Before
      voted_now (inr h) = inl (by_vote h)
      voted_now (inl h) = entry (rw h.0 at (upright_spoken (spoken s.move (vote commit) h.1)))

      from : Accepts i (e ∷ es) b → Before
      from (by_vote h) = voted_now (s.given b (vote commit) h)
      from (by_entry u) = entry (rw s.table_now at u)

  parted_moved : (i : ℕ) (e : Event) (es : List Event) → Moved f i e es → Rests f faulty i es → Parted i es → Parted i (e ∷ es)
  parted_moved i e es s R P = record {
    apart = λ b c x y h. either_later e es b c (apart_by b c h (accepted i e es s b x) (accepted i e es s c y));
    gone = λ b h l.
        under_later e es b (folds f i es) (folds f i (e ∷ es)) (same_folds _ _ s.folds_now) (gone_by b (rw s.low_now at l) (s.given b (vote commit) h));
  }
    where
      b₀ : Body
      b₀ = tx_part e.message

      Before : Body → Type 0
      Before b = Accepts i es b ⊎ ((b₀ ≡ b) × Clear (box_at f i es) b₀)

      gone_by : (b : Body) → stamp_of b ≤ low f i es → New f i e es s.act b (vote commit) → Under (folds f i es) es b
      gone_by b l (inl u) = absurd (omega (arith, s.high, ap stamp_of u.0))
      gone_by b l (inr u) = P.gone b u l

      apart_by : (b c : Body) → T (undercut b c) → Before b → Before c → Dead es b ⊎ Dead es c
      apart_by b c h (inl x) (inl y) = P.apart b c x y h
      apart_by b c h (inr x) (inl y) = inr (tested_under i es R P b₀ s.high x.1 c y (rw x.0 h))
      apart_by b c h (inl x) (inr y) = inl (tested_over i es R P b₀ s.high y.1 b x (rw y.0 h))
      apart_by b c h (inr x) (inr y) = absurd (undercut_self b₀ (rw x.0 (rw (sym y.0 ∙ x.0) at h)))

  pub parted : (i : ℕ) → Sound f faulty i → (es : List Event) → Fair f faulty es → Parted i es
  unfolding Fair
  parted i h [] F = parted_empty i
  parted i h (e ∷ es) F = go (step f i e es) (rests f faulty i h es F.0) (parted i h es F.0)
    where
      go : Step f i e es → Rests f faulty i es → Parted i es → Parted i (e ∷ es)
      go (still s) R P = parted_still i e es s P
      go (lifts s) R P = parted_lifted i e es s R P
      go (arrives s) R P = parted_moved i e es s R P
