-- What sound boxes rest on along a fair trace: proofs, lists of votes, committed versions.
use Prim.Native.Nat.{ℕ, zero, suc, ◌≤◌, ◌<◌}
use mathlib.Core.Bool.{Bool}
use mathlib.Core.Path.{◌≡◌, refl, sym, ◌∙◌, ap}
use mathlib.Core.Logic.{◌⊎◌, inl, inr}
use mathlib.Core.List.{List, [], ◌∷◌, Memᴰ as In}
use native.Mathlib.Omega.{arith}
use lib.Dec.{T}
use lib.ListN.{get_or, replicate}
use Rattle.terms.specs.Group.{boxes}
use Rattle.records.specs.declared.Read.{Read}
use Rattle.records.specs.Tx.{read_key, read_version}
use Rattle.records.specs.Vl.{Vl}
use Rattle.records.specs.Views.{Views}
use Rattle.records.specs.declared.Mark.{Mark}
use Rattle.records.specs.declared.Mark.TheVariants.{PR, LG, DC, RD, IV, LD}
use Rattle.rules.specs.Answers.{Decision, commit, Version, Vote, unvoted, waiting, vote_commit, vote_abort, settled}
use Rattle.rules.specs.Bodies.{Body, stamp_of, reads_of, writes_key}
use Rattle.rules.specs.Lists.{decision_of}
use Rattle.rules.specs.Table.{Entry, empty, find, fold_at, no_version}
use Rattle.rules.specs.Low.{folds_up_to}
use Rattle.rules.specs.Calls.{Act}
use Rattle.records.specs.Cutting.{tx_part}
use Rattle.records.specs.Messages.{list_behind}
use Rattle.rules.specs.Act.{EntryPoint}
use Rattle.rules.specs.Quorums.{majority}
use Rattle.rules.specs.System.{Event, box_at, vote, log, elect, cast, gave, given_in, how_many, Sound, Backed, ChosenBy, Carries, HonestBy, Honest, Fair, Proof}
use Rattle.rules.proofs.Laws.{find_stamp, find_in}
use Rattle.rules.proofs.Moves.{un_settled, abort_commit, Names, start, here_held, here_folded, Ready, Listed, in_lg, in_dc, Brings, Leads, Move}
use Rattle.rules.proofs.Said.{Said, repeats, by_tests, by_list, by_leader, by_log, said}
use Rattle.rules.proofs.Folds.{From, as_it_was, fold_from, folded_in, in_above, without}
use Rattle.rules.proofs.Fresh.{Fresh, after_cases}
use Rattle.rules.proofs.Trace.{table, folds, New, Idle, Moved, Lifted, Step, still, arrives, lifts, step}
use Rattle.rules.proofs.Local.{carried_gave, local}
use Rattle.rules.proofs.Backing.{upheld, ballot_count, LogBehind, proof_later}

module _ (f : ℕ) (faulty : ℕ → Bool) where
  backed_in : (es : List Event) (m : List ℕ) (k : Mark) → Listed k → Carries f faulty (given_in f es) k m → Backed f faulty es (tx_part m) (list_behind m)
  unfolding Carries
  backed_in es m LG in_lg h = h
  backed_in es m DC in_dc h = h
  backed_in es m PR k h = elim k [ ]
  backed_in es m RD k h = elim k [ ]
  backed_in es m IV k h = elim k [ ]
  backed_in es m LD k h = elim k [ ]

  -- a list that a message brings is backed
  brought : (es : List Event) (way : EntryPoint) (m : List ℕ) (b : Body) (l : Vl) → Brings f way m b l → Honest f faulty es way m → Backed f faulty es b l
  unfolding HonestBy
  brought es way m b l w h = rw (← w.body, ← w.list) (backed_in es m w.mark w.carries (h w.mark w.marked w.read))

  -- and the election answers of a leader's decision were given
  led : (es : List Event) (way : EntryPoint) (m : List ℕ) (b : Body) (l : Views) → Leads f way m b l → Honest f faulty es way m
      → ChosenBy f faulty (given_in f es) b l
  unfolding HonestBy Carries
  led es way m b l w h = rw (← w.body, ← w.answers) (h LD w.marked w.read)

  -- where a sound box's log comes from: it was given earlier, or it rests on votes, or on the majority of election answers
  pub data Source (j : ℕ) (es : List Event) (b : Body) (d : Decision) (w : ℕ) : Type 0 where
    earlier : T (gave f j b (log d w) es) → Source j es b d w
    from_votes : 0 ≡ w → LogBehind f faulty es b d → Source j es b d w
    from_ballots : majority f ≤ how_many (upheld f faulty es b (elect d w)) (boxes f) → Source j es b d w

  source_said : (j : ℕ) (es : List Event) (way : EntryPoint) (m : List ℕ) (b : Body) (d : Decision) (w : ℕ) → Honest f faulty es way m
      → Said f (box_at f j es) way m b (log d w) → Source j es b d w
  unfolding table
  source_said j es way m b d w H (repeats e p h) =
      earlier (carried_gave f j es (local f j es) b (log d w) (record { entry = e; prior = p; holds = h }))
  source_said j es way m b d w H (by_tests d' v o q p n k r) = let z : ◌≡◌ {A = ℕ} 0 1 = cc in absurd (omega arith)
  source_said j es way m b d w H (by_list l o q i k y p n) =
      let a : decision_of l.decision ≡ d = cc in
      let v : 0 ≡ w = cc in
      from_votes v (record { list = l; kind = k; names = a; listing = y; backed = brought es way m b l i H })
  source_said j es way m b d w H (by_leader l o q i y p n k) =
      let a : decision_of l.decision ≡ d = cc in
      let v : l.view ≡ w = cc in
      from_ballots (rw (a, v) at (ballot_count f faulty es b l y (led es way m b l i H)))
  source_said j es way m b d w H (by_log v e x u q p h) = let z : ◌≡◌ {A = ℕ} 0 1 = cc in absurd (omega arith)

  pub source : (j : ℕ) → Sound f faulty j → (e : Event) (es : List Event) → Fair f faulty (e ∷ es) → (b : Body) (d : Decision) (w : ℕ)
      → T (gave f j b (log d w) (e ∷ es)) → Source j es b d w
  unfolding Fair
  source j s e es F b d w h = by (step f j e es)
    where
      by : Step f j e es → Source j es b d w
      by (still s') = earlier (s'.unsaid b (log d w) h)
      by (lifts s') = earlier (s'.unsaid b (log d w) h)
      by (arrives s') = go (s'.given b (log d w) h)
        where
          go : New f j e es s'.act b (log d w) → Source j es b d w
          go (inr u) = earlier u
          go (inl u) =
              rw (← u.0)
              (source_said j es e.entry e.message (tx_part e.message) d w (F.1 (rw s'.here s)) (said s'.move (log d w) u.1))

  -- a committed writer of a key at a version
  pub record Writer (es : List Event) (k v : ℕ) : Type 0 where
    pub body : Body
    pub stamp : stamp_of body ≡ v
    pub writes : T (writes_key body k)
    pub proof : Proof f faulty es body commit

  -- a version of a key that there is: the start, or of a committed writer
  abbrev pub Folded : List Event → ℕ → ℕ → Type 0
  Folded es k v = (v ≡ 0) ⊎ Writer es k v

  folded_later : (e : Event) (es : List Event) (k v w : ℕ) → v ≡ w → Folded es k w → Folded (e ∷ es) k v
  folded_later e es k v w q (inl z) = inl (q ∙ z)
  folded_later e es k v w q (inr u) =
      inr (rw q (record { body = u.body; stamp = u.stamp; writes = u.writes; proof = proof_later f faulty e es u.body commit u.proof }))

  pub record ReadOk (es : List Event) (b : Body) (r : Read) : Type 0 where
    pub below : read_version r < stamp_of b
    pub names : Folded es (read_key r) (read_version r)

  read_later : (e : Event) (es : List Event) (b : Body) (r : Read) → ReadOk es b r → ReadOk (e ∷ es) b r
  read_later e es b r w = record { below = w.below; names = folded_later e es (read_key r) (read_version r) (read_version r) refl w.names }

  -- the stamp that a box has folded of a key
  unfoldable pub fold_stamp : ℕ → List Event → ℕ → ℕ
  fold_stamp i es k = (fold_at (folds f i es) k).stamp.0

  same_fold : (i : ℕ) (e : Event) (es : List Event) → folds f i (e ∷ es) ≡ folds f i es → (k : ℕ) → fold_stamp i (e ∷ es) k ≡ fold_stamp i es k
  unfolding fold_stamp
  same_fold i e es q k = ap (λ (g : List Version). (fold_at g k).stamp.0) q

  -- of a sound box: what it decided has a proof, what it voted to commit reads committed versions, and what it folded is one
  pub record Rests (i : ℕ) (es : List Event) : Type 0 where
    pub decided : (e : Entry) (d : Decision) → In e (table f i es) → e.decided ≡ settled d → Proof f faulty es e.body d
    pub reads : (b : Body) → T (gave f i b (vote commit) es) → (r : Read) → In r (reads_of b) → ReadOk es b r
    pub folded : (k : ℕ) → Folded es k (fold_stamp i es k)

  none_folded : (n k : ℕ) → get_or (replicate n no_version) k no_version ≡ no_version
  none_folded zero k = refl
  none_folded (suc n) zero = refl
  none_folded (suc n) (suc k) = none_folded n k

  rests_empty : (i : ℕ) → Rests i []
  unfolding table folds fold_stamp box_at empty gave find
  rests_empty i = record {
    decided = λ e d p q. elim p [ ];
    reads = λ b h r m. absurd h;
    folded = λ k. inl (ap (λ (v : Version). v.stamp.0) (none_folded 512 k));
  }

  cast_commit : (v : Vote) → cast v ≡ settled commit → v ≡ vote_commit
  unfolding cast
  cast_commit unvoted h = absurd (un_settled refl h)
  cast_commit waiting h = absurd (un_settled refl h)
  cast_commit vote_commit h = refl
  cast_commit (vote_abort r) h = absurd (abort_commit refl h)

  ready_read : (i : ℕ) (es : List Event) → Rests i es → (b : Body) (v : Vote) → cast v ≡ settled commit → Ready (box_at f i es) b v → (r : Read)
      → In r (reads_of b) → ReadOk es b r
  unfolding table folds fold_stamp
  ready_read i es R b v q w r k = record { below = w.below r k; names = go (w.settled (cast_commit v q) r k) }
    where
      go : Names (box_at f i es) r → Folded es (read_key r) (read_version r)
      go (start z) = inl z
      go (here_folded z) = rw z at (R.folded (read_key r))
      go (here_held y) =
          inr (record {
            body = y.entry.body;
            stamp = find_stamp (read_version r) (table f i es) y.entry y.at;
            writes = y.writes;
            proof = R.decided y.entry commit (find_in (read_version r) (table f i es) y.entry y.at) y.committed;
          })

  reads_said : (i : ℕ) (es : List Event) → Rests i es → (way : EntryPoint) (m : List ℕ) (b : Body) → Said f (box_at f i es) way m b (vote commit) → (r : Read)
      → In r (reads_of b) → ReadOk es b r
  unfolding table
  reads_said i es R way m b (repeats e p h) = R.reads b (carried_gave f i es (local f i es) b (vote commit) (record { entry = e; prior = p; holds = h }))
  reads_said i es R way m b (by_tests d v o q p n k w) = let a : d ≡ commit = cc in ready_read i es R b v (rw a at k) w
  reads_said i es R way m b (by_list l o q k y w p n) = let z : ◌≡◌ {A = ℕ} 0 1 = cc in absurd (omega arith)
  reads_said i es R way m b (by_leader l o q k y p n u) = let z : ◌≡◌ {A = ℕ} 0 1 = cc in absurd (omega arith)
  reads_said i es R way m b (by_log v e d u q p h) = let z : ◌≡◌ {A = ℕ} 0 1 = cc in absurd (omega arith)

  rests_still : (i : ℕ) (e : Event) (es : List Event) → Idle f i e es → Rests i es → Rests i (e ∷ es)
  rests_still i e es s R = record {
    decided = λ x d p q. proof_later f faulty e es x.body d (R.decided x d (rw s.table_now at p) q);
    reads = λ b h r m. read_later e es b r (R.reads b (s.unsaid b (vote commit) h) r m);
    folded = λ k. folded_later e es k _ _ (same_fold i e es s.folds_now k) (R.folded k);
  }

  rests_lifted : (i : ℕ) (e : Event) (es : List Event) → Lifted f i e es → Rests i es → Rests i (e ∷ es)
  unfolding fold_stamp
  rests_lifted i e es s R = record {
    decided = λ x d p q. proof_later f faulty e es x.body d (R.decided x d (in_above s.mark x (table f i es) (rw s.table_now at p)).0 q);
    reads = λ b h r m. read_later e es b r (R.reads b (s.unsaid b (vote commit) h) r m);
    folded = λ k. folded_by k (fold_from s.mark (table f i es) (folds f i es) k);
  }
    where
      now : (k : ℕ) → fold_stamp i (e ∷ es) k ≡ (fold_at (folds_up_to s.mark (table f i es) (folds f i es)) k).stamp.0
      now k = ap (λ (g : List Version). (fold_at g k).stamp.0) s.folds_now

      folded_by : (k : ℕ) → From s.mark (table f i es) (folds f i es) k → Folded (e ∷ es) k (fold_stamp i (e ∷ es) k)
      folded_by k (as_it_was q) = folded_later e es k _ _ (now k ∙ q) (R.folded k)
      folded_by k (without q) = inl (now k ∙ q)
      folded_by k (folded_in o w q) =
          inr (record {
            body = o.body;
            stamp = q ∙ sym (now k);
            writes = w.writes;
            proof = proof_later f faulty e es o.body commit (R.decided o commit w.inside w.committed);
          })

  rests_moved : (i : ℕ) (e : Event) (es : List Event) → Moved f i e es → Honest f faulty es e.entry e.message → Rests i es → Rests i (e ∷ es)
  unfolding table
  rests_moved i e es s hon R = record {
    decided = λ x d p q. proof_later f faulty e es x.body d (decided_by x d q (after_cases a m x (rw s.table_now at p)));
    reads = λ b h r k. read_later e es b r (reads_by b (s.given b (vote commit) h) r k);
    folded = λ k. folded_later e es k _ _ (same_fold i e es s.folds_now k) (R.folded k);
  }
    where
      b₀ : Body
      b₀ = tx_part e.message

      a : Act
      a = s.act

      m : Move f (box_at f i es) e.entry e.message b₀ a
      m = s.move

      decided_by : (x : Entry) (d : Decision) → x.decided ≡ settled d → In x (table f i es) ⊎ Fresh f (box_at f i es) e.entry e.message b₀ x a.answer
          → Proof f faulty es x.body d
      decided_by x d q (inl o) = R.decided x d o q
      decided_by x d q (inr w) =
          let y = w.decided d q in
          rw w.owner
          (record {
            list = y.0;
            names = y.2;
            formed = y.1.listing.formed;
            enough = y.1.listing.enough;
            backed = brought es e.entry e.message b₀ y.0 y.1.brings hon;
          })

      reads_by : (b : Body) → New f i e es a b (vote commit) → (r : Read) → In r (reads_of b) → ReadOk es b r
      reads_by b (inr u) = R.reads b u
      reads_by b (inl u) = rw (← u.0) (reads_said i es R e.entry e.message b₀ (said m (vote commit) u.1))

  pub rests : (i : ℕ) → Sound f faulty i → (es : List Event) → Fair f faulty es → Rests i es
  unfolding Fair
  rests i h [] F = rests_empty i
  rests i h (e ∷ es) F = go (step f i e es) (rests i h es F.0)
    where
      go : Step f i e es → Rests i es → Rests i (e ∷ es)
      go (still s) R = rests_still i e es s R
      go (lifts s) R = rests_lifted i e es s R
      go (arrives s) R = rests_moved i e es s (F.1 (rw s.here h)) R
