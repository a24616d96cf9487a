-- One outcome, one body, and no write between a read and its version: from what sound boxes rest on.
use Prim.Native.Nat.{ℕ, ◌+◌, ◌≤◌, ◌<◌}
use mathlib.Core.Bool.{Bool, ◌&&◌}
use mathlib.Core.Path.{◌≡◌, refl, sym}
use mathlib.Core.Logic.{◌⊎◌, inl, inr}
use mathlib.Core.List.{List, Memᴰ as In}
use native.Mathlib.Omega.{arith}
use lib.Dec.{T, ltb, lt→ltb}
use Rattle.terms.specs.Group.{boxes}
use Rattle.records.specs.declared.Read.{Read}
use Rattle.records.specs.Tx.{read_key, read_version}
use Rattle.rules.specs.Answers.{Decision, commit, abort, Kind, votes, logs}
use Rattle.rules.specs.Bodies.{Body, stamp_of, reads_of, writes_key}
use Rattle.rules.specs.Lists.{kind_of, for_logging, for_proof}
use Rattle.rules.specs.Tests.{undercut}
use Rattle.rules.specs.System.{Event, Word, vote, log, word, gave, how_many, Sound, Fair, Proof}
use Rattle.rules.proofs.Laws.{both, any_of, lt_cases}
use Rattle.rules.proofs.Counting.{count_more, meet}
use Rattle.rules.proofs.Quorums.{quorums}
use Rattle.rules.proofs.Local.{local}
use Rattle.rules.proofs.Backing.{upheld, upheld_gave, proof_count, logged_count}
use Rattle.rules.proofs.Rests.{ReadOk, rests}
use Rattle.rules.proofs.Views.{votes_behind, one_log}
use Rattle.rules.proofs.Apart.{Dead, aborted, rivalled, by_vote, parted}

commit_abort : commit ≡ abort → ⊥
commit_abort p = let z : ◌≡◌ {A = ℕ} 0 1 = cc in omega arith

module _ (f : ℕ) (faulty : ℕ → Bool) (few : how_many faulty (boxes f) ≤ f) (es : List Event) (F : Fair f faulty es) where
  many : Body → Word → ℕ
  many b w = how_many (upheld f faulty es b w) (boxes f)

  -- a sound box that gave both of two words
  record Both (b b' : Body) (w w' : Word) : Type 0 where
    box : ℕ
    sound : Sound f faulty box
    one : T (gave f box b w es)
    two : T (gave f box b' w' es)

  shared : (b b' : Body) (w w' : Word) → boxes f + f < many b w + many b' w' → Both b b' w w'
  unfolding many
  shared b b' w w' h =
      let m = meet (upheld f faulty es b w) (upheld f faulty es b' w') faulty (boxes f) (omega arith) in
      record {
        box = m.0;
        sound = (m.1, m.4);
        one = upheld_gave f faulty es b w m.0 m.2 m.4;
        two = upheld_gave f faulty es b' w' m.0 m.3 m.4;
      }

  -- a sound box that gave a word which more than f uphold
  record Giver (b : Body) (w : Word) : Type 0 where
    box : ℕ
    sound : Sound f faulty box
    one : T (gave f box b w es)

  giver : (b : Body) (w : Word) → f < many b w → Giver b w
  unfolding many
  giver b w h =
      let m = count_more (upheld f faulty es b w) faulty (boxes f) (omega arith) in
      record { box = m.0; sound = (m.1, m.3); one = upheld_gave f faulty es b w m.0 m.2 m.3 }

  -- a proof is votes, or logged decisions of one view
  data Case (b : Body) (d : Decision) : Type 0 where
    by_votes : for_proof f votes d ≤ many b (vote d) → Case b d
    by_logs : (v : ℕ) → for_proof f logs d ≤ many b (log d v) → Case b d

  cases : (b : Body) (d : Decision) → Proof f faulty es b d → Case b d
  unfolding many word
  cases b d P = go (kind_of P.list.kind) (proof_count f faulty es b d P)
    where
      go : (k : Kind) → for_proof f k d ≤ many b (word k P.list.view d) → Case b d
      go votes h = by_votes h
      go logs h = by_logs P.list.view h

  behind_logs : (b : Body) (d : Decision) (v : ℕ) → for_proof f logs d ≤ many b (log d v) → for_logging f d ≤ many b (vote d)
  unfolding many
  behind_logs b d v h =
      let w = giver b (log d v) (omega (arith, (quorums f).log_sound d)) in
      logged_count f faulty es b d (votes_behind f faulty few es F w.box w.sound b d v w.one)

  quorum_votes : (b : Body) → Case b commit → for_logging f commit ≤ many b (vote commit)
  quorum_votes b (by_votes h) = omega (arith, (quorums f).proof_lists)
  quorum_votes b (by_logs v h) = behind_logs b commit v h

  pub quorum : (b : Body) → Proof f faulty es b commit → for_logging f commit ≤ how_many (upheld f faulty es b (vote commit)) (boxes f)
  unfolding many
  quorum b P = quorum_votes b (cases b commit P)

  -- no box votes both ways; and 4f + 1 boxes do not log one decision and 4f + 1 the other, in one view or in two
  votes_clash : (b : Body) → boxes f + f < many b (vote commit) + many b (vote abort) → ⊥
  votes_clash b h =
      let w = shared b b (vote commit) (vote abort) h in
      commit_abort ((local f w.box es).one_vote b b commit abort w.one w.two refl).1

  logs_clash : (b : Body) (u v : ℕ) → for_proof f logs commit ≤ many b (log commit u) → for_proof f logs abort ≤ many b (log abort v) → ⊥
  unfolding many
  logs_clash b u v h k = go (lt_cases u v) (lt_cases v u)
    where
      go : (u < v) ⊎ (v ≤ u) → (v < u) ⊎ (u ≤ v) → ⊥
      go (inl l) r =
          let w = giver b (log abort v) (omega (arith, (quorums f).log_sound abort)) in
          commit_abort (sym (one_log f faulty few es F b u v commit abort l h w.box w.sound w.one))
      go (inr l) (inl r) =
          let w = giver b (log commit u) (omega (arith, (quorums f).log_sound commit)) in
          commit_abort (one_log f faulty few es F b v u abort commit r k w.box w.sound w.one)
      go (inr l) (inr r) =
          let q : v ≡ u = omega arith in
          let k' = rw q at k in
          let w = shared b b (log commit u) (log abort u) (omega (arith, (quorums f).both_logged)) in
          commit_abort ((local f w.box es).one_log b commit abort u w.one w.two)

  pub one_outcome_lem : (b : Body) → Proof f faulty es b commit → Proof f faulty es b abort → ⊥
  one_outcome_lem b P Q = go (cases b commit P) (cases b abort Q)
    where
      go : Case b commit → Case b abort → ⊥
      go (by_votes c) (by_votes h) = votes_clash b (omega (arith, (quorums f).both_voted))
      go (by_votes c) (by_logs v h) = votes_clash b (omega (arith, (quorums f).abort_logged, behind_logs b abort v h))
      go (by_logs u c) (by_votes h) = votes_clash b (omega (arith, (quorums f).commit_logged, behind_logs b commit u c))
      go (by_logs u c) (by_logs v h) = logs_clash b u v c h

  agreeing : (b c : Body) → Proof f faulty es b commit → Proof f faulty es c commit → Both b c (vote commit) (vote commit)
  unfolding many
  agreeing b c P Q = shared b c (vote commit) (vote commit) (omega (arith, (quorums f).two_commits, quorum b P, quorum c Q))

  pub one_body_lem : (b c : Body) → stamp_of b ≡ stamp_of c → Proof f faulty es b commit → Proof f faulty es c commit → b ≡ c
  one_body_lem b c s P Q = let w = agreeing b c P Q in ((local f w.box es).one_vote b c commit commit w.one w.two s).0

  pub alive : (b : Body) → Proof f faulty es b commit → Dead f faulty es b → ⊥
  alive b P (aborted Q) = one_outcome_lem b P Q
  alive b P (rivalled c q n Q) = n (one_body_lem c b q Q P)

  never_undercut : (b c : Body) → Proof f faulty es b commit → Proof f faulty es c commit → T (undercut b c) → ⊥
  never_undercut b c P Q h =
      let w = agreeing b c P Q in
      go ((parted f faulty w.box w.sound es F).apart b c (by_vote w.one) (by_vote w.two) h)
    where
      go : Dead f faulty es b ⊎ Dead f faulty es c → ⊥
      go (inl d) = alive b P d
      go (inr d) = alive c Q d

  pub read_ok : (b : Body) → Proof f faulty es b commit → (r : Read) → In r (reads_of b) → ReadOk f faulty es b r
  unfolding many
  read_ok b P r m =
      let w = giver b (vote commit) (omega (arith, (quorums f).commit_sound, quorum b P)) in
      (rests f faulty w.box w.sound es F).reads b w.one r m

  pub none_between : (b c : Body) → Proof f faulty es b commit → Proof f faulty es c commit → (r : Read) → In r (reads_of b)
      → T (writes_key c (read_key r)) → read_version r < stamp_of c → stamp_of c < stamp_of b → ⊥
  unfolding undercut
  none_between b c P Q r m w l u =
      never_undercut b c P Q
      (any_of (λ q. writes_key c (read_key q) && (ltb (read_version q) (stamp_of c) && ltb (stamp_of c) (stamp_of b))) (reads_of b) r m
      (both (writes_key c (read_key r)) (ltb (read_version r) (stamp_of c) && ltb (stamp_of c) (stamp_of b)) w
      (both (ltb (read_version r) (stamp_of c)) (ltb (stamp_of c) (stamp_of b))
      (lt→ltb (read_version r) (stamp_of c) l)
      (lt→ltb (stamp_of c) (stamp_of b) u))))
