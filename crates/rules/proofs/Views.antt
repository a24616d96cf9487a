-- Logs across views: a decision that 4f + 1 boxes logged in one view is the only one that is ever logged in a higher view.
use Prim.Native.Nat.{ℕ, ◌≤◌, ◌<◌}
use mathlib.Core.Bool.{Bool}
use mathlib.Core.Path.{◌≡◌}
use mathlib.Core.Logic.{◌⊎◌, inl, inr}
use mathlib.Core.List.{List, [], ◌∷◌}
use native.Mathlib.Omega.{arith}
use lib.Dec.{T}
use Rattle.terms.specs.Group.{boxes}
use Rattle.rules.specs.Answers.{Decision, logs}
use Rattle.rules.specs.Bodies.{Body}
use Rattle.rules.specs.Lists.{for_proof}
use Rattle.rules.specs.System.{Event, log, elect, gave, how_many, Sound, Fair}
use Rattle.rules.proofs.Laws.{lt_cases}
use Rattle.rules.proofs.Counting.{count_more, meet}
use Rattle.rules.proofs.Quorums.{quorums}
use Rattle.rules.proofs.Trace.{gave_later}
use Rattle.rules.proofs.Local.{Elected, local, none_new}
use Rattle.rules.proofs.Backing.{upheld, upheld_gave, LogBehind, logged_later}
use Rattle.rules.proofs.Rests.{Source, earlier, from_votes, from_ballots, source}

module _ (f : ℕ) (faulty : ℕ → Bool) (few : how_many faulty (boxes f) ≤ f) where
  -- every logged decision, of whatever view, rests on votes
  pub votes_behind : (es : List Event) → Fair f faulty es → (j : ℕ) → Sound f faulty j → (b : Body) (d : Decision) (w : ℕ)
      → T (gave f j b (log d w) es) → LogBehind f faulty es b d
  unfolding Fair gave
  votes_behind [] F j s b d w h = absurd h
  votes_behind (e ∷ es) F j s b d w h =
      logged_later f faulty e es b d (go (source f faulty j s e es F b d w h) (votes_behind es F.0))
    where
      All : Type 0
      All = (i : ℕ) → Sound f faulty i → (c : Body) (x : Decision) (u : ℕ) → T (gave f i c (log x u) es) → LogBehind f faulty es c x

      go : Source f faulty j es b d w → All → LogBehind f faulty es b d
      go (earlier y) r = r j s b d w y
      go (from_votes q y) r = y
      go (from_ballots y) r =
          let m = count_more (upheld f faulty es b (elect d w)) faulty (boxes f) (omega (arith, (quorums f).elect_sound)) in
          let x = (local f m.0 es).elections b d w (upheld_gave f faulty es b (elect d w) m.0 m.2 m.3) in
          r m.0 (m.1, m.3) b d x.view x.log_given

  module _ (b : Body) (v : ℕ) (d : Decision) (p : ℕ → Bool) (many : for_proof f logs d ≤ how_many p (boxes f)) where
    -- those of p that gave an election answer for a view above v had logged d in v
    Bound : List Event → Type 0
    Bound es =
        (i : ℕ) → Sound f faulty i → T (p i) → (x : Decision) (w : ℕ) → v < w → T (gave f i b (elect x w) es) → T (gave f i b (log d v) es)

    agree : (es : List Event) → Fair f faulty es → Bound es → (j : ℕ) → Sound f faulty j → (x : Decision) (w : ℕ) → v < w
        → T (gave f j b (log x w) es) → x ≡ d
    unfolding Fair gave Bound
    agree [] F B j s x w l h = absurd h
    agree (e ∷ es) F B j s x w l h = go (source f faulty j s e es F b x w h) (agree es F.0 before)
      where
        before : Bound es
        before i t q y u k g = none_new f i e es b d y v u k g (B i t q y u k (gave_later f i e es b (elect y u) g))

        All : Type 0
        All = (i : ℕ) → Sound f faulty i → (y : Decision) (u : ℕ) → v < u → T (gave f i b (log y u) es) → y ≡ d

        told : (i : ℕ) → Sound f faulty i → T (gave f i b (log d v) es) → Elected f i es b x w → All → x ≡ d
        told i t g y r = same (lt_cases v y.view)
          where
            same : (v < y.view) ⊎ (y.view ≤ v) → x ≡ d
            same (inl q) = r i t x y.view q y.log_given
            same (inr q) =
                let k : y.view ≡ v = omega (arith, q, y.top d v l g) in
                (local f i es).one_log b x d v (rw k at y.log_given) g

        go : Source f faulty j es b x w → All → x ≡ d
        go (earlier y) r = r j s x w l y
        go (from_votes q y) r = absurd (omega (arith, q, l))
        go (from_ballots y) r =
            let m = meet p (upheld f faulty es b (elect x w)) faulty (boxes f) (omega (arith, (quorums f).logs_elect d)) in
            let g = upheld_gave f faulty es b (elect x w) m.0 m.3 m.4 in
            told m.0 (m.1, m.4) (before m.0 (m.1, m.4) m.2 x w l g) ((local f m.0 es).elections b x w g) r

  pub one_log : (es : List Event) → Fair f faulty es → (b : Body) (v w : ℕ) (d x : Decision) → v < w
      → for_proof f logs d ≤ how_many (upheld f faulty es b (log d v)) (boxes f) → (j : ℕ) → Sound f faulty j → T (gave f j b (log x w) es) → x ≡ d
  unfolding Bound
  one_log es F b v w d x l many j s h =
      agree b v d (upheld f faulty es b (log d v)) many es F (λ i t q y u k g. upheld_gave f faulty es b (log d v) i q t.1) j s x w l h
