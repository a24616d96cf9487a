-- The counts behind backed lists: proofs and lists for logging.
use Prim.Native.Nat.{ℕ, ◌≤◌, ◌<◌}
use mathlib.Core.Bool.{Bool, not, ◌&&◌, ◌||◌}
use mathlib.Core.Path.{◌≡◌, refl, sym, ◌∙◌, ap}
use mathlib.Core.Logic.{◌⊎◌, inl, inr}
use mathlib.Core.List.Memᴰ
use mathlib.Core.List.Memᴰ.{head as here}
use mathlib.Core.List.Memᴰ.{tail as there}
use mathlib.Core.List.{List, [], ◌∷◌, map, Memᴰ as In}
use native.Mathlib.Omega.{arith}
use lib.Dec.{T, eqb, eqb→eq, leb→le}
use Rattle.terms.specs.Checks.{passed}
use Rattle.terms.specs.Group.{boxes}
use Rattle.records.specs.declared.Pair.{Pair}
use Rattle.records.specs.Vl.{Vl}
use Rattle.records.specs.Views.{Views, ballot_pair}
use Rattle.records.specs.Contents.{list_wrong}
use Rattle.rules.specs.Answers.{Decision, votes}
use Rattle.rules.specs.Bodies.{Body}
use Rattle.rules.specs.Lists.{kind_of, decision_of, for_logging, for_proof, tally, meets}
use Rattle.rules.specs.Quorums.{majority}
use Rattle.rules.specs.System.{Event, Word, vote, elect, word, gave, given_in, how_many, Sound, Backed, BackedBy, ChosenBy, Proof}
use Rattle.rules.proofs.Laws.{ands, or_cases, or_l, or_r, decide_t, no_both, any_found}
use Rattle.rules.proofs.Counting.{count_mono, says, rising, boxes_rising, formed_rising, tally_count}
use Rattle.rules.proofs.Moves.{Listing, Leading}
use Rattle.rules.proofs.Trace.{gave_later}

in_map : {A B : Type 0} (g : A → B) (xs : List A) (y : B) → In y (map g xs) → (x : A) × In x xs × (y ≡ g x)
in_map g [] y h = elim h [ ]
in_map {A} {B} g (a ∷ xs) y h = go (Memᴰ.cases_cons h) (in_map g xs y)
  where
    go : (y ≡ g a) ⊎ In y (map g xs) → (In y (map g xs) → (x : A) × In x xs × (y ≡ g x)) → (x : A) × In x (a ∷ xs) × (y ≡ g x)
    go (inl e) r = (a, here refl, e)
    go (inr i) r = let w = r i in (w.0, there w.1, w.2)

module _ (f : ℕ) (faulty : ℕ → Bool) where
  -- the boxes that are faulty or gave it
  unfoldable pub upheld : List Event → Body → Word → ℕ → Bool
  upheld es b w i = faulty i || gave f i b w es

  pub upheld_gave : (es : List Event) (b : Body) (w : Word) (i : ℕ) → T (upheld es b w i) → T (not (faulty i)) → T (gave f i b w es)
  unfolding upheld
  upheld_gave es b w i h s = go (or_cases (faulty i) (gave f i b w es) h)
    where
      go : T (faulty i) ⊎ T (gave f i b w es) → T (gave f i b w es)
      go (inl y) = absurd (no_both (faulty i) y s)
      go (inr y) = y

  -- pairs that are what sound boxes gave: as many are upheld as are tallied
  pub pairs_count : (es : List Event) (b : Body) (w : Word) (d : ℕ) (ps : List Pair) → T (rising 0 (boxes f) ps)
      → ((p : Pair) → In p ps → Sound f faulty p.number → p.answer ≡ d → T (gave f p.number b w es))
      → tally d ps ≤ how_many (upheld es b w) (boxes f)
  unfolding says upheld
  pairs_count es b w d ps r g = omega (arith, tally_count d 0 (boxes f) ps r, count_mono (says d ps) (upheld es b w) (boxes f) each)
    where
      each : (i : ℕ) → i < boxes f → T (says d ps i) → T (upheld es b w i)
      each i n h = go (decide_t (faulty i))
        where
          go : T (faulty i) ⊎ T (not (faulty i)) → T (upheld es b w i)
          go (inl y) = or_l (faulty i) (gave f i b w es) y
          go (inr y) =
              let m = any_found (λ p. eqb p.number i && eqb p.answer d) ps h in
              let k = m.2 in
              let q : T (eqb m.0.number i) = search ands in
              let s : T (eqb m.0.answer d) = search ands in
              let q' = eqb→eq m.0.number i q in
              let t = g m.0 m.1 (rw q' (n, y)) (eqb→eq m.0.answer d s) in
              or_r (faulty i) (gave f i b w es) (rw q' at t)

  -- the election answers behind a leader's decision
  pub ballot_count : (es : List Event) (b : Body) (l : Views) → Leading f l → ChosenBy f faulty (given_in f es) b l
      → majority f ≤ how_many (upheld es b (elect (decision_of l.decision) l.view)) (boxes f)
  unfolding ChosenBy
  ballot_count es b l w C =
      omega (
        arith,
        w.most,
        pairs_count es b (elect (decision_of l.decision) l.view) l.decision (map ballot_pair l.ballots)
            (boxes_rising f (map ballot_pair l.ballots) w.formed) each,
      )
    where
      each : (p : Pair) → In p (map ballot_pair l.ballots) → Sound f faulty p.number → p.answer ≡ l.decision
          → T (gave f p.number b (elect (decision_of l.decision) l.view) es)
      each p m s q =
          let y = in_map ballot_pair l.ballots p m in
          let i : p.number ≡ y.0.number = ap (λ (z : Pair). z.number) y.2 in
          let j : y.0.answer ≡ l.decision = sym (ap (λ (z : Pair). z.answer) y.2) ∙ q in
          let h = C y.0 y.1 (rw i at s) in
          rw i (rw (j, w.views y.0 y.1) at h)

  list_count : (es : List Event) (b : Body) (l : Vl) (need : ℕ) → list_wrong f l ≡ passed → T (meets need l) → Backed f faulty es b l
      → need ≤ how_many (upheld es b (word (kind_of l.kind) l.view (decision_of l.decision))) (boxes f)
  unfolding meets BackedBy
  list_count es b l need wf h B =
      omega (
        arith,
        leb→le need (tally l.decision l.pairs) h,
        pairs_count es b (word (kind_of l.kind) l.view (decision_of l.decision)) l.decision l.pairs (formed_rising f l wf)
            (λ p m s q. rw (← q) (B p m s)),
      )

  -- the votes or logs behind a proof, and the votes behind a logged decision
  pub proof_count : (es : List Event) (b : Body) (d : Decision) (P : Proof f faulty es b d)
      → for_proof f (kind_of P.list.kind) d ≤ how_many (upheld es b (word (kind_of P.list.kind) P.list.view d)) (boxes f)
  proof_count es b d P =
      let n = list_count es b P.list (for_proof f (kind_of P.list.kind) (decision_of P.list.decision)) P.formed P.enough P.backed in
      rw P.names at n

  pub record LogBehind (es : List Event) (b : Body) (d : Decision) : Type 0 where
    pub list : Vl
    pub kind : kind_of list.kind ≡ votes
    pub names : decision_of list.decision ≡ d
    pub listing : Listing f list (for_logging f (decision_of list.decision))
    pub backed : Backed f faulty es b list

  pub logged_count : (es : List Event) (b : Body) (d : Decision) → LogBehind es b d → for_logging f d ≤ how_many (upheld es b (vote d)) (boxes f)
  unfolding word
  logged_count es b d P =
      let n = list_count es b P.list (for_logging f (decision_of P.list.decision)) P.listing.formed P.listing.enough P.backed in
      rw (P.names, P.kind) at n

  pub backed_later : (e : Event) (es : List Event) (b : Body) (l : Vl) → Backed f faulty es b l → Backed f faulty (e ∷ es) b l
  unfolding BackedBy
  backed_later e es b l h p m s = gave_later f p.number e es b (word (kind_of l.kind) l.view (decision_of p.answer)) (h p m s)

  pub logged_later : (e : Event) (es : List Event) (b : Body) (d : Decision) → LogBehind es b d → LogBehind (e ∷ es) b d
  logged_later e es b d P =
      record { list = P.list; kind = P.kind; names = P.names; listing = P.listing; backed = backed_later e es b P.list P.backed }

  pub proof_later : (e : Event) (es : List Event) (b : Body) (d : Decision) → Proof f faulty es b d → Proof f faulty (e ∷ es) b d
  proof_later e es b d P =
      record { list = P.list; names = P.names; formed = P.formed; enough = P.enough; backed = backed_later e es b P.list P.backed }
