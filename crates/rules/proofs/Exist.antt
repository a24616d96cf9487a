-- The committed ones can be listed in stamp order.
use Prim.Native.Nat.{ℕ, ◌≤◌, ◌<◌}
use mathlib.Core.Bool.{Bool}
use mathlib.Core.Path.{◌≡◌, refl}
use mathlib.Core.Logic.{◌⊎◌, inl, inr}
use mathlib.Core.List.Memᴰ
use mathlib.Core.List.Memᴰ.{head as here}
use mathlib.Core.List.Memᴰ.{tail as there}
use mathlib.Core.List.{List, [], ◌∷◌, Memᴰ as In}
use native.Mathlib.Omega.{arith}
use lib.Dec.{T, ltb, ltb→lt, nltb→le}
use Rattle.terms.specs.Choice.{pick}
use Rattle.terms.specs.Group.{boxes}
use Rattle.rules.specs.Answers.{commit}
use Rattle.rules.specs.Bodies.{Body, stamp_of, same_body}
use Rattle.records.specs.Cutting.{tx_part}
use Rattle.rules.specs.System.{Event, Word, vote, gives_now, gave, how_many, Fair, Proof, InOrder, Lists}
use Rattle.rules.proofs.Laws.{pick_elim, ands, or_cases, no_both, same_body_eq}
use Rattle.rules.proofs.Counting.{count_more}
use Rattle.rules.proofs.Quorums.{quorums}
use Rattle.rules.proofs.Backing.{upheld, upheld_gave}
use Rattle.rules.proofs.Global.{quorum, one_body_lem}
use Rattle.rules.proofs.Made.{provable, provable_proof, proof_provable}

-- in stamp order
insert : Body → List Body → List Body
insert b [] = b ∷ []
insert b (c ∷ cs) = pick (ltb (stamp_of b) (stamp_of c)) (b ∷ c ∷ cs) (pick (ltb (stamp_of c) (stamp_of b)) (c ∷ insert b cs) (c ∷ cs))

insert_from : (b : Body) (cs : List Body) (x : Body) → In x (insert b cs) → (x ≡ b) ⊎ In x cs
unfolding insert
insert_from b [] x h = Memᴰ.cases_cons h
insert_from b (c ∷ cs) x h =
    pick_elim P (ltb (stamp_of b) (stamp_of c)) (λ _ i. Memᴰ.cases_cons i)
    (λ _. pick_elim P (ltb (stamp_of c) (stamp_of b)) (λ _ i. go (Memᴰ.cases_cons i) (insert_from b cs x)) (λ _ i. inr i))
    h
  where
    P : List Body → Type 0
    P l = In x l → (x ≡ b) ⊎ In x (c ∷ cs)

    deeper : (x ≡ b) ⊎ In x cs → (x ≡ b) ⊎ In x (c ∷ cs)
    deeper (inl e) = inl e
    deeper (inr i) = inr (there i)

    go : (x ≡ c) ⊎ In x (insert b cs) → (In x (insert b cs) → (x ≡ b) ⊎ In x cs) → (x ≡ b) ⊎ In x (c ∷ cs)
    go (inl e) r = inr (here e)
    go (inr i) r = deeper (r i)

insert_keeps : (b : Body) (cs : List Body) (x : Body) → In x cs → In x (insert b cs)
unfolding insert
insert_keeps b [] x h = there h
insert_keeps b (c ∷ cs) x h =
    pick_elim (In x) (ltb (stamp_of b) (stamp_of c)) (λ _. there h)
    (λ _. pick_elim (In x) (ltb (stamp_of c) (stamp_of b)) (λ _. go (Memᴰ.cases_cons h) (insert_keeps b cs x)) (λ _. h))
  where
    go : (x ≡ c) ⊎ In x cs → (In x cs → In x (insert b cs)) → In x (c ∷ insert b cs)
    go (inl e) r = here e
    go (inr i) r = there (r i)

-- a stamp is there at most for this body
insert_has : (b : Body) (cs : List Body) → ((c : Body) → In c cs → stamp_of b ≡ stamp_of c → b ≡ c) → In b (insert b cs)
unfolding insert
insert_has b [] u = here refl
insert_has b (c ∷ cs) u =
    pick_elim (In b) (ltb (stamp_of b) (stamp_of c)) (λ _. here refl)
    (λ n. pick_elim (In b) (ltb (stamp_of c) (stamp_of b)) (λ _. there (insert_has b cs (λ x i. u x (there i))))
    (λ m. here (u c (here refl) (omega (arith, nltb→le (stamp_of b) (stamp_of c) n, nltb→le (stamp_of c) (stamp_of b) m)))))

insert_order : (b : Body) (cs : List Body) → InOrder cs → InOrder (insert b cs)
unfolding insert InOrder
insert_order b [] o = (λ c h. elim h [ ], tt)
insert_order b (c ∷ cs) o =
    pick_elim InOrder (ltb (stamp_of b) (stamp_of c)) (λ l. (λ x h. first l x (Memᴰ.cases_cons h), o))
    (λ _. pick_elim InOrder (ltb (stamp_of c) (stamp_of b)) (λ l. (λ x h. second l x (insert_from b cs x h), insert_order b cs o.1)) (λ _. o))
  where
    first : T (ltb (stamp_of b) (stamp_of c)) → (x : Body) → (x ≡ c) ⊎ In x cs → stamp_of b < stamp_of x
    first l x (inl e) = rw e (ltb→lt (stamp_of b) (stamp_of c) l)
    first l x (inr i) = omega (arith, ltb→lt (stamp_of b) (stamp_of c) l, o.0 x i)

    second : T (ltb (stamp_of c) (stamp_of b)) → (x : Body) → (x ≡ b) ⊎ In x cs → stamp_of c < stamp_of x
    second l x (inl e) = rw e (ltb→lt (stamp_of c) (stamp_of b) l)
    second l x (inr i) = o.0 x i

-- what was given was asked for
gave_asked : (f i : ℕ) (b : Body) (w : Word) (es : List Event) → T (gave f i b w es) → (e : Event) × In e es × (tx_part e.message ≡ b)
unfolding gave gives_now
gave_asked f i b w [] h = absurd h
gave_asked f i b w (e ∷ es) h =
    go (or_cases (gives_now f i b w e es) (gave f i b w es) h) (gave_asked f i b w es)
  where
    go : T (gives_now f i b w e es) ⊎ T (gave f i b w es)
        → (T (gave f i b w es) → (x : Event) × In x es × (tx_part x.message ≡ b)) → (x : Event) × In x (e ∷ es) × (tx_part x.message ≡ b)
    go (inl u) r = let a : T (same_body (tx_part e.message) b) = search ands in (e, here refl, same_body_eq (tx_part e.message) b a)
    go (inr u) r = let y = r u in (y.0, there y.1, y.2)

-- those of the asked that pass a test, in stamp order
gather : (Body → Bool) → List Event → List Body
gather p [] = []
gather p (e ∷ es) = pick (p (tx_part e.message)) (insert (tx_part e.message) (gather p es)) (gather p es)

module _ (p : Body → Bool) (single : (b c : Body) → T (p b) → T (p c) → stamp_of b ≡ stamp_of c → b ≡ c) where
  gather_order : (es : List Event) → InOrder (gather p es)
  unfolding gather InOrder
  gather_order [] = tt
  gather_order (e ∷ es) =
      pick_elim InOrder (p (tx_part e.message)) (λ _. insert_order (tx_part e.message) (gather p es) (gather_order es)) (λ _. gather_order es)

  gather_passes : (es : List Event) (b : Body) → In b (gather p es) → T (p b)
  unfolding gather
  gather_passes [] b h = elim h [ ]
  gather_passes (e ∷ es) b h =
      pick_elim (λ (l : List Body). In b l → T (p b)) (p (tx_part e.message))
      (λ y i. go y (insert_from (tx_part e.message) (gather p es) b i) (gather_passes es b))
      (λ _. gather_passes es b)
      h
    where
      go : T (p (tx_part e.message)) → (b ≡ tx_part e.message) ⊎ In b (gather p es) → (In b (gather p es) → T (p b)) → T (p b)
      go y (inl q) r = rw q y
      go y (inr i) r = r i

  gather_all : (es : List Event) (b : Body) → T (p b) → (e : Event) → In e es → tx_part e.message ≡ b → In b (gather p es)
  unfolding gather
  gather_all [] b y x h q = elim h [ ]
  gather_all (e ∷ es) b y x h q = go (Memᴰ.cases_cons h) (λ i. gather_all es b y x i q)
    where
      go : (x ≡ e) ⊎ In x es → (In x es → In b (gather p es))
          → In b (pick (p (tx_part e.message)) (insert (tx_part e.message) (gather p es)) (gather p es))
      go (inl u) r =
          let q' : tx_part e.message ≡ b = rw u at q in
          pick_elim (In b) (p (tx_part e.message))
          (λ z. rw q' (insert_has b (gather p es) (λ c i s. single b c y (gather_passes es c i) s)))
          (λ z. absurd (no_both (p (tx_part e.message)) (rw q' y) z))
      go (inr i) r =
          pick_elim (In b) (p (tx_part e.message)) (λ _. insert_keeps (tx_part e.message) (gather p es) b (r i)) (λ _. r i)

-- the committed ones can be listed in stamp order
pub listing : (f : ℕ) (faulty : ℕ → Bool) → how_many faulty (boxes f) ≤ f → (es : List Event) → Fair f faulty es
    → (bs : List Body) × Lists f faulty es bs
listing f faulty few es F = (
  gather p es,
  record {
    order = gather_order p single es;
    only = λ b h. provable_proof f faulty es b commit (gather_passes p single es b h);
    every = λ b P. let w = asked b P in gather_all p single es b (proof_provable f faulty few es b commit P) w.0 w.1 w.2;
  },
)
  where
    p : Body → Bool
    p b = provable f faulty es b commit

    single : (b c : Body) → T (p b) → T (p c) → stamp_of b ≡ stamp_of c → b ≡ c
    single b c y z s = one_body_lem f faulty few es F b c s (provable_proof f faulty es b commit y) (provable_proof f faulty es c commit z)

    asked : (b : Body) → Proof f faulty es b commit → (e : Event) × In e es × (tx_part e.message ≡ b)
    asked b P =
        let w = count_more (upheld f faulty es b (vote commit)) faulty (boxes f) (omega (arith, (quorums f).commit_sound, quorum f faulty few es F b P)) in
        gave_asked f w.0 b (vote commit) es (upheld_gave f faulty es b (vote commit) w.0 w.2 w.3)
