-- Numbers, items, views, pairs and ballots: what was written is read, and what was read is written.
use Prim.Native.Nat.{ℕ, zero, suc, ◌+◌, ◌*◌, ◌-◌, ◌/◌, ◌%◌, ◌^◌, ◌<◌, ◌≤◌}
use native.Mathlib.Omega.{arith}
use native.Mathlib.Nat.{pow-succ'}
use mathlib.Core.Path.{◌≡◌, refl, ap, sym, ◌∙◌}
use mathlib.Core.List.{List, [], ◌∷◌, ◌++◌, map, append_assoc}
use lib.Dec.{eqb}
use lib.ListN.{length, get_or, take, drop, length-append, length-take, length-drop, take-append-drop}
use lib.Seq.{take_at, drop_at, get_or-drop, take-add, drop-drop}
use Rattle.terms.specs.Choice.{pick, tab}
use Rattle.terms.proofs.Scans.{tab_shift, tab_same}
use Rattle.records.specs.Numbers.{le_val, le_bytes, num_at}
use Rattle.records.specs.Tx.{flat}
use Rattle.records.specs.Vl.{view_len, view_of, view_bytes, flat_pairs, pair_at}
use Rattle.records.specs.Views.{ballots_from, ballot_len, ballot_from, ballot_at, ballot_bytes, flat_ballots, led_bytes, own_ballot, own_number}
use Rattle.records.specs.declared.Ballot.{Ballot}
use Rattle.records.specs.declared.Pair.{Pair}
use Rattle.records.specs.declared.ViewMark.{ViewMark}
use Rattle.records.specs.declared.ViewMark.TheVariants.{VS, EL}
use Rattle.writing.specs.OneForm.{Bytes, Each, none, more, Fits, ViewFits}
use Rattle.writing.proofs.Lengths.{either_way, ballot_long}

-- ---- numbers
pub bytes_long : (n x : ℕ) → length (le_bytes n x) ≡ n
bytes_long zero x = refl
bytes_long (suc n) x = ap suc (bytes_long n (x / 256))

pub number_back : (n x : ℕ) → x < 256 ^ n → le_val (le_bytes n x) ≡ x
number_back zero x h = omega arith
number_back (suc n) x h =
    let p : 256 ^ suc n ≡ 256 * 256 ^ n = pow-succ' 256 n in
    let e : le_val (le_bytes n (x / 256)) ≡ x / 256 = number_back n (x / 256) (omega arith) in
    omega arith

pub bytes_back : (s : List ℕ) → Bytes s → le_bytes (length s) (le_val s) ≡ s
bytes_back [] h = refl
bytes_back (b ∷ s) h =
    let l : b < 256 = h 0 in
    let m : (b + 256 * le_val s) % 256 ≡ b = omega arith in
    let d : (b + 256 * le_val s) / 256 ≡ le_val s = omega arith in
    rw (m, d, bytes_back s (λ i. h (suc i)))

pub bytes_take : (n : ℕ) (s : List ℕ) → Bytes s → Bytes (take n s)
bytes_take zero s h i = omega arith
bytes_take (suc n) [] h i = omega arith
bytes_take (suc n) (x ∷ s) h zero = h 0
bytes_take (suc n) (x ∷ s) h (suc i) = bytes_take n s (λ j. h (suc j)) i

pub bytes_drop : (n : ℕ) (s : List ℕ) → Bytes s → Bytes (drop n s)
bytes_drop n s h i = rw get_or-drop (h (n + i))

-- a number where it was written, and where it was read
pub num_at_lem : (n p x : ℕ) (pre post : List ℕ) → length pre ≡ p → x < 256 ^ n → num_at n p (pre ++ (le_bytes n x ++ post)) ≡ x
unfolding num_at
num_at_lem n p x pre post h l = rw (drop_at pre (le_bytes n x ++ post) p h, take_at (le_bytes n x) post n (bytes_long n x)) (number_back n x l)

pub num_back : (n p : ℕ) (s : List ℕ) → Bytes s → p + n ≤ length s → le_bytes n (num_at n p s) ≡ take n (drop p s)
unfolding num_at
num_back n p s h l =
    let e : length (take n (drop p s)) ≡ n = simp (length-take, length-drop) (omega arith) in
    ap (λ (m : ℕ). le_bytes m (le_val (take n (drop p s)))) (sym e) ∙ bytes_back (take n (drop p s)) (bytes_take n (drop p s) (bytes_drop p s h))

join : {a b c d e f : List ℕ} → a ≡ d → b ≡ e → c ≡ f → a ++ (b ++ c) ≡ d ++ (e ++ f)
join p q r = cc

-- ---- a key with what stands beside it: reads and writes alike
module _ {A : Type 0} (k v : A → ℕ) (mk : ℕ → ℕ → A) where
  abbrev pub item : List ℕ → ℕ → ℕ → A
  item s p j = mk (num_at 2 (p + j * 10) s) (num_at 8 (p + j * 10 + 2) s)

  item_next : (s : List ℕ) (p j : ℕ) → item s p (j + 1) ≡ item s (p + 10) j
  item_next s p j =
      let a : p + (j + 1) * 10 ≡ p + 10 + j * 10 = omega arith in
      rw a

  pub items_read : ((x : A) → mk (k x) (v x) ≡ x) → (xs : List A) (pre post : List ℕ) (p : ℕ) → length pre ≡ p → Each (Fits k v) xs → tab (item (pre ++ (flat k v xs ++ post)) p) 0 (length xs) ≡ xs
  items_read eta [] pre post p h m = refl
  items_read eta (x ∷ xs) pre post p h (more f m) =
      let s : List ℕ = pre ++ (flat k v (x ∷ xs) ++ post) in
      let pre2 : List ℕ = pre ++ le_bytes 2 (k x) in
      let pre3 : List ℕ = pre2 ++ le_bytes 8 (v x) in
      let l2 : length pre2 ≡ p + 2 = length-append pre (le_bytes 2 (k x)) ∙ (omega arith) in
      let l3 : length pre3 ≡ p + 10 = length-append pre2 (le_bytes 8 (v x)) ∙ (omega (arith, bytes_long 8 (v x))) in
      let s1 : s ≡ pre ++ (le_bytes 2 (k x) ++ (le_bytes 8 (v x) ++ (flat k v xs ++ post))) = simp append_assoc in
      let s2 : s ≡ pre2 ++ (le_bytes 8 (v x) ++ (flat k v xs ++ post)) = simp append_assoc in
      let s3 : s ≡ pre3 ++ (flat k v xs ++ post) = simp append_assoc in
      let z : p + 0 * 10 ≡ p = omega arith in
      let e1 : num_at 2 p s ≡ k x = ap (num_at 2 p) s1 ∙ num_at_lem 2 p (k x) pre (le_bytes 8 (v x) ++ (flat k v xs ++ post)) h f.0 in
      let e2 : num_at 8 (p + 2) s ≡ v x = ap (num_at 8 (p + 2)) s2 ∙ num_at_lem 8 (p + 2) (v x) pre2 (flat k v xs ++ post) l2 f.1 in
      let e0 : item s p 0 ≡ x = (rw (z, e1, e2)) ∙ eta x in
      let t : tab (item s p) 1 (length xs) ≡ xs =
      tab_shift (item s p) (item s (p + 10)) 0 (length xs) (item_next s p) ∙ ap (λ (q : List ℕ). tab (item q (p + 10)) 0 (length xs)) s3 ∙ items_read eta xs pre3 post (p + 10) l3 m in
      cc

  module _ (kmk : (a b : ℕ) → k (mk a b) ≡ a) (vmk : (a b : ℕ) → v (mk a b) ≡ b) where
    pub items_written : (n p : ℕ) (s : List ℕ) → Bytes s → p + n * 10 ≤ length s → flat k v (tab (item s p) 0 n) ≡ take (n * 10) (drop p s)
    items_written zero p s h l = refl
    items_written (suc n) p s h l =
        let z : p + 0 * 10 ≡ p = omega arith in
        let m : suc n * 10 ≡ 2 + (8 + n * 10) = omega arith in
        let d : p + 2 + 8 ≡ p + 10 = omega arith in
        let e1 : le_bytes 2 (num_at 2 p s) ≡ take 2 (drop p s) = num_back 2 p s h (omega arith) in
        let e2 : le_bytes 8 (num_at 8 (p + 2) s) ≡ take 8 (drop (p + 2) s) = num_back 8 (p + 2) s h (omega arith) in
        let e3 : flat k v (tab (item s p) 1 n) ≡ take (n * 10) (drop (p + 10) s) = ap (flat k v) (tab_shift (item s p) (item s (p + 10)) 0 n (item_next s p)) ∙ items_written n (p + 10) s h (omega arith) in
        let q : take (suc n * 10) (drop p s) ≡ take 2 (drop p s) ++ (take 8 (drop (p + 2) s) ++ take (n * 10) (drop (p + 10) s)) =
        rw (m, take-add 2 (8 + n * 10) (drop p s), take-add 8 (n * 10) (drop 2 (drop p s)), drop-drop 2 p s, drop-drop 8 (p + 2) s, d) in
        let g : flat k v (tab (item s p) 0 (suc n)) ≡ le_bytes 2 (num_at 2 p s) ++ (le_bytes 8 (num_at 8 (p + 2) s) ++ flat k v (tab (item s p) 1 n)) = rw (kmk, vmk, z) in
        g ∙ join e1 e2 e3 ∙ sym q

-- ---- the view of a list, where it was written, and where it was read
pub view_read : (k v : ℕ) (pre post : List ℕ) → length pre ≡ 5 → v < 256 ^ 2 → view_of k (num_at 2 5 (pre ++ (view_bytes k v ++ post))) ≡ view_of k v
unfolding view_of view_bytes
view_read k v pre post h l = either_way (λ b. pick b (num_at 2 5 (pre ++ (pick b (le_bytes 2 v) [] ++ post))) 0 ≡ pick b v 0) (num_at_lem 2 5 v pre post h l) refl (eqb k 2)

pub view_written : (k : ℕ) (s : List ℕ) → Bytes s → 5 + view_len k ≤ length s → view_bytes k (view_of k (num_at 2 5 s)) ≡ take (view_len k) (drop 5 s)
unfolding view_len view_of view_bytes
view_written k s h =
    either_way (λ b. 5 + pick b 2 0 ≤ length s → pick b (le_bytes 2 (pick b (num_at 2 5 s) 0)) [] ≡ take (pick b 2 0) (drop 5 s))
    (num_back 2 5 s h) (λ l. refl) (eqb k 2)

-- a view beside a kind that has none is no part of the value
pub view_same : (k v : ℕ) → view_bytes k (view_of k v) ≡ view_bytes k v
unfolding view_bytes view_of
view_same k v = either_way (λ b. pick b (le_bytes 2 (pick b v 0)) [] ≡ pick b (le_bytes 2 v) []) refl refl (eqb k 2)

-- ---- pairs: the j-th of those that begin a list
abbrev pair_in : List ℕ → ℕ → Pair
pair_in q j = record { number = get_or q (2 * j) 0; answer = get_or q (2 * j + 1) 0 }

pair_next : (a b : ℕ) (q : List ℕ) (j : ℕ) → pair_in (a ∷ b ∷ q) (j + 1) ≡ pair_in q j
pair_next a b q j =
    let e : 2 * (j + 1) ≡ suc (suc (2 * j)) = omega arith in
    let g : suc (suc (2 * j)) + 1 ≡ suc (suc (2 * j + 1)) = omega arith in
    rw (e, g)

pair_at_lem : (s : List ℕ) (p j : ℕ) → pair_at s p j ≡ pair_in (drop p s) j
unfolding pair_at
pair_at_lem s p j =
    let e : p + (2 * j + 1) ≡ p + 2 * j + 1 = omega arith in
    rw (get_or-drop p s (2 * j) 0, get_or-drop p s (2 * j + 1) 0, e)

pairs_in_lem : (ps : List Pair) → tab (pair_in (flat_pairs ps)) 0 (length ps) ≡ ps
pairs_in_lem [] = refl
pairs_in_lem (p ∷ ps) = ap (λ (l : List Pair). p ∷ l) (tab_shift (pair_in (flat_pairs (p ∷ ps))) (pair_in (flat_pairs ps)) 0 (length ps) (pair_next p.number p.answer (flat_pairs ps)) ∙ pairs_in_lem ps)

pairs_out : (n : ℕ) (q : List ℕ) → 2 * n ≡ length q → flat_pairs (tab (pair_in q) 0 n) ≡ q
pairs_out zero [] h = refl
pairs_out zero (a ∷ q) h = absurd (omega arith)
pairs_out (suc n) [] h = absurd (omega arith)
pairs_out (suc n) (a ∷ []) h = absurd (omega arith)
pairs_out (suc n) (a ∷ b ∷ q) h =
    let t : flat_pairs (tab (pair_in (a ∷ b ∷ q)) 1 n) ≡ q = ap flat_pairs (tab_shift (pair_in (a ∷ b ∷ q)) (pair_in q) 0 n (pair_next a b q)) ∙ pairs_out n q (omega arith) in
    rw t

module _ (s : List ℕ) (p : ℕ) where
  as_pairs : (n : ℕ) → tab (pair_at s p) 0 n ≡ tab (pair_in (drop p s)) 0 n
  as_pairs n = tab_same (pair_in (drop p s)) (pair_at s p) 0 n (λ j a b. pair_at_lem s p j)

  pub pairs_read : (ps : List Pair) → drop p s ≡ flat_pairs ps → tab (pair_at s p) 0 (length ps) ≡ ps
  pairs_read ps e = as_pairs (length ps) ∙ ap (λ (q : List ℕ). tab (pair_in q) 0 (length ps)) e ∙ pairs_in_lem ps

  pub pairs_written : (n : ℕ) → p + 2 * n ≡ length s → flat_pairs (tab (pair_at s p) 0 n) ≡ drop p s
  pairs_written n h =
      let l : 2 * n ≡ length (drop p s) = rw (length-drop p s) (omega arith) in
      ap flat_pairs (as_pairs n) ∙ pairs_out n (drop p s) l

-- ---- ballots: one that begins behind p bytes; one at the front, as it was written, and as it was read
num_later : (n p m : ℕ) (s : List ℕ) → num_at n (p + m) s ≡ num_at n m (drop p s)
unfolding num_at
num_later n p m s = rw (drop-drop m p s)

ballot_later : (k : ViewMark) (s : List ℕ) (p m : ℕ) → ballot_from k s (p + m) ≡ ballot_from k (drop p s) m
unfolding ballot_from
ballot_later VS s p m =
    let e : p + m + 1 ≡ p + (m + 1) = omega arith in
    rw (e, num_later 2 p (m + 1) s, get_or-drop p s m 0)
ballot_later EL s p m =
    let d : p + m + 1 ≡ p + (m + 1) = omega arith in
    let e : p + m + 2 ≡ p + (m + 2) = omega arith in
    rw (d, e, num_later 2 p (m + 2) s, get_or-drop p s m 0, get_or-drop p s (m + 1) 0)

ballot_read : (k : ViewMark) (b : Ballot) (post : List ℕ) → ViewFits b → ballot_from k (ballot_bytes k b ++ post) 0 ≡ own_ballot k b
unfolding ballot_from ballot_bytes
ballot_read VS b post h = rw (num_at_lem 2 1 b.view.0 (b.number ∷ []) post refl h)
ballot_read EL b post h = rw (num_at_lem 2 2 b.view.0 (b.number ∷ b.answer ∷ []) post refl h)

ballot_back : (k : ViewMark) (q : List ℕ) → Bytes q → ballot_len k ≤ length q → ballot_bytes k (ballot_from k q 0) ≡ take (ballot_len k) q
unfolding ballot_from ballot_bytes
ballot_back VS [] h l = absurd (omega arith)
ballot_back VS (a ∷ q) h l = ap (λ (t : List ℕ). a ∷ t) (num_back 2 1 (a ∷ q) h l)
ballot_back EL [] h l = absurd (omega arith)
ballot_back EL (a ∷ []) h l = absurd (omega arith)
ballot_back EL (a ∷ b ∷ q) h l = ap (λ (t : List ℕ). a ∷ b ∷ t) (num_back 2 2 (a ∷ b ∷ q) h l)

module _ (k : ViewMark) where
  -- the j-th of those that begin a list
  abbrev ballot_in : List ℕ → ℕ → Ballot
  ballot_in q j = ballot_from k q (ballot_len k * j)

  ballot_first : (q : List ℕ) → ballot_in q 0 ≡ ballot_from k q 0
  ballot_first q = let z : ballot_len k * 0 ≡ 0 = omega arith in rw z

  ballot_next : (q : List ℕ) (j : ℕ) → ballot_in q (j + 1) ≡ ballot_in (drop (ballot_len k) q) j
  ballot_next q j =
      let e : ballot_len k * (j + 1) ≡ ballot_len k + ballot_len k * j = omega arith in
      ap (ballot_from k q) e ∙ ballot_later k q (ballot_len k) (ballot_len k * j)

  ballots_in_lem : (bs : List Ballot) → Each ViewFits bs → tab (ballot_in (flat_ballots k bs)) 0 (length bs) ≡ map (own_ballot k) bs
  ballots_in_lem [] none = refl
  ballots_in_lem (b ∷ bs) (more f m) =
      let q : List ℕ = flat_ballots k (b ∷ bs) in
      let d : drop (ballot_len k) q ≡ flat_ballots k bs = drop_at (ballot_bytes k b) (flat_ballots k bs) (ballot_len k) (ballot_long k b) in
      let e : ballot_in q 0 ≡ own_ballot k b = ballot_first q ∙ ballot_read k b (flat_ballots k bs) f in
      let t : tab (ballot_in q) 1 (length bs) ≡ map (own_ballot k) bs =
      tab_shift (ballot_in q) (ballot_in (drop (ballot_len k) q)) 0 (length bs) (ballot_next q) ∙ ap (λ (p : List ℕ). tab (ballot_in p) 0 (length bs)) d ∙ ballots_in_lem bs m in
      cc

  ballots_out : (n : ℕ) (q : List ℕ) → Bytes q → ballot_len k * n ≡ length q → flat_ballots k (tab (ballot_in q) 0 n) ≡ q
  ballots_out zero [] h l = refl
  ballots_out zero (a ∷ q) h l = absurd (omega arith)
  ballots_out (suc n) q h l =
      let r : List ℕ = drop (ballot_len k) q in
      let c : length r ≡ length q - ballot_len k = length-drop (ballot_len k) q in
      let e : ballot_bytes k (ballot_in q 0) ≡ take (ballot_len k) q = ap (ballot_bytes k) (ballot_first q) ∙ ballot_back k q h (omega arith) in
      let t : flat_ballots k (tab (ballot_in q) 1 n) ≡ r = ap (flat_ballots k) (tab_shift (ballot_in q) (ballot_in r) 0 n (ballot_next q)) ∙ ballots_out n r (bytes_drop (ballot_len k) q h) (omega arith) in
      let j : take (ballot_len k) q ++ r ≡ q = take-append-drop (ballot_len k) q in
      cc

  module _ (s : List ℕ) where
    as_ballots : (n : ℕ) → tab (ballot_at k s) 0 n ≡ tab (ballot_in (drop (ballots_from k) s)) 0 n
    unfolding ballot_at
    as_ballots n = tab_same (ballot_in (drop (ballots_from k) s)) (ballot_at k s) 0 n (λ j a b. ballot_later k s (ballots_from k) (ballot_len k * j))

    pub ballots_read : (bs : List Ballot) → Each ViewFits bs → drop (ballots_from k) s ≡ flat_ballots k bs → tab (ballot_at k s) 0 (length bs) ≡ map (own_ballot k) bs
    ballots_read bs f e = as_ballots (length bs) ∙ ap (λ (q : List ℕ). tab (ballot_in q) 0 (length bs)) e ∙ ballots_in_lem bs f

    pub ballots_written : (n : ℕ) → Bytes s → ballots_from k + ballot_len k * n ≡ length s → flat_ballots k (tab (ballot_at k s) 0 n) ≡ drop (ballots_from k) s
    ballots_written n h l =
        let c : length (drop (ballots_from k) s) ≡ length s - ballots_from k = length-drop (ballots_from k) s in
        ap (flat_ballots k) (as_ballots n) ∙ ballots_out n (drop (ballots_from k) s) (bytes_drop (ballots_from k) s h) (omega arith)

-- what a VS has no place for is no part of the value
pub led_same : (k : ViewMark) (a d v : ℕ) → led_bytes k (own_number k a) (own_number k d) (own_number k v) ≡ led_bytes k a d v
unfolding led_bytes
led_same VS a d v = refl
led_same EL a d v = refl

ballot_same : (k : ViewMark) (b : Ballot) → ballot_bytes k (own_ballot k b) ≡ ballot_bytes k b
unfolding ballot_bytes
ballot_same VS b = refl
ballot_same EL b = refl

pub ballots_same : (k : ViewMark) (f : ℕ → Ballot) (i n : ℕ) → flat_ballots k (tab (λ j. own_ballot k (f j)) i n) ≡ flat_ballots k (tab f i n)
ballots_same k f i zero = refl
ballots_same k f i (suc n) = rw (ballot_same k (f i), ballots_same k f (i + 1) n)
