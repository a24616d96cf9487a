-- Laws of A6's count: of one walk, of key by key, and of the tests row by row and key by key.
use Prim.Native.Nat.{ℕ, zero, suc, ◌+◌, ◌*◌, ◌≤◌}
use mathlib.Core.Bool.{Bool, true, false, not, ◌&&◌, ◌||◌}
use mathlib.Core.Path.{◌≡◌, refl, sym, ◌∙◌, ap}
use mathlib.Core.Option.{Option, some, none}
use mathlib.Core.List.{List, [], ◌∷◌, ◌++◌}
use native.Mathlib.Omega.{arith}
use lib.Dec.{eqb, leb, ltb}
use borrow.Author.Tests.{eqb-true, leb-false}
use lib.ListN.{length}
use Rattle.terms.specs.Choice.{any, pick}
use Rattle.records.specs.declared.Read.{Read}
use Rattle.records.specs.declared.Write.{Write}
use Rattle.records.specs.Tx.{read_key, read_version, write_key}
use Rattle.rules.specs.Bodies.{Body, reads_of, stamp_of, writes_key, writes_of}
use Rattle.rules.specs.Table.{Box, Entry, find, live}
use Rattle.rules.specs.Tests.{fold_above, is_folded, is_low, live_writer, names, names_none, read_undercut, test2, test3, test4, undercut}
use Rattle.rules.specs.Visits.{fails3, fails4, key_by_key, look_up, new_last, through, version_up, visits2}
use Rattle.rules.specs.Visits.{visits3, visits4, waiting_visits}
use Rattle.rules.proofs.Laws.{pick_elim}

true_false : {A : Type 0} → ◌≡◌ {A = Bool} true false → A
true_false h = let z : ◌≡◌ {A = ℕ} 0 1 = cc in absurd (omega arith)

-- ---- one walk through the entries
pub through_most : (p : Entry → Bool) (t : List Entry) → through p t ≤ length t
unfolding through
through_most p [] = omega arith
through_most p (e ∷ es) =
    pick_elim (λ (n : ℕ). suc n ≤ suc (length es)) (p e) (λ _. omega arith) (λ _. omega (arith, through_most p es))

-- where none is found, all are gone through
pub through_all : (p : Entry → Bool) (t : List Entry) → any p t ≡ false → through p t ≡ length t
unfolding through
through_all p [] h = refl
through_all p (e ∷ es) h = go (p e) (through_all p es) h
  where
    go : (c : Bool) → (any p es ≡ false → through p es ≡ length es) → c || any p es ≡ false → suc (pick c 0 (through p es)) ≡ suc (length es)
    go true l k = true_false k
    go false l k = ap suc (l k)

pub look_most : (s : ℕ) (t : List Entry) → look_up s t ≤ length t
unfolding look_up
look_most s t = through_most _ t

pub version_most : (low : ℕ) (t : List Entry) (r : Read) → version_up low t r ≤ length t
unfolding version_up
version_most low t r = pick_elim (λ (n : ℕ). n ≤ length t) (leb (read_version r) low) (λ _. omega arith) (λ _. look_most (read_version r) t)

pub look_all : (s : ℕ) (t : List Entry) → find s t ≡ none → look_up s t ≡ length t
unfolding look_up through find
look_all s [] h = refl
look_all s (e ∷ es) h = go (eqb (stamp_of e.body) s) (look_all s es) h
  where
    go : (c : Bool) → (find s es ≡ none → look_up s es ≡ length es) → pick c (some e) (find s es) ≡ none → suc (pick c 0 (look_up s es)) ≡ suc (length es)
    go true l k = let z : ◌≡◌ {A = ℕ} 0 1 = cc in absurd (omega arith)
    go false l k = ap suc (l k)

-- a look-up that finds does not see what stands behind
pub look_more : (s : ℕ) (t u : List Entry) (e : Entry) → find s t ≡ some e → look_up s (t ++ u) ≡ look_up s t
unfolding look_up through find
look_more s [] u e h = let z : ◌≡◌ {A = ℕ} 0 1 = cc in absurd (omega arith)
look_more s (x ∷ xs) u e h = go (eqb (stamp_of x.body) s) (look_more s xs u e) h
  where
    go : (c : Bool) → (find s xs ≡ some e → look_up s (xs ++ u) ≡ look_up s xs) → pick c (some x) (find s xs) ≡ some e
        → suc (pick c 0 (look_up s (xs ++ u))) ≡ suc (pick c 0 (look_up s xs))
    go true l k = refl
    go false l k = ap suc (l k)

-- ---- key by key
module _ {K : Type 0} where
  pub keys_most : (visits : K → ℕ) (fails : K → Bool) (ks : List K) (h : ℕ) → ((k : K) → visits k ≤ h) → key_by_key visits fails ks ≤ length ks * h
  unfolding key_by_key
  keys_most visits fails [] h m = omega arith
  keys_most visits fails (k ∷ ks) h m =
      pick_elim (λ (n : ℕ). visits k + n ≤ suc (length ks) * h) (fails k)
      (λ _. omega (arith, m k)) (λ _. omega (arith, m k, keys_most visits fails ks h m))

  -- no key fails, and each goes through as many
  pub keys_all : (visits : K → ℕ) (fails : K → Bool) (ks : List K) (h : ℕ) → any fails ks ≡ false
      → ((k : K) → fails k ≡ false → visits k ≡ h) → key_by_key visits fails ks ≡ length ks * h
  unfolding key_by_key
  keys_all visits fails [] h n m = omega arith
  keys_all visits fails (k ∷ ks) h n m = go (fails k) refl (λ q. keys_all visits fails ks h q m) n
    where
      go : (c : Bool) → fails k ≡ c → (any fails ks ≡ false → key_by_key visits fails ks ≡ length ks * h) → c || any fails ks ≡ false
          → visits k + pick c 0 (key_by_key visits fails ks) ≡ suc (length ks) * h
      go true p l q = true_false q
      go false p l q = omega (arith, m k p, l q)

  -- no key fails: what is counted is the sum over all keys
  pub keys_sum : (visits others : K → ℕ) (fails : K → Bool) (ks : List K) → any fails ks ≡ false
      → ((k : K) → fails k ≡ false → visits k ≡ others k) → key_by_key visits fails ks ≡ key_by_key others (λ _. false) ks
  unfolding key_by_key
  keys_sum visits others fails [] n m = refl
  keys_sum visits others fails (k ∷ ks) n m = go (fails k) refl (λ q. keys_sum visits others fails ks q m) n
    where
      go : (c : Bool) → fails k ≡ c → (any fails ks ≡ false → key_by_key visits fails ks ≡ key_by_key others (λ _. false) ks) → c || any fails ks ≡ false
          → visits k + pick c 0 (key_by_key visits fails ks) ≡ others k + key_by_key others (λ _. false) ks
      go true p l q = true_false q
      go false p l q = omega (arith, m k p, l q)

-- eight keys, each at so many entries
times_most : (n k h : ℕ) → n ≤ k → n * h ≤ k * h
times_most zero k h p = omega arith
times_most (suc n) zero h p = absurd (omega arith)
times_most (suc n) (suc k) h p = omega (arith, times_most n k h (omega arith))

pub eight_most : {K : Type 0} (visits : K → ℕ) (fails : K → Bool) (ks : List K) (h : ℕ) → length ks ≤ 8 → ((k : K) → visits k ≤ h) → key_by_key visits fails ks ≤ 8 * h
eight_most visits fails ks h n m = omega (arith, keys_most visits fails ks h m, times_most (length ks) 8 h n)

pub waiting_most : (low : ℕ) (t : List Entry) (b : Body) → length (reads_of b) ≤ 8 → waiting_visits low t b ≤ 8 * length t
unfolding waiting_visits
waiting_most low t b r = eight_most (version_up low t) (λ _. false) (reads_of b) (length t) r (version_most low t)

pub two_most : (x : Box) (b : Body) → length (reads_of b) ≤ 8 → visits2 x b ≤ 8 * length x.table
unfolding visits2
two_most x b r = eight_most (version_up x.low x.table) _ (reads_of b) (length x.table) r (version_most x.low x.table)

pub three_most : (x : Box) (b : Body) → length (reads_of b) ≤ 8 → visits3 x b ≤ 8 * length x.table
unfolding visits3
three_most x b r =
    eight_most _ _ (reads_of b) (length x.table) r
    (λ k. pick_elim (λ (n : ℕ). n ≤ length x.table) (fold_above x k) (λ _. omega arith) (λ _. through_most _ x.table))

pub four_most : (x : Box) (b : Body) → length (writes_of b) ≤ 8 → visits4 x b ≤ 8 * length x.table
unfolding visits4
four_most x b w = eight_most _ _ (writes_of b) (length x.table) w (λ k. through_most _ x.table)

-- ---- row by row is key by key
module _ {B : Type 0} where
  any_never : (bs : List B) → any (λ (b : B). false) bs ≡ false
  any_never [] = refl
  any_never (b ∷ bs) = any_never bs

  any_or : (p q : B → Bool) (bs : List B) → any p bs || any q bs ≡ any (λ (b : B). p b || q b) bs
  any_or p q [] = refl
  any_or p q (b ∷ bs) = go (p b) (q b) (any p bs) (any q bs) (any_or p q bs)
    where
      go : (c d u v : Bool) {r : Bool} → u || v ≡ r → (c || u) || (d || v) ≡ (c || d) || r
      go true d u v h = refl
      go false true true v h = refl
      go false true false v h = refl
      go false false u v h = h

module _ {A B : Type 0} where
  any_swap : (p : A → B → Bool) (as' : List A) (bs : List B) → any (λ (a : A). any (p a) bs) as' ≡ any (λ (b : B). any (λ (a : A). p a b) as') bs
  any_swap p [] bs = sym (any_never bs)
  any_swap p (a ∷ rest) bs = ap (λ (r : Bool). any (p a) bs || r) (any_swap p rest bs) ∙ any_or (p a) (λ (b : B). any (λ (c : A). p c b) rest) bs

module _ {B : Type 0} where
  and_any : (c : Bool) (p : B → Bool) (bs : List B) → c && any p bs ≡ any (λ (b : B). c && p b) bs
  and_any true p bs = refl
  and_any false p bs = sym (any_never bs)

  any_and : (c : Bool) (p : B → Bool) (bs : List B) → any p bs && c ≡ any (λ (b : B). p b && c) bs
  any_and c p [] = refl
  any_and c p (b ∷ bs) = go (p b) c (any p bs) (any_and c p bs)
    where
      go : (q c u : Bool) {r : Bool} → u && c ≡ r → (q || u) && c ≡ (q && c) || r
      go true true u h = refl
      go true false true h = h
      go true false false h = h
      go false c u h = h

entries_by_key : (x : Box) (b : Body) → any (λ e. live e && undercut b e.body) x.table ≡ any (λ r. any (fails3 b r) x.table) (reads_of b)
unfolding undercut fails3
entries_by_key x b =
    (λ i. any (λ e. and_any (live e) (read_undercut (stamp_of b) e.body) (reads_of b) i) x.table)
    ∙ any_swap (λ (e : Entry) (r : Read). fails3 b r e) x.table (reads_of b)

-- at each key first the folded version, then the entries
pub test3_by_key : (x : Box) (b : Body) → test3 x b ≡ any (λ r. fold_above x r || any (fails3 b r) x.table) (reads_of b)
unfolding test3
test3_by_key x b =
    ap (λ (q : Bool). any (fold_above x) (reads_of b) || q) (entries_by_key x b)
    ∙ any_or (fold_above x) (λ r. any (fails3 b r) x.table) (reads_of b)

-- of one entry: it undercuts at one of the keys written here
over_by_key : (a b : Body)
    → undercut a b
    ≡ any (λ w. any (λ r. eqb (write_key w) (read_key r) && (ltb (read_version r) (stamp_of b) && ltb (stamp_of b) (stamp_of a))) (reads_of a)) (writes_of b)
unfolding undercut writes_key
over_by_key a b =
    (λ i. any (λ r. any_and (ltb (read_version r) (stamp_of b) && ltb (stamp_of b) (stamp_of a)) (λ w. eqb (write_key w) (read_key r)) (writes_of b) i) (reads_of a))
    ∙ any_swap (λ (r : Read) (w : Write). eqb (write_key w) (read_key r) && (ltb (read_version r) (stamp_of b) && ltb (stamp_of b) (stamp_of a))) (reads_of a) (writes_of b)

pub test4_by_key : (x : Box) (b : Body) → test4 x b ≡ any (λ w. any (fails4 b (write_key w)) x.table) (writes_of b)
unfolding test4 fails4
test4_by_key x b =
    (λ i. any (λ e. live e && over_by_key e.body b i) x.table)
    ∙ (λ i. any (λ e. and_any (live e) (λ w. any (λ r. eqb (write_key w) (read_key r) && (ltb (read_version r) (stamp_of b) && ltb (stamp_of b) (stamp_of e.body))) (reads_of e.body)) (writes_of b) i) x.table)
    ∙ any_swap (λ (e : Entry) (w : Write). fails4 b (write_key w) e) x.table (writes_of b)

-- ---- where tests 3 and 4 pass, each key goes through all entries
pub visits3_all : (x : Box) (b : Body) → test3 x b ≡ false → visits3 x b ≡ length (reads_of b) * length x.table
unfolding visits3
visits3_all x b h = keys_all _ _ (reads_of b) (length x.table) (sym (test3_by_key x b) ∙ h) (λ r n. go r (fold_above x r) n)
  where
    go : (r : Read) (c : Bool) → c || any (fails3 b r) x.table ≡ false → pick c 0 (through (fails3 b r) x.table) ≡ length x.table
    go r true n = true_false n
    go r false n = through_all (fails3 b r) x.table n

pub visits4_all : (x : Box) (b : Body) → test4 x b ≡ false → visits4 x b ≡ length (writes_of b) * length x.table
unfolding visits4
visits4_all x b h =
    keys_all _ _ (writes_of b) (length x.table) (sym (test4_by_key x b) ∙ h) (λ w n. through_all (fails4 b (write_key w)) x.table n)

-- ---- where test 2 passes, the waiting rule looks up what test 2 looked up, a new entry behind or not
named_up : (x : Box) (u : List Entry) (r : Read) → names_none x r ≡ false → version_up x.low (x.table ++ u) r ≡ version_up x.low x.table r
unfolding version_up names is_low live_writer
named_up x u r h = go (leb (read_version r) x.low) refl (eqb (read_version r) 0) refl (find (read_version r) x.table) refl h
  where
    go : (l : Bool) → leb (read_version r) x.low ≡ l → (z : Bool) → eqb (read_version r) 0 ≡ z
        → (o : Option Entry) → find (read_version r) x.table ≡ o → not z && not (pick l (is_folded x r) (live_writer (read_key r) o)) ≡ false
        → pick l 0 (look_up (read_version r) (x.table ++ u)) ≡ pick l 0 (look_up (read_version r) x.table)
    go true _ z _ o p q = refl
    go false a true e o p q = absurd (omega (arith, leb-false (read_version r) x.low a, eqb-true (read_version r) 0 e))
    go false a false e (some y) p q = look_more (read_version r) x.table u y p
    go false a false e none p q = true_false q

pub waiting_as_test2 : (x : Box) (b : Body) → test2 x b ≡ false → waiting_visits x.low x.table b ≡ visits2 x b
unfolding waiting_visits visits2 test2
waiting_as_test2 x b h = sym (keys_sum (version_up x.low x.table) (version_up x.low x.table) (names_none x) (reads_of b) h (λ r n. refl))

pub waiting_new_last : (x : Box) (b : Body) → test2 x b ≡ false → waiting_visits x.low (new_last b x.table) b ≡ visits2 x b
unfolding waiting_visits visits2 test2
waiting_new_last x b h =
    sym (keys_sum (version_up x.low x.table) (version_up x.low (new_last b x.table)) (names_none x) (reads_of b) h (λ r n. sym (named_up x _ r n)))
