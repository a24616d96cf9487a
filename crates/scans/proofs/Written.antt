-- RD's scan: the first write of a key, the better of two writers, and the loop from the last entry to the first.
use Prim.Native.Nat.{ℕ, suc, ◌+◌, ◌-◌, ◌<◌, ◌≤◌, zero-le}
use native.Mathlib.Omega.{arith}
use native.Mathlib.Nat.{sub-zero}
use mathlib.Core.Path.{◌≡◌, refl, ap, ◌∙◌}
use mathlib.Core.List.{List, ◌∷◌}
use mathlib.Core.Bool.{Bool, true, false, ◌&&◌}
use mathlib.Core.Option.{Option, some, none}
use Rattle.std.specs.Prelude.{Option as Maybe, Some, None, unwrap_or}
use borrow.Author.Tests.{lt-ltb, le-ltb, eq-eqb, ne_eqb}
use lib.Dec.{ltb, eqb}
use lib.ListN.{get_or}
use Rattle.terms.specs.Choice.{pick, tab}
use Rattle.terms.specs.declared.Decision.TheVariants.{Abort as abort}
use Rattle.terms.specs.declared.Stamp.{Stamp}
use Rattle.records.specs.declared.Write.{Write}
use Rattle.records.specs.Tx.{write_key, write_value}
use Rattle.rules.specs.declared.Vote.{Vote}
use Rattle.rules.specs.Answers.{settled, unsettled}
use Rattle.rules.specs.declared.Version.{Version}
use Rattle.rules.specs.declared.Answer.TheVariants.{Found}
use Rattle.rules.specs.Bodies.{stamp_of, writes_of, writes_key}
use Rattle.rules.specs.Table.{Entry, fold_at, live, live_by, no_version}
use Rattle.rules.specs.Calls.{better, newest, value_at, version_of, version_or, is_committed, is_undecided, rd_answer}
use Rattle.table.specs.Table.{row_tx, state_at, entry_with, entry_of, decided_at, folds_of}
use Rattle.table.proofs.Bodies.{body_stamp, body_writes, body_writes_key}
use Rattle.scans.specs.declared.Bests.{Bests}
use Rattle.scans.specs.declared.Writers.{Writers}
use Rattle.scans.specs.Scans.{over, above, committed, undecided, best_of, newer_by, next_bests, bests_of, writers_or}

-- ---- the first write of a key: what is left from j on has the value of the whole, W
pub record First (k : ℕ) (f : ℕ → Write) (n W j : ℕ) : Type 0 where
  pub within : j ≤ n
  pub same : value_at k (tab f j (n - j)) ≡ W

module _ {k : ℕ} {f : ℕ → Write} {n W : ℕ} where
  pub first_begin : value_at k (tab f 0 n) ≡ W → First k f n W 0
  first_begin e = record { within = zero-le; same = rw sub-zero e }

  module _ {j : ℕ} (r : First k f n W j) where
    step : j < n → value_at k (tab f j (n - j)) ≡ pick (eqb (write_key (f j)) k) (write_value (f j)) (value_at k (tab f (j + 1) (n - (j + 1))))
    unfolding value_at
    step h = let e : n - j ≡ suc (n - (j + 1)) = omega arith in rw e

    pub first_found : j < n → write_key (f j) ≡ k → write_value (f j) ≡ W
    first_found h p = rw (step h, eq-eqb (write_key (f j)) k p) at r.same

    pub first_go : j < n → (write_key (f j) ≡ k → ⊥) → First k f n W (j + 1)
    first_go h p = record { within = omega arith; same = rw (step h, ne_eqb (write_key (f j)) k p) at r.same }

    pub first_end : n ≤ j → 0 ≡ W
    unfolding value_at
    first_end h = let e : n - j ≡ 0 = omega arith in rw e at r.same

-- ---- the newer of a row's entry and of what was newest behind it, by its outcomes
module _ (k s : ℕ) (r : List ℕ) (x : Maybe Version) where
  pub newer_high : s ≤ stamp_of (row_tx r) → x ≡ newer_by k s (entry_of r) x
  unfolding newer_by
  newer_high h = rw (body_stamp r, le-ltb (stamp_of (row_tx r)) s h) (by (writes_key (entry_of r).body k))
    where
      by : (w : Bool) → x ≡ pick (w && false) (pick (above (stamp_of (row_tx r)) x) x (best_of k (some (entry_of r)))) x
      by true = refl
      by false = refl

  pub newer_old : above (stamp_of (row_tx r)) x ≡ true → x ≡ newer_by k s (entry_of r) x
  unfolding newer_by
  newer_old h = rw (body_stamp r, h) (by (writes_key (entry_of r).body k && ltb (stamp_of (row_tx r)) s))
    where
      by : (w : Bool) → x ≡ pick w x x
      by true = refl
      by false = refl

  pub newer_lacks : writes_key (row_tx r) k ≡ false → x ≡ newer_by k s (entry_of r) x
  unfolding newer_by
  newer_lacks d = rw (body_writes_key r k, d)

  pub newer_new : {v : Stamp} {w : ℕ} → stamp_of (row_tx r) < s → above (stamp_of (row_tx r)) x ≡ false → writes_key (row_tx r) k ≡ true
      → v.0 ≡ stamp_of (row_tx r) → w ≡ value_at k (writes_of (row_tx r)) → Some (record { stamp = v; value = w }) ≡ newer_by k s (entry_of r) x
  unfolding newer_by best_of
  newer_new h l d m q = rw (body_writes_key r k, d, body_stamp r, lt-ltb (stamp_of (row_tx r)) s h, l, body_writes r, ← m, q)

-- ---- one row more, by its outcomes
module _ (r : List ℕ) where
  is_committed_lem : get_or r decided_at 0 ≡ 1 → committed (entry_of r) ≡ true
  unfolding entry_of entry_with state_at is_committed
  is_committed_lem e = rw e

  is_closed : get_or r decided_at 0 ≡ 1 → undecided (entry_of r) ≡ false
  unfolding entry_of entry_with state_at is_undecided
  is_closed e = rw e

  module _ (h : get_or r decided_at 0 ≡ 1 → ⊥) where
    not_committed : committed (entry_of r) ≡ false
    unfolding entry_of entry_with state_at is_committed
    not_committed = rw (ne_eqb (get_or r decided_at 0) 1 h) (by (eqb (get_or r decided_at 0) 2))
      where
        by : (b : Bool) → is_committed (pick b (settled abort) unsettled) ≡ false
        by true = refl
        by false = refl

    is_open : live (entry_of r) ≡ true → undecided (entry_of r) ≡ true
    unfolding entry_of entry_with state_at is_undecided live live_by
    is_open l =
        rw (ne_eqb (get_or r decided_at 0) 1 h)
        (by (eqb (get_or r decided_at 0) 2) (entry_of r).vote (rw (ne_eqb (get_or r decided_at 0) 1 h) at l))
      where
        by : (b : Bool) (v : Vote) → live_by (pick b (settled abort) unsettled) v ≡ true → (is_undecided (pick b (settled abort) unsettled) && live_by (pick b (settled abort) unsettled) v) ≡ true
        by true v p = p
        by false v p = p

  not_open : live (entry_of r) ≡ false → undecided (entry_of r) ≡ false
  not_open d = rw d (by (is_undecided (entry_of r).decided))
    where
      by : (b : Bool) → (b && false) ≡ false
      by true = refl
      by false = refl

module _ (k s : ℕ) (r : List ℕ) (x : Bests) where
  pub next_committed : {y : Maybe Version} → get_or r decided_at 0 ≡ 1 → y ≡ newer_by k s (entry_of r) x.committed → record { committed = y; undecided = x.undecided } ≡ next_bests k s (entry_of r) x
  unfolding next_bests
  next_committed e p = rw (is_committed_lem r e, is_closed r e, p)

  module _ (h : get_or r decided_at 0 ≡ 1 → ⊥) where
    pub next_open : {y : Maybe Version} → live (entry_of r) ≡ true → y ≡ newer_by k s (entry_of r) x.undecided → record { committed = x.committed; undecided = y } ≡ next_bests k s (entry_of r) x
    unfolding next_bests
    next_open l p = rw (not_committed r h, is_open r h l, p)

    pub next_dead : live (entry_of r) ≡ false → x ≡ next_bests k s (entry_of r) x
    unfolding next_bests
    next_dead l = rw (not_committed r h, not_open r l)

-- ---- an entry more in front
module _ (k s : ℕ) (e : Entry) where
  choose : (b : Bool) (o : Entry) → pick b (best_of k (some o)) (best_of k (some e)) ≡ best_of k (pick b (some o) (some e))
  choose true o = refl
  choose false o = refl

  by : (b c : Bool) (o : Option Entry) → pick b (pick c (pick (above (stamp_of e.body) (best_of k o)) (best_of k o) (best_of k (some e))) (best_of k o)) (best_of k o) ≡ best_of k (pick (b && c) (better e o) o)
  unfolding better best_of
  by false c o = refl
  by true false o = refl
  by true true none = refl
  by true true (some o) = choose (ltb (stamp_of e.body) (stamp_of o.body)) o

  best_more : (p : Entry → Bool) (es : List Entry) → pick (p e) (newer_by k s e (best_of k (newest p k s es))) (best_of k (newest p k s es)) ≡ best_of k (newest p k s (e ∷ es))
  unfolding newest newer_by
  best_more p es = by (p e) (writes_key e.body k && ltb (stamp_of e.body) s) (newest p k s es)

  pub pair_more : (es : List Entry) → next_bests k s e (bests_of k s es) ≡ bests_of k s (e ∷ es)
  unfolding next_bests bests_of
  pair_more es = rw (best_more committed es, best_more undecided es)

-- ---- the loop, from the last entry to the first
pub record Newer (k s : ℕ) (f : ℕ → Entry) (n : ℕ) (x : Bests) (i : ℕ) : Type 0 where
  pub within : i ≤ n
  pub is : x ≡ bests_of k s (tab f i (n - i))

module _ {k s : ℕ} {f : ℕ → Entry} {n : ℕ} where
  pub newer_begin : Newer k s f n (record { committed = None; undecided = None }) n
  unfolding newest bests_of best_of
  newer_begin = let e : n - n ≡ 0 = omega arith in record { within = omega arith; is = rw e }

  pub newer_more : {x y : Bests} {i j : ℕ} → Newer k s f n x i → 0 < i → j ≡ i - 1 → y ≡ next_bests k s (f j) x → Newer k s f n y j
  newer_more {x} {y} {i} {j} w h q p =
      let e : n - j ≡ suc (n - i) = omega arith in
      let d : j + 1 ≡ i = omega arith in
      record {
        within = omega arith;
        is = p ∙ ap (next_bests k s (f j)) w.is ∙ pair_more k s (f j) (tab f i (n - i)) ∙ (rw (e, d));
      }

  pub newer_end : {x : Bests} {i : ℕ} → Newer k s f n x i → i ≤ 0 → x ≡ bests_of k s (tab f 0 n)
  newer_end {x} {i} w h = let z : i ≡ 0 = omega arith in rw (z, sub-zero) at w.is

-- ---- what the writers found wrote
or_is : (k : ℕ) (g : Version) (o : Option Entry) → unwrap_or (best_of k o) g ≡ version_or k g o
unfolding best_of version_or
or_is k g none = refl
or_is k g (some e) = refl

pub writers_are : (g d : Version) (k s : ℕ) (es : List Entry) (x : Bests) → x ≡ bests_of k s es → d ≡ no_version
    → record { committed = unwrap_or x.committed g; undecided = unwrap_or x.undecided d } ≡ writers_or g k s es
unfolding bests_of writers_or version_of
writers_are g d k s es x e z = rw (e, z, or_is k g (newest committed k s es), or_is k no_version (newest undecided k s es))

-- ---- what RD answers
pub found_is : (h : List ℕ) (k s : ℕ) (es : List Entry) (g : Version) (x : Writers) → g ≡ fold_at (folds_of h) k → x ≡ writers_or g k s es
    → Found x.committed x.undecided ≡ rd_answer (over h es) k s
unfolding rd_answer writers_or
found_is h k s es g x d e = rw (e, d)
