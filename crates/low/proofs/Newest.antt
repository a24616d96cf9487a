-- The pass at one key: folding each write where its stamp is above the one folded so far gives the newest.
use Prim.Native.Nat.{ℕ, suc, ◌≤◌}
use native.Mathlib.Omega.{arith}
use mathlib.Core.Path.{◌≡◌, refl, ap, ◌∙◌}
use mathlib.Core.Bool.{Bool, true, false, ◌&&◌, ◌||◌}
use mathlib.Core.List.{List, [], ◌∷◌}
use mathlib.Core.Option.{Option, some, none}
use borrow.Author.Tests.{lt-ltb, le-ltb, le-leb, lt-leb, ltb-true, ltb-false}
use lib.Dec.{eqb, leb, ltb}
use Rattle.terms.specs.Choice.{any, pick}
use Rattle.records.specs.declared.Write.{Write}
use Rattle.records.specs.Tx.{write_key, write_value}
use Rattle.rules.specs.declared.Version.{Version}
use Rattle.rules.specs.Bodies.{stamp_of, writes_key, writes_of}
use Rattle.rules.specs.Calls.{better, is_committed, newest, value_at, version_or}
use Rattle.rules.specs.Low.{newer_fold, up_to}
use Rattle.rules.specs.Table.{Entry}
use Rattle.low.specs.Passing.{version_by}

-- ---- the writes of one entry
abbrev version_at : ℕ → ℕ → Version
version_at s x = record { stamp = record { 0 = s }; value = x }

unfoldable pub newer_write : ℕ → ℕ → Write → Version → Version
newer_write k s w v = pick (eqb (write_key w) k) (pick (ltb v.stamp.0 s) (version_by s w) v) v

unfoldable pub newer_writes : ℕ → ℕ → List Write → Version → Version
newer_writes k s [] v = v
newer_writes k s (w ∷ ws) v = newer_writes k s ws (newer_write k s w v)

abbrev as_one : ℕ → ℕ → List Write → Version → Version
as_one k s ws v = pick (any (λ w. eqb (write_key w) k) ws) (pick (ltb v.stamp.0 s) (version_at s (value_at k ws)) v) v

one_still : (a : Bool) (u v : Version) (b : Bool) → b ≡ false → pick a (pick b u v) v ≡ v
one_still true u v b e = rw e
one_still false u v b e = refl

-- the first write of the key counts, where the stamp is above
module _ (k s : ℕ) (w : Write) (ws : List Write) (v : Version) (rec : (u : Version) → newer_writes k s ws u ≡ as_one k s ws u) where
  still : (u : Version) → s ≤ u.stamp.0 → newer_writes k s ws u ≡ u
  still u h =
      rec u
      ∙ one_still (any (λ x. eqb (write_key x) k) ws) (version_at s (value_at k ws)) u (ltb u.stamp.0 s) (le-ltb u.stamp.0 s h)

  one_more : (a b : Bool) → ltb v.stamp.0 s ≡ b
      → newer_writes k s ws (pick a (pick b (version_by s w) v) v)
      ≡ pick (a || any (λ x. eqb (write_key x) k) ws) (pick b (version_at s (pick a (write_value w) (value_at k ws))) v) v
  one_more true true e = still (version_by s w) (omega arith)
  one_more true false e = still v (ltb-false _ _ e)
  one_more false b e = rec v ∙ (rw e)

writes_one : (k s : ℕ) (ws : List Write) (v : Version) → newer_writes k s ws v ≡ as_one k s ws v
unfolding newer_writes newer_write value_at
writes_one k s [] v = refl
writes_one k s (w ∷ ws) v = one_more k s w ws v (λ u. writes_one k s ws u) (eqb (write_key w) k) (ltb v.stamp.0 s) refl

-- ---- one entry
unfoldable pub newer_entry : ℕ → ℕ → Entry → Version → Version
newer_entry l k e v = pick (up_to l e && is_committed e.decided) (newer_writes k (stamp_of e.body) (writes_of e.body) v) v

module _ (k : ℕ) (e : Entry) (v : Version) where
  fold_one : (w : Bool) → any (λ x. eqb (write_key x) k) (writes_of e.body) ≡ w
      → newer_writes k (stamp_of e.body) (writes_of e.body) v ≡ pick w (newer_fold k v (some e)) v
  unfolding newer_fold version_or
  fold_one w q = writes_one k (stamp_of e.body) (writes_of e.body) v ∙ (rw q)

below_suc : (s l : ℕ) → leb s l ≡ ltb s (suc l)
below_suc s l = by (ltb s (suc l)) refl
  where
    by : (b : Bool) → ltb s (suc l) ≡ b → leb s l ≡ b
    by true e = le-leb s l (let h = ltb-true s (suc l) e in omega arith)
    by false e = lt-leb s l (let h = ltb-false s (suc l) e in omega arith)

entry_one : (l k : ℕ) (e : Entry) (v : Version)
    → newer_entry l k e v ≡ pick (is_committed e.decided && (writes_key e.body k && ltb (stamp_of e.body) (suc l))) (newer_fold k v (some e)) v
unfolding newer_entry up_to writes_key
entry_one l k e v =
    rw (below_suc (stamp_of e.body) l)
    (by (ltb (stamp_of e.body) (suc l)) (is_committed e.decided) (any (λ x. eqb (write_key x) k) (writes_of e.body)) refl)
  where
    by : (a b w : Bool) → any (λ x. eqb (write_key x) k) (writes_of e.body) ≡ w
        → pick (a && b) (newer_writes k (stamp_of e.body) (writes_of e.body) v) v ≡ pick (b && (w && a)) (newer_fold k v (some e)) v
    by true true true q = fold_one k e v true q
    by true true false q = fold_one k e v false q
    by true false w q = refl
    by false true true q = refl
    by false true false q = refl
    by false false w q = refl

-- ---- all entries
unfoldable pub newer_entries : ℕ → ℕ → List Entry → Version → Version
newer_entries l k [] v = v
newer_entries l k (e ∷ es) v = newer_entries l k es (newer_entry l k e v)

module _ (k : ℕ) (v : Version) (e : Entry) where
  -- the newer of the newer is that of the better
  fold_better : (o : Option Entry) → newer_fold k (newer_fold k v (some e)) o ≡ newer_fold k v (better e o)
  unfolding newer_fold better version_or
  fold_better none = refl
  fold_better (some x) = by (ltb v.stamp.0 (stamp_of e.body)) (ltb (stamp_of e.body) (stamp_of x.body)) (ltb v.stamp.0 (stamp_of x.body)) refl refl refl
    where
      by : (a b d : Bool) → ltb v.stamp.0 (stamp_of e.body) ≡ a → ltb (stamp_of e.body) (stamp_of x.body) ≡ b
          → ltb v.stamp.0 (stamp_of x.body) ≡ d
          → newer_fold k (pick a (version_at (stamp_of e.body) (value_at k (writes_of e.body))) v) (some x) ≡ newer_fold k v (pick b (some x) (some e))
      by true true d p q r =
          let h = ltb-true v.stamp.0 (stamp_of e.body) p in
          let g = ltb-true (stamp_of e.body) (stamp_of x.body) q in
          rw (q, lt-ltb v.stamp.0 (stamp_of x.body) (omega arith))
      by true false d p q r = rw (p, q)
      by false true d p q r = refl
      by false false d p q r =
          let h = ltb-false v.stamp.0 (stamp_of e.body) p in
          let g = ltb-false (stamp_of e.body) (stamp_of x.body) q in
          rw (p, le-ltb v.stamp.0 (stamp_of x.body) (omega arith))

abbrev committed : Entry → Bool
committed e = is_committed e.decided

pub entries_newest : (l k : ℕ) (es : List Entry) (v : Version) → newer_entries l k es v ≡ newer_fold k v (newest (λ e. is_committed e.decided) k (suc l) es)
unfolding newer_entries newest newer_fold
entries_newest l k [] v = refl
entries_newest l k (e ∷ es) v =
    entries_newest l k es (newer_entry l k e v)
    ∙ ap (λ (u : Version). newer_fold k u (newest committed k (suc l) es)) (entry_one l k e v)
    ∙ by (is_committed e.decided && (writes_key e.body k && ltb (stamp_of e.body) (suc l))) (newest committed k (suc l) es)
  where
    by : (b : Bool) (o : Option Entry) → newer_fold k (pick b (newer_fold k v (some e)) v) o ≡ newer_fold k v (pick b (better e o) o)
    by true o = fold_better k v e o
    by false o = refl
