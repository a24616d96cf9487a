-- What an RD shows: of an entry that stands its version, or a higher one; and of one that was let go its fold, or a higher one.
use Prim.Native.Nat.{ℕ, ◌≤◌, ◌<◌}
use mathlib.Core.Bool.{Bool, ◌&&◌}
use mathlib.Core.Path.{◌≡◌, refl, ap}
use mathlib.Core.Option.{Option, some, none}
use mathlib.Core.List.{Memᴰ as In}
use native.Mathlib.Omega.{arith}
use lib.Dec.{T, ltb, ltb→lt}
use Rattle.rules.specs.Answers.{Settled, Version, abort, commit, settled, unsettled}
use Rattle.rules.specs.Bodies.{Body, stamp_of, writes_key}
use Rattle.rules.specs.Table.{Box, Entry, fold_at, live, no_version}
use Rattle.rules.specs.Calls.{is_committed, is_undecided, newest, rd_answer, version_of, version_or}
use Rattle.rules.specs.SlipUnder.{shows_below}
use Rattle.rules.proofs.Laws.{ands, both}
use Rattle.rules.proofs.Folds.{newest_in, newest_up, shown_or}
use Rattle.rules.proofs.Fresh.{Upright, stands_live}

pub shows_what_stands : (x : Box) (k s : ℕ) (b : Body) → T (writes_key b k) → stamp_of b < s → Upright x.table b
    → T (shows_below (stamp_of b) (rd_answer x k s)) → ⊥
unfolding shows_below rd_answer is_committed is_undecided version_or version_of
shows_what_stands x k s b w l u h = go e.decided refl
  where
    e : Entry
    e = u.entry

    stamp : stamp_of e.body ≡ stamp_of b
    stamp = ap stamp_of u.body

    writes : T (writes_key e.body k)
    writes = rw u.body w

    committed : Entry → Bool
    committed y = is_committed y.decided

    undecided : Entry → Bool
    undecided y = is_undecided y.decided && live y

    -- what passes is not above what is shown
    not_above : (p : Entry → Bool) (g : Version) → T (p e) → T (ltb (version_or k g (newest p k s x.table)).stamp.0 (stamp_of b)) → ⊥
    not_above p g y n =
        omega (
          arith,
          stamp,
          newest_up k p s x.table e u.inside y writes (omega (arith, stamp)),
          shown_or k g (newest p k s x.table),
          ltb→lt (version_or k g (newest p k s x.table)).stamp.0 (stamp_of b) n,
        )

    first : T (ltb (version_or k (fold_at x.folds k) (newest committed k s x.table)).stamp.0 (stamp_of b))
    first = search ands

    second : T (ltb (version_of k (newest undecided k s x.table)).stamp.0 (stamp_of b))
    second = search ands

    go : (o : Settled) → e.decided ≡ o → ⊥
    go (settled commit) q = not_above committed (fold_at x.folds k) (rw q tt) first
    go (settled abort) q = u.here.decided q
    go unsettled q = not_above undecided no_version (both (is_undecided e.decided) (live e) (rw q tt) (stands_live e u.here)) second

-- where every entry is above the low mark
pub shows_what_went : (x : Box) (k s : ℕ) (b : Body) → ((e : Entry) → In e x.table → x.low < stamp_of e.body) → stamp_of b ≤ x.low
    → stamp_of b ≤ (fold_at x.folds k).stamp.0 → T (shows_below (stamp_of b) (rd_answer x k s)) → ⊥
unfolding shows_below rd_answer version_or
shows_what_went x k s b high l g h = go (newest (λ e. is_committed e.decided) k s x.table) refl first
  where
    first : T (ltb (version_or k (fold_at x.folds k) (newest (λ e. is_committed e.decided) k s x.table)).stamp.0 (stamp_of b))
    first = search ands

    go : (o : Option Entry) → newest (λ e. is_committed e.decided) k s x.table ≡ o → T (ltb (version_or k (fold_at x.folds k) o).stamp.0 (stamp_of b)) → ⊥
    go none q n = omega (arith, ltb→lt (fold_at x.folds k).stamp.0 (stamp_of b) n)
    go (some e) q n =
        omega (arith, high e (newest_in k (λ o. is_committed o.decided) s x.table e q).0, ltb→lt (stamp_of e.body) (stamp_of b) n)
