-- Boxes that have taken the same bodies show the same, whatever they have let go.
use Prim.Native.Nat.{ℕ, ◌≤◌, ◌<◌}
use mathlib.Core.Path.{◌≡◌, refl}
use mathlib.Core.Logic.{◌⊎◌, inl, inr}
use mathlib.Core.List.{List}
use native.Mathlib.Omega.{arith}
use Rattle.terms.specs.Checks.{or_else, passage}
use Rattle.terms.proofs.Checks.{less_yes}
use Rattle.records.specs.Contents.{largest_key}
use Rattle.rules.specs.declared.Version.{Version}
use Rattle.rules.specs.Bodies.{stamp_of}
use Rattle.rules.specs.System.{Event, box_at}
use Rattle.rules.proofs.Laws.{lt_cases}
use Rattle.passage.specs.declared.Seen.{Seen}
use Rattle.passage.specs.Passages.{key_at, passage_wrong, seen_wrong, reported_by, report_of}
use Rattle.passage.specs.Register.{seen_in, report_in, TakenBelow, NewestTaken, never, top, SameTaken, SameReports, SameStanding}
use Rattle.passage.proofs.Boxes.{shown, seen_is, report_is}
use Rattle.passage.proofs.History.{Sees, sees_above, sees_all, shown_top, once, all_stand, stands_taken}

module _ (f g i j : ℕ) (es ds : List Event) (same : SameTaken f i es g j ds) (s : ℕ) (sees_f : Sees f i es s) (sees_g : Sees g j ds s) where
  over : {k : ℕ} {b : List ℕ} → TakenBelow f i es k s b → TakenBelow g j ds k s b
  over {k} {b} w = record { taken = (same b).0 w.taken; writes = w.writes; below = w.below }

  back : {k : ℕ} {b : List ℕ} → TakenBelow g j ds k s b → TakenBelow f i es k s b
  back {k} {b} w = record { taken = (same b).1 w.taken; writes = w.writes; below = w.below }

  by : (k : ℕ) {u v : Version} → NewestTaken f i es k s u → NewestTaken g j ds k s v → u ≡ v
  by k (never n) (never m) = refl
  by k (never n) (top c w up) = absurd (n c (back w))
  by k (top b w up) (never m) = absurd (m b (over w))
  by k (top b w up) (top c y most) =
      let l : stamp_of b ≤ stamp_of c = most b (over w) in
      let m : stamp_of c ≤ stamp_of b = up c (back y) in
      let z : stamp_of b ≡ stamp_of c = omega arith in
      rw (once g j b c ds (over w).taken y.taken z)

  shown_same : (k : ℕ) → k ≤ largest_key → shown (box_at f i es) k s ≡ shown (box_at g j ds) k s
  shown_same k h = by k (shown_top f i es k s h sees_f) (shown_top g j ds k s h sees_g)

  seen_same : (p : ℕ) → p ≤ 127 → seen_in (box_at f i es) p s ≡ seen_in (box_at g j ds) p s
  seen_same p h =
      rw (
        seen_is (box_at f i es) p s,
        seen_is (box_at g j ds) p s,
        shown_same (key_at p 0) (omega arith),
        shown_same (key_at p 1) (omega arith),
        shown_same (key_at p 2) (omega arith),
        shown_same (key_at p 3) (omega arith),
      )

  -- 26 stands before what was seen
  past : (p : ℕ) (x y : Seen) → 127 < p → report_of p x ≡ report_of p y
  unfolding report_of reported_by seen_wrong passage_wrong or_else
  past p x y h = rw (less_yes 127 p passage h)

  report_same : (p : ℕ) → report_in (box_at f i es) p s ≡ report_in (box_at g j ds) p s
  report_same p = go (lt_cases 127 p)
    where
      go : (127 < p) ⊎ (p ≤ 127) → report_in (box_at f i es) p s ≡ report_in (box_at g j ds) p s
      go (inl h) = rw (report_is (box_at f i es) p s, report_is (box_at g j ds) p s) (past p _ _ h)
      go (inr h) = rw (report_is (box_at f i es) p s, report_is (box_at g j ds) p s, seen_same p h)

pub same_reports : SameReports
same_reports f g i j es ds same p s l m = report_same f g i j es ds same s (sees_above f i es s l) (sees_above g j ds s m) p

pub same_standing : SameStanding
same_standing f g i j es ds l m same p s =
    report_same f g i j es ds
    (λ b. (
      λ t. stands_taken g j b ds ((same b).0 (all_stand f i b es l t)),
      λ t. stands_taken f i b es ((same b).1 (all_stand g j b ds m t)),
    ))
    s (sees_all f i es s l) (sees_all g j ds s m) p
