-- Two boxes that are watched, one along calls and one along the rules: where they answer alike and the one held what the other did, a read of the
-- one is a read of the other.
use Prim.Native.Nat.{ℕ}
use mathlib.Core.Bool.{Bool, not, ◌&&◌}
use mathlib.Core.Path.{◌≡◌}
use mathlib.Core.Logic.{◌⊎◌, inl, inr}
use mathlib.Core.List.{List, [], ◌∷◌, ◌++◌}
use lib.Dec.{T, eqb}
use Rattle.rules.specs.Bodies.{Body}
use Rattle.rules.specs.System.{Event}
use Rattle.rules.specs.SlipUnder.{Watched, asks, ever_held, is_found, read_without, reads_now, shown_below, shows_below, shows_now}
use Rattle.rules.proofs.Laws.{ands, both, decide_t, no_both, or_cases, or_r}
use Rattle.rules.proofs.SlipUnder.{shows_found}

not_from : (a b : Bool) → (T b → T a) → T (not a) → T (not b)
not_from a b h n = go (decide_t b)
  where
    go : T b ⊎ T (not b) → T (not b)
    go (inl y) = absurd (no_both a (h y) n)
    go (inr y) = y

-- with one message
pub reads_on : (x y : Watched) (i k s : ℕ) (b : Body) (e : Event) (es rs : List Event) → x.answer e es ≡ y.answer e rs
    → (T (ever_held y b rs) → T (ever_held x b es)) → T (reads_now x i k s b e es) → T (reads_now y i k s b e rs)
unfolding reads_now
reads_on x y i k s b e es rs a n h =
    let here : T (eqb e.box i) = search ands in
    let asked : T (asks k s e) = search ands in
    let found : T (is_found (x.answer e es)) = search ands in
    let unheld : T (not (ever_held x b es)) = search ands in
    both (eqb e.box i) (asks k s e && (is_found (y.answer e rs) && not (ever_held y b rs))) here
    (both (asks k s e) (is_found (y.answer e rs) && not (ever_held y b rs)) asked
    (both (is_found (y.answer e rs)) (not (ever_held y b rs)) (rw a at found) (not_from (ever_held x b es) (ever_held y b rs) n unheld)))

pub shows_on : (x y : Watched) (i k s v : ℕ) (e : Event) (es rs : List Event) → x.answer e es ≡ y.answer e rs → T (shows_now x i k s v e es)
    → T (shows_now y i k s v e rs)
unfolding shows_now
shows_on x y i k s v e es rs a h =
    let here : T (eqb e.box i) = search ands in
    let asked : T (asks k s e) = search ands in
    let below : T (shows_below v (x.answer e es)) = search ands in
    both (eqb e.box i) (asks k s e && shows_below v (y.answer e rs)) here
    (both (asks k s e) (shows_below v (y.answer e rs)) asked (rw a at below))

-- what is refused is no read
pub reads_none : (x : Watched) (i k s : ℕ) (b : Body) (e : Event) (es : List Event) → (T (eqb e.box i) → T (is_found (x.answer e es)) → ⊥)
    → T (read_without x i k s b (e ∷ es)) → T (read_without x i k s b es)
unfolding read_without reads_now
reads_none x i k s b e es n h = go (or_cases (reads_now x i k s b e es) (read_without x i k s b es) h)
  where
    go : T (reads_now x i k s b e es) ⊎ T (read_without x i k s b es) → T (read_without x i k s b es)
    go (inr u) = u
    go (inl u) =
        let here : T (eqb e.box i) = search ands in
        let found : T (is_found (x.answer e es)) = search ands in
        absurd (n here found)

pub shows_none : (x : Watched) (i k s v : ℕ) (e : Event) (es : List Event) → (T (eqb e.box i) → T (is_found (x.answer e es)) → ⊥)
    → T (shown_below x i k s v (e ∷ es)) → T (shown_below x i k s v es)
unfolding shown_below shows_now
shows_none x i k s v e es n h = go (or_cases (shows_now x i k s v e es) (shown_below x i k s v es) h)
  where
    go : T (shows_now x i k s v e es) ⊎ T (shown_below x i k s v es) → T (shown_below x i k s v es)
    go (inr u) = u
    go (inl u) =
        let here : T (eqb e.box i) = search ands in
        let below : T (shows_below v (x.answer e es)) = search ands in
        absurd (n here (shows_found v (x.answer e es) below))

-- a read stays one
pub read_later : (x : Watched) (i k s : ℕ) (b : Body) (es later : List Event) → T (read_without x i k s b es) → T (read_without x i k s b (later ++ es))
unfolding read_without
read_later x i k s b es [] h = h
read_later x i k s b es (e ∷ later) h = or_r (reads_now x i k s b e (later ++ es)) (read_without x i k s b (later ++ es)) (read_later x i k s b es later h)

pub shown_later : (x : Watched) (i k s v : ℕ) (es later : List Event) → T (shown_below x i k s v es) → T (shown_below x i k s v (later ++ es))
unfolding shown_below
shown_later x i k s v es [] h = h
shown_later x i k s v es (e ∷ later) h = or_r (shows_now x i k s v e (later ++ es)) (shown_below x i k s v (later ++ es)) (shown_later x i k s v es later h)
