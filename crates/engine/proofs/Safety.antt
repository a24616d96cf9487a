-- Demand 3 of the entry points: to every trace of calls there is a trace of the rules in which sound boxes hold and give the same.
use Prim.Native.Nat.{ℕ}
use mathlib.Core.Bool.{Bool, true, false, not, ◌&&◌, ◌||◌}
use mathlib.Core.Option.{none}
use mathlib.Core.Path.{◌≡◌, refl, ap, sym, ◌∙◌}
use mathlib.Core.Logic.{◌⊎◌, inl, inr}
use mathlib.Core.List.{List, [], ◌∷◌}
use lib.Dec.{T, eqb, eqb→eq, ltb, ltb→lt, lt→ltb}
use borrow.Author.Tests.{eqb-true}
use Rattle.terms.specs.declared.Refusal.{Refusal}
use Rattle.std.specs.Prelude.{Ok, Err}
use Rattle.terms.specs.Checks.{Check, passed}
use Rattle.terms.specs.Choice.{pick}
use Rattle.terms.specs.Group.{boxes}
use Rattle.records.specs.Cutting.{tx_part}
use Rattle.rules.specs.declared.Told.{Told}
use Rattle.rules.specs.Bodies.{Body, same_body}
use Rattle.rules.specs.Table.{Box, empty}
use Rattle.rules.specs.Calls.{Act, guarded, refuse}
use Rattle.rules.specs.Act.{EntryPoint, act, after, marks_after}
use Rattle.rules.specs.System.{Event, told_at, box_at, answer_to, Word, word_in, is_word, gives_now, gave, given_in, Sound, HonestBy, Fair}
use Rattle.rules.specs.SlipUnder.{Watched, ever_held, holds, is_found, read_without, reads_now, shown_below, shows_now, watched}
use Rattle.rules.proofs.Laws.{decide_t, no_both, or_cases, or_l, or_r}
use Rattle.rules.proofs.Safety.{safety}
use Rattle.rules.proofs.Alike.{Alike, carries_alike, safe_alike}
use Rattle.table.specs.Table.{entries_of, table_wrong}
use Rattle.engine.specs.Outcome.{Kept, box_in, lent_wrong, called, table_by}
use Rattle.engine.specs.Safety.{leaves, kept_at, answered, gave_by, Empty, FairCalls, EngineSafety, EngineTracks}
use Rattle.engine.specs.SlipUnder.{kept_for}
use Rattle.engine.proofs.Lent.{taken}
use Rattle.engine.proofs.Bridge.{called_act, bridge}
use Rattle.engine.proofs.Starts.{empty_box}
use Rattle.engine.proofs.Watching.{reads_none, reads_on, shows_none, shows_on}

pub and_none : (a : Bool) → (a && false) ≡ false
and_none true = refl
and_none false = refl

-- ---- a call that is refused with 14 or 16 changes nothing and gives no word
module _ (way : EntryPoint) (told : Told) (x : Kept) (m : List ℕ) (r : Refusal) (q : lent_wrong told x.table ≡ Err r) where
  pub is_refused : called way told x m ≡ refuse r
  unfolding called guarded
  is_refused = rw q

  pub all_left : leaves way told x m ≡ x
  unfolding leaves table_by marks_after
  all_left = rw is_refused

  pub no_word : word_in (called way told x m).answer ≡ none
  unfolding word_in
  no_word = rw is_refused

  pub not_found : T (is_found (called way told x m).answer) → ⊥
  unfolding is_found
  not_found h = rw is_refused at h

module _ (f : ℕ) (faulty : ℕ → Bool) where
  sound_or_not : (i : ℕ) → Sound f faulty i ⊎ (Sound f faulty i → ⊥)
  sound_or_not i = go (decide_t (ltb i (boxes f))) (decide_t (faulty i))
    where
      go : T (ltb i (boxes f)) ⊎ T (not (ltb i (boxes f))) → T (faulty i) ⊎ T (not (faulty i)) → Sound f faulty i ⊎ (Sound f faulty i → ⊥)
      go (inl a) (inr b) = inl (ltb→lt i (boxes f) a, b)
      go (inl a) (inl b) = inr (λ s. no_both (faulty i) b s.1)
      go (inr a) b = inr (λ s. no_both (ltb i (boxes f)) (lt→ltb i (boxes f) s.0) a)

  module _ (start : ℕ → Kept) where
    -- sound boxes hold and give in it what they hold and give in the calls; it is fair where they are
    pub record Shadow (es : List Event) : Type 0 where
      pub rules : List Event
      pub held : (i : ℕ) → Sound f faulty i → box_in (kept_at f start i es) ≡ box_at f i rules
      pub said : Alike f faulty (gave_by f start es) (given_in f rules)
      pub fair : FairCalls f faulty start es → Fair f faulty rules
      -- what was ever held in it was held in the calls, and a read of the calls is one of it (A10)
      pub ever : (i : ℕ) → Sound f faulty i → (b : Body) → T (ever_held (watched f i) b rules) → T (ever_held (kept_for f start i) b es)
      pub read : (i : ℕ) → Sound f faulty i → (k s : ℕ) (b : Body) → T (read_without (kept_for f start i) i k s b es)
          → T (read_without (watched f i) i k s b rules)
      pub shown : (i : ℕ) → Sound f faulty i → (k s v : ℕ) → T (shown_below (kept_for f start i) i k s v es) → T (shown_below (watched f i) i k s v rules)

    module _ (e : Event) (es : List Event) (S : Shadow es) where
      abbrev now : ℕ → Kept
      now i = kept_at f start i es

      -- what the call leaves, were it box i's
      abbrev left : ℕ → Kept
      left i = leaves e.entry (told_at f e) (now i) e.message

      -- a call that no sound box does anything with is left out
      skips : (Sound f faulty e.box → (left e.box ≡ now e.box) × (word_in (answered f start e es) ≡ none) × (T (is_found (answered f start e es)) → ⊥))
          → Shadow (e ∷ es)
      unfolding kept_at gave_by is_word FairCalls ever_held
      skips n = record {
        rules = S.rules;
        held = λ i s. held_by i s (eqb e.box i) refl;
        said = λ i s b w. said_by_lem i s b w (eqb e.box i) refl;
        fair = λ F. S.fair F.0;
        ever = λ i s b h. or_r (holds b ((kept_for f start i).held (e ∷ es))) (ever_held (kept_for f start i) b es) (S.ever i s b h);
        read = λ i s k t b h.
            S.read i s k t b (reads_none (kept_for f start i) i k t b e es (λ y. (n (rw (eqb→eq e.box i y) s)).2) h);
        shown = λ i s k t v h.
            S.shown i s k t v (shows_none (kept_for f start i) i k t v e es (λ y. (n (rw (eqb→eq e.box i y) s)).2) h);
      }
        where
          held_by : (i : ℕ) → Sound f faulty i → (t : Bool) → eqb e.box i ≡ t → box_in (pick t (left i) (now i)) ≡ box_at f i S.rules
          held_by i s false q = S.held i s
          held_by i s true q =
              let p : e.box ≡ i = eqb-true e.box i q in
              let l : left i ≡ now i = rw p at (n (rw p s)).0 in
              rw l (S.held i s)

          said_by_lem : (i : ℕ) → Sound f faulty i → (b : Body) (w : Word) → (t : Bool) → eqb e.box i ≡ t
              → ((t && (same_body (tx_part e.message) b && is_word w (word_in (answered f start e es)))) || gave_by f start es i b w) ≡ gave f i b w S.rules
          said_by_lem i s b w false q = S.said i s b w
          said_by_lem i s b w true q =
              let p : e.box ≡ i = eqb-true e.box i q in
              rw ((n (rw p s)).1, and_none (same_body (tx_part e.message) b)) (S.said i s b w)

      -- one that a sound box takes is a message of the rules
      module _ (s : Sound f faulty e.box) (lent : lent_wrong (told_at f e) (now e.box).table ≡ passed) where
        fine : table_wrong e.capacity (now e.box).table ≡ passed
        fine = taken (told_at f e) _ lent

        alike : answered f start e es ≡ answer_to f e S.rules
        unfolding answered answer_to
        alike =
            ap (λ (a : Act). a.answer)
            (called_act e.entry (told_at f e) (now e.box) e.message fine
            ∙ ap (λ (y : Box). act e.entry (told_at f e) y e.message) (S.held e.box s))

        held_by : (i : ℕ) → Sound f faulty i → (t : Bool) → eqb e.box i ≡ t
            → box_in (pick t (left i) (now i)) ≡ pick t (after e.entry (told_at f e) (box_at f i S.rules) e.message) (box_at f i S.rules)
        held_by i z false q = S.held i z
        held_by i z true q =
            let p : e.box ≡ i = eqb-true e.box i q in
            let g : table_wrong e.capacity (now i).table ≡ passed = rw p at fine in
            (bridge e.entry (told_at f e) (now i) e.message g).0
            ∙ ap (λ (y : Box). after e.entry (told_at f e) y e.message) (S.held i z)

        held_now : (i : ℕ) → Sound f faulty i → box_in (kept_at f start i (e ∷ es)) ≡ box_at f i (e ∷ S.rules)
        unfolding kept_at box_at
        held_now i z = held_by i z (eqb e.box i) refl

        ever_by : (i : ℕ) → Sound f faulty i → (b : Body) → T (ever_held (watched f i) b (e ∷ S.rules)) → T (ever_held (kept_for f start i) b (e ∷ es))
        unfolding ever_held box_in
        ever_by i z b h = go (or_cases (holds b (box_at f i (e ∷ S.rules)).table) (ever_held (watched f i) b S.rules) h)
          where
            same : entries_of (kept_at f start i (e ∷ es)).table ≡ (box_at f i (e ∷ S.rules)).table
            same = ap (λ (y : Box). y.table) (held_now i z)

            go : T (holds b (box_at f i (e ∷ S.rules)).table) ⊎ T (ever_held (watched f i) b S.rules) → T (ever_held (kept_for f start i) b (e ∷ es))
            go (inl y) = or_l (holds b ((kept_for f start i).held (e ∷ es))) (ever_held (kept_for f start i) b es) (rw same y)
            go (inr y) = or_r (holds b ((kept_for f start i).held (e ∷ es))) (ever_held (kept_for f start i) b es) (S.ever i z b y)

        read_by : (i : ℕ) → Sound f faulty i → (k t : ℕ) (b : Body) → T (read_without (kept_for f start i) i k t b (e ∷ es))
            → T (read_without (watched f i) i k t b (e ∷ S.rules))
        unfolding read_without
        read_by i z k t b h = go (or_cases (reads_now x i k t b e es) (read_without x i k t b es) h)
          where
            x : Watched
            x = kept_for f start i

            y : Watched
            y = watched f i

            go : T (reads_now x i k t b e es) ⊎ T (read_without x i k t b es) → T (reads_now y i k t b e S.rules || read_without y i k t b S.rules)
            go (inl u) =
                or_l (reads_now y i k t b e S.rules) (read_without y i k t b S.rules)
                (reads_on x y i k t b e es S.rules alike (S.ever i z b) u)
            go (inr u) = or_r (reads_now y i k t b e S.rules) (read_without y i k t b S.rules) (S.read i z k t b u)

        shown_by : (i : ℕ) → Sound f faulty i → (k t v : ℕ) → T (shown_below (kept_for f start i) i k t v (e ∷ es))
            → T (shown_below (watched f i) i k t v (e ∷ S.rules))
        unfolding shown_below
        shown_by i z k t v h = go (or_cases (shows_now x i k t v e es) (shown_below x i k t v es) h)
          where
            x : Watched
            x = kept_for f start i

            y : Watched
            y = watched f i

            go : T (shows_now x i k t v e es) ⊎ T (shown_below x i k t v es) → T (shows_now y i k t v e S.rules || shown_below y i k t v S.rules)
            go (inl u) =
                or_l (shows_now y i k t v e S.rules) (shown_below y i k t v S.rules) (shows_on x y i k t v e es S.rules alike u)
            go (inr u) = or_r (shows_now y i k t v e S.rules) (shown_below y i k t v S.rules) (S.shown i z k t v u)

        adds : Shadow (e ∷ es)
        unfolding gave_by gave gives_now Fair FairCalls HonestBy
        adds = record {
          rules = e ∷ S.rules;
          held = held_now;
          said = λ i z b w. rw (alike, S.said i z b w);
          fair = λ F. (S.fair F.0, λ _ k q z. carries_alike f faulty _ _ S.said k _ (F.1 s k q z));
          ever = ever_by;
          read = read_by;
          shown = shown_by;
        }

      step : Shadow (e ∷ es)
      unfolding answered
      step = go (sound_or_not e.box)
        where
          by : Sound f faulty e.box → (k : Check) → lent_wrong (told_at f e) (now e.box).table ≡ k → Shadow (e ∷ es)
          by s (Ok _) q = adds s q
          by s (Err r) q =
              skips
              (λ _. (
                all_left e.entry (told_at f e) (now e.box) e.message r q,
                no_word e.entry (told_at f e) (now e.box) e.message r q,
                not_found e.entry (told_at f e) (now e.box) e.message r q,
              ))

          go : Sound f faulty e.box ⊎ (Sound f faulty e.box → ⊥) → Shadow (e ∷ es)
          go (inl s) = by s (lent_wrong (told_at f e) (now e.box).table) refl
          go (inr n) = skips (λ s. absurd (n s))

    pub shadow : ((i : ℕ) → Sound f faulty i → Empty (start i)) → (es : List Event) → Shadow es
    unfolding kept_at box_at box_in empty entries_of gave_by gave Fair ever_held holds read_without shown_below
    shadow fresh [] = record {
      rules = [];
      held = λ i s. empty_box (start i) (fresh i s);
      said = λ i s b w. refl;
      fair = λ _. tt;
      ever = λ i s b h. absurd h;
      read = λ i s k t b h. absurd h;
      shown = λ i s k t v h. absurd h;
    }
    shadow fresh (e ∷ es) = step e es (shadow fresh es)

pub engine_tracks : EngineTracks
engine_tracks f faulty start fresh es =
    let S = shadow f faulty start fresh es in
    record { rules = S.rules; held = S.held; said = S.said; answers = λ e s lent. alike f faulty start e es S s lent }

pub engine_safety : EngineSafety
engine_safety f faulty few start fresh es F =
    let S = shadow f faulty start fresh es in
    safe_alike f faulty (given_in f S.rules) (gave_by f start es) (λ i s b w. sym (S.said i s b w)) (safety f faulty few S.rules (S.fair F))
