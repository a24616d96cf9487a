-- A10: after its answer a box that had not held, or does not show, a body below the stamp accepts it no more; 3f + 1 such boxes leave too few that do.
use Prim.Native.Nat.{ℕ, ◌+◌, ◌*◌, ◌≤◌, ◌<◌}
use mathlib.Core.Bool.{Bool, not}
use mathlib.Core.Path.{◌≡◌, refl, ◌∙◌, ap}
use mathlib.Core.Logic.{◌⊎◌, inl, inr}
use mathlib.Core.List.{List, [], ◌∷◌, ◌++◌}
use native.Mathlib.Omega.{arith}
use lib.Dec.{T, eqb, eqb→eq, ltb, lt→ltb}
use lib.ListN.{get_or}
use Rattle.terms.specs.Group.{boxes}
use Rattle.records.specs.declared.Write.{Write}
use Rattle.records.specs.Tx.{write_key}
use Rattle.records.specs.Contents.{largest_key}
use Rattle.records.specs.Cutting.{tx_part}
use Rattle.records.specs.Messages.{rd_key, rd_stamp}
use Rattle.rules.specs.Answers.{Answer, Decided, Done, Elected, Found, Logged, Raised, Refused, Voted, commit}
use Rattle.rules.specs.Bodies.{Body, same_body, stamp_of, writes_key, writes_of}
use Rattle.rules.specs.Table.{Box}
use Rattle.rules.specs.Tests.{test5}
use Rattle.rules.specs.Calls.{Act, look_act, raises, rd_answer}
use Rattle.rules.specs.Act.{act, after, box_after, mark_by, marks_after, raise, table_after}
use Rattle.rules.specs.System.{Event, Fair, Proof, Sound, Word, answer_to, box_at, gave, gives_now, how_many, is_word, told_at, vote, word_in}
use Rattle.rules.specs.SlipUnder.{NothingComesBetween, NothingSlipsUnder, Watched, asks, ever_held, holds, is_found, is_rd}
use Rattle.rules.specs.SlipUnder.{read_without, reads_now, shown_below, shows_below, shows_now, watched}
use Rattle.rules.proofs.Laws.{ands, any_found, any_of, find_in, lt_cases, no_both, or_cases, or_l, or_r, pick_true, same_body_refl}
use Rattle.rules.proofs.Counting.{meet}
use Rattle.rules.proofs.Moves.{Clear}
use Rattle.rules.proofs.Said.{spoken}
use Rattle.rules.proofs.Fresh.{Upright}
use Rattle.rules.proofs.Trace.{New, Step, arrives, folds, lifts, low, step, still, table}
use Rattle.rules.proofs.Local.{local}
use Rattle.rules.proofs.Backing.{upheld, upheld_gave}
use Rattle.rules.proofs.Rests.{rests}
use Rattle.rules.proofs.Apart.{Accepts, Dead, Under, accepted, accepted_lifted, by_entry, by_vote, dead_later, here_or_dead, is_dead, parted}
use Rattle.rules.proofs.Apart.{under_folds}
use Rattle.rules.proofs.Global.{alive, quorum}
use Rattle.rules.proofs.Marks.{Looks, all_marks, look_raises, looks_found, mark_up, marks}
use Rattle.rules.proofs.Shown.{shows_what_stands, shows_what_went}

-- what is held is held at some time
pub held_ever : (x : Watched) (b : Body) (es : List Event) → T (holds b (x.held es)) → T (ever_held x b es)
unfolding ever_held
held_ever x b [] h = h
held_ever x b (e ∷ es) h = or_l (holds b (x.held (e ∷ es))) (ever_held x b es) h

-- so is what stands
stands_held : (f i : ℕ) (b : Body) (es : List Event) → Upright (table f i es) b → T (ever_held (watched f i) b es)
unfolding holds table
stands_held f i b es u =
    held_ever (watched f i) b es (any_of (λ o. same_body o.body b) (table f i es) u.entry u.inside (rw u.body (same_body_refl b)))

-- and what a box gave it held
gave_held : (f i : ℕ) (b : Body) (w : Word) (es : List Event) → T (gave f i b w es) → T (ever_held (watched f i) b es)
unfolding gave ever_held holds table
gave_held f i b w [] h = absurd h
gave_held f i b w (e ∷ es) h =
    go (step f i e es) (λ g. or_r (holds b (table f i (e ∷ es))) (ever_held (watched f i) b es) (gave_held f i b w es g))
  where
    go : Step f i e es → (T (gave f i b w es) → T (ever_held (watched f i) b (e ∷ es))) → T (ever_held (watched f i) b (e ∷ es))
    go (still s) before = before (s.unsaid b w h)
    go (lifts s) before = before (s.unsaid b w h)
    go (arrives s) before = by (s.given b w h)
      where
        by : New f i e es s.act b w → T (ever_held (watched f i) b (e ∷ es))
        by (inr u) = before u
        by (inl u) =
            let y = spoken s.move w u.1 in
            or_l (holds b (table f i (e ∷ es))) (ever_held (watched f i) b es)
            (rw s.table_now
            (any_of (λ o. same_body o.body b) (table_after (table f i es) s.act.change) y.entry (find_in (stamp_of (tx_part e.message)) _ y.entry y.at)
            (rw (y.body, u.0) (same_body_refl b))))

-- an answer that shows versions is an answer
pub shows_found : (v : ℕ) (a : Answer) → T (shows_below v a) → T (is_found a)
unfolding shows_below is_found
shows_found v (Voted w n) h = absurd h
shows_found v (Decided d) h = absurd h
shows_found v (Logged d w) h = absurd h
shows_found v (Elected d w l) h = absurd h
shows_found v Done h = absurd h
shows_found v Raised h = absurd h
shows_found v (Found committed undecided) h = tt
shows_found v (Refused r) h = absurd h

module _ (f : ℕ) (faulty : ℕ → Bool) (i : ℕ) (sound : Sound f faulty i) (k s : ℕ) (b : Body) (writes : T (writes_key b k)) (below : stamp_of b < s) where
  -- what the box accepts of it, a vote or an entry that stands, is of a body that never commits
  abbrev Out : List Event → Type 0
  Out es = Accepts f faulty i es b → Dead f faulty es b

  -- from the answer on: the mark stands at s or above, and the body is shut out
  record Shut (es : List Event) : Type 0 where
    key : k ≤ largest_key
    mark : s ≤ get_or (marks f i es) k 0
    out : Out es

  -- test 5 stops it
  marked : (x : Box) → s ≤ get_or x.marks k 0 → Clear x b → ⊥
  unfolding test5 writes_key
  marked x h c =
      let w = any_found (λ (v : Write). eqb (write_key v) k) (writes_of b) writes in
      let e = eqb→eq (write_key w.0) k w.2 in
      c.unread
      (any_of (λ (v : Write). ltb (stamp_of b) (get_or x.marks (write_key v) 0)) (writes_of b) w.0 w.1 (lt→ltb (stamp_of b) _ (rw e (omega arith))))

  -- the answer: an RD raises its mark, puts no entry and gives no word
  module _ (e : Event) (es : List Event) (q : T (eqb e.box i)) (h : T (asks k s e)) (g : T (is_found (answer_to f e es))) where
    here : e.box ≡ i
    here = eqb→eq e.box i q

    is_rd_lem : T (is_rd (mark_by e.entry e.message))
    unfolding asks
    is_rd_lem = search ands

    key_is : rd_key e.message ≡ k
    unfolding asks
    key_is = let y : T (eqb (rd_key e.message) k) = search ands in eqb→eq _ k y

    stamp_is : rd_stamp e.message ≡ s
    unfolding asks
    stamp_is = let y : T (eqb (rd_stamp e.message) s) = search ands in eqb→eq _ s y

    looks : Looks (act e.entry (told_at f e) (box_at f i es) e.message) (box_at f i es) e.message
    unfolding answer_to
    looks = looks_found (told_at f e) (box_at f i es) e.message e.entry is_rd_lem (rw here at g)

    answer_is : answer_to f e es ≡ rd_answer (box_at f i es) k s
    unfolding answer_to look_act
    answer_is =
        ap (λ (j : ℕ). (act e.entry (told_at f e) (box_at f j es) e.message).answer) here
        ∙ (ap (λ (a : Act). a.answer) looks.is ∙ rw (key_is, stamp_is) refl)

    box_is : box_at f i (e ∷ es) ≡ box_after (box_at f i es) (raises (rd_key e.message) (rd_stamp e.message))
    unfolding box_at after look_act
    box_is = pick_true (eqb e.box i) _ _ q ∙ ap (λ (a : Act). box_after (box_at f i es) a.change) looks.is

    marks_are : marks f i (e ∷ es) ≡ raise (marks f i es) k s
    unfolding marks box_after marks_after
    marks_are = ap (λ (x : Box). x.marks) box_is ∙ rw (key_is, stamp_is) refl

    table_is : table f i (e ∷ es) ≡ table f i es
    unfolding table box_after table_after
    table_is = ap (λ (x : Box). x.table) box_is

    accepted_before : Accepts f faulty i (e ∷ es) b → Accepts f faulty i es b
    unfolding gave gives_now rd_answer word_in is_word
    accepted_before (by_entry u) = by_entry (rw table_is at u)
    accepted_before (by_vote y) = go (or_cases (gives_now f i b (vote commit) e es) (gave f i b (vote commit) es) y)
      where
        go : T (gives_now f i b (vote commit) e es) ⊎ T (gave f i b (vote commit) es) → Accepts f faulty i es b
        go (inl u) = let v : T (is_word (vote commit) (word_in (answer_to f e es))) = search ands in absurd (rw answer_is at v)
        go (inr u) = by_vote u

    shut_now : Out es → Shut (e ∷ es)
    shut_now out = record {
      key = rw key_is at looks.key;
      mark = rw marks_are (look_raises (marks f i es) k s (rw (all_marks f i es) (omega (arith, rw key_is at looks.key))));
      out = λ a. dead_later f faulty e es b (out (accepted_before a));
    }

  -- and it stays shut out
  out_step : (e : Event) (es : List Event) → Step f i e es → Shut es → Out (e ∷ es)
  unfolding table marks
  out_step e es (still y) S a = dead_later f faulty e es b (S.out (before a))
    where
      before : Accepts f faulty i (e ∷ es) b → Accepts f faulty i es b
      before (by_vote h) = by_vote (y.unsaid b (vote commit) h)
      before (by_entry u) = by_entry (rw y.table_now at u)
  out_step e es (lifts y) S a = dead_later f faulty e es b (S.out (accepted_lifted f faulty i e es y b a))
  out_step e es (arrives y) S a = by (accepted f faulty i e es y b a)
    where
      by : Accepts f faulty i es b ⊎ ((tx_part e.message ≡ b) × Clear (box_at f i es) (tx_part e.message)) → Dead f faulty (e ∷ es) b
      by (inl o) = dead_later f faulty e es b (S.out o)
      by (inr o) = absurd (marked (box_at f i es) S.mark (rw o.0 at o.1))

  shut_step : (e : Event) (es : List Event) → Shut es → Shut (e ∷ es)
  shut_step e es S =
      record { key = S.key; mark = omega (arith, S.mark, mark_up f i e es k S.key); out = out_step e es (step f i e es) S }

  -- where it had not been held
  out_unheld : (es : List Event) → T (not (ever_held (watched f i) b es)) → Out es
  out_unheld es n (by_entry u) = absurd (no_both (ever_held (watched f i) b es) (stands_held f i b es u) n)
  out_unheld es n (by_vote g) = absurd (no_both (ever_held (watched f i) b es) (gave_held f i b (vote commit) es g) n)

  shut_unheld : (es : List Event) → T (read_without (watched f i) i k s b es) → Shut es
  unfolding read_without reads_now
  shut_unheld [] h = absurd h
  shut_unheld (e ∷ es) h =
      go (or_cases (reads_now (watched f i) i k s b e es) (read_without (watched f i) i k s b es) h) (λ y. shut_step e es (shut_unheld es y))
    where
      go : T (reads_now (watched f i) i k s b e es) ⊎ T (read_without (watched f i) i k s b es)
          → (T (read_without (watched f i) i k s b es) → Shut (e ∷ es)) → Shut (e ∷ es)
      go (inr y) r = r y
      go (inl y) r =
          let q : T (eqb e.box i) = search ands in
          let h : T (asks k s e) = search ands in
          let g : T (is_found (answer_to f e es)) = search ands in
          let n : T (not (ever_held (watched f i) b es)) = search ands in
          shut_now e es q h g (out_unheld es n)

  -- where it was not shown: an entry that stands is shown, or a higher one is; and so is the fold of one that was let go
  out_unshown : (es : List Event) → Fair f faulty es → k ≤ largest_key → T (shows_below (stamp_of b) (rd_answer (box_at f i es) k s)) → Out es
  unfolding table low folds
  out_unshown es F r n (by_entry u) = absurd (shows_what_stands (box_at f i es) k s b writes below u n)
  out_unshown es F r n (by_vote g) = by (lt_cases (low f i es) (stamp_of b))
    where
      go : Dead f faulty es b ⊎ Upright (table f i es) b → Dead f faulty es b
      go (inl d) = d
      go (inr u) = absurd (shows_what_stands (box_at f i es) k s b writes below u n)

      went : stamp_of b ≤ low f i es → Under f faulty (folds f i es) es b → Dead f faulty es b
      went l (is_dead d) = d
      went l (under_folds o) = absurd (shows_what_went (box_at f i es) k s b (local f i es).high l (o k r writes) n)

      by : (low f i es < stamp_of b) ⊎ (stamp_of b ≤ low f i es) → Dead f faulty es b
      by (inl l) = go (here_or_dead f faulty i es (rests f faulty i sound es F) b g l)
      by (inr l) = went l ((parted f faulty i sound es F).gone b g l)

  shut_unshown : (es : List Event) → Fair f faulty es → T (shown_below (watched f i) i k s (stamp_of b) es) → Shut es
  unfolding shown_below shows_now Fair
  shut_unshown [] F h = absurd h
  shut_unshown (e ∷ es) F h =
      go (or_cases (shows_now (watched f i) i k s (stamp_of b) e es) (shown_below (watched f i) i k s (stamp_of b) es) h)
      (λ y. shut_step e es (shut_unshown es F.0 y))
    where
      go : T (shows_now (watched f i) i k s (stamp_of b) e es) ⊎ T (shown_below (watched f i) i k s (stamp_of b) es)
          → (T (shown_below (watched f i) i k s (stamp_of b) es) → Shut (e ∷ es)) → Shut (e ∷ es)
      go (inr y) r = r y
      go (inl y) r =
          let q : T (eqb e.box i) = search ands in
          let h : T (asks k s e) = search ands in
          let n : T (shows_below (stamp_of b) (answer_to f e es)) = search ands in
          let g = shows_found (stamp_of b) (answer_to f e es) n in
          shut_now e es q h g (out_unshown es F.0 (rw (key_is e es q h g) at (looks e es q h g).key) (rw (answer_is e es q h g) at n))

  shut_later : (es later : List Event) → Shut es → Shut (later ++ es)
  shut_later es [] S = S
  shut_later es (e ∷ ls) S = shut_step e (ls ++ es) (shut_later es ls S)

  out_unheld_later : (es later : List Event) → T (read_without (watched f i) i k s b es) → Accepts f faulty i (later ++ es) b
      → Dead f faulty (later ++ es) b
  out_unheld_later es later h = (shut_later es later (shut_unheld es h)).out

  out_unshown_later : (es later : List Event) → Fair f faulty es → T (shown_below (watched f i) i k s (stamp_of b) es)
      → Accepts f faulty i (later ++ es) b → Dead f faulty (later ++ es) b
  out_unshown_later es later F h = (shut_later es later (shut_unshown es F h)).out

-- 3f + 1 that are shut and the 3f + 1 behind a commit share a sound box
module _ (f : ℕ) (faulty : ℕ → Bool) (few : how_many faulty (boxes f) ≤ f) (es : List Event) (F : Fair f faulty es) (b : Body) where
  no_commit : (asked : ℕ → Bool) → 3 * f + 1 ≤ how_many asked (boxes f)
      → ((i : ℕ) → Sound f faulty i → T (asked i) → Accepts f faulty i es b → Dead f faulty es b) → Proof f faulty es b commit → ⊥
  no_commit asked enough out P =
      let c = meet asked (upheld f faulty es b (vote commit)) faulty (boxes f) (omega (arith, enough, quorum f faulty few es F b P)) in
      alive f faulty few es F b P (out c.0 (c.1, c.4) c.2 (by_vote (upheld_gave f faulty es b (vote commit) c.0 c.3 c.4)))

fair_before : (f : ℕ) (faulty : ℕ → Bool) (es later : List Event) → Fair f faulty (later ++ es) → Fair f faulty es
unfolding Fair
fair_before f faulty es [] F = F
fair_before f faulty es (e ∷ ls) F = fair_before f faulty es ls F.0

pub nothing_slips_under : NothingSlipsUnder
nothing_slips_under f faulty few es later F k s b N =
    no_commit f faulty few (later ++ es) F b N.asked N.enough
    (λ i z a. out_unheld_later f faulty i z k s b N.writes N.below es later (N.answered i z a))

pub nothing_comes_between : NothingComesBetween
nothing_comes_between f faulty few es later F k s b N =
    no_commit f faulty few (later ++ es) F b N.asked N.enough
    (λ i z a. out_unshown_later f faulty i z k s b N.writes N.below es later (fair_before f faulty es later F) (N.answered i z a))
