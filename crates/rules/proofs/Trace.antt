-- A trace as steps of one box.
use Prim.Native.Nat.{ℕ, ◌≤◌, ◌<◌}
use mathlib.Core.Bool.{not, ◌&&◌}
use mathlib.Core.Path.{◌≡◌, refl, ◌∙◌, ap}
use mathlib.Core.Logic.{◌⊎◌, inl, inr}
use mathlib.Core.Option.{some, none}
use mathlib.Core.List.{List, ◌∷◌, Memᴰ as In}
use lib.Dec.{T, eqb, eqb→eq}
use Rattle.rules.specs.Answers.{Version, unsettled}
use Rattle.rules.specs.Bodies.{Body, same_body, stamp_of}
use Rattle.rules.specs.Table.{Entry, Box}
use Rattle.rules.specs.Calls.{Act, look_act, rd_answer}
use Rattle.rules.specs.Low.{above, folds_up_to}
use Rattle.records.specs.Cutting.{tx_part}
use Rattle.rules.specs.Act.{act, table_after, low_after, folds_after, box_after, after}
use Rattle.rules.specs.System.{Event, told_at, box_at, answer_to, Word, word_in, is_word, gives_now, gave}
use Rattle.rules.proofs.Laws.{pick_true, pick_false, and_l, both, ands, or_cases, or_l, or_r, decide_t, no_both, same_body_eq, same_body_refl}
use Rattle.rules.proofs.Moves.{none_some, word_eq, is_word_lem, Move}
use Rattle.rules.proofs.Deeds.{Deed, deed, idles, looks, moves, lifts as raised}
use Rattle.rules.proofs.Kept.{folds_same, low_same}

module _ (f i : ℕ) where
  unfoldable pub table : List Event → List Entry
  table es = (box_at f i es).table

  unfoldable pub low : List Event → ℕ
  low es = (box_at f i es).low

  unfoldable pub folds : List Event → List Version
  folds es = (box_at f i es).folds

  -- what is given with a message: it is the answer's word for the message's body, or was given before
  abbrev pub New : Event → List Event → Act → Body → Word → Type 0
  New e es a b w = ((tx_part e.message ≡ b) × (word_in a.answer ≡ some w)) ⊎ T (gave f i b w es)

  -- a message for another box, or one that changes nothing here but perhaps a read mark
  pub record Idle (e : Event) (es : List Event) : Type 0 where
    pub table_now : table (e ∷ es) ≡ table es
    pub low_now : low (e ∷ es) ≡ low es
    pub folds_now : folds (e ∷ es) ≡ folds es
    pub unsaid : (b : Body) (w : Word) → T (gave f i b w (e ∷ es)) → T (gave f i b w es)

  -- a message that moves this box, above its low mark
  pub record Moved (e : Event) (es : List Event) : Type 0 where
    pub here : e.box ≡ i
    pub act : Act
    pub move : Move f (box_at f i es) e.entry e.message (tx_part e.message) act
    pub high : low es < stamp_of (tx_part e.message)
    pub table_now : table (e ∷ es) ≡ table_after (table es) act.change
    pub low_now : low (e ∷ es) ≡ low es
    pub folds_now : folds (e ∷ es) ≡ folds es
    pub given : (b : Body) (w : Word) → T (gave f i b w (e ∷ es)) → New e es act b w
    pub gives : (w : Word) → word_in act.answer ≡ some w → T (gave f i (tx_part e.message) w (e ∷ es))

  -- the low mark is raised: everything at or below it is decided
  pub record Lifted (e : Event) (es : List Event) : Type 0 where
    pub mark : ℕ
    pub higher : low es < mark
    pub all_decided : (o : Entry) → In o (table es) → stamp_of o.body ≤ mark → o.decided ≡ unsettled → ⊥
    pub table_now : table (e ∷ es) ≡ above mark (table es)
    pub low_now : low (e ∷ es) ≡ mark
    pub folds_now : folds (e ∷ es) ≡ folds_up_to mark (table es) (folds es)
    pub unsaid : (b : Body) (w : Word) → T (gave f i b w (e ∷ es)) → T (gave f i b w es)

  pub data Step (e : Event) (es : List Event) : Type 0 where
    still : Idle e es → Step e es
    arrives : Moved e es → Step e es
    lifts : Lifted e es → Step e es

  pub gave_later : (e : Event) (es : List Event) (b : Body) (w : Word) → T (gave f i b w es) → T (gave f i b w (e ∷ es))
  unfolding gave gives_now
  gave_later e es b w h = or_r (gives_now f i b w e es) (gave f i b w es) h

  away : (e : Event) (es : List Event) → T (not (eqb e.box i)) → Step e es
  unfolding table low folds box_at gave gives_now
  away e es n = still (record {
    table_now = ap (λ (x : Box). x.table) same;
    low_now = ap (λ (x : Box). x.low) same;
    folds_now = ap (λ (x : Box). x.folds) same;
    unsaid = λ b w h. other b w (or_cases (gives_now f i b w e es) (gave f i b w es) h);
  })
    where
      same : box_at f i (e ∷ es) ≡ box_at f i es
      same = pick_false (eqb e.box i) _ _ n

      other : (b : Body) (w : Word)
          → T (gives_now f i b w e es) ⊎ T (gave f i b w es) → T (gave f i b w es)
      other b w (inl u) =
          absurd (no_both (eqb e.box i) (and_l (eqb e.box i) (same_body (tx_part e.message) b && is_word w (word_in (answer_to f e es))) u) n)
      other b w (inr u) = u

  -- a message for this box
  module _ (e : Event) (es : List Event) (y : T (eqb e.box i)) where
    abbrev doing : Act
    doing = act e.entry (told_at f e) (box_at f i es) e.message

    here_now : e.box ≡ i
    here_now = eqb→eq e.box i y

    same_answer : answer_to f e es ≡ doing.answer
    unfolding answer_to
    same_answer = ap (λ (j : ℕ). (act e.entry (told_at f e) (box_at f j es) e.message).answer) here_now

    box_now : box_at f i (e ∷ es) ≡ after e.entry (told_at f e) (box_at f i es) e.message
    unfolding box_at
    box_now = pick_true (eqb e.box i) _ _ y

    table_of : table (e ∷ es) ≡ table_after (table es) doing.change
    unfolding table after box_after
    table_of = ap (λ (x : Box). x.table) box_now

    low_of : low (e ∷ es) ≡ low_after (low es) doing.change
    unfolding low after box_after
    low_of = ap (λ (x : Box). x.low) box_now

    folds_of_lem : folds (e ∷ es) ≡ folds_after (table es) (folds es) doing.change
    unfolding table folds after box_after
    folds_of_lem = ap (λ (x : Box). x.folds) box_now

    given_of : (b : Body) (w : Word) → T (gave f i b w (e ∷ es)) → New e es doing b w
    unfolding gave gives_now
    given_of b w h = go (or_cases (gives_now f i b w e es) (gave f i b w es) h)
      where
        go : T (gives_now f i b w e es) ⊎ T (gave f i b w es) → New e es doing b w
        go (inl u) =
            let v : T (same_body (tx_part e.message) b) = search ands in
            let k : T (is_word w (word_in (answer_to f e es))) = search ands in
            inl (same_body_eq (tx_part e.message) b v, rw same_answer at (word_eq w (word_in (answer_to f e es)) k))
        go (inr u) = inr u

    gives_of : (w : Word) → word_in doing.answer ≡ some w → T (gave f i (tx_part e.message) w (e ∷ es))
    unfolding gave gives_now
    gives_of w h =
        or_l (gives_now f i (tx_part e.message) w e es) (gave f i (tx_part e.message) w es)
        (both (eqb e.box i) (same_body (tx_part e.message) (tx_part e.message) && is_word w (word_in (answer_to f e es))) y
        (both (same_body (tx_part e.message) (tx_part e.message)) (is_word w (word_in (answer_to f e es)))
        (same_body_refl (tx_part e.message))
        (is_word_lem w (word_in (answer_to f e es)) (rw same_answer h))))

    -- an answer without a word gives none
    unsaid_of : word_in doing.answer ≡ none → (b : Body) (w : Word) → T (gave f i b w (e ∷ es)) → T (gave f i b w es)
    unsaid_of n b w h = go (given_of b w h)
      where
        go : New e es doing b w → T (gave f i b w es)
        go (inl u) = absurd (none_some n u.1)
        go (inr u) = u

    by_deed : (a : Act) → a ≡ doing → Deed f (box_at f i es) e.entry e.message (tx_part e.message) a → Step e es
    unfolding table_after low_after folds_after table low folds word_in look_act rd_answer
    by_deed a q (moves l m) = arrives (record {
      here = here_now;
      act = doing;
      move = rw q at m;
      high = l;
      table_now = table_of;
      low_now = low_of ∙ low_same doing (rw q at m);
      folds_now = folds_of_lem ∙ folds_same doing (rw q at m);
      given = given_of;
      gives = gives_of;
    })
    by_deed a q (idles n) = still (record {
      table_now = rw (← q) at table_of;
      low_now = rw (← q) at low_of;
      folds_now = rw (← q) at folds_of_lem;
      unsaid = unsaid_of (rw (← q) n);
    })
    by_deed a q (looks k s) = still (record {
      table_now = rw (← q) at table_of;
      low_now = rw (← q) at low_of;
      folds_now = rw (← q) at folds_of_lem;
      unsaid = unsaid_of (rw (← q) refl);
    })
    by_deed a q (raised l h d) = lifts (record {
      mark = l;
      higher = h;
      all_decided = d;
      table_now = rw (← q) at table_of;
      low_now = rw (← q) at low_of;
      folds_now = rw (← q) at folds_of_lem;
      unsaid = unsaid_of (rw (← q) refl);
    })

    moved : Step e es
    moved = by_deed doing refl (deed (told_at f e) (box_at f i es) e.entry e.message)

  pub step : (e : Event) (es : List Event) → Step e es
  step e es = go (decide_t (eqb e.box i))
    where
      go : T (eqb e.box i) ⊎ T (not (eqb e.box i)) → Step e es
      go (inl y) = moved e es y
      go (inr n) = away e es n
