-- "Capacity counts every entry; base entries are never dropped.": a table never grows past its capacity, and a stamp that is held stays held, unless it
-- is let go at or below a raised low mark (A11).
use Prim.Native.Nat.{ℕ, ◌+◌, ◌≤◌, ◌<◌}
use mathlib.Core.Bool.{not}
use mathlib.Core.Path.{◌≡◌, refl, sym, ◌∙◌}
use mathlib.Core.Logic.{◌⊎◌, inl, inr}
use mathlib.Core.Option.{Option, some, none}
use mathlib.Core.List.{List, [], ◌∷◌}
use native.Mathlib.Omega.{arith}
use lib.Dec.{T, eqb, ltb, nleb→lt}
use lib.ListN.{length}
use Rattle.terms.specs.Checks.{Check, passed}
use Rattle.terms.proofs.Checks.{first_none, rest_none, not_less}
use Rattle.records.specs.Vl.{Vl}
use Rattle.records.specs.declared.Ballot.{Ballot}
use Rattle.records.specs.declared.ViewMark.TheVariants.{VS, EL}
use Rattle.records.specs.Views.{Views}
use Rattle.records.specs.Contents.{largest_key, rd_wrong}
use Rattle.records.specs.declared.Mark.{Mark}
use Rattle.records.specs.declared.Mark.TheVariants.{PR, LG, DC, RD, IV, LD}
use Rattle.std.specs.Prelude.{Result, Ok, Err}
use Rattle.terms.specs.declared.Refusal.{Refusal}
use Rattle.records.specs.Messages.{contents_wrong, due_refusal, rd_key, rd_stamp}
use Rattle.rules.specs.Answers.{Decision, commit, abort, Log, logged, unlogged, Settled, settled, unsettled, Vote, unvoted, waiting, vote_commit, vote_abort}
use Rattle.rules.specs.Bodies.{Body, stamp_of, same_body}
use Rattle.rules.specs.Lists.{decision_of, meets}
use Rattle.rules.specs.Table.{Entry, Box, Told, find, put}
use Rattle.rules.specs.Calls.{Act, Change, nothing, puts, raises, raises_low, is_full, room_for, needing, same_decision, cast_act, pr_by_vote, pr_by_decision}
use Rattle.rules.specs.Calls.{pr_by_entry, pr_rule, log_act, lg_by_log, lg_by_decision, lg_by_entry, lg_rule, decide_act, dc_same, dc_other, dc_by_entry, dc_rule, guarded, look_act, rd_rule}
use Rattle.records.specs.Cutting.{tx_part}
use Rattle.records.specs.Messages.{list_behind, views_behind}
use Rattle.rules.specs.Fallback.{largest_view, next_view, elect_act, iv_by_log, iv_by_decision, iv_by_entry, iv_rule}
use Rattle.rules.specs.Fallback.{leads, may_take, take_act, ld_by_decision, ld_by_entry, ld_rule}
use Rattle.rules.specs.Low.{low_rule, low_wrong}
use Rattle.rules.specs.Act.{EntryPoint, receive, due, raising, unless_old, rule, due_act, marked_act, mark_by, act_by, act, table_after, marks_after}
use Rattle.rules.specs.Act.{low_after, box_after, after}
use Rattle.rules.proofs.Laws.{pick_elim, pick_true, pick_false, decide_t}
use Rattle.rules.proofs.Moves.{none_some}
use Rattle.rules.proofs.Deeds.{guarded_elim}
use Rattle.rules.proofs.Folds.{above_fewer, find_above}
use Rattle.rules.proofs.Kept.{put_cases}

-- what is put is this body, and it takes the place of an entry with its stamp, or there is room; a read mark that is raised is a key's, and a low mark
-- may be raised so
unfoldable pub FitsBy : (ℕ → Type 0) → (ℕ → Type 0) → Told → Box → Body → Change → Type 0
FitsBy K L told x b nothing = Unit {0}
FitsBy K L told x b (raises k s) = K k
FitsBy K L told x b (raises_low l) = L l
FitsBy K L told x b (puts e) = (e.body ≡ b) × (find (stamp_of b) x.table ≡ none → length x.table < told.capacity)

abbrev pub FitsIn : Told → Box → Body → Change → Type 0
FitsIn told x b c = FitsBy (λ k. k ≤ largest_key) (λ l. low_wrong x l ≡ passed) told x b c

unfoldable pub Fit : (ℕ → Type 0) → (ℕ → Type 0) → Told → Box → Body → Act → Type 0
Fit K L told x b a = FitsBy K L told x b a.change

abbrev pub Fits : Told → Box → Body → Act → Type 0
Fits told x b a = Fit (λ k. k ≤ largest_key) (λ l. low_wrong x l ≡ passed) told x b a

module _ (K L : ℕ → Type 0) (told : Told) (x : Box) (b : Body) where
  room_fits : (a : Act) → ((length x.table < told.capacity) → Fit K L told x b a) → Fit K L told x b (room_for told x a)
  unfolding room_for is_full Fit FitsBy
  room_fits a h = pick_elim (Fit K L told x b) (is_full told x) (λ _. tt) (λ n. h (nleb→lt told.capacity (length x.table) n))

  need_fits : (need : ℕ) (l : Vl) (a : Act) → Fit K L told x b a → Fit K L told x b (needing need l a)
  unfolding needing Fit FitsBy
  need_fits need l a h = pick_elim (Fit K L told x b) (meets need l) (λ _. h) (λ _. tt)

  pub guarded_fits : (c : Check) (a : Act) → (c ≡ passed → Fit K L told x b a) → Fit K L told x b (guarded c a)
  unfolding Fit FitsBy
  guarded_fits n a h = guarded_elim (Fit K L told x b) n a h (λ _. tt)

  pr_by_lem : (o : Option Entry) → find (stamp_of b) x.table ≡ o → Fit K L told x b (pr_by_entry told x b o)
  unfolding pr_by_entry pr_by_decision pr_by_vote cast_act Fit FitsBy
  pr_by_lem none p = room_fits _ (λ n. (refl, λ _. n))
  pr_by_lem (some e) p = pick_elim (Fit K L told x b) (same_body e.body b) (λ _. by_decision e.decided) (λ _. tt)
    where
      by_vote : (v : Vote) → Fit K L told x b (pr_by_vote told x b e v)
      by_vote vote_commit = tt
      by_vote (vote_abort r) = tt
      by_vote waiting = (refl, λ q. absurd (none_some q p))
      by_vote unvoted = (refl, λ q. absurd (none_some q p))

      by_decision : (d : Settled) → Fit K L told x b (pr_by_decision told x b e d)
      by_decision unsettled = by_vote e.vote
      by_decision (settled d) = tt

  pub pr_fits : Fit K L told x b (pr_rule told x b)
  unfolding pr_rule
  pr_fits = pr_by_lem (find (stamp_of b) x.table) refl

  lg_by_lem : (l : Vl) (o : Option Entry) → find (stamp_of b) x.table ≡ o → Fit K L told x b (lg_by_entry told x b l o)
  unfolding lg_by_entry lg_by_decision lg_by_log log_act Fit FitsBy
  lg_by_lem l none p = need_fits _ l _ (room_fits _ (λ n. (refl, λ _. n)))
  lg_by_lem l (some e) p = pick_elim (Fit K L told x b) (same_body e.body b) (λ _. by_decision e.decided) (λ _. tt)
    where
      by_log : (y : Log) → Fit K L told x b (lg_by_log told b l e y)
      by_log (logged y) = tt
      by_log unlogged = need_fits _ l _ (refl, λ q. absurd (none_some q p))

      by_decision : (d : Settled) → Fit K L told x b (lg_by_decision told b l e d)
      by_decision unsettled = by_log e.log
      by_decision (settled d) = tt

  pub lg_fits : (l : Vl) → Fit K L told x b (lg_rule told x b l)
  unfolding lg_rule
  lg_fits l = lg_by_lem l (find (stamp_of b) x.table) refl

  dc_by_lem : (d : Decision) (o : Option Entry) → find (stamp_of b) x.table ≡ o → Fit K L told x b (dc_by_entry told x b d o)
  unfolding dc_by_entry dc_same dc_other decide_act Fit FitsBy
  dc_by_lem d none p = room_fits _ (λ n. (refl, λ _. n))
  dc_by_lem d (some e) p = pick_elim (Fit K L told x b) (same_body e.body b) (λ _. same e.decided) (λ _. other d e.decided)
    where
      same : (o : Settled) → Fit K L told x b (dc_same b d e o)
      same unsettled = (refl, λ q. absurd (none_some q p))
      same (settled held) = pick_elim (Fit K L told x b) (same_decision held d) (λ _. tt) (λ _. tt)

      other : (d : Decision) (o : Settled) → Fit K L told x b (dc_other b d o)
      other abort o = tt
      other commit (settled commit) = tt
      other commit (settled abort) = (refl, λ q. absurd (none_some q p))
      other commit unsettled = (refl, λ q. absurd (none_some q p))

  pub dc_fits : (l : Vl) → Fit K L told x b (dc_rule told x b l)
  unfolding dc_rule Fit FitsBy
  dc_fits l = need_fits _ l _ (dc_by_lem (decision_of l.decision) (find (stamp_of b) x.table) refl)

  iv_by_lem : (ps : List Ballot) (o : Option Entry) → find (stamp_of b) x.table ≡ o → Fit K L told x b (iv_by_entry told b ps o)
  unfolding iv_by_entry iv_by_decision iv_by_log elect_act Fit FitsBy
  iv_by_lem ps none p = tt
  iv_by_lem ps (some e) p = pick_elim (Fit K L told x b) (same_body e.body b) (λ _. by_decision e.decided) (λ _. tt)
    where
      by_log : (y : Log) → Fit K L told x b (iv_by_log told b ps e y)
      by_log unlogged = tt
      by_log (logged y) =
          pick_elim (Fit K L told x b) (ltb largest_view (next_view told.f (e.view).0 ps)) (λ _. tt) (λ _. (refl, λ q. absurd (none_some q p)))

      by_decision : (d : Settled) → Fit K L told x b (iv_by_decision told b ps e d)
      by_decision unsettled = by_log e.log
      by_decision (settled d) = tt

  pub iv_fits : (l : Views) → Fit K L told x b (iv_rule told x b l)
  unfolding iv_rule
  iv_fits l = iv_by_lem l.ballots (find (stamp_of b) x.table) refl

  take_fits : (l : Views) (o : Option Entry) (a : Act) → Fit K L told x b a → Fit K L told x b (take_act told b l o a)
  unfolding take_act Fit FitsBy
  take_fits l o a h =
      pick_elim (Fit K L told x b) (leads told.f b l)
      (λ _. pick_elim (Fit K L told x b) (may_take l.view o) (λ _. h) (λ _. tt))
      (λ _. tt)

  ld_by_lem : (l : Views) (o : Option Entry) → find (stamp_of b) x.table ≡ o → Fit K L told x b (ld_by_entry told x b l o)
  unfolding ld_by_entry ld_by_decision log_act Fit FitsBy
  ld_by_lem l none p = take_fits l none _ (room_fits _ (λ n. (refl, λ _. n)))
  ld_by_lem l (some e) p = pick_elim (Fit K L told x b) (same_body e.body b) (λ _. by_decision e.decided) (λ _. tt)
    where
      by_decision : (d : Settled) → Fit K L told x b (ld_by_decision told b l e d)
      by_decision unsettled = take_fits l (some e) _ (refl, λ q. absurd (none_some q p))
      by_decision (settled d) = tt

  pub ld_fits : (l : Views) → Fit K L told x b (ld_rule told x b l)
  unfolding ld_rule
  ld_fits l = ld_by_lem l (find (stamp_of b) x.table) refl

  pub rd_fits : (k s : ℕ) → K k → Fit K L told x b (rd_rule told x k s)
  unfolding rd_rule look_act Fit FitsBy
  rd_fits k s h = guarded_fits _ _ (λ _. guarded_fits _ _ (λ _. h))

  pub old_fits : (a : Act) → Fit K L told x b a → Fit K L told x b (unless_old x b a)
  unfolding unless_old
  old_fits a h = guarded_fits _ a (λ _. h)

pub rd_key_lem : (f : ℕ) (m : List ℕ) → due_refusal RD f m ≡ passed → rd_key m ≤ largest_key
unfolding due_refusal contents_wrong rd_wrong
rd_key_lem f m e = not_less _ _ _ (first_none _ _ (rest_none _ _ (rest_none _ _ (rest_none _ _ e))))

module _ (told : Told) (x : Box) (m : List ℕ) where
  -- no message raises a low mark, so whatever is asked of one
  pub rule_fits : (L : ℕ → Type 0) (k : Mark) → due_refusal k told.f m ≡ passed → Fit (λ n. n ≤ largest_key) L told x (tx_part m) (rule k told x m)
  unfolding rule
  rule_fits L PR h = old_fits _ L told x (tx_part m) _ (pr_fits _ L told x (tx_part m))
  rule_fits L LG h = old_fits _ L told x (tx_part m) _ (lg_fits _ L told x (tx_part m) (list_behind m))
  rule_fits L DC h = old_fits _ L told x (tx_part m) _ (dc_fits _ L told x (tx_part m) (list_behind m))
  rule_fits L IV h = old_fits _ L told x (tx_part m) _ (iv_fits _ L told x (tx_part m) (views_behind VS m))
  rule_fits L LD h = old_fits _ L told x (tx_part m) _ (ld_fits _ L told x (tx_part m) (views_behind EL m))
  rule_fits L RD h = rd_fits _ L told x (tx_part m) (rd_key m) (rd_stamp m) (rd_key_lem told.f m h)

  marked_fits : (k : Result Mark Refusal) → Fits told x (tx_part m) (marked_act k told x m)
  unfolding marked_act due_act Fit FitsBy
  marked_fits (Ok k) = guarded_fits _ _ told x (tx_part m) _ _ (rule_fits _ k)
  marked_fits (Err n) = tt

  way_fits : (way : EntryPoint) → Fits told x (tx_part m) (act_by way told x m)
  unfolding act_by low_rule Fit FitsBy
  way_fits receive = marked_fits (mark_by receive m)
  way_fits (due k) = marked_fits (mark_by (due k) m)
  way_fits (raising l) = guarded_fits _ _ told x (tx_part m) _ _ (λ h. h)

  pub act_fits : (way : EntryPoint) → Fits told x (tx_part m) (act way told x m)
  unfolding act
  act_fits way = guarded_fits _ _ told x (tx_part m) _ _ (λ _. way_fits way)

-- a put takes a place, or adds one
put_new : (e : Entry) (t : List Entry) → length (put e t) ≤ length t + 1
unfolding put
put_new e [] = omega arith
put_new e (x ∷ xs) =
    pick_elim (λ (l : List Entry). length l ≤ length (x ∷ xs) + 1) (eqb (stamp_of x.body) (stamp_of e.body))
    (λ _. omega arith)
    (λ _. omega (arith, put_new e xs))

put_old : (e o : Entry) (t : List Entry) → find (stamp_of e.body) t ≡ some o → length (put e t) ≤ length t
unfolding put find
put_old e o [] h = absurd (none_some refl h)
put_old e o (x ∷ xs) h = go (decide_t (eqb (stamp_of x.body) (stamp_of e.body))) (put_old e o xs)
  where
    go : T (eqb (stamp_of x.body) (stamp_of e.body)) ⊎ T (not (eqb (stamp_of x.body) (stamp_of e.body)))
        → (find (stamp_of e.body) xs ≡ some o → length (put e xs) ≤ length xs) → length (put e (x ∷ xs)) ≤ length (x ∷ xs)
    go (inl k) r = rw (pick_true (eqb (stamp_of x.body) (stamp_of e.body)) (e ∷ xs) (x ∷ put e xs) k) (omega arith)
    go (inr k) r =
        let q : find (stamp_of e.body) xs ≡ some o = sym (pick_false (eqb (stamp_of x.body) (stamp_of e.body)) (some x) _ k) ∙ h in
        rw (pick_false (eqb (stamp_of x.body) (stamp_of e.body)) (e ∷ xs) (x ∷ put e xs) k) (omega (arith, r q))

fits_table : (told : Told) (x : Box) (b : Body) (c : Change) → FitsIn told x b c → length x.table ≤ told.capacity → length (table_after x.table c) ≤ told.capacity
unfolding FitsBy table_after
fits_table told x b nothing h n = n
fits_table told x b (raises k s) h n = n
fits_table told x b (raises_low l) h n = omega (arith, above_fewer l x.table)
fits_table told x b (puts e) h n = go (find (stamp_of e.body) x.table) refl
  where
    go : (o : Option Entry) → find (stamp_of e.body) x.table ≡ o → length (put e x.table) ≤ told.capacity
    go none q = omega (arith, h.1 (rw h.0 at q), put_new e x.table)
    go (some o) q = omega (arith, put_old e o x.table q)

-- "full": whatever arrives, a table within its capacity stays within it
pub never_overfull : (told : Told) (x : Box) (way : EntryPoint) (m : List ℕ) → length x.table ≤ told.capacity → length (after way told x m).table ≤ told.capacity
unfolding after box_after Fit
never_overfull told x way m n = fits_table told x (tx_part m) (act way told x m).change (act_fits told x m way) n

-- "never dropped": whatever arrives, a stamp that is held, and is above the low mark that then stands, stays held
pub never_dropped : (told : Told) (x : Box) (way : EntryPoint) (m : List ℕ) (s : ℕ) (e : Entry) → find s x.table ≡ some e → (after way told x m).low < s
    → (o : Entry) × (find s (after way told x m).table ≡ some o)
unfolding after box_after table_after low_after
never_dropped told x way m s e h = go (act way told x m).change
  where
    go : (c : Change) → low_after x.low c < s → (o : Entry) × (find s (table_after x.table c) ≡ some o)
    go nothing a = (e, h)
    go (raises k n) a = (e, h)
    go (raises_low l) a = (e, find_above l s x.table a ∙ h)
    go (puts y) a = by (put_cases s y x.table)
      where
        by : ((stamp_of y.body ≡ s) × (find s (put y x.table) ≡ some y)) ⊎ (find s (put y x.table) ≡ find s x.table)
            → (o : Entry) × (find s (put y x.table) ≡ some o)
        by (inl u) = (y, u.1)
        by (inr u) = (e, u ∙ h)

-- ---- PR, LG, DC, IV and LD raise no mark, RD puts no entry
abbrev None : ℕ → Type 0
None _ = ⊥

still : (told : Told) (x : Box) (b : Body) (c : Change) → FitsBy None None told x b c → (marks : List ℕ) → marks_after marks c ≡ marks
unfolding FitsBy marks_after
still told x b nothing h marks = refl
still told x b (raises k s) h marks = absurd h
still told x b (raises_low l) h marks = absurd h
still told x b (puts e) h marks = refl

module _ (told : Told) (x : Box) (b : Body) (marks : List ℕ) where
  pub pr_still : marks_after marks (pr_rule told x b).change ≡ marks
  unfolding Fit
  pr_still = still told x b _ (pr_fits None None told x b) marks

  pub lg_still : (l : Vl) → marks_after marks (lg_rule told x b l).change ≡ marks
  unfolding Fit
  lg_still l = still told x b _ (lg_fits None None told x b l) marks

  pub dc_still : (l : Vl) → marks_after marks (dc_rule told x b l).change ≡ marks
  unfolding Fit
  dc_still l = still told x b _ (dc_fits None None told x b l) marks

  pub iv_still : (l : Views) → marks_after marks (iv_rule told x b l).change ≡ marks
  unfolding Fit
  iv_still l = still told x b _ (iv_fits None None told x b l) marks

  pub ld_still : (l : Views) → marks_after marks (ld_rule told x b l).change ≡ marks
  unfolding Fit
  ld_still l = still told x b _ (ld_fits None None told x b l) marks

pub rd_still : (told : Told) (x : Box) (k s : ℕ) (t : List Entry) → table_after t (rd_rule told x k s).change ≡ t
unfolding rd_rule look_act table_after
rd_still told x k s t = guarded_elim P _ _ (λ _. guarded_elim P _ _ (λ _. refl) (λ _. refl)) (λ _. refl)
  where
    P : Act → Type 0
    P a = table_after t a.change ≡ t
