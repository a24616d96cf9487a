-- Boxes that no call tells apart: reordered tables, equal read marks, low marks and folds.
use Prim.Native.Nat.{ℕ, suc}
use mathlib.Core.Bool.{Bool, true, false, not, ◌&&◌, ◌||◌}
use mathlib.Core.Path.{◌≡◌, refl, ◌∙◌, ap}
use mathlib.Core.Option.{Option, some, none}
use mathlib.Core.List.{List, [], ◌∷◌}
use lib.Dec.{eqb, ltb, leb}
use lib.ListN.{get_or}
use Rattle.terms.specs.Checks.{Check, ahead, if_less, or_else, undecided, when}
use Rattle.terms.specs.Choice.{pick, any, tab}
use Rattle.terms.specs.declared.Refusal.TheVariants.{Full}
use Rattle.records.specs.declared.Mark.{Mark}
use Rattle.records.specs.declared.Mark.TheVariants.{PR, LG, DC, RD, IV, LD}
use Rattle.std.specs.Prelude.{Result, Ok, Err}
use Rattle.terms.specs.declared.Refusal.{Refusal}
use Rattle.records.specs.declared.Read.{Read}
use Rattle.records.specs.declared.ViewMark.TheVariants.{VS, EL}
use Rattle.records.specs.Cutting.{tx_part}
use Rattle.records.specs.Messages.{list_behind, rd_key, rd_stamp, views_behind}
use Rattle.records.specs.Tx.{read_key, read_version, write_key}
use Rattle.records.specs.Vl.{Vl}
use Rattle.records.specs.Views.{Views}
use Rattle.rules.specs.Answers.{Decision, Dependency, Raised, Version, apart_from_number, Settled, Vote, settled, unsettled, unvoted, vote_abort, vote_commit, waiting}
use Rattle.rules.specs.Bodies.{Body, reads_of, same_body, stamp_of, writes_of}
use Rattle.rules.specs.Lists.{decision_of}
use Rattle.rules.specs.Table.{Box, Entry, Told, find, fold_at, folded_at, limit, live}
use Rattle.rules.specs.Tests.{fine, first_vote, fold_above, is_bad, is_folded, is_low, is_pending, live_writer, names, status, status_folded, status_of}
use Rattle.rules.specs.Tests.{test2, test3, test4, test5, undercut, waiting_rule}
use Rattle.rules.specs.Calls.{Act, Change, cast_act, dc_by_entry, dc_rule, first_log, guarded, is_committed, is_full, is_undecided, lg_by_entry, lg_rule, look_act}
use Rattle.rules.specs.Calls.{nothing, old_wrong, pr_by_decision, pr_by_entry, pr_by_vote, pr_rule, puts, raises, raises_low, rd_answer, rd_rule, refuse}
use Rattle.rules.specs.Calls.{room_for}
use Rattle.rules.specs.Low.{fold_up_to, folds_up_to, low_rule, low_wrong, newer_fold, open_up_to}
use Rattle.rules.specs.Fallback.{iv_by_entry, iv_rule, ld_by_entry, ld_rule, led_act, take_act}
use Rattle.rules.specs.Act.{EntryPoint, act, act_by, after, box_after, due, due_act, folds_after, mark_by, marked_act, raising, receive, rule, table_after}
use Rattle.rules.specs.Act.{told_wrong, unless_old}
use Rattle.rules.specs.Order.{Call, Reordered, next, of_rules, replies, reply}
use Rattle.rules.proofs.Reordered.{above_same, any_same, find_same, length_same, newest_same, put_same}

pub record Twins (x y : Box) : Type 0 where
  pub table : Reordered x.table y.table
  pub marks : x.marks ≡ y.marks
  pub low : x.low ≡ y.low
  pub folds : x.folds ≡ y.folds

-- an act apart from A6's number: what is answered without it, and what is changed
unfoldable pub apart_in : Act → Act
apart_in a = record { answer = apart_from_number a.answer; change = a.change }

cast_apart : (b : Body) (o : Option Entry) (v : Vote) (n m : ℕ) → apart_in (cast_act b o v n) ≡ apart_in (cast_act b o v m)
unfolding apart_in apart_from_number cast_act
cast_apart b o v n m = refl

pick_apart : (t : Bool) (a c z : Act) → apart_in a ≡ apart_in c → apart_in (pick t a z) ≡ apart_in (pick t c z)
pick_apart true a c z h = h
pick_apart false a c z h = refl

guarded_apart : (k : Check) (a c : Act) → apart_in a ≡ apart_in c → apart_in (guarded k a) ≡ apart_in (guarded k c)
unfolding guarded
guarded_apart (Ok _) a c h = h
guarded_apart (Err r) a c h = refl

room_apart : (told : Told) (x : Box) (a c : Act) → apart_in a ≡ apart_in c → apart_in (room_for told x a) ≡ apart_in (room_for told x c)
unfolding room_for
room_apart told x a c h = go (is_full told x)
  where
    go : (t : Bool) → apart_in (pick t (refuse Full) a) ≡ apart_in (pick t (refuse Full) c)
    go true = refl
    go false = h

module _ {x y : Box} (w : Twins x y) where
  -- ---- the tests
  low_twins : (r : Read) → is_low x r ≡ is_low y r
  unfolding is_low
  low_twins r = ap (λ (l : ℕ). leb (read_version r) l) w.low

  fold_twins : (k : ℕ) → folded_at x k ≡ folded_at y k
  fold_twins k = ap (λ (g : List Version). (fold_at g k).stamp.0) w.folds

  folded_twins : (r : Read) → is_folded x r ≡ is_folded y r
  unfolding is_folded
  folded_twins r = ap (λ (v : ℕ). eqb v (read_version r)) (fold_twins (read_key r))

  above_twins : (r : Read) → fold_above x r ≡ fold_above y r
  unfolding fold_above
  above_twins r = ap (λ (v : ℕ). ltb (read_version r) v) (fold_twins (read_key r))

  status_twins : (r : Read) → status x r ≡ status y r
  unfolding status
  status_twins r =
      λ i.
      pick (eqb (read_version r) 0) fine
      (pick (low_twins r i) (status_folded (folded_twins r i)) (status_of (read_key r) (find_same (read_version r) w.table i)))

  waiting_twins : (b : Body) → waiting_rule x b ≡ waiting_rule y b
  unfolding waiting_rule
  waiting_twins b =
      λ i.
      pick (any (λ r. is_bad (status_twins r i)) (reads_of b)) (vote_abort Dependency)
      (pick (any (λ r. is_pending (status_twins r i)) (reads_of b)) waiting vote_commit)

  names_twins : (r : Read) → names x r ≡ names y r
  unfolding names
  names_twins r = λ i. pick (low_twins r i) (folded_twins r i) (live_writer (read_key r) (find_same (read_version r) w.table i))

  test2_twins : (b : Body) → test2 x b ≡ test2 y b
  unfolding test2
  test2_twins b = λ i. any (λ r. not (eqb (read_version r) 0) && not (names_twins r i)) (reads_of b)

  test3_twins : (b : Body) → test3 x b ≡ test3 y b
  unfolding test3
  test3_twins b = λ i. any (λ r. above_twins r i) (reads_of b) || any_same (λ e. live e && undercut b e.body) w.table i

  test4_twins : (b : Body) → test4 x b ≡ test4 y b
  unfolding test4
  test4_twins b = any_same _ w.table

  test5_twins : (b : Body) → test5 x b ≡ test5 y b
  unfolding test5
  test5_twins b = ap (λ (ms : List ℕ). any (λ v. ltb (stamp_of b) (get_or ms (write_key v) 0)) (writes_of b)) w.marks

  first_twins : (told : Told) (b : Body) → first_vote told x b ≡ first_vote told y b
  unfolding first_vote
  first_twins told b = rw (test2_twins b, test3_twins b, test4_twins b, test5_twins b, waiting_twins b)

  room_twins : (told : Told) (a : Act) → room_for told x a ≡ room_for told y a
  unfolding room_for is_full
  room_twins told a = ap (λ (n : ℕ). pick (leb told.capacity n) (refuse Full) a) (length_same w.table)

  -- ---- PR, whose number may differ
  vote_twins : (told : Told) (b : Body) (e : Entry) (v : Vote) → apart_in (pr_by_vote told x b e v) ≡ apart_in (pr_by_vote told y b e v)
  unfolding pr_by_vote
  vote_twins told b e vote_commit = refl
  vote_twins told b e (vote_abort r) = refl
  vote_twins told b e waiting = rw (waiting_twins b) (cast_apart b (some e) _ _ _)
  vote_twins told b e unvoted = rw (first_twins told b) (cast_apart b (some e) _ _ _)

  decision_twins : (told : Told) (b : Body) (e : Entry) (d : Settled) → apart_in (pr_by_decision told x b e d) ≡ apart_in (pr_by_decision told y b e d)
  unfolding pr_by_decision
  decision_twins told b e (settled d) = refl
  decision_twins told b e unsettled = vote_twins told b e e.vote

  pr_by_lem : (told : Told) (b : Body) (o : Option Entry) → apart_in (pr_by_entry told x b o) ≡ apart_in (pr_by_entry told y b o)
  unfolding pr_by_entry
  pr_by_lem told b none = rw (room_twins told (cast_act b none (first_vote told x b) _), first_twins told b) (room_apart told y _ _ (cast_apart b none _ _ _))
  pr_by_lem told b (some e) = pick_apart (same_body e.body b) _ _ _ (decision_twins told b e e.decided)

  pr_twins : (told : Told) (b : Body) → apart_in (pr_rule told x b) ≡ apart_in (pr_rule told y b)
  unfolding pr_rule
  pr_twins told b = rw (find_same (stamp_of b) w.table) (pr_by_lem told b (find (stamp_of b) y.table))

  -- ---- LG, DC
  lg_by_lem : (told : Told) (b : Body) (l : Vl) (o : Option Entry) → lg_by_entry told x b l o ≡ lg_by_entry told y b l o
  unfolding lg_by_entry
  lg_by_lem told b l none = rw (room_twins told (first_log b (decision_of l.decision) none))
  lg_by_lem told b l (some e) = refl

  lg_twins : (told : Told) (b : Body) (l : Vl) → lg_rule told x b l ≡ lg_rule told y b l
  unfolding lg_rule
  lg_twins told b l = rw (find_same (stamp_of b) w.table, lg_by_lem told b l (find (stamp_of b) y.table))

  dc_by_lem : (told : Told) (b : Body) (d : Decision) (o : Option Entry) → dc_by_entry told x b d o ≡ dc_by_entry told y b d o
  unfolding dc_by_entry
  dc_by_lem told b d none = room_twins told _
  dc_by_lem told b d (some e) = refl

  dc_twins : (told : Told) (b : Body) (l : Vl) → dc_rule told x b l ≡ dc_rule told y b l
  unfolding dc_rule
  dc_twins told b l = rw (find_same (stamp_of b) w.table, dc_by_lem told b (decision_of l.decision) (find (stamp_of b) y.table))

  -- ---- IV, LD
  iv_twins : (told : Told) (b : Body) (l : Views) → iv_rule told x b l ≡ iv_rule told y b l
  unfolding iv_rule
  iv_twins told b l = ap (iv_by_entry told b l.ballots) (find_same (stamp_of b) w.table)

  ld_by_lem : (told : Told) (b : Body) (l : Views) (o : Option Entry) → ld_by_entry told x b l o ≡ ld_by_entry told y b l o
  unfolding ld_by_entry
  ld_by_lem told b l none = ap (take_act told b l none) (room_twins told (led_act b l none))
  ld_by_lem told b l (some e) = refl

  ld_twins : (told : Told) (b : Body) (l : Views) → ld_rule told x b l ≡ ld_rule told y b l
  unfolding ld_rule
  ld_twins told b l = rw (find_same (stamp_of b) w.table, ld_by_lem told b l (find (stamp_of b) y.table))

  -- ---- RD
  look_twins : (k s : ℕ) → look_act x k s ≡ look_act y k s
  unfolding look_act rd_answer
  look_twins k s =
      rw (
        newest_same (λ e. is_committed e.decided) k s w.table,
        newest_same (λ e. is_undecided e.decided && live e) k s w.table,
        ap (λ (g : List Version). fold_at g k) w.folds,
      )

  rd_twins : (told : Told) (k s : ℕ) → rd_rule told x k s ≡ rd_rule told y k s
  unfolding rd_rule
  rd_twins told k s = λ i. guarded (if_less (limit told) s ahead) (guarded (old_wrong (w.low i) s) (look_twins k s i))

  -- ---- 18, and the raising of the low mark
  old_apart : (b : Body) (a c : Act) → apart_in a ≡ apart_in c → apart_in (unless_old x b a) ≡ apart_in (unless_old y b c)
  unfolding unless_old
  old_apart b a c h = ap (λ (l : ℕ). apart_in (guarded (old_wrong l (stamp_of b)) a)) w.low ∙ guarded_apart _ a c h

  raise_twins : (l : ℕ) → low_rule x l ≡ low_rule y l
  unfolding low_rule low_wrong
  raise_twins l =
      λ i.
      guarded (or_else (old_wrong (w.low i) l) (when (any_same (open_up_to l) w.table i) undecided)) (record { answer = Raised; change = raises_low l })

  -- ---- any bytes
  rule_twins : (k : Mark) (told : Told) (m : List ℕ) → apart_in (rule k told x m) ≡ apart_in (rule k told y m)
  unfolding rule
  rule_twins PR told m = old_apart (tx_part m) _ _ (pr_twins told (tx_part m))
  rule_twins LG told m = old_apart (tx_part m) _ _ (ap apart_in (lg_twins told (tx_part m) (list_behind m)))
  rule_twins DC told m = old_apart (tx_part m) _ _ (ap apart_in (dc_twins told (tx_part m) (list_behind m)))
  rule_twins RD told m = ap apart_in (rd_twins told (rd_key m) (rd_stamp m))
  rule_twins IV told m = old_apart (tx_part m) _ _ (ap apart_in (iv_twins told (tx_part m) (views_behind VS m)))
  rule_twins LD told m = old_apart (tx_part m) _ _ (ap apart_in (ld_twins told (tx_part m) (views_behind EL m)))

  marked_twins : (k : Result Mark Refusal) (told : Told) (m : List ℕ) → apart_in (marked_act k told x m) ≡ apart_in (marked_act k told y m)
  unfolding marked_act due_act
  marked_twins (Ok k) told m = guarded_apart _ _ _ (rule_twins k told m)
  marked_twins (Err n) told m = refl

  way_twins : (way : EntryPoint) (told : Told) (m : List ℕ) → apart_in (act_by way told x m) ≡ apart_in (act_by way told y m)
  unfolding act_by
  way_twins receive told m = marked_twins (mark_by receive m) told m
  way_twins (due k) told m = marked_twins (mark_by (due k) m) told m
  way_twins (raising l) told m = ap apart_in (raise_twins l)

  pub act_twins : (way : EntryPoint) (told : Told) (m : List ℕ) → apart_in (act way told x m) ≡ apart_in (act way told y m)
  unfolding act
  act_twins way told m = guarded_apart (told_wrong told) _ _ (way_twins way told m)

  pub change_twins : (way : EntryPoint) (told : Told) (m : List ℕ) → (act way told x m).change ≡ (act way told y m).change
  unfolding apart_in
  change_twins way told m = ap (λ (a : Act). a.change) (act_twins way told m)

  pub answer_twins : (way : EntryPoint) (told : Told) (m : List ℕ)
      → apart_from_number (act way told x m).answer ≡ apart_from_number (act way told y m).answer
  unfolding apart_in
  answer_twins way told m = ap (λ (a : Act). a.answer) (act_twins way told m)

  table_by_lem : (c : Change) → Reordered (table_after x.table c) (table_after y.table c)
  unfolding table_after
  table_by_lem nothing = w.table
  table_by_lem (puts e) = put_same e w.table
  table_by_lem (raises k s) = w.table
  table_by_lem (raises_low l) = above_same l w.table

  -- what is folded of every key
  fold_by : (l : ℕ) → fold_up_to l x.table x.folds ≡ fold_up_to l y.table y.folds
  unfolding fold_up_to
  fold_by l = λ i k. newer_fold k (fold_at (w.folds i) k) (newest_same (λ e. is_committed e.decided) k (suc l) w.table i)

  folds_by : (c : Change) → folds_after x.table x.folds c ≡ folds_after y.table y.folds c
  unfolding folds_after folds_up_to
  folds_by nothing = w.folds
  folds_by (puts e) = w.folds
  folds_by (raises k s) = w.folds
  folds_by (raises_low l) = ap (λ (g : ℕ → Version). tab g 0 512) (fold_by l)

  pub after_twins : (way : EntryPoint) (told : Told) (m : List ℕ) → Twins (after way told x m) (after way told y m)
  unfolding after box_after
  after_twins way told m = record {
    table = rw (← change_twins way told m) (table_by_lem (act way told x m).change);
    marks = rw (change_twins way told m, w.marks);
    low = rw (change_twins way told m, w.low);
    folds = rw (← change_twins way told m) (folds_by (act way told x m).change);
  }

pub replies_twins : (x y : Box) → Twins x y → (cs : List Call) → replies of_rules x cs ≡ replies of_rules y cs
unfolding replies reply next
replies_twins x y w [] = refl
replies_twins x y w (c ∷ cs) =
    λ i.
    answer_twins w c.entry c.told c.message i
    ∷ replies_twins (after c.entry c.told x c.message) (after c.entry c.told y c.message) (after_twins w c.entry c.told c.message) cs i
