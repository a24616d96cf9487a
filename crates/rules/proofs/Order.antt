-- The claims of specs/Order.
use Prim.Native.Nat.{ℕ, suc, ◌+◌}
use mathlib.Core.Bool.{Bool, true, false, not}
use mathlib.Core.Path.{◌≡◌, refl, sym, ◌∙◌, ap}
use mathlib.Core.Logic.{◌⊎◌, inl, inr}
use mathlib.Core.Option.{Option, some, none}
use mathlib.Core.List.{List}
use native.Mathlib.Omega.{arith}
use lib.Dec.{T, leb, leb→le, le→leb, not_T}
use lib.ListN.{length}
use Rattle.std.specs.Prelude.{Ok, Err}
use Rattle.terms.specs.Checks.{Check, passed, or_else}
use Rattle.terms.specs.Choice.{pick}
use Rattle.terms.specs.declared.Refusal.{Refusal}
use Rattle.terms.specs.declared.Refusal.TheVariants.{Full, TooFew}
use Rattle.records.specs.declared.Mark.TheVariants.{DC}
use Rattle.records.specs.Cutting.{tx_part}
use Rattle.records.specs.Messages.{due_refusal, list_behind}
use Rattle.records.specs.Vl.{Vl}
use Rattle.rules.specs.Answers.{Answer, Decision, Done, Refused, Settled, Version, abort, commit, settled, unsettled}
use Rattle.rules.specs.Bodies.{Body, same_body, stamp_of}
use Rattle.rules.specs.Lists.{decision_of, for_proof, kind_of, lacking, meets}
use Rattle.rules.specs.Table.{Box, Entry, Told, find, put}
use Rattle.rules.specs.Calls.{Act, Change, dc_by_entry, dc_other, dc_rule, dc_same, decide_act, guarded, is_full, needing, nothing, old_wrong, puts, raises, raises_low}
use Rattle.rules.specs.Calls.{refuse, room_for, same_decision}
use Rattle.rules.specs.Act.{act, after, box_after, due_act, folds_after, low_after, marks_after, rule, table_after, told_wrong, unless_old}
use Rattle.rules.specs.Order.{Call, DecisionsCommute, IsDC, NeedsNew, OneRefused, Reordered, Room, next, of_rules, reply, same, stamp_in}
use Rattle.rules.proofs.Laws.{decide_t, find_put_other, pick_elim, pick_false, pick_true}
use Rattle.rules.proofs.Deeds.{act_marked, guarded_elim}
use Rattle.rules.proofs.Room.{Fit, FitsBy, FitsIn, act_fits}
use Rattle.rules.proofs.Reordered.{put_held, put_new, put_put}
use Rattle.rules.proofs.Twins.{Twins, replies_twins}

abbrev act_of : Box → Call → Act
act_of x c = act c.entry c.told x c.message

-- ---- a DC puts nothing unless it is taken, and raises no mark, nor the low mark
unfoldable Takes : Change → Answer → Type 0
Takes nothing a = Unit {0}
Takes (puts e) a = a ≡ Done
Takes (raises k s) a = ⊥
Takes (raises_low l) a = ⊥

unfoldable TakesIn : Act → Type 0
TakesIn a = Takes a.change a.answer

refuse_takes : (r : Refusal) → TakesIn (refuse r)
unfolding TakesIn Takes
refuse_takes r = tt

decide_takes : (b : Body) (d : Decision) (o : Option Entry) → TakesIn (decide_act b d o)
unfolding TakesIn Takes decide_act
decide_takes b d o = refl

same_takes : (b : Body) (d : Decision) (e : Entry) (s : Settled) → TakesIn (dc_same b d e s)
unfolding dc_same TakesIn Takes
same_takes b d e unsettled = decide_takes b d (some e)
same_takes b d e (settled h) = pick_elim TakesIn (same_decision h d) (λ _. tt) (λ _. tt)

other_takes : (b : Body) (d : Decision) (s : Settled) → TakesIn (dc_other b d s)
unfolding dc_other
other_takes b abort s = refuse_takes _
other_takes b commit (settled commit) = refuse_takes _
other_takes b commit (settled abort) = decide_takes b commit none
other_takes b commit unsettled = decide_takes b commit none

entry_takes : (told : Told) (x : Box) (b : Body) (d : Decision) (o : Option Entry) → TakesIn (dc_by_entry told x b d o)
unfolding dc_by_entry room_for
entry_takes told x b d none = pick_elim TakesIn (is_full told x) (λ _. refuse_takes _) (λ _. decide_takes b d none)
entry_takes told x b d (some e) =
    pick_elim TakesIn (same_body e.body b) (λ _. same_takes b d e e.decided) (λ _. other_takes b d e.decided)

dc_takes : (told : Told) (x : Box) (b : Body) (l : Vl) → TakesIn (dc_rule told x b l)
unfolding dc_rule needing
dc_takes told x b l = pick_elim TakesIn (meets _ l) (λ _. entry_takes told x b _ _) (λ _. refuse_takes _)

-- a DC call, behind its checks: those of the message, then 18
abbrev checked : Box → Call → Check
checked x c = or_else (due_refusal DC c.told.f c.message) (old_wrong x.low (stamp_in c))

twice : (n m : Check) (a : Act) → guarded n (guarded m a) ≡ guarded (or_else n m) a
unfolding guarded or_else
twice (Ok _) m a = refl
twice (Err r) m a = refl

dc_act : (x : Box) (c : Call) → IsDC c
    → act_of x c ≡ guarded (told_wrong c.told) (guarded (checked x c) (dc_rule c.told x (tx_part c.message) (list_behind c.message)))
unfolding act due_act rule unless_old
dc_act x c d = ap (guarded (told_wrong c.told)) (act_marked c.told x c.entry c.message DC d ∙ twice _ _ _)

act_takes : (x : Box) (c : Call) → IsDC c → TakesIn (act_of x c)
act_takes x c d =
    rw (dc_act x c d)
    (guarded_elim TakesIn _ _ (λ _. guarded_elim TakesIn _ _ (λ _. dc_takes c.told x _ _) refuse_takes) refuse_takes)

act_puts : (x : Box) (c : Call) → FitsIn c.told x (tx_part c.message) (act_of x c).change
unfolding Fit
act_puts x c = act_fits c.told x c.message c.entry

-- ---- what it leaves of the marks
still : (c : Change) (a : Answer) → Takes c a → (marks : List ℕ) → marks_after marks c ≡ marks
unfolding Takes marks_after
still nothing a h marks = refl
still (puts e) a h marks = refl
still (raises k s) a h marks = absurd h
still (raises_low l) a h marks = absurd h

act_still : (x : Box) (c : Call) → IsDC c → (marks : List ℕ) → marks_after marks (act_of x c).change ≡ marks
unfolding TakesIn
act_still x c d marks = still _ _ (act_takes x c d) marks

-- nor of the low mark and what is folded
low_by : (c : Change) (a : Answer) → Takes c a → (low : ℕ) → low_after low c ≡ low
unfolding Takes low_after
low_by nothing a h low = refl
low_by (puts e) a h low = refl
low_by (raises k s) a h low = refl
low_by (raises_low l) a h low = absurd h

low_still : (x : Box) (c : Call) → IsDC c → (next x c).low ≡ x.low
unfolding TakesIn next after box_after
low_still x c d = low_by _ _ (act_takes x c d) x.low

folds_by : (c : Change) (a : Answer) → Takes c a → (t : List Entry) (folds : List Version) → folds_after t folds c ≡ folds
unfolding Takes folds_after
folds_by nothing a h t folds = refl
folds_by (puts e) a h t folds = refl
folds_by (raises k s) a h t folds = refl
folds_by (raises_low l) a h t folds = absurd h

folds_still : (x : Box) (c : Call) → IsDC c → (next x c).folds ≡ x.folds
unfolding TakesIn next after box_after
folds_still x c d = folds_by _ _ (act_takes x c d) x.table x.folds

-- ---- past the checks
not_done : {A : Type 0} {r : Refusal} → Refused r ≡ Done → A
not_done h = let z : ◌≡◌ {A = ℕ} 0 1 = cc in absurd (omega arith)

unguarded : (n m : Check) (a : Act) → n ≡ passed → m ≡ passed → guarded n (guarded m a) ≡ a
unfolding guarded
unguarded n m a p q = rw (p, q)

-- what stands behind checks matters only where they pass
behind_checks : (n m : Check) (need : ℕ) (l : Vl) (a b : Act) → (n ≡ passed → m ≡ passed → T (meets need l) → a ≡ b)
    → guarded n (guarded m (needing need l a)) ≡ guarded n (guarded m (needing need l b))
unfolding guarded needing
behind_checks (Ok _) (Ok _) need l a b h = go (meets need l) (λ k. h refl refl k)
  where
    go : (t : Bool) → (T t → a ≡ b) → pick t a (refuse (TooFew (lacking need l))) ≡ pick t b (refuse (TooFew (lacking need l)))
    go true k = k tt
    go false k = refl
behind_checks (Ok _) (Err r) need l a b h = refl
behind_checks (Err r) m need l a b h = refl

-- and what is taken has passed them
have_passed : (n m : Check) (need : ℕ) (l : Vl) (a : Act) → (guarded n (guarded m (needing need l a))).answer ≡ Done → (n ≡ passed) × (m ≡ passed) × T (meets need l)
unfolding guarded needing
have_passed (Ok _) (Ok _) need l a h = (refl, refl, go (meets need l) h)
  where
    go : (t : Bool) → (pick t a (refuse (TooFew (lacking need l)))).answer ≡ Done → T t
    go true k = tt
    go false k = not_done k
have_passed (Ok _) (Err r) need l a h = not_done h
have_passed (Err r) m need l a h = not_done h

roomy : (told : Told) (x : Box) (a : Act) → (room_for told x a).answer ≡ Done → T (not (is_full told x))
unfolding room_for
roomy told x a h = go (is_full told x) h
  where
    go : (t : Bool) → (pick t (refuse Full) a).answer ≡ Done → T (not t)
    go true k = not_done k
    go false k = tt

is_true : (b : Bool) → T b → b ≡ true
is_true true h = refl
is_true false h = absurd h

is_false : (b : Bool) → T (not b) → b ≡ false
is_false true h = absurd h
is_false false h = refl

-- what it says, and what its list has to meet
abbrev said_in : Call → Decision
said_in c = decision_of (list_behind c.message).decision

abbrev Enough : Call → Type 0
Enough c = T (meets (for_proof c.told.f (kind_of (list_behind c.message).kind) (said_in c)) (list_behind c.message))

-- ---- a DC call for a stamp that is not held
module _ (x : Box) (c : Call) (d : IsDC c) (new : find (stamp_in c) x.table ≡ none) where
  abbrev fresh : Act
  fresh = decide_act (tx_part c.message) (said_in c) none

  -- taken, where its checks pass and there is room
  is_taken : told_wrong c.told ≡ passed → checked x c ≡ passed → Enough c → T (not (is_full c.told x))
      → act_of x c ≡ fresh
  unfolding dc_rule needing dc_by_entry room_for
  is_taken n m k r =
      dc_act x c d ∙ unguarded _ _ _ n m ∙ pick_true (meets _ (list_behind c.message)) _ _ k
      ∙ (rw new (pick_false (is_full c.told x) (refuse Full) fresh r))

  -- refused with 13, where they pass and there is none
  is_refused : told_wrong c.told ≡ passed → checked x c ≡ passed → Enough c → T (is_full c.told x)
      → act_of x c ≡ refuse Full
  unfolding dc_rule needing dc_by_entry room_for
  is_refused n m k r =
      dc_act x c d ∙ unguarded _ _ _ n m ∙ pick_true (meets _ (list_behind c.message)) _ _ k
      ∙ (rw new (pick_true (is_full c.told x) (refuse Full) fresh r))

  checks_pass : reply x c ≡ Done → (told_wrong c.told ≡ passed) × (checked x c ≡ passed) × Enough c
  unfolding reply dc_rule
  checks_pass h = have_passed _ _ _ (list_behind c.message) _ (sym (ap (λ (a : Act). a.answer) (dc_act x c d)) ∙ h)

  has_room : reply x c ≡ Done → T (not (is_full c.told x))
  unfolding reply
  has_room h = go (decide_t (is_full c.told x))
    where
      go : T (is_full c.told x) ⊎ T (not (is_full c.told x)) → T (not (is_full c.told x))
      go (inl r) =
          let k = checks_pass h in
          not_done (sym (ap (λ (a : Act). a.answer) (is_refused k.0 k.1 k.2 r)) ∙ h)
      go (inr r) = r

-- ---- one DC call, and another with a different stamp
module _ (x : Box) (p q : Call) (dp : IsDC p) (dq : IsDC q) (apart : stamp_in p ≡ stamp_in q → ⊥) where
  abbrev y : Box
  y = next x p

  -- what p puts is not seen under q's stamp
  find_by : (c : Change) (a : Answer) → FitsIn p.told x (tx_part p.message) c → Takes c a
      → find (stamp_in q) (table_after x.table c) ≡ find (stamp_in q) x.table
  unfolding FitsBy Takes table_after
  find_by nothing a h k = refl
  find_by (raises n s) a h k = refl
  find_by (raises_low l) a h k = absurd k
  find_by (puts e) a h k = find_put_other (stamp_in q) e x.table (λ r. apart (rw h.0 at r))

  find_y : find (stamp_in q) y.table ≡ find (stamp_in q) x.table
  unfolding next after box_after TakesIn
  find_y = find_by (act_of x p).change (act_of x p).answer (act_puts x p) (act_takes x p dp)

  -- nor is it older for it
  checked_y : checked y q ≡ checked x q
  unfolding next after box_after
  checked_y = ap (λ (l : ℕ). or_else (due_refusal DC q.told.f q.message) (old_wrong l (stamp_in q))) (low_still x p dp)

  -- p adds no entry, or needs a new one and adds that
  grows_by : (c : Change) (a : Answer) → FitsIn p.told x (tx_part p.message) c → Takes c a
      → (length (table_after x.table c) ≡ length x.table)
      ⊎ ((find (stamp_in p) x.table ≡ none) × (a ≡ Done) × (length (table_after x.table c) ≡ suc (length x.table)))
  unfolding FitsBy Takes table_after
  grows_by nothing a h k = inl refl
  grows_by (raises n s) a h k = inl refl
  grows_by (raises_low l) a h k = absurd k
  grows_by (puts e) a h k = go (find (stamp_of e.body) x.table) refl
    where
      go : (o : Option Entry) → find (stamp_of e.body) x.table ≡ o
          → (length (put e x.table) ≡ length x.table)
          ⊎ ((find (stamp_in p) x.table ≡ none) × (a ≡ Done) × (length (put e x.table) ≡ suc (length x.table)))
      go none r = inr (rw h.0 at r, k, put_new e x.table r)
      go (some o) r = inl (put_held e x.table o r)

  pub grows : (length y.table ≡ length x.table) ⊎ (NeedsNew of_rules x p × (length y.table ≡ suc (length x.table)))
  unfolding next after box_after reply TakesIn
  grows = go (grows_by (act_of x p).change (act_of x p).answer (act_puts x p) (act_takes x p dp))
    where
      go : (length (table_after x.table (act_of x p).change) ≡ length x.table)
          ⊎ ((find (stamp_in p) x.table ≡ none) × ((act_of x p).answer ≡ Done) × (length (table_after x.table (act_of x p).change) ≡ suc (length x.table)))
          → (length (table_after x.table (act_of x p).change) ≡ length x.table)
          ⊎ (NeedsNew of_rules x p × (length (table_after x.table (act_of x p).change) ≡ suc (length x.table)))
      go (inl e) = inl e
      go (inr h) = inr (record { new = h.0; taken = h.1 }, h.2)

  -- so q finds the room that it found before
  full_after : Room x p q → (T (not (is_full q.told x)) → NeedsNew of_rules x q) → is_full q.told y ≡ is_full q.told x
  unfolding is_full
  full_after room needs = go grows (decide_t (leb q.told.capacity (length x.table)))
    where
      go : (length y.table ≡ length x.table) ⊎ (NeedsNew of_rules x p × (length y.table ≡ suc (length x.table)))
          → T (leb q.told.capacity (length x.table)) ⊎ T (not (leb q.told.capacity (length x.table)))
          → leb q.told.capacity (length y.table) ≡ leb q.told.capacity (length x.table)
      go (inl e) k = rw e
      go (inr h) (inl k) =
          is_true _ (le→leb q.told.capacity (length y.table) (omega (arith, h.1, leb→le q.told.capacity (length x.table) k)))
          ∙ sym (is_true _ k)
      go (inr h) (inr k) =
          let r = (room h.0 (needs k)).1 in
          is_false _ (not_T (leb q.told.capacity (length y.table)) (λ z. omega (arith, h.1, r, leb→le q.told.capacity (length y.table) z)))
          ∙ sym (is_false _ k)

  -- and does what it did before
  pub act_after : Room x p q → act_of y q ≡ act_of x q
  unfolding dc_rule dc_by_entry room_for reply decide_act
  act_after room =
      dc_act y q dq
      ∙ ap (λ (n : Check). guarded (told_wrong q.told) (guarded n (dc_rule q.told y (tx_part q.message) (list_behind q.message)))) checked_y
      ∙ behind_checks _ _ _ _ _ _ (λ n m k. rw find_y (by n m k (find (stamp_in q) x.table) refl))
      ∙ sym (dc_act x q dq)
    where
      by : told_wrong q.told ≡ passed → checked x q ≡ passed → Enough q → (o : Option Entry) → find (stamp_in q) x.table ≡ o
          → dc_by_entry q.told y (tx_part q.message) (said_in q) o ≡ dc_by_entry q.told x (tx_part q.message) (said_in q) o
      by n m k (some e) r = refl
      by n m k none r =
          ap (λ (t : Bool). pick t (refuse Full) (decide_act (tx_part q.message) (said_in q) none))
          (full_after room (λ z. record { new = r; taken = ap (λ (a : Act). a.answer) (is_taken x q dq r n m k z) }))

  -- where p needs a new entry, there is one entry more
  pub longer : NeedsNew of_rules x p → length y.table ≡ suc (length x.table)
  unfolding next after box_after table_after decide_act
  longer h =
      let k = checks_pass x p dp h.new h.taken in
      ap (λ (a : Act). length (table_after x.table a.change)) (is_taken x p dp h.new k.0 k.1 k.2 (has_room x p dp h.new h.taken))
      ∙ put_new _ x.table h.new

  pub second_refused : NeedsNew of_rules x p → NeedsNew of_rules x q → q.told.capacity ≡ length x.table + 1 → reply y q ≡ Refused Full
  unfolding reply is_full
  second_refused h g r =
      let k = checks_pass x q dq g.new g.taken in
      ap (λ (a : Act). a.answer)
      (is_refused y q dq (find_y ∙ g.new) k.0 (checked_y ∙ k.1) k.2 (le→leb q.told.capacity (length y.table) (omega (arith, r, longer h))))

-- ---- both, in either order
either_way : (x : Box) (p q : Call) → IsDC p → IsDC q → (stamp_in p ≡ stamp_in q → ⊥)
    → Reordered (table_after (table_after x.table (act_of x p).change) (act_of x q).change)
    (table_after (table_after x.table (act_of x q).change) (act_of x p).change)
unfolding table_after FitsBy Takes TakesIn
either_way x p q dp dq apart =
    go (act_of x p).change (act_of x q).change (act_of x p).answer (act_of x q).answer (act_puts x p) (act_puts x q) (act_takes x p dp) (act_takes x q dq)
  where
    go : (c d : Change) (a o : Answer) → FitsIn p.told x (tx_part p.message) c → FitsIn q.told x (tx_part q.message) d → Takes c a → Takes d o
        → Reordered (table_after (table_after x.table c) d) (table_after (table_after x.table d) c)
    go nothing d a o h k t u = same
    go (raises n s) d a o h k t u = absurd t
    go (raises_low l) d a o h k t u = absurd t
    go (puts e) nothing a o h k t u = same
    go (puts e) (raises n s) a o h k t u = absurd u
    go (puts e) (raises_low l) a o h k t u = absurd u
    go (puts e) (puts y) a o h k t u = put_put y e x.table (λ r. apart (rw (← h.0, ← k.0) (sym r)))

turned : (x : Box) (p q : Call) → Room x p q → Room x q p
turned x p q room h g = let r = room g h in (r.1, r.0)

pub twins : (x : Box) (p q : Call) → IsDC p → IsDC q → (stamp_in p ≡ stamp_in q → ⊥) → Room x p q → Twins (next (next x p) q) (next (next x q) p)
unfolding next after box_after
twins x p q dp dq apart room =
    let a = act_after x p q dp dq apart room in
    let b = act_after x q p dq dp (λ e. apart (sym e)) (turned x p q room) in
    record {
      table = rw (a, b) (either_way x p q dp dq apart);
      marks = act_still _ q dq _ ∙ act_still x p dp _ ∙ sym (act_still x q dq _) ∙ sym (act_still _ p dp _);
      low = low_still _ q dq ∙ low_still x p dp ∙ sym (low_still x q dq) ∙ sym (low_still _ p dp);
      folds = folds_still _ q dq ∙ folds_still x p dp ∙ sym (folds_still x q dq) ∙ sym (folds_still _ p dp);
    }

pub decisions_commute : DecisionsCommute
unfolding reply
decisions_commute x p q dp dq apart room = record {
  one = ap (λ (a : Act). a.answer) (act_after x q p dq dp (λ e. apart (sym e)) (turned x p q room));
  other = ap (λ (a : Act). a.answer) (act_after x p q dp dq apart room);
  later = replies_twins _ _ (twins x p q dp dq apart room);
  tables = (twins x p q dp dq apart room).table;
  marks = (twins x p q dp dq apart room).marks;
  low = (twins x p q dp dq apart room).low;
  folds = (twins x p q dp dq apart room).folds;
}

pub one_refused : OneRefused
one_refused x p q dp dq apart h g r = second_refused x p q dp dq apart h g r
