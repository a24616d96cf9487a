-- The claims of specs/Order: the check for 16 sees no order, and behind it the calls are the rules'.
use Prim.Native.Nat.{ℕ, suc, ◌+◌, ◌*◌, ◌≤◌, ◌<◌}
use native.Mathlib.Omega.{arith}
use mathlib.Core.Bool.{Bool, true, false}
use mathlib.Core.Path.{◌≡◌, refl, ap, sym, ◌∙◌}
use mathlib.Core.Logic.{◌⊎◌, inl, inr}
use mathlib.Core.List.{List, [], ◌∷◌}
use borrow.Author.Tests.{lt-ltb, le-ltb, ltb-false, ltb-true}
use lib.Dec.{ltb}
use lib.ListN.{length, drop, length-set, length-append, length-take, length-drop}
use Rattle.terms.specs.declared.Refusal.{Refusal}
use Rattle.std.specs.Prelude.{Ok, Err}
use Rattle.terms.specs.Choice.{pick, tab, any}
use Rattle.terms.specs.Checks.{passed, Check, or_else, when, if_less, table}
use Rattle.terms.specs.declared.Refusal.TheVariants.{Full}
use Rattle.terms.proofs.Checks.{less_no, pass, rest_none, when_none, when_no}
use Rattle.records.specs.Cutting.{tx_part}
use Rattle.rules.specs.declared.Answer.TheVariants.{Done, Refused}
use Rattle.rules.specs.declared.Told.{Told}
use Rattle.rules.specs.Bodies.{stamp_of}
use Rattle.rules.specs.Table.{Box}
use Rattle.rules.specs.Calls.{Act, Change, nothing, puts, raises, raises_low}
use Rattle.rules.specs.Act.{act, told_wrong}
use Rattle.rules.specs.Answers.{apart_from_number}
use Rattle.rules.specs.Order.{Call, IsDC, NeedsNew, Room, next, of_rules, replies, reply, same, stamp_in}
use Rattle.rules.proofs.Room.{FitsBy, FitsIn, Fit, act_fits, never_overfull}
use Rattle.rules.proofs.Reordered.{length_same}
use Rattle.rules.proofs.Twins.{Twins, after_twins, answer_twins}
use Rattle.rules.proofs.Order.{act_after, grows, longer, one_refused, twins}
use Rattle.table.specs.Table.{count_of, entries_of, head_len, new_row, place, row_at, row_bad, row_len, state_in, stored, table_len, table_wrong}
use Rattle.table.specs.declared.State.{State}
use Rattle.table.proofs.Checked.{table_count, table_room}
use Rattle.table.proofs.Looking.{entries_count}
use Rattle.low.proofs.Raised.{raised_long}
use Rattle.steps.proofs.Stored.{below}
use Rattle.engine.specs.Outcome.{Kept, box_in, called, lent_wrong, table_by}
use Rattle.engine.specs.Safety.{leaves}
use Rattle.engine.specs.Order.{CallsCommute, OneCallRefused, OneCapacity, RoomBy, next_by, of_calls, reply_by}
use Rattle.engine.proofs.Lent.{few, taken}
use Rattle.engine.proofs.Raised.{body_small}
use Rattle.engine.proofs.Steps.{Bodied}
use Rattle.engine.proofs.Bridge.{act_bodied, bridge, called_act}
use Rattle.engine.proofs.Safety.{all_left, is_refused}

-- ---- what is stored leaves the table as long as it was
stored_long : (t : List ℕ) (i : ℕ) (b : List ℕ) (x : State) → head_len + i * row_len + row_len ≤ length t → length b ≤ 172 → length (stored t i b x) ≡ length t
unfolding stored new_row
stored_long t i b x room small = simp (length-set, length-append, length-take, length-drop) (omega arith)

long_by : (told : Told) (x : Kept) (m : List ℕ) → table_wrong told.capacity x.table ≡ passed → (c : Change) → FitsIn told (box_in x) (tx_part m) c
    → Bodied m c → length (table_by x.table c) ≡ length x.table
unfolding table_by FitsBy Bodied box_in entries_of
long_by told x m fine nothing h d = refl
long_by told x m fine (raises k s) h d = refl
long_by told x m fine (raises_low l) h d = raised_long told.capacity l x.table fine
long_by told x m fine (puts e) h d =
    let f : place (stamp_of e.body) (entries_of x.table) < told.capacity =
    rw h.0
    (below (drop head_len x.table) (count_of x.table) (stamp_of (tx_part m)) told.capacity (table_count told.capacity x.table fine) h.1) in
    let r = table_room told.capacity x.table fine in
    stored_long x.table _ e.body (state_in e) (omega arith) (rw h.0 (body_small m d.1))

left_long : (x : Kept) (c : Call) → table_wrong c.told.capacity x.table ≡ passed → length (next_by x c).table ≡ length x.table
unfolding next_by leaves Fit
left_long x c fine =
    rw (called_act c.entry c.told x c.message fine)
    (long_by c.told x c.message fine (act c.entry c.told (box_in x) c.message).change (act_fits c.told (box_in x) c.message c.entry)
    (act_bodied c.entry c.told (box_in x) c.message))

-- ---- the check for 16, of length, count and rows
abbrev pub bad_in : List ℕ → Bool
bad_in t = any row_bad (tab (row_at (drop head_len t)) 0 (count_of t))

pub none_bad : (capacity : ℕ) (t : List ℕ) → table_wrong capacity t ≡ passed → bad_in t ≡ false
unfolding table_wrong
none_bad capacity t e = when_none _ _ (rest_none _ _ (rest_none _ _ e))

pub taken_by : (capacity : ℕ) (t : List ℕ) → table_len capacity ≤ length t → count_of t ≤ capacity → bad_in t ≡ false → table_wrong capacity t ≡ passed
unfolding table_wrong
taken_by capacity t l n b = sym (pass (less_no _ _ _ l) (pass (less_no _ _ _ n) (sym (when_no _ _ b))))

wrong_by : (capacity : ℕ) (t u : List ℕ) → length t ≡ length u → count_of t ≡ count_of u → bad_in t ≡ bad_in u → table_wrong capacity t ≡ table_wrong capacity u
unfolding table_wrong
wrong_by capacity t u l n b = λ i. or_else (if_less (l i) (table_len capacity) table) (or_else (if_less capacity (n i) table) (when (b i) table))

-- where no row is wrong, only the count can make the difference, and only where it comes to pass the capacity
within : (n m capacity : ℕ) → n ≤ m → (n ≤ capacity → m ≤ capacity) → ltb capacity m ≡ ltb capacity n
within n m capacity h k = go (ltb capacity n) refl
  where
    go : (t : Bool) → ltb capacity n ≡ t → ltb capacity m ≡ ltb capacity n
    go true e = lt-ltb capacity m (let z = ltb-true capacity n e in omega arith) ∙ sym e
    go false e = le-ltb capacity m (k (ltb-false capacity n e)) ∙ sym e

or_same : (a b c : Check) → (a ≡ passed → b ≡ c) → or_else a b ≡ or_else a c
unfolding or_else
or_same (Ok _) b c h = h refl
or_same (Err r) b c h = refl

grown : (capacity : ℕ) (t u : List ℕ) → length u ≡ length t → bad_in t ≡ false → bad_in u ≡ false → count_of t ≤ count_of u
    → (table_wrong capacity t ≡ passed → count_of u ≤ capacity) → table_wrong capacity u ≡ table_wrong capacity t
unfolding table_wrong if_less
grown capacity t u l bt bu h k =
    (λ i. or_else (pick (ltb (l i) (table_len capacity)) (Err table) passed) (or_else (pick (ltb capacity (count_of u)) (Err table) passed) (when ((bu ∙ sym bt) i) table)))
    ∙ or_same _ _ _ (λ z.
    ap (λ (b : Bool). or_else (pick b (Err table) passed) (when (bad_in t) table))
    (within (count_of t) (count_of u) capacity h (λ n. k (sym (pass z (pass (less_no _ _ _ n) (sym (when_no _ _ bt))))))))

-- ---- a call behind the check is the rules' call
abbrev act_by : Kept → Call → Act
act_by x c = called c.entry c.told x c.message

module _ (x : Kept) (c : Call) (lent : lent_wrong c.told x.table ≡ passed) where
  fine : table_wrong c.told.capacity x.table ≡ passed
  fine = taken c.told x.table lent

  as_rules : act_by x c ≡ act c.entry c.told (box_in x) c.message
  as_rules = called_act c.entry c.told x c.message fine

  pub same_reply : reply_by x c ≡ reply (box_in x) c
  unfolding reply_by reply
  same_reply = ap (λ (a : Act). a.answer) as_rules

  pub same_next : box_in (next_by x c) ≡ next (box_in x) c
  unfolding next_by next
  same_next = (bridge c.entry c.told x c.message fine).0

  pub next_fine : table_wrong c.told.capacity (next_by x c).table ≡ passed
  unfolding next_by
  next_fine = (bridge c.entry c.told x c.message fine).1

  pub next_long : length (next_by x c).table ≡ length x.table
  next_long = left_long x c fine

  pub needs_by : NeedsNew of_rules (box_in x) c → NeedsNew of_calls x c
  unfolding box_in
  needs_by h = record { new = h.new; taken = same_reply ∙ h.taken }

  by_needs : NeedsNew of_calls x c → NeedsNew of_rules (box_in x) c
  unfolding box_in
  by_needs h = record { new = h.new; taken = sym same_reply ∙ h.taken }

pub count_is : (x : Kept) → length (box_in x).table ≡ count_of x.table
unfolding box_in
count_is x = entries_count x.table

-- one that is refused with 14 or 16 leaves all as it was
stays : (x : Kept) (c : Call) (r : Refusal) → lent_wrong c.told x.table ≡ Err r → next_by x c ≡ x
unfolding next_by
stays x c n q = all_left c.entry c.told x c.message n q

-- and what is taken was not refused
is_lent : (x : Kept) (c : Call) → reply_by x c ≡ Done → lent_wrong c.told x.table ≡ passed
unfolding reply_by
is_lent x c h = by (lent_wrong c.told x.table) refl
  where
    by : (k : Check) → lent_wrong c.told x.table ≡ k → lent_wrong c.told x.table ≡ passed
    by (Ok _) e = e
    by (Err r) e =
        let q : Refused r ≡ Done = sym (ap (λ (a : Act). a.answer) (is_refused c.entry c.told x c.message r e)) ∙ h in
        let z : ◌≡◌ {A = ℕ} 0 1 = cc in
        absurd (omega arith)

-- ---- one DC call, and another with a different stamp
module _ (x : Kept) (p q : Call) (dp : IsDC p) (dq : IsDC q) (apart : stamp_in p ≡ stamp_in q → ⊥) where
  rooms : lent_wrong p.told x.table ≡ passed → lent_wrong q.told x.table ≡ passed → RoomBy x p q → RoomBy x q p → Room (box_in x) p q
  rooms a b r u h g =
      let i = needs_by x p a h in
      let j = needs_by x q b g in
      (rw (count_is x) (r.for_both i j), rw (count_is x) (u.for_both j i))

  -- p leaves as many entries as there were, or it needs a new one and adds that
  counted : lent_wrong p.told x.table ≡ passed
      → (count_of (next_by x p).table ≡ count_of x.table) ⊎ (NeedsNew of_calls x p × (count_of (next_by x p).table ≡ suc (count_of x.table)))
  counted a = go (grows (box_in x) p q dp dq apart)
    where
      count_next : count_of (next_by x p).table ≡ length (next (box_in x) p).table
      count_next = sym (count_is (next_by x p)) ∙ ap (λ (y : Box). length y.table) (same_next x p a)

      go : (length (next (box_in x) p).table ≡ length (box_in x).table)
          ⊎ (NeedsNew of_rules (box_in x) p × (length (next (box_in x) p).table ≡ suc (length (box_in x).table)))
          → (count_of (next_by x p).table ≡ count_of x.table) ⊎ (NeedsNew of_calls x p × (count_of (next_by x p).table ≡ suc (count_of x.table)))
      go (inl e) = inl (count_next ∙ e ∙ count_is x)
      go (inr h) = inr (needs_by x p a h.0, count_next ∙ h.1 ∙ ap suc (count_is x))

  -- the check in front of q sees no difference, where p's entry leaves it within its capacity
  lent_by : lent_wrong p.told x.table ≡ passed → (lent_wrong q.told x.table ≡ passed → count_of (next_by x p).table ≤ q.told.capacity)
      → lent_wrong q.told (next_by x p).table ≡ lent_wrong q.told x.table
  unfolding lent_wrong
  lent_by e k = or_same _ _ _ (λ z.
      grown q.told.capacity x.table (next_by x p).table (next_long x p e) (none_bad _ _ (fine x p e)) (none_bad _ _ (next_fine x p e))
      (longer_by (counted e)) (λ w. k (sym (pass z (sym w)))))
    where
      longer_by : (count_of (next_by x p).table ≡ count_of x.table) ⊎ (NeedsNew of_calls x p × (count_of (next_by x p).table ≡ suc (count_of x.table)))
          → count_of x.table ≤ count_of (next_by x p).table
      longer_by (inl h) = omega arith
      longer_by (inr h) = omega (arith, h.1)

  lent_after : RoomBy x q p → lent_wrong q.told (next_by x p).table ≡ lent_wrong q.told x.table
  lent_after u = by (lent_wrong p.told x.table) refl
    where
      fits : lent_wrong q.told x.table ≡ passed
          → (count_of (next_by x p).table ≡ count_of x.table) ⊎ (NeedsNew of_calls x p × (count_of (next_by x p).table ≡ suc (count_of x.table)))
          → count_of (next_by x p).table ≤ q.told.capacity
      fits b (inl h) = omega (arith, few q.told x.table b)
      fits b (inr h) = omega (arith, h.1, u.for_other b h.0)

      by : (n : Check) → lent_wrong p.told x.table ≡ n → lent_wrong q.told (next_by x p).table ≡ lent_wrong q.told x.table
      by (Err r) e = ap (λ (y : Kept). lent_wrong q.told y.table) (stays x p r e)
      by (Ok _) e = lent_by e (λ b. fits b (counted e))

  -- and q does what it did
  called_after : RoomBy x p q → RoomBy x q p → act_by (next_by x p) q ≡ act_by x q
  called_after r u = by (lent_wrong p.told x.table) (lent_wrong q.told x.table) refl refl
    where
      by : (n m : Check) → lent_wrong p.told x.table ≡ n → lent_wrong q.told x.table ≡ m → act_by (next_by x p) q ≡ act_by x q
      by (Err s) m e f = ap (λ (y : Kept). act_by y q) (stays x p s e)
      by (Ok _) (Err r) e f =
          is_refused q.entry q.told (next_by x p) q.message r (lent_after u ∙ f)
          ∙ sym (is_refused q.entry q.told x q.message r f)
      by (Ok _) (Ok _) e f =
          as_rules (next_by x p) q (lent_after u ∙ f)
          ∙ ap (λ (y : Box). act q.entry q.told y q.message) (same_next x p e)
          ∙ act_after (box_in x) p q dp dq apart (rooms e f r u)
          ∙ sym (as_rules x q f)

  -- p's own new entry has room
  beside : NeedsNew of_calls x p → count_of x.table + 1 ≤ p.told.capacity
  unfolding next
  beside h =
      let a = is_lent x p h.taken in
      let l = longer (box_in x) p q dp dq apart (by_needs x p a h) in
      let o = never_overfull p.told (box_in x) p.entry p.message (rw (count_is x) (few p.told x.table a)) in
      omega (arith, l, o, count_is x)

  -- with room for one
  call_refused : NeedsNew of_calls x p → NeedsNew of_calls x q → q.told.capacity ≡ count_of x.table + 1 → reply_by (next_by x p) q ≡ Refused Full
  call_refused h g c =
      let a = is_lent x p h.taken in
      let b = is_lent x q g.taken in
      let n : NeedsNew of_rules (box_in x) p = by_needs x p a h in
      let more : count_of (next_by x p).table ≡ suc (count_of x.table) =
      sym (count_is (next_by x p)) ∙ ap (λ (y : Box). length y.table) (same_next x p a) ∙ longer (box_in x) p q dp dq apart n ∙ ap suc (count_is x) in
      same_reply (next_by x p) q (lent_by a (λ _. omega arith) ∙ b)
      ∙ ap (λ (y : Box). reply y q) (same_next x p a)
      ∙ one_refused (box_in x) p q dp dq apart n (by_needs x q b g) (rw (count_is x) c)

-- ---- tables that no call tells apart, as bytes
record Kin (x y : Kept) : Type 0 where
  twins : Twins (box_in x) (box_in y)
  long : length x.table ≡ length y.table
  bad : bad_in x.table ≡ bad_in y.table

itself : (x : Kept) → Kin x x
itself x = record { twins = record { table = same; marks = refl; low = refl; folds = refl }; long = refl; bad = refl }

module _ {x y : Kept} (k : Kin x y) (c : Call) where
  kin_count : count_of x.table ≡ count_of y.table
  kin_count = sym (count_is x) ∙ length_same k.twins.table ∙ count_is y

  kin_lent : lent_wrong c.told x.table ≡ lent_wrong c.told y.table
  unfolding lent_wrong
  kin_lent = ap (or_else (told_wrong c.told)) (wrong_by c.told.capacity x.table y.table k.long kin_count k.bad)

  kin_reply : apart_from_number (reply_by x c) ≡ apart_from_number (reply_by y c)
  unfolding reply_by
  kin_reply = by (lent_wrong c.told x.table) refl
    where
      by : (k : Check) → lent_wrong c.told x.table ≡ k → apart_from_number (act_by x c).answer ≡ apart_from_number (act_by y c).answer
      by (Ok _) e =
          ap (λ (a : Act). apart_from_number a.answer) (as_rules x c e)
          ∙ answer_twins k.twins c.entry c.told c.message
          ∙ ap (λ (a : Act). apart_from_number a.answer) (sym (as_rules y c (sym kin_lent ∙ e)))
      by (Err r) e =
          ap (λ (a : Act). apart_from_number a.answer)
          (is_refused c.entry c.told x c.message r e ∙ sym (is_refused c.entry c.told y c.message r (sym kin_lent ∙ e)))

  kin_next : Kin (next_by x c) (next_by y c)
  unfolding next
  kin_next = by (lent_wrong c.told x.table) refl
    where
      by : (k : Check) → lent_wrong c.told x.table ≡ k → Kin (next_by x c) (next_by y c)
      by (Ok _) e =
          let f = sym kin_lent ∙ e in
          record {
            twins = rw (same_next x c e, same_next y c f) (after_twins k.twins c.entry c.told c.message);
            long = next_long x c e ∙ k.long ∙ sym (next_long y c f);
            bad = none_bad _ _ (next_fine x c e) ∙ sym (none_bad _ _ (next_fine y c f));
          }
      by (Err r) e = rw (stays x c r e, stays y c r (sym kin_lent ∙ e)) k

kin_replies : (x y : Kept) → Kin x y → (cs : List Call) → replies of_calls x cs ≡ replies of_calls y cs
unfolding replies
kin_replies x y k [] = refl
kin_replies x y k (c ∷ cs) = λ i. kin_reply k c i ∷ kin_replies (next_by x c) (next_by y c) (kin_next k c) cs i

-- ---- both, in either order
crossed : (x : Kept) (p q : Call) → IsDC p → IsDC q → (stamp_in p ≡ stamp_in q → ⊥) → RoomBy x p q → RoomBy x q p
    → Kin (next_by (next_by x p) q) (next_by (next_by x q) p)
crossed x p q dp dq apart r u = by (lent_wrong p.told x.table) (lent_wrong q.told x.table) refl refl
  where
    swap : stamp_in q ≡ stamp_in p → ⊥
    swap e = apart (sym e)

    by : (n m : Check) → lent_wrong p.told x.table ≡ n → lent_wrong q.told x.table ≡ m → Kin (next_by (next_by x p) q) (next_by (next_by x q) p)
    by (Err s) m e f =
        rw (stays x p s e, stays (next_by x q) p s (lent_after x q p dq dp swap r ∙ e)) (itself (next_by x q))
    by (Ok _) (Err s) e f =
        rw (stays x q s f, stays (next_by x p) q s (lent_after x p q dp dq apart u ∙ f)) (itself (next_by x p))
    by (Ok _) (Ok _) e f =
        let g = lent_after x p q dp dq apart u ∙ f in
        let h = lent_after x q p dq dp swap r ∙ e in
        record {
          twins =
              rw (same_next (next_by x p) q g, same_next (next_by x q) p h, same_next x p e, same_next x q f)
              (twins (box_in x) p q dp dq apart (rooms x p q dp dq apart e f r u));
          long = next_long (next_by x p) q g ∙ next_long x p e ∙ sym (next_long x q f) ∙ sym (next_long (next_by x q) p h);
          bad = none_bad _ _ (next_fine (next_by x p) q g) ∙ sym (none_bad _ _ (next_fine (next_by x q) p h));
        }

pub calls_commute : CallsCommute
unfolding reply_by box_in
calls_commute x p q dp dq apart r u =
    let k = crossed x p q dp dq apart r u in
    record {
      one = ap (λ (a : Act). a.answer) (called_after x q p dq dp (λ e. apart (sym e)) u r);
      other = ap (λ (a : Act). a.answer) (called_after x p q dp dq apart r u);
      later = kin_replies _ _ k;
      tables = k.twins.table;
      marks = k.twins.marks;
      low = k.twins.low;
      folds = k.twins.folds;
    }

pub one_capacity : OneCapacity
one_capacity x p q dp dq apart c room =
    calls_commute x p q dp dq apart
    (record { for_both = room; for_other = λ _ h. rw c (beside x q p dq dp (λ e. apart (sym e)) h) })
    (record { for_both = λ g h. rw (← c) (room h g); for_other = λ _ h. rw (← c) (beside x p q dp dq apart h) })

pub one_call_refused : OneCallRefused
one_call_refused x p q dp dq apart h g c = call_refused x p q dp dq apart h g c
