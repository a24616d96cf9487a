-- The body that is held stands in the table's bytes at the place that is told.
use Prim.Native.Nat.{ℕ, ◌+◌, ◌-◌, ◌*◌, ◌<◌, ◌≤◌}
use native.Mathlib.Omega.{arith}
use mathlib.Core.Path.{◌≡◌, refl, ap, sym, ◌∙◌}
use mathlib.Core.List.{List}
use mathlib.Core.Logic.{◌⊎◌, inl, inr}
use mathlib.Core.Bool.{Bool, true, false}
use mathlib.Core.Option.{some}
use borrow.Author.Tests.{ltb-true, ltb-false}
use lib.Dec.{ltb}
use lib.ListN.{length, take, drop, length-take, length-drop}
use lib.Seq.{drop-drop}
use Rattle.records.specs.Tx.{tx_len}
use Rattle.rules.specs.Table.{Entry, find}
use Rattle.rules.proofs.Moves.{none_some}
use Rattle.table.specs.Table.{head_len, row_len, body_at, row_at, row_tx, row_body, entry_with, entry_of, entries, entries_of, count_of, place, WfRow, Wf}
use Rattle.table.proofs.Bodies.{mid_take, row_there, row_fits}
use Rattle.table.proofs.Placing.{place_within}
use Rattle.table.proofs.Looking.{entries_are, entries_count}
use Rattle.std.specs.Prelude.{Ok, Err, Some}
use Rattle.terms.specs.Checks.{Check, or_else}
use Rattle.held.specs.declared.Holding.{Holding}
use Rattle.held.specs.Held.{held_wrong, holding_of, found_in, held_of, body_in, body_by, body_held, There, Told, Telling, BodyThere, shortest, HeldLong}
use Rattle.held.proofs.Found.{right, passed_on, found, not_found, tells_found, tells_none}

module _ (t : List ℕ) (i : ℕ) (h : i * row_len + row_len ≤ length (drop head_len t)) (w : WfRow (row_at (drop head_len t) i)) where
  pub long : length (entry_of (row_at (drop head_len t) i)).body ≡ tx_len (row_tx (row_at (drop head_len t) i))
  unfolding entry_of entry_with row_body
  long = let l = (row_there _ w).2 in simp length-take (omega arith)

  pub inside : head_len + i * row_len + body_at + length (entry_of (row_at (drop head_len t) i)).body ≤ length t
  inside =
      let l : i * row_len + row_len ≤ length t - head_len = rw length-drop at h in
      let a = w.reads in
      let b = w.writes in
      rw long (omega arith)

  behind : drop (head_len + i * row_len + body_at) t ≡ drop body_at (drop (i * row_len) (drop head_len t))
  behind =
      let e : head_len + i * row_len + body_at ≡ head_len + (i * row_len + body_at) = omega arith in
      ap (λ (n : ℕ). drop n t) e ∙ sym (drop-drop (i * row_len + body_at) head_len t) ∙ sym (drop-drop body_at (i * row_len) (drop head_len t))

  pub stands : take (length (entry_of (row_at (drop head_len t) i)).body) (drop (head_len + i * row_len + body_at) t) ≡ (entry_of (row_at (drop head_len t) i)).body
  unfolding entry_of entry_with row_body
  stands =
      let a = w.reads in
      let b = w.writes in
      ap (λ (k : ℕ). take k (drop (head_len + i * row_len + body_at) t)) long
      ∙ ap (λ (l : List ℕ). take (tx_len (row_tx (row_at (drop head_len t) i))) l) behind
      ∙ sym (mid_take (tx_len (row_tx (row_at (drop head_len t) i))) body_at row_len (drop (i * row_len) (drop head_len t)) (omega arith))

-- a stamp has its place among the entries, or behind them
pub lt_cases : (m n : ℕ) → (m < n) ⊎ (n ≤ m)
lt_cases m n = go (ltb m n) refl
  where
    go : (b : Bool) → ltb m n ≡ b → (m < n) ⊎ (n ≤ m)
    go true e = inl (ltb-true m n e)
    go false e = inr (ltb-false m n e)

module _ (t : List ℕ) (s i : ℕ) (p : i ≡ place s (entries (drop head_len t) (count_of t))) (w : Wf (drop head_len t) (count_of t)) where
  behind_last : count_of t ≤ i → i ≤ count_of t
  behind_last h =
      let n : length (entries (drop head_len t) (count_of t)) ≡ count_of t = rw (← entries_are t) (entries_count t) in
      omega (arith, place_within s (entries (drop head_len t) (count_of t)), n)

  there_found : i < count_of t → There t (Ok (found_in t s)) (body_in (find s (entries_of t)))
  unfolding holding_of
  there_found h =
      let f = row_fits w i h in
      rw (← tells_found t s i p h, found t s i p h) (inside t i f.0 f.1, stands t i f.0 f.1)

  there_none : count_of t ≤ i → There t (Ok (found_in t s)) (body_in (find s (entries_of t)))
  there_none h =
      let k = behind_last h in
      rw (← tells_none t s i p h k, not_found t s i p h k)

  there_in : There t (Ok (found_in t s)) (body_in (find s (entries_of t)))
  there_in = by (lt_cases i (count_of t))
    where
      by : (i < count_of t) ⊎ (count_of t ≤ i) → There t (Ok (found_in t s)) (body_in (find s (entries_of t)))
      by (inl h) = there_found h
      by (inr h) = there_none h

  long_in : (e : Entry) → find s (entries_of t) ≡ some e → Told (λ h. shortest ≤ h.len) (Ok (found_in t s))
  unfolding holding_of
  long_in e f = by (lt_cases i (count_of t))
    where
      by : (i < count_of t) ⊎ (count_of t ≤ i) → Told (λ h. shortest ≤ h.len) (Ok (found_in t s))
      by (inl h) = let r = row_fits w i h in rw (← tells_found t s i p h, long t i r.0 r.1) (omega arith)
      by (inr h) = absurd (none_some (not_found t s i p h (behind_last h)) f)

-- The place and the length that are told mean the body that is held.
pub body_there : BodyThere
unfolding held_of body_held body_by or_else
body_there t capacity s = by (held_wrong capacity t) refl
  where
    by : (c : Check) → held_wrong capacity t ≡ c → There t (or_else c (Ok (found_in t s))) (body_by c t s)
    by (Ok _) e = there_in t s (place s (entries (drop head_len t) (count_of t))) refl (right t capacity e).0
    by (Err r) e = refl

-- No bytes are told of nothing alone.
pub held_long : HeldLong
held_long t capacity s e w f =
    rw (← passed_on t capacity s w) (long_in t s (place s (entries (drop head_len t) (count_of t))) refl (right t capacity w).0 e f)

pub told_there : (t : List ℕ) (capacity s : ℕ) (q : Telling) → q ≡ held_of t capacity s → There t q (body_held t capacity s)
told_there t capacity s q e = rw e (body_there t capacity s)

-- the bytes from there to the end that is told
pub part_there : (t : List ℕ) (capacity s : ℕ) (h : Holding) → Ok (Some h) ≡ held_of t capacity s → take (h.at + h.len - h.at) (drop h.at t) ≡ body_held t capacity s
part_there t capacity s h e =
    let n : h.at + h.len - h.at ≡ h.len = omega arith in
    ap (λ (n : ℕ). take n (drop h.at t)) n ∙ (told_there t capacity s (Ok (Some h)) e).1
