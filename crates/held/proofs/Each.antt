-- The entries of a table one by one.
use Prim.Native.Nat.{ℕ, zero, suc, ◌+◌, ◌*◌, ◌<◌, ◌≤◌}
use native.Mathlib.Omega.{arith}
use native.Mathlib.Nat.{add-zero, zero-add}
use mathlib.Core.Path.{◌≡◌, refl, ap, sym, ◌∙◌}
use mathlib.Core.Logic.{◌⊎◌, inl, inr}
use mathlib.Core.Bool.{Bool, true, false}
use mathlib.Core.List.{List, [], ◌∷◌}
use mathlib.Core.Option.{some, none}
use lib.Dec.{eqb}
use lib.ListN.{drop}
use Rattle.terms.specs.Choice.{pick, tab}
use Rattle.rules.specs.Bodies.{stamp_of}
use Rattle.rules.specs.Table.{Entry, find}
use Rattle.table.specs.Table.{head_len, row_len, body_at, row_at, entry_of, entry_at, entries_of, count_of, place, Wf}
use Rattle.table.proofs.Bodies.{row_fits}
use Rattle.table.proofs.Looking.{entries_are, entries_count}
use Rattle.std.specs.Prelude.{Ok, Err, None, Option as Maybe, Result}
use Rattle.std.specs.Result.{result_unwrap_or}
use Rattle.terms.specs.declared.Refusal.{Refusal}
use Rattle.terms.specs.Checks.{Check, passed, or_else}
use Rattle.terms.proofs.Checks.{first_passed}
use Rattle.held.specs.declared.Holding.{Holding}
use Rattle.held.specs.Held.{held_wrong, holding_of, body_place, found_in, held_of, body_in, There, Told, shortest}
use Rattle.held.specs.Held.{nth, entry_in, entry_told, entry_body_by, entry_body, how_many_told, EntryThere, EachTold, HeldIsEntry}
use Rattle.held.proofs.Found.{right}
use Rattle.held.proofs.There.{lt_cases, long, inside, stands}

ok_eq : {a b : ℕ} → ◌≡◌ {A = Result ℕ Refusal} (Ok a) (Ok b) → a ≡ b
ok_eq e = ap (λ (x : Result ℕ Refusal). result_unwrap_or x 0) e

-- an entry of a list that is read off by an index
nth_tab : (f : ℕ → Entry) (j n i : ℕ) → i < n → nth (tab f j n) i ≡ some (f (j + i))
unfolding nth
nth_tab f j zero i h = absurd (omega arith)
nth_tab f j (suc n) zero h = rw add-zero
nth_tab f j (suc n) (suc i) h =
    let q : j + 1 + i ≡ j + suc i = omega arith in
    nth_tab f (j + 1) n i (omega arith) ∙ ap (λ (k : ℕ). some (f k)) q

nth_behind : (f : ℕ → Entry) (j n i : ℕ) → n ≤ i → nth (tab f j n) i ≡ none
unfolding nth
nth_behind f j zero i h = refl
nth_behind f j (suc n) zero h = absurd (omega arith)
nth_behind f j (suc n) (suc i) h = nth_behind f (j + 1) n i (omega arith)

-- told, or nothing
module _ (t : List ℕ) (i : ℕ) where
  nth_some : i < count_of t → nth (entries_of t) i ≡ some (entry_of (row_at (drop head_len t) i))
  nth_some h = rw (entries_are t) (nth_tab (entry_at (drop head_len t)) 0 (count_of t) i h ∙ ap (λ (k : ℕ). some (entry_at (drop head_len t) k)) (zero-add i))

  nth_none : count_of t ≤ i → nth (entries_of t) i ≡ none
  nth_none h = rw (entries_are t) (nth_behind (entry_at (drop head_len t)) 0 (count_of t) i h)

  tells_row : i < count_of t → holding_of (head_len + i * row_len + body_at) (some (entry_of (row_at (drop head_len t) i))) ≡ entry_in t i
  unfolding entry_in
  tells_row h = rw (nth_some h)

  tells_behind : count_of t ≤ i → None ≡ entry_in t i
  unfolding entry_in holding_of
  tells_behind h = rw (nth_none h)

  -- the same by the rows and the count that were taken of the table
  module _ (rs : List ℕ) (n : ℕ) (a : rs ≡ drop head_len t) (b : n ≡ count_of t) where
    pub row_told : i < n → (r : List ℕ) → r ≡ row_at rs i → holding_of (head_len + i * row_len + body_at) (some (entry_of r)) ≡ entry_in t i
    row_told h r q = rw (q, a) (tells_row (omega arith))

    pub row_behind : n ≤ i → None ≡ entry_in t i
    row_behind h = tells_behind (omega arith)

  module _ (w : Wf (drop head_len t) (count_of t)) where
    entry_there : There t (Ok (entry_in t i)) (body_in (nth (entries_of t) i))
    unfolding holding_of
    entry_there = by (lt_cases i (count_of t))
      where
        by : (i < count_of t) ⊎ (count_of t ≤ i) → There t (Ok (entry_in t i)) (body_in (nth (entries_of t) i))
        by (inl h) = let f = row_fits w i h in rw (← tells_row h, nth_some h) (inside t i f.0 f.1, stands t i f.0 f.1)
        by (inr h) = rw (← tells_behind h, nth_none h)

    entry_long : i < count_of t → Told (λ h. shortest ≤ h.len) (Ok (entry_in t i))
    unfolding holding_of
    entry_long h = let r = row_fits w i h in rw (← tells_row h, long t i r.0 r.1) (omega arith)

-- past the checks
module _ (t : List ℕ) (capacity : ℕ) where
  pub entry_passed : (i : ℕ) → held_wrong capacity t ≡ passed → Ok (entry_in t i) ≡ entry_told t capacity i
  unfolding entry_told or_else
  entry_passed i e = rw e

  pub count_passed : (n : ℕ) → n ≡ count_of t → held_wrong capacity t ≡ passed → Ok n ≡ how_many_told t capacity
  unfolding how_many_told or_else
  count_passed n p e = rw (e, entries_count t, p)

-- The place and the length that are told mean the entry's body.
pub entries_there : EntryThere
unfolding entry_told entry_body entry_body_by or_else
entries_there t capacity i = by (held_wrong capacity t) refl
  where
    by : (c : Check) → held_wrong capacity t ≡ c → There t (or_else c (Ok (entry_in t i))) (entry_body_by c t i)
    by (Ok _) e = entry_there t i (right t capacity e).0
    by (Err r) e = refl

-- Each entry that is counted is told with bytes, and nothing is told behind them.
pub each_told : EachTold
unfolding how_many_told
each_told t capacity i n q =
    let e : held_wrong capacity t ≡ passed = first_passed _ _ _ q in
    let c : n ≡ count_of t = ok_eq (sym q ∙ sym (count_passed t capacity _ refl e)) in (
      λ h. rw (← entry_passed t capacity i e) (entry_long t i (right t capacity e).0 (omega arith)),
      λ h. rw (← entry_passed t capacity i e, ← tells_behind t i (omega arith)),
    )

-- What is held under a stamp is the entry at that stamp's place.
find_nth : (s : ℕ) (es : List Entry) → find s es ≡ nth es (place s es)
unfolding find nth place
find_nth s [] = refl
find_nth s (e ∷ es) = by (eqb (stamp_of e.body) s) (find_nth s es)
  where
    by : (b : Bool) → find s es ≡ nth es (place s es) → pick b (some e) (find s es) ≡ nth (e ∷ es) (pick b 0 (1 + place s es))
    by true h = refl
    by false h = let q : 1 + place s es ≡ suc (place s es) = omega arith in rw q h

pub held_is_entry : HeldIsEntry
unfolding held_of found_in entry_told entry_in
held_is_entry t capacity s = ap (λ (o : Maybe Holding). or_else (held_wrong capacity t) (Ok o)) (ap (holding_of (body_place t s)) (find_nth s (entries_of t)))
