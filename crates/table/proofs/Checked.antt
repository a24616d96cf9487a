-- What the check of a lent table leaves.
use Prim.Native.Nat.{ℕ, zero, suc, ◌+◌, ◌*◌, ◌<◌, ◌≤◌}
use native.Mathlib.Omega.{arith}
use native.Mathlib.Nat.{add-zero, zero-add}
use mathlib.Core.Path.{◌≡◌, refl, sym}
use mathlib.Core.List.{List}
use mathlib.Core.Bool.{Bool, true, false, ◌||◌, false≢true}
use lib.ListN.{length, drop, length-take, length-drop}
use Rattle.terms.specs.Checks.{passed}
use Rattle.terms.specs.Choice.{tab, any}
use Rattle.terms.proofs.Checks.{no_refusal, first_none, rest_none, not_less, when_none}
use Rattle.table.specs.Table.{head_len, row_len, table_len, row_at, row_wrong, row_bad, table_wrong, count_of, WfRow, Wf}

-- a scan that found nothing: the test fails at each, and the other way
or_left : (a b : Bool) → (a || b) ≡ false → a ≡ false
or_left true b h = h
or_left false b h = refl

or_right : (a b : Bool) → (a || b) ≡ false → b ≡ false
or_right true b h = absurd (false≢true (sym h))
or_right false b h = h

all_false : {A : Type 0} (P : A → Bool) (f : ℕ → A) (s n : ℕ) → any P (tab f s n) ≡ false → (i : ℕ) → i < n → P (f (s + i)) ≡ false
all_false P f s zero e i l = absurd (omega arith)
all_false P f s (suc n) e zero l = rw add-zero (or_left (P (f s)) (any P (tab f (s + 1) n)) e)
all_false P f s (suc n) e (suc i) l =
    let q : s + suc i ≡ s + 1 + i = omega arith in
    rw q (all_false P f (s + 1) n (or_right (P (f s)) (any P (tab f (s + 1) n)) e) i (omega arith))

pub any_false : {A : Type 0} (P : A → Bool) (f : ℕ → A) (s n : ℕ) → ((j : ℕ) → s ≤ j → j < s + n → P (f j) ≡ false) → any P (tab f s n) ≡ false
any_false P f s zero h = refl
any_false P f s (suc n) h = rw (h s (omega arith) (omega arith)) (any_false P f (s + 1) n (λ j a b. h j (omega arith) (omega arith)))

pub row_long : (t : List ℕ) (i : ℕ) → i * row_len + row_len ≤ length t → length (row_at t i) ≡ row_len
row_long t i h = simp (length-take, length-drop) (omega arith)

pub row_wf : (r : List ℕ) → length r ≡ row_len → row_wrong r ≡ passed → WfRow r
unfolding row_wrong
row_wf r l e = record { long = l; reads = not_less _ _ _ (first_none _ _ e); writes = not_less _ _ _ (first_none _ _ (rest_none _ _ e)) }

module _ (cap : ℕ) (t : List ℕ) (e : table_wrong cap t ≡ passed) where
  pub table_room : table_len cap ≤ length t
  unfolding table_wrong
  table_room = not_less _ _ _ (first_none _ _ e)

  pub table_count : count_of t ≤ cap
  unfolding table_wrong
  table_count = not_less _ _ _ (first_none _ _ (rest_none _ _ e))

  none_bad : any row_bad (tab (row_at (drop head_len t)) 0 (count_of t)) ≡ false
  unfolding table_wrong
  none_bad = when_none _ _ (rest_none _ _ (rest_none _ _ e))

  pub row_right : (i : ℕ) → i < count_of t → row_bad (row_at (drop head_len t) i) ≡ false
  row_right i h = rw zero-add at (all_false row_bad (row_at (drop head_len t)) 0 (count_of t) none_bad i h)

  pub table_wf : Wf (drop head_len t) (count_of t)
  table_wf =
      let a = table_room in
      let b = table_count in
      let d : count_of t * row_len ≤ length (drop head_len t) = simp length-drop (omega arith) in
      record {
        room = d;
        rows = λ i h.
            row_wf (row_at (drop head_len t) i) (row_long (drop head_len t) i (omega arith)) (no_refusal _ (row_right i h));
      }
