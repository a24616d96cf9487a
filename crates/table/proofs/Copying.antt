-- A row that is written: codes and views, and a body behind them, copied byte by byte.
use Rattle.std.proofs.Common.{◌≡◌, ℕ, ◌+◌, ◌-◌, ◌<◌, ◌≤◌, List, length, drop, ◌∙◌, arith}
use Prim.Native.Nat.{suc, zero-le}
use native.Mathlib.Numerals.{add-one}
use mathlib.Core.Path.{refl, ap, sym}
use mathlib.Core.List.{◌∷◌, ◌++◌, append_assoc, append-nil}
use lib.ListN.{take, get_or, set, length-set, drop_of_length-le}
use lib.Seq.{length-take-le, take-length, set_at, drop-cons, take-suc}
use native.Mathlib.Nat.{add-sub_cancel_left}
use borrow.Rule.Slice.PartMut.{put_mid}
use lib.Seq.{drop-drop}
use Rattle.rules.specs.Answers.{log_view}
use Rattle.table.specs.declared.State.{State}
use Rattle.table.specs.Table.{vote_at, log_view_at, view_at, body_at, row_tx, view_bytes, codes_of, new_row}

-- the first i bytes of b over d
abbrev copied : List ℕ → List ℕ → ℕ → List ℕ
copied d b i = take i b ++ drop i d

pub record Copied (d b e : List ℕ) (i : ℕ) : Type 0 where
  pub within : i ≤ length b
  pub fits : length d ≡ length b
  pub long : length e ≡ length d
  pub same : e ≡ copied d b i

pub copy_none : {d b : List ℕ} → length d ≡ length b → Copied d b d 0
copy_none h = record { within = zero-le; fits = h; long = refl; same = refl }

pub copy_more : {d b e : List ℕ} {i : ℕ} → Copied d b e i → i < length b → Copied d b (set e i (get_or b i 0)) (i + 1)
copy_more {d} {b} {e} {i} c h =
    let g : length d ≡ length b = c.fits in
    let l : i < length d = omega arith in
    let k : length (take i b) ≡ i = length-take-le i b (omega arith) in
    let s : set (copied d b i) i (get_or b i 0) ≡ take i b ++ (get_or b i 0 ∷ drop (suc i) d) =
    rw (drop-cons d i 0 l) (set_at (take i b) (get_or d i 0) (drop (suc i) d) (get_or b i 0) i k) in
    let t : copied d b (i + 1) ≡ take i b ++ (get_or b i 0 ∷ drop (suc i) d) = rw (add-one, take-suc b i 0 h, append_assoc) in
    record {
      within = omega arith;
      fits = g;
      long = length-set e i (get_or b i 0) ∙ c.long;
      same = ap (λ (x : List ℕ). set x i (get_or b i 0)) c.same ∙ s ∙ sym t;
    }

pub copy_all : {d b e : List ℕ} {i : ℕ} → Copied d b e i → length b ≤ i → e ≡ b
copy_all {d} {b} {e} {i} c h =
    let z : i ≡ length b = omega arith in
    let n : length d ≤ length b = omega arith in
    (rw (z, take-length b, drop_of_length-le d n, append-nil) at c.same)

-- codes and two views put down in a row, each in a part that is lent and given back
abbrev headed : List ℕ → State → List ℕ
headed d x =
    put_mid view_at (body_at - view_at)
    (put_mid log_view_at (view_at - log_view_at) (put_mid vote_at (log_view_at - vote_at) d (codes_of x)) (view_bytes (log_view x.log))) (view_bytes x.view)

-- and a body behind them, whatever the views
pub row_put : (d b : List ℕ) (x : State) → put_mid body_at (body_at + length b - body_at) (headed d x) b ≡ new_row d b x
unfolding new_row
row_put d b x =
    let e : drop (body_at - view_at) (drop (view_at - log_view_at) (drop log_view_at d)) ≡ row_tx d = drop-drop 2 2 (drop 4 d) ∙ drop-drop 4 4 d in
    rw (e, add-sub_cancel_left body_at (length b))
