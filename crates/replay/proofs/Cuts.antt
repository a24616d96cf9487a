-- A record that is cut is there: its length is ten or more, and no more than there is.
use Prim.Native.Nat.{ℕ, ◌-◌, ◌≤◌}
use native.Mathlib.Nat.{le_refl}
use native.Mathlib.Omega.{arith}
use mathlib.Core.Bool.{Bool, true, false}
use mathlib.Core.Path.{◌≡◌, ap, sym, ◌∙◌}
use mathlib.Core.List.{List}
use lib.ListN.{length, length-drop}
use Rattle.terms.specs.Choice.{pick}
use Rattle.terms.specs.Checks.{passed, if_less, short}
use Rattle.terms.proofs.Checks.{not_passed, not_less, first_none, rest_none}
use Rattle.records.specs.declared.Mark.{Mark}
use Rattle.records.specs.declared.Mark.TheVariants.{PR, LG, DC, RD, IV, LD}
use Rattle.std.specs.Prelude.{Result, Ok, Err}
use Rattle.terms.specs.declared.Refusal.{Refusal}
use Rattle.records.specs.Tx.{tx_len, TxThere}
use Rattle.records.specs.Vl.{VlThere}
use Rattle.records.specs.Views.{ViewsThere}
use Rattle.records.specs.declared.ViewMark.{ViewMark}
use Rattle.records.specs.declared.ViewMark.TheVariants.{VS, EL}
use Rattle.records.specs.Cutting.{behind_mark, list_part, message_cut, listed_len, viewed_len, message_len, rd_len}
use Rattle.records.specs.Messages.{is_mark, mark_of}
use Rattle.reading.proofs.Cuts.{ListedCut, ViewedCut, tx_there, vl_there, views_there, pr_cuts, lg_cuts, dc_cuts, viewed_cuts, rd_long}
use Rattle.lines.specs.Lines.{mark_ck, mark_lm}
use Rattle.replay.specs.Bench.{marked_cut, marked_len, record_cut, record_len, ck_len, lm_len}

module _ {A : Type 0} (b : Bool) (x y : A) where
  pub yes : b ≡ true → pick b x y ≡ x
  yes p = rw p

  pub no : b ≡ false → pick b x y ≡ y
  no p = rw p

-- ---- the length of a record that is cut
abbrev pub Sized : List ℕ → ℕ → Type 0
Sized s n = (n ≡ record_len s) × (10 ≤ n) × (n ≤ length s)

-- a message whose TX, and whose VL, is there
abbrev pub Fits : List ℕ → ℕ → Type 0
Fits s n = (10 ≤ n) × (n ≤ length s)

listed_fits : (s : List ℕ) → ListedCut s → Fits s (listed_len s)
unfolding listed_len list_part
listed_fits s c =
    let h : TxThere (behind_mark s) = tx_there _ c.1 in
    let g : VlThere (list_part s) = vl_there _ c.2 in
    let d : length (behind_mark s) ≡ length s - 2 = length-drop 2 s in
    let e : length (list_part s) ≡ length (behind_mark s) - tx_len (behind_mark s) = length-drop (tx_len (behind_mark s)) (behind_mark s) in
    (omega arith, omega arith)

viewed_fits : (k : ViewMark) (s : List ℕ) → ViewedCut k s → Fits s (viewed_len k s)
unfolding viewed_len list_part
viewed_fits k s c =
    let h : TxThere (behind_mark s) = tx_there _ c.1 in
    let g : ViewsThere k (list_part s) = views_there k _ c.2 in
    let d : length (behind_mark s) ≡ length s - 2 = length-drop 2 s in
    let e : length (list_part s) ≡ length (behind_mark s) - tx_len (behind_mark s) = length-drop (tx_len (behind_mark s)) (behind_mark s) in
    (omega arith, omega arith)

message_fits : (k : Mark) (s : List ℕ) → message_cut k s ≡ passed → Fits s (message_len k s)
unfolding message_len
message_fits PR s z =
    let h : TxThere (behind_mark s) = tx_there _ (pr_cuts s z).1 in
    let d : length (behind_mark s) ≡ length s - 2 = length-drop 2 s in
    (omega arith, omega arith)
message_fits LG s z = listed_fits s (lg_cuts s z)
message_fits DC s z = listed_fits s (dc_cuts s z)
message_fits IV s z = viewed_fits VS s (viewed_cuts VS s z)
message_fits LD s z = viewed_fits EL s (viewed_cuts EL s z)
message_fits RD s z = let h : rd_len ≤ length s = rd_long s z in (omega arith, omega arith)

-- whichever it is
record_fits : (s : List ℕ) (b c : Bool) (w : Result Mark Refusal) → pick b (if_less (length s) ck_len short) (pick c (if_less (length s) lm_len short) (marked_cut w s)) ≡ passed
    → Fits s (pick b ck_len (pick c lm_len (marked_len w s)))
unfolding marked_cut marked_len
record_fits s true c w z = (le_refl _, not_less _ _ _ z)
record_fits s false true w z = (le_refl _, not_less _ _ _ z)
record_fits s false false (Ok k) z = message_fits k s z
record_fits s false false (Err r) z = absurd (not_passed z)

module _ (s : List ℕ) (z : record_cut s ≡ passed) where
  pub cut_long : 2 ≤ length s
  unfolding record_cut
  cut_long = not_less _ _ _ (first_none _ _ z)

  pub cut_sized : Fits s (record_len s)
  unfolding record_cut record_len
  cut_sized = record_fits s _ _ _ (rest_none _ _ z)

  pub len_is : {n : ℕ} → n ≡ record_len s → Sized s n
  len_is e = (e, rw e cut_sized.0, rw e cut_sized.1)

  pub len_ck : is_mark mark_ck s ≡ true → Sized s 10
  unfolding record_len
  len_ck p = len_is (sym (yes _ _ _ p))

  module _ (n : is_mark mark_ck s ≡ false) where
    pub len_lm : is_mark mark_lm s ≡ true → Sized s 10
    unfolding record_len
    len_lm p = len_is (sym (no _ _ _ n ∙ yes _ _ _ p))

    module _ (o : is_mark mark_lm s ≡ false) where
      marked_passes : marked_cut (mark_of s) s ≡ passed
      unfolding record_cut
      marked_passes = sym (no _ _ _ n ∙ no _ _ _ o) ∙ rest_none _ _ z

      pub message_passes : {k : Mark} → mark_of s ≡ Ok k → message_cut k s ≡ passed
      unfolding marked_cut
      message_passes e = rw e at marked_passes

      pub len_message : {k : Mark} {x : ℕ} → mark_of s ≡ Ok k → x ≡ message_len k s → Sized s x
      unfolding record_len marked_len
      len_message e q = len_is (q ∙ ap (λ (w : Result Mark Refusal). marked_len w s) (sym e) ∙ sym (no _ _ _ n ∙ no _ _ _ o))

      pub len_none : {r : Refusal} → mark_of s ≡ Err r → Sized s 0
      unfolding marked_cut
      len_none e = absurd (not_passed (rw e at marked_passes))
