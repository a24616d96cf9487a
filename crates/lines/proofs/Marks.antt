-- The marks by their cases.
use Prim.Native.Nat.{ℕ, ◌≤◌}
use native.Mathlib.Omega.{arith}
use native.Mathlib.Nat.{le_of_eq}
use mathlib.Core.Path.{◌≡◌, refl}
use mathlib.Core.Bool.{Bool, true, false, ◌||◌}
use mathlib.Core.List.{List}
use lib.ListN.{length, take}
use lib.Seq.{length-take-le}
use lib.Dec.{ltb}
use borrow.Author.Tests.{ltb-false}
use Rattle.terms.specs.Choice.{pick}
use Rattle.records.specs.Messages.{is_mark, mark_of}
use Rattle.lines.specs.Lines.{mark_gp, mark_ck, mark_lm, no_mark, is_message, known, mark_text}

module _ (s : List ℕ) where
  -- a mark that is known is not cut
  pub known_long : known s ≡ true → 2 ≤ length s
  unfolding known
  known_long e = by (ltb (length s) 2) refl e
    where
      by : (t : Bool) → ltb (length s) 2 ≡ t → pick t false (is_mark mark_gp s || (is_mark mark_ck s || (is_mark mark_lm s || is_message (mark_of s)))) ≡ true → 2 ≤ length s
      by true p q = absurd (let z : ◌≡◌ {A = ℕ} 0 1 = cc in omega arith)
      by false p q = ltb-false (length s) 2 p

  -- ---- the mark that is put down
  pub mark_known : known s ≡ true → (take 2 s ≡ mark_text s) × (length (take 2 s) ≤ 2)
  unfolding mark_text
  mark_known e = (rw e, le_of_eq (length-take-le 2 s (known_long e)))

  pub mark_other : known s ≡ false → no_mark ≡ mark_text s
  unfolding mark_text
  mark_other e = rw e
