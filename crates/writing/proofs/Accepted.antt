-- Every byte string is accepted, or refused with one of the readers' numbers.
use Rattle.std.proofs.Common.{ℕ, ◌≡◌, refl, Bool, true, false, List, length, leb, ltb, eqb, ◌⊎◌, inl, inr, Ok, Err, Result}
use borrow.Author.Tests.{leb-true}
use Rattle.terms.specs.Choice.{pick}
use Rattle.terms.specs.Checks.{Check, or_else, when, if_less, if_same, if_other}
use Rattle.terms.specs.Group.{group_wrong}
use Rattle.terms.specs.Refusals.{number_of}
use Rattle.terms.specs.declared.Refusal.{Refusal}
use Rattle.records.specs.Contents.{counts_wrong, count_wrong, tx_wrong, code_wrong, list_wrong, log_list_wrong, views_wrong, rd_wrong}
use Rattle.records.specs.Cutting.{mark_wrong, tx_cut, vl_cut, views_cut, behind_wrong, listed_cut, viewed_cut, rest_cut, message_cut, mark_pr, mark_lg, mark_dc, mark_rd, mark_iv, mark_ld}
use Rattle.records.specs.Messages.{contents_wrong, due_refusal, read_due, is_mark, mark_of, read_marked, read_message}
use Rattle.records.specs.declared.Mark.{Mark}
use Rattle.records.specs.declared.Mark.TheVariants.{PR, LG, DC, RD, IV, LD}
use Rattle.writing.specs.OneForm.{Accepted, ReaderNumber, AcceptedOrRefused}

-- a value, or a refusal with one of the numbers
data Known {A : Type 0} : Result A Refusal → Type 0 where
  value : {x : A} → Known (Ok x)
  refusal : {r : Refusal} → ReaderNumber (number_of r) → Known (Err r)

low : {n : ℕ} → leb 1 n ≡ true → leb n 8 ≡ true → ReaderNumber n
low p q = inl (leb-true 1 _ p, leb-true _ 8 q)

group : {n : ℕ} → n ≡ 14 → ReaderNumber n
group e = inr e

or : {A : Type 0} (a : Check) (b : Result A Refusal) → Known a → Known b → Known (or_else a b)
unfolding or_else
or (Ok _) b p q = q
or (Err r) b (refusal k) q = refusal k

choose : {A : Type 0} (P : A → Type 0) (b : Bool) {x y : A} → P x → P y → P (pick b x y)
choose P true p q = p
choose P false p q = q

less : (a b : ℕ) (r : Refusal) → ReaderNumber (number_of r) → Known (if_less a b r)
unfolding if_less
less a b r k = choose Known (ltb a b) (refusal k) value

same : (a b : ℕ) (r : Refusal) → ReaderNumber (number_of r) → Known (if_same a b r)
unfolding if_same
same a b r k = choose Known (eqb a b) (refusal k) value

other : (a b : ℕ) (r : Refusal) → ReaderNumber (number_of r) → Known (if_other a b r)
unfolding if_other
other a b r k = choose Known (eqb a b) value (refusal k)

test : (b : Bool) (r : Refusal) → ReaderNumber (number_of r) → Known (when b r)
unfolding when
test b r k = choose Known b (refusal k) value

ruleset checks = (or, less, same, other, test, group, low)

due_known : (k : Mark) (f : ℕ) (m : List ℕ) → Known (due_refusal k f m)
unfolding due_refusal message_cut rest_cut listed_cut viewed_cut mark_wrong tx_cut vl_cut views_cut counts_wrong count_wrong behind_wrong contents_wrong tx_wrong code_wrong list_wrong log_list_wrong views_wrong rd_wrong group_wrong
due_known PR f m = search checks depth 40 fits 5000
due_known LG f m = search checks depth 40 fits 5000
due_known DC f m = search checks depth 40 fits 5000
due_known RD f m = search checks depth 40 fits 5000
due_known IV f m = search checks depth 40 fits 5000
due_known LD f m = search checks depth 40 fits 5000

group_known : (f : ℕ) → Known (group_wrong f)
unfolding group_wrong
group_known f = search checks

-- a mark that is none of the six has a number too
mark_known : (m : List ℕ) → Known (mark_of m)
unfolding mark_of
mark_known m =
    choose Known (ltb (length m) 2) (refusal (low refl refl))
    (choose Known (is_mark mark_pr m) value
    (choose Known (is_mark mark_lg m) value
    (choose Known (is_mark mark_dc m) value
    (choose Known (is_mark mark_rd m) value
    (choose Known (is_mark mark_iv m) value
    (choose Known (is_mark mark_ld m) value (refusal (low refl refl))))))))

-- ---- so of the whole
marked_known : (w : Result Mark Refusal) (f : ℕ) (m : List ℕ) → Known w → Known (read_marked w f m)
unfolding read_marked read_due
marked_known (Ok k) f m p = or _ _ (due_known k f m) value
marked_known (Err r) f m (refusal k) = refusal k

told : {A : Type 0} (r : Result A Refusal) → Known r → Accepted r ⊎ ((n : Refusal) × (ReaderNumber (number_of n) × (r ≡ Err n)))
told (Ok x) p = inl (x, refl)
told (Err r) (refusal k) = inr (r, (k, refl))

pub accepted_or_refused : AcceptedOrRefused
unfolding read_message
accepted_or_refused f m = told _ (or _ _ (group_known f) (marked_known (mark_of m) f m (mark_known m)))
