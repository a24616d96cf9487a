-- What a cut that passed tells: the bytes are there, and the counts fit.
use Rattle.std.proofs.Common.{ℕ, ◌+◌, ◌≤◌, ◌≡◌, refl, sym, ◌∙◌, Bool, true, false, true≢false, ap, List, take, drop, length, length-take, arith, Ok, Err, is_err}
use lib.Seq.{get_or-take}
use lib.ListN.{get_or}
use denote.Enum.Bare.{sameb}
use Rattle.records.specs.contracts.Mark as M
use Rattle.terms.specs.Checks.{Check, passed, or_else, if_less, short}
use Rattle.terms.specs.declared.Group.{Group}
use Rattle.terms.specs.declared.Refusal.{Refusal}
use Rattle.terms.specs.Group.{group_wrong, group_of}
use Rattle.terms.proofs.Checks.{first_none, rest_none, not_less}
use Rattle.records.specs.declared.Mark.{Mark}
use Rattle.records.specs.declared.Mark.TheVariants.{PR, LG, DC, RD, IV, LD}
use Rattle.records.specs.declared.ViewMark.{ViewMark}
use Rattle.records.specs.declared.ViewMark.TheVariants.{VS, EL}
use Rattle.records.specs.Tx.{r_count, w_count, tx_len, TxThere}
use Rattle.records.specs.Vl.{VlThere}
use Rattle.records.specs.Views.{ballots_from, views_count, views_len, ViewsThere}
use Rattle.records.proofs.Held.{view_short}
use Rattle.records.specs.Contents.{counts_wrong, count_wrong}
use Rattle.records.specs.Cutting.{mark_wrong, tx_cut, vl_cut, views_cut, behind_mark, carrier, tx_part, list_part, listed_cut, viewed_cut, rest_cut, message_cut, listed_len, viewed_len, message_len, rd_len}
use Rattle.reading.specs.Judging.{early, has_tx, list_cut, list_len}

few : (r w : ℕ) → counts_wrong r w ≡ passed → (r ≤ 8) × (w ≤ 8)
unfolding counts_wrong
few r w e = (not_less _ _ _ (first_none _ _ e), not_less _ _ _ (first_none _ _ (rest_none _ _ e)))

few_pairs : (n : ℕ) → count_wrong n ≡ passed → n ≤ 26
unfolding count_wrong
few_pairs n e = not_less _ _ _ (rest_none _ _ e)

pub mark_long : (due s : List ℕ) → mark_wrong due s ≡ passed → 2 ≤ length s
unfolding mark_wrong
mark_long due s z = not_less _ _ _ (first_none _ _ z)

pub tx_long : (s : List ℕ) → tx_cut s ≡ passed → 4 ≤ length s
unfolding tx_cut
tx_long s z = not_less _ _ _ (first_none _ _ (rest_none _ _ z))

pub tx_there : (s : List ℕ) → tx_cut s ≡ passed → TxThere s
unfolding tx_cut
tx_there s z =
    let b : or_else (counts_wrong (r_count s) (w_count s)) (if_less (length s) (tx_len s) short) ≡ passed = rest_none _ _ (rest_none _ _ z) in
    let f : (r_count s ≤ 8) × (w_count s ≤ 8) = few _ _ (first_none _ _ b) in
    (f.0, f.1, not_less _ _ _ (rest_none _ _ b))

-- a list: its mark, the bytes up to its count, the count, the rest
module _ (m : Check) (l n c w : ℕ) (z : or_else m (or_else (if_less l n short) (or_else (count_wrong c) (if_less l w short))) ≡ passed) where
  fixed_there : n ≤ l
  fixed_there = not_less _ _ _ (first_none _ _ (rest_none _ _ z))

  all_there : (c ≤ 26) × (w ≤ l)
  all_there =
      let b : or_else (count_wrong c) (if_less l w short) ≡ passed = rest_none _ _ (rest_none _ _ z) in
      (few_pairs _ (first_none _ _ b), not_less _ _ _ (rest_none _ _ b))

pub vl_long : (s : List ℕ) → vl_cut s ≡ passed → 5 ≤ length s
unfolding vl_cut
vl_long s z = fixed_there _ _ _ _ _ z

pub vl_there : (s : List ℕ) → vl_cut s ≡ passed → VlThere s
unfolding vl_cut
vl_there s z = all_there _ _ _ _ _ z

pub views_long : (k : ViewMark) (s : List ℕ) → views_cut k s ≡ passed → ballots_from k ≤ length s
unfolding views_cut
views_long k s z = fixed_there _ _ _ _ _ z

pub views_there : (k : ViewMark) (s : List ℕ) → views_cut k s ≡ passed → ViewsThere k s
unfolding views_cut
views_there k s z = all_there _ _ _ _ _ z

pub views_short : (k : ViewMark) (s : List ℕ) → views_count k s ≤ 26 → views_len k s ≤ 111
views_short VS s h = omega arith
views_short EL s h = omega arith

pub list_short : (k : Mark) (s : List ℕ) → list_cut k s ≡ passed → list_len k s ≤ 111
list_short PR s z = omega arith
list_short LG s z = let v = view_short (get_or s 2 0) in let h = vl_there s z in omega arith
list_short DC s z = let v = view_short (get_or s 2 0) in let h = vl_there s z in omega arith
list_short RD s z = omega arith
list_short IV s z = views_short VS s (views_there VS s z).0
list_short LD s z = views_short EL s (views_there EL s z).0

-- the front of a TX that is there has the same counts, and is there
pub front_there : (s : List ℕ) → TxThere s → TxThere (take (tx_len s) s)
front_there s h =
    let a : r_count (take (tx_len s) s) ≡ r_count s = get_or-take (tx_len s) s 2 0 (omega arith) in
    let b : w_count (take (tx_len s) s) ≡ w_count s = get_or-take (tx_len s) s 3 0 (omega arith) in
    let l : length (take (tx_len s) s) ≡ tx_len s = simp length-take (omega arith) in
    (rw a h.0, rw b h.1, rw (a, b, l) (omega arith))

-- the parts of a message behind its mark
module _ (m : List ℕ) (cut : tx_cut (behind_mark m) ≡ passed) where
  pub part_is : (s : List ℕ) (n : ℕ) → s ≡ behind_mark m → n ≡ tx_len s → (take n s ≡ tx_part m) × TxThere (take n s)
  unfolding tx_part
  part_is s n p q =
      let w : take n s ≡ take (tx_len (behind_mark m)) (behind_mark m) = rw (q, p) in
      (w, rw w (front_there (behind_mark m) (tx_there _ cut)))

pub rest_is : (m : List ℕ) → drop (tx_len (behind_mark m)) (behind_mark m) ≡ list_part m
unfolding list_part
rest_is m = refl

-- ---- the whole messages
abbrev pub TxCut : List ℕ → Type 0
TxCut m = (2 ≤ length m) × (tx_cut (behind_mark m) ≡ passed)

abbrev pub ListedCut : List ℕ → Type 0
ListedCut m = (2 ≤ length m) × (tx_cut (behind_mark m) ≡ passed) × (vl_cut (list_part m) ≡ passed)

abbrev pub ViewedCut : ViewMark → List ℕ → Type 0
ViewedCut k m = (2 ≤ length m) × (tx_cut (behind_mark m) ≡ passed) × (views_cut k (list_part m) ≡ passed)

-- an RD, and any other, which has a transaction
pub rd_is : (k : Mark) {b : Bool} → b ≡ sameb M.the_type k RD → b ≡ true → k ≡ RD
rd_is PR p q = absurd (true≢false (sym q ∙ p))
rd_is LG p q = absurd (true≢false (sym q ∙ p))
rd_is DC p q = absurd (true≢false (sym q ∙ p))
rd_is RD p q = refl
rd_is IV p q = absurd (true≢false (sym q ∙ p))
rd_is LD p q = absurd (true≢false (sym q ∙ p))

pub other_has : (k : Mark) {b : Bool} → b ≡ sameb M.the_type k RD → b ≡ false → has_tx k ≡ true
other_has PR p q = refl
other_has LG p q = refl
other_has DC p q = refl
other_has RD p q = absurd (true≢false (sym p ∙ q))
other_has IV p q = refl
other_has LD p q = refl

-- a chain that ends with a check that passes
-- and is it, and what stands behind it
pub alone : (a : Check) → or_else a passed ≡ a
unfolding or_else
alone (Ok tt) = refl
alone (Err r) = refl

module _ (m : List ℕ) where
  pub rest_by : (k : Mark) → has_tx k ≡ true → or_else (tx_cut (behind_mark m)) (list_cut k (list_part m)) ≡ rest_cut k m
  unfolding rest_cut listed_cut viewed_cut
  rest_by PR h = alone _
  rest_by LG h = refl
  rest_by DC h = refl
  rest_by RD h = absurd (cc)
  rest_by IV h = refl
  rest_by LD h = refl

  pub len_by : (k : Mark) → has_tx k ≡ true → 2 + tx_len (behind_mark m) + list_len k (list_part m) ≡ message_len k m
  unfolding message_len listed_len viewed_len
  len_by PR h = omega arith
  len_by LG h = refl
  len_by DC h = refl
  len_by RD h = absurd (cc)
  len_by IV h = refl
  len_by LD h = refl

  pub rd_rest : if_less (length m) rd_len short ≡ rest_cut RD m
  unfolding rest_cut
  rd_rest = refl

  pub rd_whole : rd_len ≡ message_len RD m
  unfolding message_len
  rd_whole = refl

  pub message_long : (k : Mark) → message_cut k m ≡ passed → 2 ≤ length m
  unfolding message_cut
  message_long k z = mark_long _ _ (first_none _ _ z)

  rest_cut_lem : (k : Mark) → message_cut k m ≡ passed → rest_cut k m ≡ passed
  unfolding message_cut
  rest_cut_lem k z = rest_none _ _ z

  pub parts_cut : (k : Mark) → has_tx k ≡ true → message_cut k m ≡ passed → (2 ≤ length m) × (tx_cut (behind_mark m) ≡ passed) × (list_cut k (list_part m) ≡ passed)
  parts_cut k h z = let c = rest_by k h ∙ rest_cut_lem k z in (message_long k z, first_none _ _ c, rest_none _ _ c)

  pub pr_cuts : message_cut PR m ≡ passed → TxCut m
  pr_cuts z = let c = parts_cut PR refl z in (c.0, c.1)

  pub lg_cuts : message_cut LG m ≡ passed → ListedCut m
  lg_cuts z = parts_cut LG refl z

  pub dc_cuts : message_cut DC m ≡ passed → ListedCut m
  dc_cuts z = parts_cut DC refl z

  pub rd_long : message_cut RD m ≡ passed → rd_len ≤ length m
  rd_long z = not_less _ _ _ (rd_rest ∙ rest_cut_lem RD z)

pub viewed_cuts : (k : ViewMark) (m : List ℕ) → message_cut (carrier k) m ≡ passed → ViewedCut k m
viewed_cuts VS m z = parts_cut m IV refl z
viewed_cuts EL m z = parts_cut m LD refl z

-- what passes before the contents
pub early_cut : (k : Mark) (m : List ℕ) → early k m ≡ passed → message_cut k m ≡ passed
unfolding early
early_cut k m z = first_none _ _ z

-- where a value with a check in front is refused, the check refuses
pub or_err : {A : Type 0} (a : Check) (x : A) {r : Refusal} → or_else a (Ok x) ≡ Err r → a ≡ Err r
unfolding or_else
or_err (Ok _) x q = absurd (true≢false (ap is_err (sym q)))
or_err (Err r) x q = cc

-- a group that was told, and one that was refused
module _ (f : ℕ) where
  ok_by : {g : Group} (c : Check) → group_wrong f ≡ c → or_else c (Ok (record { f = f })) ≡ Ok g → (group_wrong f ≡ passed) × (g.f ≡ f)
  unfolding or_else
  ok_by (Ok _) p q = (p, cc)
  ok_by (Err r) p q = absurd (true≢false (ap is_err q))

  pub group_ok : {g : Group} → group_of f ≡ Ok g → (group_wrong f ≡ passed) × (g.f ≡ f)
  unfolding group_of
  group_ok e = ok_by (group_wrong f) refl e

  pub group_err : {r : Refusal} → group_of f ≡ Err r → group_wrong f ≡ Err r
  unfolding group_of
  group_err e = or_err _ _ e
