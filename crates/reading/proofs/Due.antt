-- What a message tells that is read where one with its mark is due.
use Rattle.std.proofs.Common.{ℕ, ◌≤◌, ◌≡◌, refl, sym, ap, ◌∙◌, true, true≢false, is_err, List, [], length, Result, Ok, Err}
use Rattle.terms.specs.Checks.{Check, passed, or_else}
use Rattle.terms.specs.declared.Key.{Key}
use Rattle.terms.specs.declared.Refusal.{Refusal}
use Rattle.terms.specs.declared.Stamp.{Stamp}
use Rattle.records.specs.declared.Message.{Message}
use Rattle.records.specs.declared.Message.TheVariants.{PR as pr, LG as lg, DC as dc, RD as rd, IV as iv, LD as ld}
use Rattle.terms.specs.Group.{group_wrong}
use Rattle.terms.proofs.Checks.{together, first_none, rest_none, first_passed, not_less}
use Rattle.records.specs.declared.Mark.{Mark}
use Rattle.records.specs.declared.Mark.TheVariants.{PR, LG, DC, RD, IV, LD}
use Rattle.records.specs.declared.ViewMark.{ViewMark}
use Rattle.records.specs.Tx.{tx_of}
use Rattle.records.specs.Contents.{largest_key, tx_wrong, rd_wrong}
use Rattle.records.specs.Cutting.{carrier, tx_part, message_cut, rd_len}
use Rattle.records.specs.Messages.{rd_key, rd_stamp, message_of, contents_wrong, due_refusal, read_due, mark_of, refused_as, read_marked, read_marked_as, read_message, handed_by, handed_back}
use Rattle.reading.specs.Judging.{early, has_tx, list_wrong_behind}
use Rattle.reading.proofs.Cuts.{alone, TxCut, ListedCut, ViewedCut, parts_cut, pr_cuts, lg_cuts, dc_cuts, viewed_cuts, rd_long}

-- each check of a message that is not refused passed
module _ (k : Mark) (f : ℕ) (m : List ℕ) (z : due_refusal k f m ≡ passed) where
  pub due_group : group_wrong f ≡ passed
  unfolding due_refusal
  due_group = first_none _ _ z

  pub due_cut : message_cut k m ≡ passed
  unfolding due_refusal
  due_cut = first_none _ _ (rest_none _ _ z)

  pub due_contents : contents_wrong k f m ≡ passed
  unfolding due_refusal
  due_contents = rest_none _ _ (rest_none (message_cut k m) _ (rest_none (group_wrong f) _ z))

-- and so its bytes are there
module _ (f : ℕ) (m : List ℕ) where
  pub pr_due : due_refusal PR f m ≡ passed → TxCut m
  pr_due z = pr_cuts m (due_cut PR f m z)

  pub lg_due : due_refusal LG f m ≡ passed → ListedCut m
  lg_due z = lg_cuts m (due_cut LG f m z)

  pub dc_due : due_refusal DC f m ≡ passed → ListedCut m
  dc_due z = dc_cuts m (due_cut DC f m z)

  pub viewed_due : (k : ViewMark) → due_refusal (carrier k) f m ≡ passed → ViewedCut k m
  viewed_due k z = viewed_cuts k m (due_cut (carrier k) f m z)

  pub rd_due : due_refusal RD f m ≡ passed → (rd_len ≤ length m) × (rd_key m ≤ largest_key)
  unfolding contents_wrong rd_wrong
  rd_due z = (rd_long m (due_cut RD f m z), not_less _ _ _ (first_none _ _ (due_contents RD f m z)))

  -- any with a transaction
  pub tx_due : (k : Mark) → has_tx k ≡ true → due_refusal k f m ≡ passed → TxCut m
  tx_due k h z = let c = parts_cut m k h (due_cut k f m z) in (c.0, c.1)

  -- the chain of its refusals in two parts, and that of its contents
  pub due_chain : (k : Mark) → or_else (group_wrong f) (or_else (early k m) (contents_wrong k f m)) ≡ due_refusal k f m
  unfolding early due_refusal
  due_chain k = ap (or_else (group_wrong f)) (together (message_cut k m) _ _)

  pub read_chain : (k : Mark) → or_else (group_wrong f) (or_else (early k m) (or_else (contents_wrong k f m) (Ok (message_of k m)))) ≡ read_due k f m
  unfolding read_due
  read_chain k = sym (rw (← due_chain k) (together (group_wrong f) _ _ ∙ ap (or_else (group_wrong f)) (together (early k m) _ _)))

  pub contents_by : (k : Mark) → has_tx k ≡ true → or_else (tx_wrong (tx_of (tx_part m))) (list_wrong_behind k f m) ≡ contents_wrong k f m
  unfolding contents_wrong
  contents_by PR h = alone _
  contents_by LG h = refl
  contents_by DC h = refl
  contents_by RD h = absurd (cc)
  contents_by IV h = refl
  contents_by LD h = refl

  pub rd_contents : rd_wrong (rd_key m) (rd_stamp m) ≡ contents_wrong RD f m
  unfolding contents_wrong
  rd_contents = refl

-- ---- whoever holds the refusal itself reads what is read
as_itself : {A : Type 0} (x : Result A Refusal) → refused_as (λ r. r) x ≡ x
as_itself (Ok x) = refl
as_itself (Err r) = refl

pub marked_itself : (marked : Result Mark Refusal) (f : ℕ) (m : List ℕ) → read_marked_as (λ r. r) marked f m ≡ read_marked marked f m
unfolding read_marked_as read_marked
marked_itself (Ok k) f m = as_itself (read_due k f m)
marked_itself (Err r) f m = refl

-- ---- the part that is handed back
-- of a message that was read, whose check passed
rest_ok : {A : Type 0} (a : Check) (b : Result A Refusal) {x : A} → or_else a b ≡ Ok x → b ≡ Ok x
unfolding or_else
rest_ok (Ok _) b e = e
rest_ok (Err r) b e = absurd (true≢false (ap is_err e))

module _ (f : ℕ) (m : List ℕ) {x : Message} where
  marked_due : (marked : Result Mark Refusal) → read_marked marked f m ≡ Ok x → (k : Mark) × (read_due k f m ≡ Ok x)
  unfolding read_marked
  marked_due (Ok k) e = (k, e)
  marked_due (Err r) e = absurd (true≢false (ap is_err e))

  message_due : read_message f m ≡ Ok x → (k : Mark) × (due_refusal k f m ≡ passed) × (message_of k m ≡ x)
  unfolding read_message read_due
  message_due e =
      let d = marked_due (mark_of m) (rest_ok (group_wrong f) _ e) in
      let z = first_passed (due_refusal d.0 f m) _ _ d.1 in
      let o = rest_ok (due_refusal d.0 f m) _ d.1 in
      (d.0, z, cc)

  pub other_cut : read_message f m ≡ Ok x → ((k : Key) (s : Stamp) → x ≡ rd k s → ⊥) → TxCut m
  unfolding message_of
  other_cut e n = let d = message_due e in by d.0 d.1 d.2
    where
      by : (k : Mark) → due_refusal k f m ≡ passed → message_of k m ≡ x → TxCut m
      by PR z p = tx_due f m PR refl z
      by LG z p = tx_due f m LG refl z
      by DC z p = tx_due f m DC refl z
      by RD z p = absurd (n _ _ (sym p))
      by IV z p = tx_due f m IV refl z
      by LD z p = tx_due f m LD refl z

handed_other : (x : Message) (s : List ℕ) → ((k : Key) (t : Stamp) → x ≡ rd k t → ⊥) → s ≡ handed_by (Ok x) s
unfolding handed_by
handed_other (pr t) s n = refl
handed_other (lg t l) s n = refl
handed_other (dc t l) s n = refl
handed_other (rd k t) s n = absurd (n k t refl)
handed_other (iv t l) s n = refl
handed_other (ld t l) s n = refl

module _ (f : ℕ) (m : List ℕ) where
  pub handed_part : {x : Message} → read_message f m ≡ Ok x → ((k : Key) (s : Stamp) → x ≡ rd k s → ⊥) → tx_part m ≡ handed_back f m
  unfolding handed_back
  handed_part {x = x} e n = rw e (handed_other x (tx_part m) n)

  pub handed_rd : {k : Key} {s : Stamp} → read_message f m ≡ Ok (rd k s) → [] ≡ handed_back f m
  unfolding handed_back handed_by
  handed_rd e = rw e

  pub handed_none : {r : Refusal} → read_message f m ≡ Err r → [] ≡ handed_back f m
  unfolding handed_back handed_by
  handed_none e = rw e
