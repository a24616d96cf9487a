-- Each record has one form.
use Rattle.std.proofs.Common.{ℕ, suc, ◌+◌, ◌^◌, ◌<◌, ◌≤◌, ◌≡◌, refl, ap, sym, ◌∙◌, true≢false, List, [], ◌∷◌, ◌++◌, length, get_or, length-append, Ok, Err, is_err, Result, arith}
use mathlib.Core.List.{append-nil}
use borrow.Author.Tests.{le-ltb}
use lib.Seq.{take_all}
use Rattle.terms.specs.Checks.{Check, passed, or_else, when, if_less, if_same}
use Rattle.terms.specs.Group.{group_wrong}
use Rattle.terms.specs.declared.Refusal.{Refusal}
use Rattle.terms.proofs.Checks.{not_passed, less_no, first_none, rest_none, not_less}
use Rattle.records.specs.Numbers.{le_bytes, num_at}
use Rattle.records.specs.Tx.{Tx, tx_in, tx_of, tx_len, held_tx, tx_bytes, write_key, write_value}
use Rattle.records.specs.Vl.{Vl, view_of, list_in, held_list, vl_of, vl_bytes}
use Rattle.records.specs.Views.{Views, views_of, views_in, held_views, views_bytes}
use Rattle.records.specs.Contents.{counts_wrong, count_wrong, tx_wrong, code_wrong, list_wrong, log_list_wrong, views_wrong, rd_wrong, largest_key}
use Rattle.records.specs.Cutting.{tx_cut, mark_wrong, behind_wrong, rest_cut, message_cut, message_len, listed_cut, listed_len, viewed_cut, viewed_len, tx_part, mark_bytes, carrier, mark_pr, mark_lg, mark_dc, mark_rd, mark_iv, mark_ld}
use Rattle.records.specs.Messages.{tx_refusal, vl_refusal, views_refusal, read_tx, read_vl, read_views, list_behind, views_behind, rd_key, rd_stamp, message_of, contents_wrong, due_refusal, read_due, is_mark, mark_of, read_marked, read_message}
use Rattle.records.specs.Writing.{pr_bytes, listed_bytes, viewed_bytes, rd_bytes, listed_wrong}
use Rattle.records.specs.declared.Ballot.{Ballot}
use Rattle.records.specs.declared.Mark.{Mark}
use Rattle.records.specs.declared.Mark.TheVariants.{PR, LG, DC, RD, IV, LD}
use Rattle.records.specs.declared.Message.{Message as MessageRead}
use Rattle.records.specs.declared.Message.TheVariants.{PR as a_pr, LG as an_lg, DC as a_dc, RD as an_rd}
use Rattle.records.specs.declared.Transaction.{Transaction}
use Rattle.records.specs.declared.ViewMark.{ViewMark}
use Rattle.records.specs.declared.ViewMark.TheVariants.{VS, EL}
use Rattle.records.specs.declared.VoteList.{VoteList}
use Rattle.records.specs.declared.Write.{Write}
use Rattle.records.proofs.Held.{tx_in_lem, list_in_lem, view_once, views_in_lem, own_views_lem}
use Rattle.writing.specs.OneForm.{Bytes, Each, none, more, ViewFits, TxRight, ListRight, ViewsRight, Message, pr, listed, viewed, rd, its_mark, bytes_of, Right, listed_as, viewed_as, read_as, WrittenIsRead, written, ReadIsWritten, OneFormOf, OneForm}
use Rattle.writing.proofs.Fields.{num_at_lem}
use Rattle.writing.proofs.Cut.{both, behind_none, behind_told, mark_read, tx_len_read, tx_cut_read, tx_back, tx_again, vl_cut_read, vl_len_read, vl_back, vl_again, views_cut_read, views_len_read, views_back, views_again, tx_part_read, vl_part_read, pr_again, listed_again, viewed_again, rd_again}

-- ---- what is written is accepted
tx_accepted : (x : Tx) → TxRight x → tx_refusal (tx_bytes x) ≡ passed
unfolding tx_refusal
tx_accepted x r =
    let c : tx_cut (tx_bytes x) ≡ passed = rw (append-nil (tx_bytes x)) at (tx_cut_read x [] r.counts) in
    let l : tx_len (tx_bytes x) ≡ length (tx_bytes x) = rw (append-nil (tx_bytes x)) at (tx_len_read x []) in
    both c (both (behind_none _ _ (omega arith)) (ap tx_wrong (tx_back x r) ∙ r.contents))

vl_accepted : (f : ℕ) (l : Vl) → ListRight f l → vl_refusal f (vl_bytes l) ≡ passed
unfolding vl_refusal
vl_accepted f l r = both r.group (both (vl_cut_read l r.count) (both (behind_none _ _ (omega (arith, vl_len_read l))) (ap (list_wrong f) (vl_back l r.view) ∙ r.contents)))

views_accepted : (k : ViewMark) (f : ℕ) (l : Views) → ViewsRight k f l → views_refusal k f (views_bytes k l) ≡ passed
unfolding views_refusal
views_accepted k f l r = both r.group (both (views_cut_read k l r.count) (both (behind_none _ _ (omega (arith, views_len_read k l))) (ap (views_wrong k f) (views_back k f l r) ∙ r.contents)))

due_accepted : (k : Mark) (f : ℕ) (m : List ℕ) → group_wrong f ≡ passed → mark_wrong (mark_bytes k) m ≡ passed → rest_cut k m ≡ passed → behind_wrong (message_len k m) m ≡ passed → contents_wrong k f m ≡ passed → due_refusal k f m ≡ passed
unfolding due_refusal message_cut
due_accepted k f m g w c b t = both g (both (both w c) (both b t))

-- a message is read as what stands in it
due_read : (k : Mark) (f : ℕ) (m : List ℕ) {x : MessageRead} → due_refusal k f m ≡ passed → message_of k m ≡ x → read_due k f m ≡ Ok x
unfolding read_due or_else
due_read k f m z p = rw (z, p)

-- its TX, and what stands behind it
module _ (a b : ℕ) (x : Tx) (r : TxRight x) (post : List ℕ) where
  tx_found : tx_of (tx_part (a ∷ b ∷ (tx_bytes x ++ post))) ≡ x
  tx_found = ap tx_of (tx_part_read a b x post) ∙ tx_back x r

  none_behind : (n : ℕ) → n ≡ length post → behind_wrong (2 + tx_len (tx_bytes x ++ post) + n) (a ∷ b ∷ (tx_bytes x ++ post)) ≡ passed
  none_behind n e = behind_none _ _ (omega (arith, tx_len_read x post, length-append (tx_bytes x) post))

  tx_fine : tx_wrong (tx_of (tx_part (a ∷ b ∷ (tx_bytes x ++ post)))) ≡ passed
  tx_fine = ap tx_wrong tx_found ∙ r.contents

module _ (a b f : ℕ) (x : Tx) (l : Vl) (r : TxRight x) (q : ListRight f l) where
  abbrev both_parts : List ℕ
  both_parts = a ∷ b ∷ (tx_bytes x ++ vl_bytes l)

  list_found : list_behind both_parts ≡ l
  unfolding list_behind
  list_found = ap vl_of (vl_part_read a b x (vl_bytes l)) ∙ vl_back l q.view

  listed_cut_lem : listed_cut both_parts ≡ passed
  unfolding listed_cut
  listed_cut_lem = both (tx_cut_read x (vl_bytes l) r.counts) (rw (vl_part_read a b x (vl_bytes l)) (vl_cut_read l q.count))

  listed_behind : behind_wrong (listed_len both_parts) both_parts ≡ passed
  unfolding listed_len
  listed_behind = rw (vl_part_read a b x (vl_bytes l)) (none_behind a b x r (vl_bytes l) _ (vl_len_read l))

module _ (a b f : ℕ) (x : Tx) (k : ViewMark) (l : Views) (r : TxRight x) (q : ViewsRight k f l) where
  abbrev with_views : List ℕ
  with_views = a ∷ b ∷ (tx_bytes x ++ views_bytes k l)

  views_found : views_behind k with_views ≡ l
  unfolding views_behind
  views_found = ap (views_of k) (vl_part_read a b x (views_bytes k l)) ∙ views_back k f l q

  viewed_cut_lem : viewed_cut k with_views ≡ passed
  unfolding viewed_cut
  viewed_cut_lem = both (tx_cut_read x (views_bytes k l) r.counts) (rw (vl_part_read a b x (views_bytes k l)) (views_cut_read k l q.count))

  viewed_behind : behind_wrong (viewed_len k with_views) with_views ≡ passed
  unfolding viewed_len
  viewed_behind = rw (vl_part_read a b x (views_bytes k l)) (none_behind a b x r (views_bytes k l) _ (views_len_read k l))

  viewed_fine : or_else (tx_wrong (tx_of (tx_part with_views))) (views_wrong k f (views_behind k with_views)) ≡ passed
  viewed_fine = both (tx_fine a b x r (views_bytes k l)) (ap (views_wrong k f) views_found ∙ q.contents)

-- a PR is a TX with nothing behind it
pr_read : (f : ℕ) (x : Tx) → group_wrong f ≡ passed → TxRight x → read_due PR f (pr_bytes x) ≡ Ok (a_pr (held_tx x))
unfolding pr_bytes rest_cut message_len contents_wrong message_of
pr_read f x g r =
    let m : List ℕ = 80 ∷ 82 ∷ (tx_bytes x ++ []) in
    let e : mark_pr ++ tx_bytes x ≡ m = rw (append-nil (tx_bytes x)) in
    let n : behind_wrong (message_len PR m) m ≡ passed = behind_none _ _ (omega (arith, tx_len_read x [], length-append (tx_bytes x) [])) in
    rw e (due_read PR f m (due_accepted PR f m g (mark_read mark_pr _) (tx_cut_read x [] r.counts) n (tx_fine 80 82 x r [])) (ap (λ (t : Tx). a_pr (held_tx t)) (tx_found 80 82 x r [])))

same_list : (P : Transaction → VoteList → MessageRead) {x y : Tx} {l v : Vl} → x ≡ y → l ≡ v → P (held_tx x) (held_list l) ≡ P (held_tx y) (held_list v)
same_list P p q = rw (p, q)

listed_read : (k : Mark) (f : ℕ) (x : Tx) (l : Vl) → TxRight x → ListRight f l → listed_wrong k f l ≡ passed → read_due k f (listed_bytes k x l) ≡ listed_as k x l
unfolding listed_bytes listed_wrong rest_cut message_len contents_wrong message_of
listed_read PR f x l r q h = absurd (not_passed h)
listed_read LG f x l r q h =
    due_read LG f _
    (due_accepted LG f _ q.group (mark_read mark_lg _) (listed_cut_lem 76 71 f x l r q) (listed_behind 76 71 f x l r q) (both (tx_fine 76 71 x r _) (ap (log_list_wrong f) (list_found 76 71 f x l r q) ∙ h)))
    (same_list an_lg (tx_found 76 71 x r _) (list_found 76 71 f x l r q))
listed_read DC f x l r q h =
    due_read DC f _
    (due_accepted DC f _ q.group (mark_read mark_dc _) (listed_cut_lem 68 67 f x l r q) (listed_behind 68 67 f x l r q) (both (tx_fine 68 67 x r _) (ap (list_wrong f) (list_found 68 67 f x l r q) ∙ h)))
    (same_list a_dc (tx_found 68 67 x r _) (list_found 68 67 f x l r q))
listed_read RD f x l r q h = absurd (not_passed h)
listed_read IV f x l r q h = absurd (not_passed h)
listed_read LD f x l r q h = absurd (not_passed h)

-- the message that carries a VS, or an EL, by what it carries
record Carried (k : ViewMark) (f : ℕ) (m : List ℕ) : Type 0 where
  cut : rest_cut (carrier k) m ≡ viewed_cut k m
  long : message_len (carrier k) m ≡ viewed_len k m
  contents : contents_wrong (carrier k) f m ≡ or_else (tx_wrong (tx_of (tx_part m))) (views_wrong k f (views_behind k m))
  message : message_of (carrier k) m ≡ viewed_as k (tx_of (tx_part m)) (views_behind k m)

carried : (k : ViewMark) (f : ℕ) (m : List ℕ) → Carried k f m
unfolding rest_cut message_len contents_wrong message_of
carried VS f m = record { cut = refl; long = refl; contents = refl; message = refl }
carried EL f m = record { cut = refl; long = refl; contents = refl; message = refl }

mark_first : (k : ViewMark) (rest : List ℕ) → mark_bytes (carrier k) ++ rest ≡ get_or (mark_bytes (carrier k)) 0 0 ∷ get_or (mark_bytes (carrier k)) 1 0 ∷ rest
mark_first VS rest = refl
mark_first EL rest = refl

same_views : (k : ViewMark) {x y : Tx} {l v : Views} → x ≡ y → l ≡ v → viewed_as k x l ≡ viewed_as k y v
same_views k p q = rw (p, q)

viewed_read : (k : ViewMark) (f : ℕ) (x : Tx) (l : Views) → TxRight x → ViewsRight k f l → read_due (carrier k) f (viewed_bytes k x l) ≡ Ok (viewed_as k x l)
unfolding viewed_bytes
viewed_read k f x l r q =
    let a : ℕ = get_or (mark_bytes (carrier k)) 0 0 in
    let b : ℕ = get_or (mark_bytes (carrier k)) 1 0 in
    let m : List ℕ = a ∷ b ∷ (tx_bytes x ++ views_bytes k l) in
    let c : Carried k f m = carried k f m in
    let e : due_refusal (carrier k) f m ≡ passed =
    due_accepted (carrier k) f m q.group (mark_read (mark_bytes (carrier k)) _) (c.cut ∙ viewed_cut_lem a b f x k l r q)
    (ap (λ (n : ℕ). behind_wrong n m) c.long ∙ viewed_behind a b f x k l r q) (c.contents ∙ viewed_fine a b f x k l r q) in
    ap (read_due (carrier k) f) (mark_first k (tx_bytes x ++ views_bytes k l))
    ∙ due_read (carrier k) f m e (c.message ∙ same_views k (tx_found a b x r (views_bytes k l)) (views_found a b f x k l r q))

rd_read : (f n s : ℕ) → group_wrong f ≡ passed → rd_wrong n s ≡ passed → s < 256 ^ 8 → read_due RD f (rd_bytes n s) ≡ Ok (an_rd (record { 0 = n }) (record { 0 = s }))
unfolding rd_bytes rd_wrong rest_cut message_len contents_wrong message_of
rd_read f n s g h w =
    let m : List ℕ = mark_rd ++ (le_bytes 2 n ++ le_bytes 8 s) in
    let e : ((82 ∷ 68 ∷ []) ++ le_bytes 2 n) ++ (le_bytes 8 s ++ []) ≡ m = rw (append-nil (le_bytes 8 s)) in
    let t : n ≤ largest_key = not_less _ _ _ (first_none _ _ h) in
    let k : rd_key m ≡ n = num_at_lem 2 2 n mark_rd (le_bytes 8 s) refl (omega arith) in
    let j : rd_stamp m ≡ s = ap (λ (p : List ℕ). num_at 8 4 p) (sym e) ∙ num_at_lem 8 4 s ((82 ∷ 68 ∷ []) ++ le_bytes 2 n) [] refl w in
    due_read RD f m (due_accepted RD f m g (mark_read mark_rd _) (less_no _ _ _ (omega arith)) (behind_none _ _ (omega arith)) (rw (k, j) h)) (rw (k, j))

-- where any message is due, its mark is found
mark_found : (k : Mark) (rest : List ℕ) → mark_of (mark_bytes k ++ rest) ≡ Ok k
unfolding mark_of is_mark
mark_found PR rest = rw (le-ltb (suc (suc (length rest))) 2 (omega arith))
mark_found LG rest = rw (le-ltb (suc (suc (length rest))) 2 (omega arith))
mark_found DC rest = rw (le-ltb (suc (suc (length rest))) 2 (omega arith))
mark_found RD rest = rw (le-ltb (suc (suc (length rest))) 2 (omega arith))
mark_found IV rest = rw (le-ltb (suc (suc (length rest))) 2 (omega arith))
mark_found LD rest = rw (le-ltb (suc (suc (length rest))) 2 (omega arith))

its_mark_lem : (m : Message) → mark_of (bytes_of m) ≡ Ok (its_mark m)
unfolding pr_bytes listed_bytes viewed_bytes rd_bytes
its_mark_lem (pr x) = mark_found PR _
its_mark_lem (listed k x l) = mark_found k _
its_mark_lem (viewed k x l) = mark_found (carrier k) _
its_mark_lem (rd n s) = mark_found RD _

-- ---- what is written is read
due_back : (f : ℕ) (m : Message) → group_wrong f ≡ passed → Right f m → read_due (its_mark m) f (bytes_of m) ≡ read_as m
due_back f (pr x) g r = pr_read f x g r
due_back f (listed k x l) g r = listed_read k f x l r.0 r.1 r.2
due_back f (viewed k x l) g r = viewed_read k f x l r.0 r.1
due_back f (rd n s) g r = rd_read f n s g r.0 r.1

pub written_is_read : WrittenIsRead
unfolding read_tx read_vl read_views read_message read_marked or_else
written_is_read =
    record {
      tx = λ x r. rw (tx_accepted x r, tx_back x r);
      vl = λ f l r. rw (vl_accepted f l r, vl_back l r.view);
      views = λ k f l r. rw (views_accepted k f l r, views_back k f l r);
      due = due_back;
      message = λ f m g r. rw (g, its_mark_lem m) (due_back f m g r);
    }

-- ---- what is accepted, written again, is the same bytes
module _ {A : Type 0} where
  never : {r : Refusal} {x : A} → Err r ≡ Ok x → ⊥
  never e = true≢false (ap is_err e)

  -- a value passed its checks, and stands behind them
  rest_told : (c : Check) (b : Result A Refusal) {x : A} → or_else c b ≡ Ok x → b ≡ Ok x
  unfolding or_else
  rest_told (Ok _) b e = e
  rest_told (Err r) b e = absurd (never e)

  told : (c : Check) (y : A) {x : A} → or_else c (Ok y) ≡ Ok x → (c ≡ passed) × (y ≡ x)
  unfolding or_else
  told (Ok _) y e = (refl, cc)
  told (Err r) y e = absurd (never e)

due_parts : (k : Mark) (f : ℕ) (m : List ℕ) → due_refusal k f m ≡ passed → (mark_wrong (mark_bytes k) m ≡ passed) × (rest_cut k m ≡ passed) × (length m ≤ message_len k m)
unfolding due_refusal message_cut
due_parts k f m e =
    let c = rest_none _ _ e in
    let t = first_none _ _ c in
    (first_none _ _ t, rest_none _ _ t, behind_told _ m (first_none _ _ (rest_none _ _ c)))

-- a list that was read is what its struct holds, and so are views
list_kept : (s : List ℕ) → list_in (held_list (vl_of s)) ≡ vl_of s
unfolding vl_of
list_kept s = list_in_lem (vl_of s) (view_once (get_or s 2 0) (num_at 2 5 s))

views_kept : (k : ViewMark) (s : List ℕ) → views_in k (held_views (views_of k s)) ≡ views_of k s
views_kept k s = views_in_lem k (views_of k s) (own_views_lem k s)

by_mark : (k : Mark) (m : List ℕ) → Bytes m → (mark_wrong (mark_bytes k) m ≡ passed) × (rest_cut k m ≡ passed) × (length m ≤ message_len k m) → written (message_of k m) ≡ m
unfolding rest_cut message_len listed_bytes viewed_bytes list_behind views_behind message_of
by_mark PR m h p = rw tx_in_lem (pr_again m h p.0 p.1 p.2)
by_mark LG m h p = rw (tx_in_lem, list_kept) (listed_again mark_lg m h p.0 p.1 p.2)
by_mark DC m h p = rw (tx_in_lem, list_kept) (listed_again mark_dc m h p.0 p.1 p.2)
by_mark RD m h p = let l : 12 ≤ length m = not_less _ _ _ p.1 in let b = p.2 in rd_again m h p.0 (omega arith)
by_mark IV m h p = rw (tx_in_lem, views_kept VS) (viewed_again VS mark_iv m h p.0 p.1 p.2)
by_mark LD m h p = rw (tx_in_lem, views_kept EL) (viewed_again EL mark_ld m h p.0 p.1 p.2)

due_again : (k : Mark) (f : ℕ) (m : List ℕ) → Bytes m → (x : MessageRead) → read_due k f m ≡ Ok x → written x ≡ m
unfolding read_due
due_again k f m h x e = let t = told _ _ e in ap written (sym t.1) ∙ by_mark k m h (due_parts k f m t.0)

-- an accepted message was read by its mark
marked_again : (w : Result Mark Refusal) (f : ℕ) (m : List ℕ) → Bytes m → (x : MessageRead) → read_marked w f m ≡ Ok x → written x ≡ m
unfolding read_marked
marked_again (Ok k) f m h x e = due_again k f m h x e
marked_again (Err r) f m h x e = absurd (never e)

message_again : (f : ℕ) (m : List ℕ) → Bytes m → (x : MessageRead) → read_message f m ≡ Ok x → written x ≡ m
unfolding read_message
message_again f m h x e = marked_again (mark_of m) f m h x (rest_told _ _ e)

tx_written : (s : List ℕ) → Bytes s → tx_refusal s ≡ passed → tx_bytes (tx_of s) ≡ s
unfolding tx_refusal
tx_written s h e = rw (take_all (tx_len s) s (behind_told _ s (first_none _ _ (rest_none _ _ e)))) at (tx_again s h (first_none _ _ e))

vl_written : (f : ℕ) (s : List ℕ) → Bytes s → vl_refusal f s ≡ passed → vl_bytes (vl_of s) ≡ s
unfolding vl_refusal
vl_written f s h e = let c = rest_none _ _ e in vl_again s h (first_none _ _ c) (behind_told _ s (first_none _ _ (rest_none _ _ c)))

views_written : (k : ViewMark) (f : ℕ) (s : List ℕ) → Bytes s → views_refusal k f s ≡ passed → views_bytes k (views_of k s) ≡ s
unfolding views_refusal
views_written k f s h e = let c = rest_none _ _ e in views_again k s h (first_none _ _ c) (behind_told _ s (first_none _ _ (rest_none _ _ c)))

pub read_is_written : ReadIsWritten
unfolding read_tx read_vl read_views
read_is_written =
    record {
      tx = λ s h x e. let t = told _ _ e in ap (λ y. tx_bytes (tx_in y)) (sym t.1) ∙ (rw tx_in_lem (tx_written s h t.0));
      vl = λ f s h l e. let t = told _ _ e in ap (λ y. vl_bytes (list_in y)) (sym t.1) ∙ (rw list_kept (vl_written f s h t.0));
      views = λ k f s h l e. let t = told _ _ e in ap (λ y. views_bytes k (views_in k y)) (sym t.1) ∙ (rw (views_kept k) (views_written k f s h t.0));
      due = due_again;
      message = message_again;
    }

-- ---- so each has one form
same_bytes : {A : Type 0} (read : List ℕ → Result A Refusal) (bytes : A → List ℕ) → ((s : List ℕ) → Bytes s → (x : A) → read s ≡ Ok x → bytes x ≡ s) → OneFormOf read
same_bytes read bytes again s t p q a e = sym (again s p a.0 a.1) ∙ again t q a.0 (sym e ∙ a.1)

pub one_form : OneForm
one_form =
    record {
      tx = same_bytes read_tx (λ x. tx_bytes (tx_in x)) read_is_written.tx;
      vl = λ f. same_bytes (read_vl f) (λ l. vl_bytes (list_in l)) (read_is_written.vl f);
      views = λ k f. same_bytes (read_views k f) (λ l. views_bytes k (views_in k l)) (read_is_written.views k f);
      due = λ k f. same_bytes (read_due k f) written (read_is_written.due k f);
      message = λ f. same_bytes (read_message f) written (read_is_written.message f);
    }

-- the theorems' premise can be met: a transaction in order
abbrev example : Write
example = record { key = record { 0 = 3 }; value = 7 }

pub in_order : TxRight (record { stamp = 50; reads = []; writes = example ∷ [] })
unfolding counts_wrong tx_wrong or_else when if_less if_same
in_order =
    let k : write_key example < 256 ^ 2 = omega arith in
    let v : write_value example < 256 ^ 8 = omega arith in
    record { counts = refl; contents = refl; stamp = omega arith; reads = none; writes = more (k, v) none }

-- and a list of logs with its view
pub list_in_order : ListRight 1 (record { kind = 2; decision = 1; view = 65535; pairs = record { number = 5; answer = 2 } ∷ [] })
unfolding group_wrong count_wrong list_wrong code_wrong or_else when if_less if_same view_of
list_in_order = record { group = refl; count = refl; contents = refl; view = (refl, omega arith) }

-- and a VS and an EL, each with the last view
abbrev last_view : ℕ → Ballot
last_view answer = record { number = 5; answer = answer; view = record { 0 = 65535 } }

last_fits : (answer : ℕ) → Each ViewFits (last_view answer ∷ [])
last_fits answer = let v : ViewFits (last_view answer) = omega arith in more v none

pub views_in_order : ViewsRight VS 1 (record { leader = 0; decision = 0; view = 0; ballots = last_view 0 ∷ [] })
unfolding group_wrong count_wrong views_wrong or_else when if_less if_same
views_in_order = record { group = refl; count = refl; contents = refl; own = refl; view = omega arith; ballots = last_fits 0 }

pub answers_in_order : ViewsRight EL 1 (record { leader = 5; decision = 1; view = 65535; ballots = last_view 2 ∷ [] })
unfolding group_wrong count_wrong views_wrong code_wrong or_else when if_less if_same
answers_in_order = record { group = refl; count = refl; contents = refl; own = refl; view = omega arith; ballots = last_fits 2 }
