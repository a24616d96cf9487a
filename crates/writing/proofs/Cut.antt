-- Cutting: what was written is cut where it was joined, and what passed the cutting is made of its parts.
use Rattle.std.proofs.Common.{Err}
use Prim.Native.Nat.{ℕ, ◌+◌, ◌*◌, ◌-◌, ◌^◌, ◌<◌, ◌≤◌}
use native.Mathlib.Omega.{arith}
use mathlib.Core.Bool.{Bool, true, false}
use mathlib.Core.Path.{◌≡◌, refl, ap, sym, ◌∙◌}
use mathlib.Core.List.{List, [], ◌∷◌, ◌++◌, map, append-nil}
use borrow.Author.Tests.{eqb-true}
use lib.Dec.{eqb}
use lib.ListN.{length, get_or, take, drop, length-append, length-drop, take-append-drop}
use lib.Seq.{take_at, drop_at, take_all, take-add, drop-drop, get_or-take, length-take-le}
use Rattle.terms.specs.Choice.{pick, tab}
use Rattle.terms.specs.declared.Refusal.{Refusal}
use Rattle.terms.specs.Checks.{Check, passed, or_else, if_other}
use Rattle.terms.proofs.Checks.{not_passed, pass, less_no, other_no, not_less, first_none, rest_none}
use Rattle.terms.proofs.Scans.{tab_length}
use Rattle.records.specs.Numbers.{le_bytes, num_at}
use Rattle.records.specs.Tx.{Tx, tx_of, tx_bytes, tx_len, read_at, write_at, flat, read_key, read_version, write_key, write_value, mark_tx}
use Rattle.records.specs.Vl.{Vl, view_len, view_of, view_bytes, vl_of, vl_bytes, vl_len, flat_pairs, pair_at, mark_vl}
use Rattle.records.specs.Views.{Views, mark_vs, mark_el, view_mark_bytes, ballots_from, ballot_len, views_count, views_len, ballot_at, views_of, led_bytes, flat_ballots, views_bytes, own_number, own_ballot}
use Rattle.records.specs.Contents.{counts_wrong, count_wrong}
use Rattle.records.specs.Cutting.{mark_wrong, tx_cut, vl_cut, views_cut, behind_wrong, listed_cut, listed_len, viewed_cut, viewed_len, tx_part, list_part, mark_pr, mark_rd}
use Rattle.records.specs.Writing.{pr_bytes, rd_bytes}
use Rattle.records.specs.Messages.{rd_key, rd_stamp, list_behind, views_behind}
use Rattle.records.specs.declared.Read.{Read}
use Rattle.records.specs.declared.ViewMark.{ViewMark}
use Rattle.records.specs.declared.ViewMark.TheVariants.{VS, EL}
use Rattle.records.specs.declared.Write.{Write}
use Rattle.writing.specs.OneForm.{Bytes, TxRight, ViewRight, ViewsRight}
use Rattle.writing.proofs.Lengths.{flat_long, tx_long, view_long, list_long, views_long}
use Rattle.writing.proofs.Fields.{num_at_lem, num_back, bytes_take, bytes_drop, items_read, items_written, view_read, view_written, pairs_read, pairs_written, ballots_read, ballots_written}

-- two checks that pass; two numbers that a check finds equal
pub both : {a b : Check} → a ≡ passed → b ≡ passed → or_else a b ≡ passed
both p q = sym (pass p (sym q))

alike : (a b : ℕ) (r : Refusal) → if_other a b r ≡ passed → a ≡ b
unfolding if_other
alike a b r e = by (eqb a b) refl e
  where
    by : (t : Bool) → eqb a b ≡ t → pick t passed (Err r) ≡ passed → a ≡ b
    by true p q = eqb-true a b p
    by false p q = absurd (not_passed q)

pub behind_none : (n : ℕ) (s : List ℕ) → length s ≤ n → behind_wrong n s ≡ passed
unfolding behind_wrong
behind_none n s h = less_no _ _ _ h

pub behind_told : (n : ℕ) (s : List ℕ) → behind_wrong n s ≡ passed → length s ≤ n
unfolding behind_wrong
behind_told n s e = not_less _ _ _ e

-- ---- a mark
pub mark_read : (due rest : List ℕ) → mark_wrong due (get_or due 0 0 ∷ get_or due 1 0 ∷ rest) ≡ passed
unfolding mark_wrong
mark_read due rest = both (less_no _ _ _ (omega arith)) (both (other_no _ _ _ refl) (other_no _ _ _ refl))

pub mark_told : (due m : List ℕ) → mark_wrong due m ≡ passed → get_or due 0 0 ∷ get_or due 1 0 ∷ drop 2 m ≡ m
unfolding mark_wrong
mark_told due [] e = absurd (let h = not_less _ _ _ (first_none _ _ e) in omega arith)
mark_told due (a ∷ []) e = absurd (let h = not_less _ _ _ (first_none _ _ e) in omega arith)
mark_told due (a ∷ b ∷ m) e =
    let p : a ≡ get_or due 0 0 = alike _ _ _ (first_none _ _ (rest_none _ _ e)) in
    let q : b ≡ get_or due 1 0 = alike _ _ _ (rest_none _ _ (rest_none _ _ e)) in
    rw (p, q)

-- ---- a TX, with anything behind it
module _ (x : Tx) (post : List ℕ) where
  pub tx_len_read : tx_len (tx_bytes x ++ post) ≡ length (tx_bytes x)
  unfolding tx_bytes
  tx_len_read = sym (tx_long x)

  pub tx_cut_read : counts_wrong (length x.reads) (length x.writes) ≡ passed → tx_cut (tx_bytes x ++ post) ≡ passed
  unfolding tx_cut tx_bytes
  tx_cut_read h =
      let l : 12 + 10 * (length x.reads + length x.writes) ≤ length (tx_bytes x ++ post) = omega (arith, length-append (tx_bytes x) post, tx_long x) in
      both (mark_read mark_tx _) (both (less_no _ _ _ (omega arith)) (both h (less_no _ _ _ l)))

abbrev read_of : ℕ → ℕ → Read
read_of a b = record { key = record { 0 = a }; version = record { 0 = b } }

abbrev write_of : ℕ → ℕ → Write
write_of a b = record { key = record { 0 = a }; value = b }

fields : {a b : ℕ} {c d : List Read} {e f : List Write} → a ≡ b → c ≡ d → e ≡ f → ◌≡◌ {A = Tx} (record { stamp = a; reads = c; writes = e }) (record { stamp = b; reads = d; writes = f })
fields p q r = cc

pub tx_back : (x : Tx) → TxRight x → tx_of (tx_bytes x) ≡ x
unfolding tx_of tx_bytes read_at write_at
tx_back x f =
    let r : ℕ = length x.reads in
    let w : ℕ = length x.writes in
    let pre : List ℕ = 84 ∷ 88 ∷ r ∷ w ∷ [] in
    let pre2 : List ℕ = pre ++ le_bytes 8 x.stamp in
    let reads : List ℕ = flat read_key read_version x.reads in
    let writes : List ℕ = flat write_key write_value x.writes in
    let a : num_at 8 4 (tx_bytes x) ≡ x.stamp = num_at_lem 8 4 x.stamp pre (reads ++ writes) refl f.stamp in
    let b : tab (read_at (tx_bytes x) 12) 0 r ≡ x.reads = items_read read_key read_version read_of (λ y. refl) x.reads pre2 writes 12 refl f.reads in
    let e : tx_bytes x ≡ (pre2 ++ reads) ++ (writes ++ []) = simp append-nil in
    let l : length (pre2 ++ reads) ≡ 12 + r * 10 = length-append pre2 reads ∙ (omega (arith, flat_long read_key read_version x.reads)) in
    let c : tab (write_at (tx_bytes x) (12 + r * 10)) 0 w ≡ x.writes =
    ap (λ (q : List ℕ). tab (write_at q (12 + r * 10)) 0 w) e ∙ items_read write_key write_value write_of (λ y. refl) x.writes (pre2 ++ reads) [] (12 + r * 10) l f.writes in
    fields a b c

four : {a b c d e f g h : ℕ} {s t : List ℕ} → a ≡ e → b ≡ f → c ≡ g → d ≡ h → s ≡ t → a ∷ b ∷ c ∷ d ∷ s ≡ e ∷ f ∷ g ∷ h ∷ t
four p q r s t = cc

two : {a b c d : List ℕ} → a ≡ c → b ≡ d → a ++ b ≡ c ++ d
two p q = cc

join : {a b c d e f : List ℕ} → a ≡ d → b ≡ e → c ≡ f → a ++ (b ++ c) ≡ d ++ (e ++ f)
join p q r = cc

-- a TX and nothing behind it, written again
tx_whole : (s : List ℕ) → Bytes s → 84 ≡ get_or s 0 0 → 88 ≡ get_or s 1 0 → length s ≡ tx_len s → tx_bytes (tx_of s) ≡ s
unfolding tx_of tx_bytes read_at write_at
tx_whole [] h p q e = absurd (omega arith)
tx_whole (a ∷ []) h p q e = absurd (omega arith)
tx_whole (a ∷ b ∷ []) h p q e = absurd (omega arith)
tx_whole (a ∷ b ∷ c ∷ []) h p q e = absurd (omega arith)
tx_whole (a ∷ b ∷ c ∷ d ∷ rest) h p q e =
    let s : List ℕ = a ∷ b ∷ c ∷ d ∷ rest in
    let l : length rest ≡ 8 + (c * 10 + d * 10) = omega arith in
    let n2 : length (tab (read_at s 12) 0 c) ≡ c = tab_length (read_at s 12) 0 c in
    let n3 : length (tab (write_at s (12 + c * 10)) 0 d) ≡ d = tab_length (write_at s (12 + c * 10)) 0 d in
    let e1 : le_bytes 8 (num_at 8 4 s) ≡ take 8 rest = num_back 8 4 s h (omega arith) in
    let e2 : flat read_key read_version (tab (read_at s 12) 0 c) ≡ take (c * 10) (drop 8 rest) = items_written read_key read_version read_of (λ y z. refl) (λ y z. refl) c 12 s h (omega arith) in
    let e3 : flat write_key write_value (tab (write_at s (12 + c * 10)) 0 d) ≡ take (d * 10) (drop (12 + c * 10) s) = items_written write_key write_value write_of (λ y z. refl) (λ y z. refl) d (12 + c * 10) s h (omega arith) in
    let i : 12 + c * 10 ≡ 4 + (8 + c * 10) = omega arith in
    let e4 : drop (12 + c * 10) s ≡ drop (8 + c * 10) rest = ap (λ (n : ℕ). drop n s) i ∙ sym (drop-drop (8 + c * 10) 4 s) in
    let g : rest ≡ take 8 rest ++ (take (c * 10) (drop 8 rest) ++ take (d * 10) (drop (8 + c * 10) rest)) =
    sym (take_all (8 + (c * 10 + d * 10)) rest (omega arith)) ∙ (rw (take-add 8 (c * 10 + d * 10) rest, take-add (c * 10) (d * 10) (drop 8 rest), drop-drop (c * 10) 8 rest)) in
    let t : le_bytes 8 (num_at 8 4 s) ++ (flat read_key read_version (tab (read_at s 12) 0 c) ++ flat write_key write_value (tab (write_at s (12 + c * 10)) 0 d)) ≡ rest = join e1 e2 (e3 ∙ ap (take (d * 10)) e4) ∙ sym g in
    four p q n2 n3 t

-- what passed the cutting of a TX
pub tx_there : (s : List ℕ) → tx_cut s ≡ passed → tx_len s ≤ length s
unfolding tx_cut
tx_there s e = not_less _ _ _ (rest_none _ _ (rest_none _ _ (rest_none _ _ e)))

pub tx_again : (s : List ℕ) → Bytes s → tx_cut s ≡ passed → tx_bytes (tx_of (take (tx_len s) s)) ≡ take (tx_len s) s
unfolding tx_cut
tx_again s h e =
    let l : tx_len s ≤ length s = tx_there s e in
    let m : 84 ∷ 88 ∷ drop 2 s ≡ s = mark_told mark_tx s (first_none _ _ e) in
    let at : (i : ℕ) → i < 12 → get_or (take (tx_len s) s) i 0 ≡ get_or s i 0 = λ i k. get_or-take (tx_len s) s i 0 (omega arith) in
    let p : 84 ≡ get_or (take (tx_len s) s) 0 0 = ap (λ (t : List ℕ). get_or t 0 0) m ∙ sym (at 0 (omega arith)) in
    let q : 88 ≡ get_or (take (tx_len s) s) 1 0 = ap (λ (t : List ℕ). get_or t 1 0) m ∙ sym (at 1 (omega arith)) in
    let n : tx_len (take (tx_len s) s) ≡ tx_len s = rw (at 2 (omega arith), at 3 (omega arith)) in
    tx_whole (take (tx_len s) s) (bytes_take (tx_len s) s h) p q (length-take-le (tx_len s) s l ∙ sym n)

-- ---- a VL
pub vl_cut_read : (l : Vl) → count_wrong (length l.pairs) ≡ passed → vl_cut (vl_bytes l) ≡ passed
unfolding vl_cut vl_bytes
vl_cut_read l h =
    let n : 5 + view_len l.kind + 2 * length l.pairs ≤ length (vl_bytes l) = omega (arith, list_long l) in
    both (mark_read mark_vl _) (both (less_no _ _ _ (omega arith)) (both h (less_no _ _ _ n)))

pub vl_len_read : (l : Vl) → vl_len (vl_bytes l) ≡ length (vl_bytes l)
unfolding vl_bytes
vl_len_read l = sym (list_long l)

pub vl_back : (l : Vl) → ViewRight l → vl_of (vl_bytes l) ≡ l
unfolding vl_of vl_bytes
vl_back l r =
    let n : ℕ = view_len l.kind in
    let pre : List ℕ = 86 ∷ 76 ∷ l.kind ∷ l.decision ∷ length l.pairs ∷ [] in
    let a : view_of l.kind (num_at 2 5 (vl_bytes l)) ≡ l.view = view_read l.kind l.view pre (flat_pairs l.pairs) refl r.1 ∙ r.0 in
    let d : drop (5 + n) (vl_bytes l) ≡ flat_pairs l.pairs = sym (drop-drop n 5 (vl_bytes l)) ∙ drop_at (view_bytes l.kind l.view) (flat_pairs l.pairs) n (view_long l.kind l.view) in
    rw (a, pairs_read (vl_bytes l) (5 + n) l.pairs d)

pub vl_there : (s : List ℕ) → vl_cut s ≡ passed → (5 ≤ length s) × (vl_len s ≤ length s)
unfolding vl_cut
vl_there s e = (not_less _ _ _ (first_none _ _ (rest_none _ _ e)), not_less _ _ _ (rest_none _ _ (rest_none _ _ (rest_none _ _ e))))

vl_whole : (s : List ℕ) → Bytes s → 86 ∷ 76 ∷ drop 2 s ≡ s → 5 ≤ length s → length s ≡ vl_len s → vl_bytes (vl_of s) ≡ s
unfolding vl_of vl_bytes
vl_whole [] i p h e = absurd (omega arith)
vl_whole (a ∷ []) i p h e = absurd (omega arith)
vl_whole (a ∷ b ∷ []) i p h e = absurd (omega arith)
vl_whole (a ∷ b ∷ k ∷ []) i p h e = absurd (omega arith)
vl_whole (a ∷ b ∷ k ∷ d ∷ []) i p h e = absurd (omega arith)
vl_whole (a ∷ b ∷ k ∷ d ∷ n ∷ q) i p h e =
    let s : List ℕ = a ∷ b ∷ k ∷ d ∷ n ∷ q in
    let v : ℕ = view_len k in
    let e1 : view_bytes k (view_of k (num_at 2 5 s)) ≡ take v q = view_written k s i (omega arith) in
    let e2 : flat_pairs (tab (pair_at s (5 + v)) 0 n) ≡ drop v q = pairs_written s (5 + v) n (sym e) ∙ sym (drop-drop v 5 s) in
    rw (tab_length (pair_at s (5 + v)) 0 n, e1, e2, take-append-drop v q) p

pub vl_again : (s : List ℕ) → Bytes s → vl_cut s ≡ passed → length s ≤ vl_len s → vl_bytes (vl_of s) ≡ s
unfolding vl_cut
vl_again s i e h =
    let t = vl_there s e in
    vl_whole s i (mark_told mark_vl s (first_none _ _ e)) t.0 (omega arith)

-- ---- a VS or an EL: what stands before its ballots, of each
views_marked : (k : ViewMark) (l : Views) → mark_wrong (view_mark_bytes k) (views_bytes k l) ≡ passed
unfolding views_bytes
views_marked VS l = mark_read mark_vs _
views_marked EL l = mark_read mark_el _

views_marks : (k : ViewMark) (s : List ℕ) → mark_wrong (view_mark_bytes k) s ≡ passed → view_mark_bytes k ++ drop 2 s ≡ s
views_marks VS s e = mark_told mark_vs s e
views_marks EL s e = mark_told mark_el s e

views_count_lem : (k : ViewMark) (l : Views) → views_count k (views_bytes k l) ≡ length l.ballots
unfolding views_bytes led_bytes
views_count_lem VS l = refl
views_count_lem EL l = refl

views_behind_lem : (k : ViewMark) (l : Views) → drop (ballots_from k) (views_bytes k l) ≡ flat_ballots k l.ballots
unfolding views_bytes led_bytes
views_behind_lem VS l = refl
views_behind_lem EL l = refl

views_led : (k : ViewMark) (l : Views) → l.view < 256 ^ 2
    → views_of k (views_bytes k l) ≡ record { leader = own_number k l.leader; decision = own_number k l.decision; view = own_number k l.view; ballots = tab (ballot_at k (views_bytes k l)) 0 (views_count k (views_bytes k l)) }
unfolding views_of views_bytes led_bytes
views_led VS l h = refl
views_led EL l h =
    let v : num_at 2 4 (views_bytes EL l) ≡ l.view = num_at_lem 2 4 l.view (69 ∷ 76 ∷ l.leader ∷ l.decision ∷ []) (length l.ballots ∷ flat_ballots EL l.ballots) refl h in
    rw v

views_ballots : (k : ViewMark) (s : List ℕ) → (views_of k s).ballots ≡ tab (ballot_at k s) 0 (views_count k s)
unfolding views_of
views_ballots VS s = refl
views_ballots EL s = refl

views_head_lem : (k : ViewMark) (s : List ℕ) → Bytes s → view_mark_bytes k ++ drop 2 s ≡ s → ballots_from k ≤ length s
    → view_mark_bytes k ++ (led_bytes k (views_of k s).leader (views_of k s).decision (views_of k s).view ++ (views_count k s ∷ drop (ballots_from k) s)) ≡ s
unfolding views_of led_bytes
views_head_lem VS [] h p l = absurd (omega arith)
views_head_lem VS (a ∷ []) h p l = absurd (omega arith)
views_head_lem VS (a ∷ b ∷ []) h p l = absurd (omega arith)
views_head_lem VS (a ∷ b ∷ n ∷ q) h p l = p
views_head_lem EL [] h p l = absurd (omega arith)
views_head_lem EL (a ∷ []) h p l = absurd (omega arith)
views_head_lem EL (a ∷ b ∷ []) h p l = absurd (omega arith)
views_head_lem EL (a ∷ b ∷ c ∷ []) h p l = absurd (omega arith)
views_head_lem EL (a ∷ b ∷ c ∷ d ∷ []) h p l = absurd (omega arith)
views_head_lem EL (a ∷ b ∷ c ∷ d ∷ v ∷ []) h p l = absurd (omega arith)
views_head_lem EL (a ∷ b ∷ c ∷ d ∷ v ∷ w ∷ []) h p l = absurd (omega arith)
views_head_lem EL (a ∷ b ∷ c ∷ d ∷ v ∷ w ∷ n ∷ q) h p l =
    let s : List ℕ = a ∷ b ∷ c ∷ d ∷ v ∷ w ∷ n ∷ q in
    ap (λ (t : List ℕ). 69 ∷ 76 ∷ c ∷ d ∷ (t ++ (n ∷ q))) (num_back 2 4 s h (omega arith)) ∙ p

-- and of both
pub views_cut_read : (k : ViewMark) (l : Views) → count_wrong (length l.ballots) ≡ passed → views_cut k (views_bytes k l) ≡ passed
unfolding views_cut
views_cut_read k l h =
    let n : length (views_bytes k l) ≡ ballots_from k + ballot_len k * length l.ballots = views_long k l in
    both (views_marked k l) (both (less_no _ _ _ (omega arith)) (rw (views_count_lem k l) (both h (less_no _ _ _ (omega arith)))))

pub views_len_read : (k : ViewMark) (l : Views) → views_len k (views_bytes k l) ≡ length (views_bytes k l)
views_len_read k l = rw (views_count_lem k l) (sym (views_long k l))

pub views_back : (k : ViewMark) (f : ℕ) (l : Views) → ViewsRight k f l → views_of k (views_bytes k l) ≡ l
views_back k f l r =
    let b : tab (ballot_at k (views_bytes k l)) 0 (length l.ballots) ≡ map (own_ballot k) l.ballots = ballots_read k (views_bytes k l) l.ballots r.ballots (views_behind_lem k l) in
    views_led k l r.view ∙ (rw (views_count_lem k l, b) r.own)

views_there : (k : ViewMark) (s : List ℕ) → views_cut k s ≡ passed → (ballots_from k ≤ length s) × (views_len k s ≤ length s)
unfolding views_cut
views_there k s e = (not_less _ _ _ (first_none _ _ (rest_none _ _ e)), not_less _ _ _ (rest_none _ _ (rest_none _ _ (rest_none _ _ e))))

views_whole : (k : ViewMark) (s : List ℕ) → Bytes s → view_mark_bytes k ++ drop 2 s ≡ s → ballots_from k ≤ length s → length s ≡ views_len k s → views_bytes k (views_of k s) ≡ s
unfolding views_bytes
views_whole k s h p l e =
    let b : flat_ballots k (tab (ballot_at k s) 0 (views_count k s)) ≡ drop (ballots_from k) s = ballots_written k s (views_count k s) h (sym e) in
    rw (views_ballots k s, tab_length (ballot_at k s) 0 (views_count k s), b) (views_head_lem k s h p l)

pub views_again : (k : ViewMark) (s : List ℕ) → Bytes s → views_cut k s ≡ passed → length s ≤ views_len k s → views_bytes k (views_of k s) ≡ s
unfolding views_cut
views_again k s i e h =
    let t = views_there k s e in
    views_whole k s i (views_marks k s (first_none _ _ e)) t.0 (omega arith)

-- ---- a message: two bytes, a TX and what stands behind it
module _ (a b : ℕ) (x : Tx) (post : List ℕ) where
  pub tx_part_read : tx_part (a ∷ b ∷ (tx_bytes x ++ post)) ≡ tx_bytes x
  unfolding tx_part
  tx_part_read = take_at (tx_bytes x) post _ (sym (tx_len_read x post))

  pub vl_part_read : list_part (a ∷ b ∷ (tx_bytes x ++ post)) ≡ post
  unfolding list_part
  vl_part_read = drop_at (tx_bytes x) post _ (sym (tx_len_read x post))

-- the TX of a message that was cut, written again
pub part_again : (m : List ℕ) → Bytes m → tx_cut (drop 2 m) ≡ passed → tx_bytes (tx_of (tx_part m)) ≡ tx_part m
unfolding tx_part
part_again m h e = tx_again (drop 2 m) (bytes_drop 2 m h) e

-- nothing behind the TX
whole_part : (m : List ℕ) → length (drop 2 m) ≤ tx_len (drop 2 m) → tx_part m ≡ drop 2 m
unfolding tx_part
whole_part m h = take_all _ (drop 2 m) h

parts_join : (m : List ℕ) → tx_part m ++ list_part m ≡ drop 2 m
unfolding tx_part list_part
parts_join m = take-append-drop (tx_len (drop 2 m)) (drop 2 m)

vl_part_bytes : (m : List ℕ) → Bytes m → Bytes (list_part m)
unfolding list_part
vl_part_bytes m h = bytes_drop (tx_len (drop 2 m)) (drop 2 m) (bytes_drop 2 m h)

vl_part_long : (m : List ℕ) → length (list_part m) ≡ length (drop 2 m) - tx_len (drop 2 m)
unfolding list_part
vl_part_long m = length-drop (tx_len (drop 2 m)) (drop 2 m)

pub pr_again : (m : List ℕ) → Bytes m → mark_wrong mark_pr m ≡ passed → tx_cut (drop 2 m) ≡ passed → length m ≤ 2 + tx_len (drop 2 m) → pr_bytes (tx_of (tx_part m)) ≡ m
unfolding pr_bytes
pr_again m h w e k =
    let l : length (drop 2 m) ≤ tx_len (drop 2 m) = rw (length-drop 2 m) (omega arith) in
    ap (λ (t : List ℕ). 80 ∷ 82 ∷ t) (part_again m h e ∙ whole_part m l) ∙ mark_told mark_pr m w

-- a TX and what was written again behind it
parts_again : (due m rest : List ℕ) → Bytes m → mark_wrong due m ≡ passed → tx_cut (drop 2 m) ≡ passed → rest ≡ list_part m → get_or due 0 0 ∷ get_or due 1 0 ∷ (tx_bytes (tx_of (tx_part m)) ++ rest) ≡ m
parts_again due m rest h w e r =
    let p : tx_bytes (tx_of (tx_part m)) ++ rest ≡ drop 2 m = rw (part_again m h e, r) (parts_join m) in
    ap (λ (t : List ℕ). get_or due 0 0 ∷ get_or due 1 0 ∷ t) p ∙ mark_told due m w

part_short : (m : List ℕ) (n : ℕ) → length m ≤ 2 + tx_len (drop 2 m) + n → length (list_part m) ≤ n
part_short m n k = rw (vl_part_long m, length-drop 2 m) (omega arith)

pub listed_again : (due m : List ℕ) → Bytes m → mark_wrong due m ≡ passed → listed_cut m ≡ passed → length m ≤ listed_len m
    → get_or due 0 0 ∷ get_or due 1 0 ∷ (tx_bytes (tx_of (tx_part m)) ++ vl_bytes (list_behind m)) ≡ m
unfolding listed_cut listed_len list_behind
listed_again due m h w e k = parts_again due m _ h w (first_none _ _ e) (vl_again (list_part m) (vl_part_bytes m h) (rest_none _ _ e) (part_short m _ k))

pub viewed_again : (j : ViewMark) (due m : List ℕ) → Bytes m → mark_wrong due m ≡ passed → viewed_cut j m ≡ passed → length m ≤ viewed_len j m
    → get_or due 0 0 ∷ get_or due 1 0 ∷ (tx_bytes (tx_of (tx_part m)) ++ views_bytes j (views_behind j m)) ≡ m
unfolding viewed_cut viewed_len views_behind
viewed_again j due m h w e k = parts_again due m _ h w (first_none _ _ e) (views_again j (list_part m) (vl_part_bytes m h) (rest_none _ _ e) (part_short m _ k))

pub rd_again : (m : List ℕ) → Bytes m → mark_wrong mark_rd m ≡ passed → length m ≡ 12 → rd_bytes (rd_key m) (rd_stamp m) ≡ m
unfolding rd_bytes
rd_again m h w k =
    let l : length (drop 2 m) ≡ 2 + 8 = rw (length-drop 2 m) (omega arith) in
    let p : le_bytes 2 (rd_key m) ≡ take 2 (drop 2 m) = num_back 2 2 m h (omega arith) in
    let q : le_bytes 8 (rd_stamp m) ≡ take 8 (drop 4 m) = num_back 8 4 m h (omega arith) in
    let r : drop 2 m ≡ take 2 (drop 2 m) ++ take 8 (drop 4 m) = sym (take_all (2 + 8) (drop 2 m) (omega arith)) ∙ take-add 2 8 (drop 2 m) ∙ (rw (drop-drop 2 2 m)) in
    ap (λ (t : List ℕ). 82 ∷ 68 ∷ t) (two p q ∙ sym r) ∙ mark_told mark_rd m w
