-- Laws of bytes put down in a buffer.
use Rattle.std.proofs.Common.{◌≡◌, ℕ, zero, suc, ◌+◌, ◌*◌, ◌-◌, ◌<◌, ◌≤◌, List, [], ◌∷◌, ◌++◌, length, get_or, take, drop, refl, ap, sym, ◌∙◌, zero-add, append_assoc, length-append, length-drop, arith}
use Rattle.std.specs.List.{flat_map}
use Rattle.std.proofs.Math.Nat.{add-sub_cancel_left, mul-le-mul_left}
use Rattle.std.proofs.Math.Seq.{drop-drop}
use Rattle.std.proofs.lemmas.List.{length-take-le, take_all, take_more, take-append-drop, flat_map_more}
use borrow.Rule.Slice.PartMut.{put_mid}
use Rattle.terms.specs.Choice.{tab}
use Rattle.terms.proofs.Scans.{tab_length, tab_front}
use Rattle.records.specs.Numbers.{le_bytes}
use Rattle.records.specs.Tx.{Tx, flat, mark_tx, tx_in, tx_bytes, read_key, read_version, write_key, write_value, reads_in, writes_in, zero_read, zero_write}
use Rattle.records.specs.Vl.{flat_pairs, mark_vl, view_bytes, list_in, vl_bytes, pairs_in, zero_pair}
use Rattle.records.specs.Cutting.{mark_bytes, carrier}
use Rattle.records.specs.Writing.{viewed_bytes}
use Rattle.records.specs.Views.{Views, ballot_bytes, flat_ballots, ballots_in, own_ballot, zero_ballot, view_mark_bytes, led_bytes, views_in, views_bytes}
use Rattle.records.specs.declared.Mark.{Mark}
use Rattle.records.specs.declared.Transaction.{Transaction}
use Rattle.records.specs.declared.VoteList.{VoteList}
use Rattle.records.specs.declared.ViewList.{ViewList}
use Rattle.records.specs.declared.ViewMark.{ViewMark}
use Rattle.records.specs.declared.Ballot.{Ballot}
use Rattle.records.specs.declared.Pair.{Pair}
use Rattle.writing.specs.Parts.{laid, Puts, head_bytes, list_head, views_head}
use Rattle.writing.proofs.Fields.{view_same, led_same, ballots_same}

-- a part behind the one at the front
behind : (p q r : List ℕ) → laid (length p) q (p ++ r) ≡ p ++ (q ++ drop (length q) r)
unfolding laid
behind [] q r = refl
behind (x ∷ p) q r = ap (λ (t : List ℕ). x ∷ t) (behind p q r)

-- two parts, one behind the other, are one part
laid_both : (at : ℕ) (p q d : List ℕ) → laid (at + length p) q (laid at p d) ≡ laid at (p ++ q) d
unfolding laid
laid_both zero p q d = rw (zero-add, behind p q (drop (length p) d), drop-drop, length-append, append_assoc)
laid_both (suc at) p q [] = let e : suc at + length p ≡ suc (at + length p) = omega arith in rw e
laid_both (suc at) p q (x ∷ d) = let e : suc at + length p ≡ suc (at + length p) = omega arith in rw (e, laid_both at p q d)

-- a part lent and put back
laid_part : (at k : ℕ) (v d : List ℕ) → length v ≡ k → at + k ≤ length d → put_mid at k d v ≡ laid at v d
unfolding laid
laid_part zero k v d e h = rw e
laid_part (suc at) k v [] e h = absurd (omega arith)
laid_part (suc at) k v (x ∷ d) e h = rw (laid_part at k v d e (omega arith))

pub laid_long : (at : ℕ) (p d : List ℕ) → at + length p ≤ length d → length (laid at p d) ≡ length d
unfolding laid
laid_long zero p d h = length-append p (drop (length p) d) ∙ (simp length-drop (omega arith))
laid_long (suc at) p [] h = refl
laid_long (suc at) p (x ∷ d) h = rw (laid_long at p d (omega arith))

laid_none : (at : ℕ) (d : List ℕ) → d ≡ laid at [] d
unfolding laid
laid_none zero d = refl
laid_none (suc at) [] = refl
laid_none (suc at) (x ∷ d) = ap (λ (t : List ℕ). x ∷ t) (laid_none at d)

-- ---- parts put down, with the place behind them
pub put_none : {at : ℕ} {d : List ℕ} → Puts d at [] d at
put_none {at} {d} = record { place = omega arith; is = laid_none at d }

pub put_part : {at k : ℕ} {d v e : List ℕ} → v ≡ e → length e ≡ k → at + k ≤ length d → Puts d at e (put_mid at (at + k - at) d v) (at + k)
put_part {at} {k} {d} {v} {e} p l h = record { place = rw l; is = rw (p, add-sub_cancel_left) (laid_part at k e d l h) }

pub puts_both : {d p q e g : List ℕ} {at b c : ℕ} → Puts d at p e b → Puts e b q g c → Puts d at (p ++ q) g c
puts_both {d} {p} {q} {at = at} x y =
    let u = x.place in
    let v = y.place in
    record { place = omega (arith, length-append p q); is = y.is ∙ (rw (u, x.is)) ∙ laid_both at p q d }

pub puts_then : {d p q t e g : List ℕ} {at b c : ℕ} → Puts d at p e b → Puts e b q g c → p ++ q ≡ t → Puts d at t g c
puts_then x y h = rw (← h) (puts_both x y)

-- the same bytes by another name
pub puts_as : {d p t e : List ℕ} {at b : ℕ} → p ≡ t → Puts d at p e b → Puts d at t e b
puts_as h x = rw (← h) x

-- ---- loops: the bytes of each, one behind the other; the first j are put down, w bytes each
pub record Filling {A : Type 0} (g : A → List ℕ) (xs : List A) (w at : ℕ) (d e : List ℕ) (b j : ℕ) : Type 0 where
  pub place : b ≡ at + w * j
  pub same : length e ≡ length d
  pub puts : Puts d at (flat_map g (take j xs)) e b

module _ {A : Type 0} {g : A → List ℕ} {xs : List A} {w at : ℕ} {d : List ℕ} where
  pub fill_none : Filling g xs w at d d at 0
  fill_none = record { place = omega arith; same = refl; puts = put_none }

  module _ {e : List ℕ} {b j : ℕ} (f : Filling g xs w at d e b j) where
    pub fill_more : (x : A) {h : List ℕ} {c : ℕ} → at + w * length xs ≤ length d → j < length xs → length (g (get_or xs j x)) ≡ w → Puts e b (g (get_or xs j x)) h c
        → Filling g xs w at d h c (j + 1)
    fill_more x {h} {c} r l k y =
        let p : List ℕ = g (get_or xs j x) in
        let s : length e ≡ length d = f.same in
        let o : b ≡ at + w * j = f.place in
        let u : c ≡ b + length p = y.place in
        let m : w * (j + 1) ≤ w * length xs = mul-le-mul_left w (omega arith) in
        let q : length h ≡ length e = ap length y.is ∙ laid_long b p e (omega arith) in
        let z : flat_map g (take j xs) ++ p ≡ flat_map g (take (j + 1) xs) =
        flat_map_more g [] (take j xs) (get_or xs j x) ∙ ap (flat_map g) (sym (take_more xs j x l)) in
        record { place = omega arith; same = omega arith; puts = puts_then f.puts y z }

    pub fill_all : length xs ≤ j → Puts d at (flat_map g xs) e b
    fill_all l = rw (take_all j xs l) at f.puts

-- a key with what stands beside it
abbrev pub item : {A : Type 0} → (A → ℕ) → (A → ℕ) → A → List ℕ
item k v x = le_bytes 2 (k x) ++ le_bytes 8 (v x)

pub items : {A : Type 0} (k v : A → ℕ) (xs : List A) → flat_map (item k v) xs ≡ flat k v xs
items k v [] = refl
items k v (x ∷ xs) = rw (append_assoc, items k v xs)

abbrev pub two : Pair → List ℕ
two p = p.number ∷ p.answer ∷ []

pub pairs : (ps : List Pair) → flat_map two ps ≡ flat_pairs ps
pairs [] = refl
pairs (p ∷ ps) = rw (pairs ps)

pub ballots : (k : ViewMark) (bs : List Ballot) → flat_map (ballot_bytes k) bs ≡ flat_ballots k bs
ballots k [] = refl
ballots k (b ∷ bs) = rw (ballots k bs)

-- the front of an array, read off by an index
taken : {A : Type 0} (z : A) (a : List A) (n : ℕ) → n ≤ length a → tab (λ j. get_or a j z) 0 n ≡ take n a
taken z a n h =
    let l : length (take n a) ≡ n = length-take-le n a h in
    rw (l, take-append-drop n a) at (tab_front z (take n a) (drop n a))

-- ---- a TX, a VL, a VS and an EL
pub head_puts : (s : ℕ) {r w at a b n : ℕ} {d e₁ e₂ e : List ℕ} → Puts d at mark_tx e₁ a → Puts e₁ a (r ∷ w ∷ []) e₂ b → Puts e₂ b (le_bytes 8 s) e n → Puts d at (head_bytes r w s) e n
head_puts s m c n = puts_both m (puts_both c n)

pub tx_puts : (x : Transaction) {d e₁ e₂ e : List ℕ} {at a b n : ℕ} → x.r ≤ length x.reads → x.w ≤ length x.writes → Puts d at (head_bytes x.r x.w x.stamp.0) e₁ a
    → Puts e₁ a (flat read_key read_version (take x.r x.reads)) e₂ b → Puts e₂ b (flat write_key write_value (take x.w x.writes)) e n
    → Puts d at (tx_bytes (tx_in x)) e n
unfolding tx_bytes tx_in
tx_puts x p q h r w =
    rw (tab_length (reads_in x.reads) 0 x.r, tab_length (writes_in x.writes) 0 x.w, taken zero_read x.reads x.r p, taken zero_write x.writes x.w q)
    (puts_both h (puts_both r w))

pub list_head_puts : (l : VoteList) {at a b n : ℕ} {d e₁ e₂ e : List ℕ} → Puts d at mark_vl e₁ a → Puts e₁ a (l.kind ∷ l.decision ∷ []) e₂ b → Puts e₂ b (l.count ∷ []) e n → Puts d at (list_head l) e n
list_head_puts l m k c = puts_both m (puts_both k c)

pub list_puts : (l : VoteList) {d e₁ e₂ e : List ℕ} {at a b n : ℕ} → l.count ≤ length l.pairs → Puts d at (list_head l) e₁ a → Puts e₁ a (view_bytes l.kind l.view.0) e₂ b
    → Puts e₂ b (flat_pairs (take l.count l.pairs)) e n → Puts d at (vl_bytes (list_in l)) e n
unfolding vl_bytes list_in
list_puts l c h v p =
    rw (tab_length (pairs_in l.pairs) 0 l.count, view_same l.kind l.view.0, taken zero_pair l.pairs l.count c) (puts_both h (puts_both v p))

pub views_puts : (k : ViewMark) (l : ViewList) {d e₁ e₂ e : List ℕ} {at a b n : ℕ} → l.count ≤ length l.ballots → Puts d at (views_head k l) e₁ a → Puts e₁ a (l.count ∷ []) e₂ b
    → Puts e₂ b (flat_ballots k (take l.count l.ballots)) e n → Puts d at (views_bytes k (views_in k l)) e n
unfolding views_bytes views_in
views_puts k l few h c p =
    rw (tab_length (λ j. own_ballot k (ballots_in l.ballots j)) 0 l.count, led_same k l.leader l.decision l.view.0, ballots_same k (ballots_in l.ballots) 0 l.count, taken zero_ballot l.ballots l.count few)
    (puts_then h (puts_both c p) (append_assoc (view_mark_bytes k) (led_bytes k l.leader l.decision l.view.0) _))

-- an IV or an LD
pub viewed_puts : (k : ViewMark) (x : Tx) (l : Views) {c : Mark} {d e₁ e₂ e : List ℕ} {at a b n : ℕ} → c ≡ carrier k → Puts d at (mark_bytes c) e₁ a
    → Puts e₁ a (tx_bytes x) e₂ b → Puts e₂ b (views_bytes k l) e n → Puts d at (viewed_bytes k x l) e n
unfolding viewed_bytes
viewed_puts k x l h m t v = rw (← h) (puts_both m (puts_both t v))
