-- "Length 12 + 10(r + w)", "Length 5 + 2 × count", and a list's view, a VS and an EL: the records' lengths.
use Prim.Native.Nat.{ℕ, ◌+◌, ◌*◌}
use native.Mathlib.Omega.{arith}
use mathlib.Core.Bool.{Bool, true, false}
use mathlib.Core.Path.{◌≡◌, refl, ◌∙◌}
use mathlib.Core.List.{List, [], ◌∷◌, ◌++◌}
use lib.Dec.{eqb}
use lib.ListN.{length, length-append}
use Rattle.terms.specs.Choice.{pick}
use Rattle.terms.proofs.Scans.{tab_length}
use Rattle.records.specs.Numbers.{le_bytes}
use Rattle.records.specs.Tx.{Tx, flat, tx_in, tx_bytes, reads_in, writes_in}
use Rattle.records.specs.Vl.{Vl, view_len, view_bytes, flat_pairs, list_in, vl_bytes, pairs_in}
use Rattle.records.specs.Views.{Views, view_mark_bytes, led_bytes, count_at, ballots_from, ballot_len, ballot_bytes, flat_ballots, views_in, views_bytes, ballots_in, own_ballot}
use Rattle.records.specs.Cutting.{mark_bytes}
use Rattle.records.specs.Writing.{listed_bytes, viewed_bytes}
use Rattle.records.specs.declared.Ballot.{Ballot}
use Rattle.records.specs.declared.Mark.{Mark}
use Rattle.records.specs.declared.Mark.TheVariants.{PR, LG, DC, RD, IV, LD}
use Rattle.records.specs.declared.Pair.{Pair}
use Rattle.records.specs.declared.Transaction.{Transaction}
use Rattle.records.specs.declared.ViewList.{ViewList}
use Rattle.records.specs.declared.ViewMark.{ViewMark}
use Rattle.records.specs.declared.ViewMark.TheVariants.{VS, EL}
use Rattle.records.specs.declared.VoteList.{VoteList}
use Rattle.writing.specs.Parts.{tx_size, list_size, views_size}

pub flat_long : {A : Type 0} (k v : A → ℕ) (xs : List A) → length (flat k v xs) ≡ length xs * 10
flat_long k v [] = refl
flat_long k v (x ∷ xs) = let h : length (flat k v xs) ≡ length xs * 10 = flat_long k v xs in omega arith

pub pairs_long : (ps : List Pair) → length (flat_pairs ps) ≡ 2 * length ps
pairs_long [] = refl
pairs_long (p ∷ ps) = let h : length (flat_pairs ps) ≡ 2 * length ps = pairs_long ps in omega arith

pub tx_long : (x : Tx) → length (tx_bytes x) ≡ 12 + 10 * (length x.reads + length x.writes)
unfolding tx_bytes
tx_long x = simp (length-append, flat_long) (omega arith)

-- a view is there or not, by the kind: what holds either way
pub either_way : (P : Bool → Type 0) → P true → P false → (b : Bool) → P b
either_way P p q true = p
either_way P p q false = q

pub view_long : (k v : ℕ) → length (view_bytes k v) ≡ view_len k
unfolding view_bytes view_len
view_long k v = either_way (λ b. length (pick b (le_bytes 2 v) []) ≡ pick b 2 0) refl refl (eqb k 2)

pub list_long : (l : Vl) → length (vl_bytes l) ≡ 5 + view_len l.kind + 2 * length l.pairs
unfolding vl_bytes
list_long l = simp (length-append, view_long, pairs_long) (omega arith)

-- a VS and an EL
pub ballot_long : (k : ViewMark) (b : Ballot) → length (ballot_bytes k b) ≡ ballot_len k
unfolding ballot_bytes
ballot_long VS b = refl
ballot_long EL b = refl

ballots_long : (k : ViewMark) (bs : List Ballot) → length (flat_ballots k bs) ≡ ballot_len k * length bs
ballots_long k [] = omega arith
ballots_long k (b ∷ bs) =
    let h : length (flat_ballots k bs) ≡ ballot_len k * length bs = ballots_long k bs in
    length-append (ballot_bytes k b) (flat_ballots k bs) ∙ (omega (arith, ballot_long k b))

led_long : (k : ViewMark) (a d v : ℕ) → length (view_mark_bytes k ++ led_bytes k a d v) ≡ count_at k
unfolding led_bytes
led_long VS a d v = refl
led_long EL a d v = refl

pub views_long : (k : ViewMark) (l : Views) → length (views_bytes k l) ≡ ballots_from k + ballot_len k * length l.ballots
unfolding views_bytes
views_long k l =
    let led : List ℕ = led_bytes k l.leader l.decision l.view in
    let bs : List ℕ = flat_ballots k l.ballots in
    omega (arith, length-append (view_mark_bytes k) led, length-append led (length l.ballots ∷ bs), length-append (view_mark_bytes k) (led ++ (length l.ballots ∷ bs)), led_long k l.leader l.decision l.view, ballots_long k l.ballots)

pub tx_in_long : (x : Transaction) → length (tx_bytes (tx_in x)) ≡ tx_size x
unfolding tx_in
tx_in_long x = tx_long (tx_in x) ∙ (rw (tab_length (reads_in x.reads) 0 x.r, tab_length (writes_in x.writes) 0 x.w))

pub list_in_long : (l : VoteList) → length (vl_bytes (list_in l)) ≡ list_size l
unfolding list_in
list_in_long l = list_long (list_in l) ∙ (rw (tab_length (pairs_in l.pairs) 0 l.count))

pub views_in_long : (k : ViewMark) (l : ViewList) → length (views_bytes k (views_in k l)) ≡ views_size k l
unfolding views_in
views_in_long k l = views_long k (views_in k l) ∙ (rw (tab_length (λ j. own_ballot k (ballots_in l.ballots j)) 0 l.count))

mark_long : (k : Mark) → length (mark_bytes k) ≡ 2
mark_long PR = refl
mark_long LG = refl
mark_long DC = refl
mark_long RD = refl
mark_long IV = refl
mark_long LD = refl

pub listed_long : (k : Mark) (x : Transaction) (l : VoteList) → length (listed_bytes k (tx_in x) (list_in l)) ≡ 2 + tx_size x + list_size l
unfolding listed_bytes
listed_long k x l = simp (length-append, mark_long, tx_in_long, list_in_long) (omega arith)

pub viewed_long : (k : ViewMark) (x : Transaction) (l : ViewList) → length (viewed_bytes k (tx_in x) (views_in k l)) ≡ 2 + tx_size x + views_size k l
unfolding viewed_bytes
viewed_long k x l = simp (length-append, mark_long, tx_in_long, views_in_long) (omega arith)
