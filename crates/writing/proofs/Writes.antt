-- What a writer's checks leave where they pass.
use Rattle.std.proofs.Common.{ℕ, ◌+◌, ◌≤◌, ◌≡◌, List, length, zero-add, arith}
use Rattle.terms.specs.Checks.{Check, passed, or_else}
use Rattle.terms.specs.Group.{group_wrong, group_of}
use Rattle.terms.proofs.Checks.{chain, first_none, rest_none, not_less}
use Rattle.records.specs.Tx.{tx_in}
use Rattle.records.specs.Contents.{counts_wrong, count_wrong}
use Rattle.records.specs.Writing.{buffer_wrong, tx_unwritten, vl_unwritten, views_unwritten, pr_unwritten, listed_unwritten, viewed_unwritten, rd_unwritten, pr_bytes, rd_bytes, wrote_by, buffer_by}
use Rattle.records.specs.declared.Mark.{Mark}
use Rattle.records.specs.declared.Transaction.{Transaction}
use Rattle.records.specs.declared.ViewList.{ViewList}
use Rattle.records.specs.declared.ViewMark.{ViewMark}
use Rattle.records.specs.declared.VoteList.{VoteList}
use Rattle.writing.specs.Parts.{laid, tx_size, list_size, views_size, TxFits, ListFits, ListedFits, tx_after}
use Rattle.writing.proofs.Lengths.{tx_in_long, list_in_long, listed_long, views_in_long, viewed_long}

-- what a check computes, and what a writer's answer and buffer do
unfoldable pub judged : ℕ
unfolding chain group_of group_wrong buffer_wrong
judged = 0

unfoldable pub answered : ℕ
unfolding chain wrote_by buffer_by laid
answered = 0

-- what passed checks leave
pub counts_small : (r w : ℕ) → counts_wrong r w ≡ passed → (r ≤ 8) × (w ≤ 8)
unfolding counts_wrong
counts_small r w z = (not_less _ _ _ (first_none _ _ z), not_less _ _ _ (first_none _ _ (rest_none _ _ z)))

pub count_small : (c : ℕ) → count_wrong c ≡ passed → c ≤ 26
unfolding count_wrong
count_small c z = not_less _ _ _ (rest_none _ _ z)

-- with the lengths of the records
pub ruleset sizes = (counts_small, count_small, list_in_long, views_in_long, listed_long, viewed_long)

pub tx_fits : (at : ℕ) (x : Transaction) (d : List ℕ) → tx_after at x d ≡ passed → TxFits x at d
unfolding tx_after
tx_fits at x d z =
    let s = counts_small _ _ (first_none _ _ z) in
    record { reads = s.0; writes = s.1; room = not_less _ _ _ (rest_none _ _ (rest_none _ _ z)) }

pub rd_fits : (k s : ℕ) (d : List ℕ) → rd_unwritten k s d ≡ passed → 12 ≤ length d
unfolding rd_unwritten buffer_wrong rd_bytes
rd_fits k s d z = not_less _ _ _ (rest_none _ _ z)

-- by the length that its bytes have
pub tx_as : (x : Transaction) (d : List ℕ) → tx_after 0 x d ≡ tx_unwritten x d
unfolding tx_after tx_unwritten buffer_wrong
tx_as x d = rw (tx_in_long x, zero-add)

pub pr_as : (x : Transaction) (d : List ℕ) → tx_after 2 x d ≡ pr_unwritten x d
unfolding tx_after pr_unwritten buffer_wrong pr_bytes
pr_as x d = let l : length (pr_bytes (tx_in x)) ≡ 2 + tx_size x = omega (arith, tx_in_long x) in rw l

-- a list, a VS or an EL by itself: its group g, its count, its contents w and room for its bytes b
alone_fits : (g w : Check) (c m : ℕ) (b d : List ℕ) → length b ≡ m → or_else g (or_else (count_wrong c) (or_else w (buffer_wrong b d))) ≡ passed → ListFits c m 0 d
unfolding buffer_wrong
alone_fits g w c m b d h z =
    let e = rest_none _ _ z in
    let r : length b ≤ length d = not_less _ _ _ (rest_none _ _ (rest_none _ _ e)) in
    record { few = count_small c (first_none _ _ e); room = omega arith }

pub list_fits : (f : ℕ) (l : VoteList) (d : List ℕ) → vl_unwritten f l d ≡ passed → ListFits l.count (list_size l) 0 d
unfolding vl_unwritten
list_fits f l d z = alone_fits _ _ l.count _ _ d (list_in_long l) z

pub views_fits : (k : ViewMark) (f : ℕ) (l : ViewList) (d : List ℕ) → views_unwritten k f l d ≡ passed → ListFits l.count (views_size k l) 0 d
unfolding views_unwritten
views_fits k f l d z = alone_fits _ _ l.count _ _ d (views_in_long k l) z

-- the same behind a TX, in a message of the bytes b, of which m are those of the list, the VS or the EL
carried_fits : (g t w : Check) (c m : ℕ) (x : Transaction) (b d : List ℕ) → length b ≡ 2 + tx_size x + m
    → or_else g (or_else (counts_wrong x.r x.w) (or_else (count_wrong c) (or_else t (or_else w (buffer_wrong b d))))) ≡ passed → ListedFits x c m d
unfolding buffer_wrong
carried_fits g t w c m x b d h z =
    let e = rest_none _ _ z in
    let o = rest_none _ _ e in
    let s = counts_small _ _ (first_none _ _ e) in
    let r : length b ≤ length d = not_less _ _ _ (rest_none _ _ (rest_none _ _ (rest_none _ _ o))) in
    record { reads = s.0; writes = s.1; few = count_small c (first_none _ _ o); room = omega arith }

pub listed_fits : (k : Mark) (f : ℕ) (x : Transaction) (l : VoteList) (d : List ℕ) → listed_unwritten k f x l d ≡ passed → ListedFits x l.count (list_size l) d
unfolding listed_unwritten
listed_fits k f x l d z = carried_fits _ _ _ l.count _ x _ d (listed_long k x l) z

pub viewed_fits : (k : ViewMark) (f : ℕ) (x : Transaction) (l : ViewList) (d : List ℕ) → viewed_unwritten k f x l d ≡ passed → ListedFits x l.count (views_size k l) d
unfolding viewed_unwritten
viewed_fits k f x l d z = carried_fits _ _ _ l.count _ x _ d (viewed_long k x l) z

pub ruleset fits = (tx_fits, tx_as, pr_as, list_fits, views_fits, listed_fits, viewed_fits, rd_fits)
