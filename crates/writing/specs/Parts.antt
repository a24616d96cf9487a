-- Bytes put down in a buffer, one part behind the other, and what the checks leave.
use Rattle.std.specs.Prelude.{ℕ, zero, suc, ◌+◌, ◌*◌, ◌≤◌, ◌≡◌, List, [], ◌∷◌, ◌++◌, length, drop}
use Rattle.terms.specs.Checks.{Check, or_else, if_less, buffer}
use Rattle.records.specs.Numbers.{le_bytes}
use Rattle.records.specs.Tx.{mark_tx, tx_in}
use Rattle.records.specs.Vl.{mark_vl, view_len}
use Rattle.records.specs.Views.{view_mark_bytes, ballots_from, ballot_len, led_bytes}
use Rattle.records.specs.Contents.{counts_wrong, tx_wrong}
use Rattle.records.specs.declared.Transaction.{Transaction}
use Rattle.records.specs.declared.VoteList.{VoteList}
use Rattle.records.specs.declared.ViewList.{ViewList}
use Rattle.records.specs.declared.ViewMark.{ViewMark}

-- p from a place of d on, all else as it was
unfoldable pub laid : ℕ → List ℕ → List ℕ → List ℕ
laid zero p d = p ++ drop (length p) d
laid (suc n) p [] = []
laid (suc n) p (x ∷ d) = x ∷ laid n p d

-- p put down in d from `at` on gives e; b is the place behind it
pub record Puts (d : List ℕ) (at : ℕ) (p e : List ℕ) (b : ℕ) : Type 0 where
  pub place : b ≡ at + length p
  pub is : e ≡ laid at p d

-- a TX before its reads
abbrev pub head_bytes : ℕ → ℕ → ℕ → List ℕ
head_bytes r w s = mark_tx ++ (r ∷ w ∷ le_bytes 8 s)

-- a list before its view
abbrev pub list_head : VoteList → List ℕ
list_head l = mark_vl ++ (l.kind ∷ l.decision ∷ l.count ∷ [])

-- a VS or an EL before its count
abbrev pub views_head : ViewMark → ViewList → List ℕ
views_head k l = view_mark_bytes k ++ led_bytes k l.leader l.decision l.view.0

-- "Length 12 + 10(r + w)", "Length 5 + 2 × count", and a list's view
abbrev pub tx_size : Transaction → ℕ
tx_size x = 12 + 10 * (x.r + x.w)

abbrev pub list_size : VoteList → ℕ
list_size l = 5 + view_len l.kind + 2 * l.count

-- that of a VS or an EL
abbrev pub views_size : ViewMark → ViewList → ℕ
views_size k l = ballots_from k + ballot_len k * l.count

-- what passed all checks: there is room from `at` on; a message stands at the front. A list, a VS and an EL are told by count and size
pub record TxFits (x : Transaction) (at : ℕ) (d : List ℕ) : Type 0 where
  pub reads : x.r ≤ 8
  pub writes : x.w ≤ 8
  pub room : at + tx_size x ≤ length d

pub record ListFits (count size at : ℕ) (d : List ℕ) : Type 0 where
  pub few : count ≤ 26
  pub room : at + size ≤ length d

pub record ListedFits (x : Transaction) (count size : ℕ) (d : List ℕ) : Type 0 where
  pub reads : x.r ≤ 8
  pub writes : x.w ≤ 8
  pub few : count ≤ 26
  pub room : 2 + tx_size x + size ≤ length d

-- the refusal of a TX that has `at` bytes before it
unfoldable pub tx_after : ℕ → Transaction → List ℕ → Check
tx_after at x out = or_else (counts_wrong x.r x.w) (or_else (tx_wrong (tx_in x)) (if_less (length out) (at + tx_size x) buffer))
