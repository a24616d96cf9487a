-- What a writer leaves.
use Rattle.std.specs.Prelude.{ℕ, List, eqb}
use Rattle.terms.specs.Checks.{Check}
use Rattle.terms.specs.Choice.{pick}
use Rattle.records.specs.declared.Mark.{Mark}
use Rattle.records.specs.declared.Mark.TheVariants.{PR, LG, DC}
use Rattle.records.specs.Tx.{tx_in, tx_bytes}
use Rattle.records.specs.Vl.{list_in, vl_bytes}
use Rattle.records.specs.Views.{views_in, views_bytes}
use Rattle.records.specs.Writing.{pr_bytes, listed_bytes, viewed_bytes, rd_bytes, wrote_by, buffer_by}
use Rattle.records.specs.Writing.{tx_unwritten, vl_unwritten, views_unwritten, pr_unwritten, listed_unwritten, viewed_unwritten, rd_unwritten}
use Rattle.records.specs.declared.ViewMark.{ViewMark}
use Rattle.records.specs.declared.ViewList.{ViewList}
use Rattle.records.specs.declared.Transaction.{Transaction}
use Rattle.records.specs.declared.VoteList.{VoteList}
use Rattle.arrays.specs.Arrays.{written_number, written_length}

-- all that a writer leaves: its answer, the length, and every byte of the buffer
pub record Left : Type 0 where
  pub number : ℕ
  pub length : ℕ
  pub buffer : List ℕ

abbrev pub left : ℕ → ℕ → List ℕ → Left
left n l b = record { number = n; length = l; buffer = b }

-- by the writer's refusal and the record's bytes, on a buffer
unfoldable pub left_by : Check → List ℕ → List ℕ → Left
left_by check bytes out = left (written_number (wrote_by check bytes)) (written_length (wrote_by check bytes)) (buffer_by check bytes out)

abbrev pub tx_left : Transaction → List ℕ → Left
tx_left x out = left_by (tx_unwritten x out) (tx_bytes (tx_in x)) out

abbrev pub vl_left : ℕ → VoteList → List ℕ → Left
vl_left f l out = left_by (vl_unwritten f l out) (vl_bytes (list_in l)) out

abbrev pub pr_left : Transaction → List ℕ → Left
pr_left x out = left_by (pr_unwritten x out) (pr_bytes (tx_in x)) out

-- an LG or a DC by its number; another number is a message without a list
unfoldable pub listed_mark : ℕ → Mark
listed_mark n = pick (eqb n 2) LG (pick (eqb n 3) DC PR)

abbrev pub listed_left : Mark → ℕ → Transaction → VoteList → List ℕ → Left
listed_left k f x l out = left_by (listed_unwritten k f x l out) (listed_bytes k (tx_in x) (list_in l)) out

abbrev pub views_left : ViewMark → ℕ → ViewList → List ℕ → Left
views_left k f l out = left_by (views_unwritten k f l out) (views_bytes k (views_in k l)) out

abbrev pub viewed_left : ViewMark → ℕ → Transaction → ViewList → List ℕ → Left
viewed_left k f x l out = left_by (viewed_unwritten k f x l out) (viewed_bytes k (tx_in x) (views_in k l)) out

abbrev pub rd_left : ℕ → ℕ → List ℕ → Left
rd_left key stamp out = left_by (rd_unwritten key stamp out) (rd_bytes key stamp) out
