-- "Writers check 3, the content order without 15, then 17, and write the record's bytes and no others".
use Rattle.std.specs.Prelude.{ℕ, Result, Ok, Err, List, ◌++◌, length, drop}
use Rattle.terms.specs.Checks.{Check, or_else, if_less, mark, buffer}
use Rattle.terms.specs.declared.Refusal.{Refusal}
use Rattle.terms.specs.Group.{group_wrong}
use Rattle.records.specs.declared.Mark.{Mark}
use Rattle.records.specs.declared.Mark.TheVariants.{PR, LG, DC, RD, IV, LD}
use Rattle.records.specs.declared.Transaction.{Transaction}
use Rattle.records.specs.declared.VoteList.{VoteList}
use Rattle.records.specs.declared.ViewList.{ViewList}
use Rattle.records.specs.declared.ViewMark.{ViewMark}
use Rattle.records.specs.Numbers.{le_bytes}
use Rattle.records.specs.Tx.{Tx, tx_in, tx_bytes}
use Rattle.records.specs.Vl.{Vl, list_in, vl_bytes}
use Rattle.records.specs.Views.{Views, views_in, views_bytes}
use Rattle.records.specs.Contents.{counts_wrong, count_wrong, tx_wrong, list_wrong, log_list_wrong, rd_wrong, views_wrong}
use Rattle.records.specs.Cutting.{mark_pr, mark_rd, mark_bytes, carrier}

-- ---- the bytes of each message
unfoldable pub pr_bytes : Tx → List ℕ
pr_bytes x = mark_pr ++ tx_bytes x

-- an LG or a DC
unfoldable pub listed_bytes : Mark → Tx → Vl → List ℕ
listed_bytes k x l = mark_bytes k ++ (tx_bytes x ++ vl_bytes l)

-- an IV or an LD
unfoldable pub viewed_bytes : ViewMark → Tx → Views → List ℕ
viewed_bytes k x l = mark_bytes (carrier k) ++ (tx_bytes x ++ views_bytes k l)

unfoldable pub rd_bytes : ℕ → ℕ → List ℕ
rd_bytes k s = mark_rd ++ (le_bytes 2 k ++ le_bytes 8 s)

-- "buffer: output buffer shorter than the record"
unfoldable pub buffer_wrong : List ℕ → List ℕ → Check
buffer_wrong bytes out = if_less (length out) (length bytes) buffer

-- ---- the refusal of each writer
unfoldable pub tx_unwritten : Transaction → List ℕ → Check
tx_unwritten x out = or_else (counts_wrong x.r x.w) (or_else (tx_wrong (tx_in x)) (buffer_wrong (tx_bytes (tx_in x)) out))

unfoldable pub vl_unwritten : ℕ → VoteList → List ℕ → Check
vl_unwritten f l out =
    or_else (group_wrong f)
    (or_else (count_wrong l.count)
    (or_else (list_wrong f (list_in l))
    (buffer_wrong (vl_bytes (list_in l)) out)))

unfoldable pub pr_unwritten : Transaction → List ℕ → Check
pr_unwritten x out = or_else (counts_wrong x.r x.w) (or_else (tx_wrong (tx_in x)) (buffer_wrong (pr_bytes (tx_in x)) out))

-- "code: .. kind 2 in an LG"; a message with another mark carries no list (2)
unfoldable pub listed_wrong : Mark → ℕ → Vl → Check
listed_wrong PR f l = Err mark
listed_wrong LG f l = log_list_wrong f l
listed_wrong DC f l = list_wrong f l
listed_wrong RD f l = Err mark
listed_wrong IV f l = Err mark
listed_wrong LD f l = Err mark

unfoldable pub listed_unwritten : Mark → ℕ → Transaction → VoteList → List ℕ → Check
listed_unwritten k f x l out =
    or_else (group_wrong f)
    (or_else (counts_wrong x.r x.w)
    (or_else (count_wrong l.count)
    (or_else (tx_wrong (tx_in x))
    (or_else (listed_wrong k f (list_in l))
    (buffer_wrong (listed_bytes k (tx_in x) (list_in l)) out)))))

unfoldable pub views_unwritten : ViewMark → ℕ → ViewList → List ℕ → Check
views_unwritten k f l out =
    or_else (group_wrong f)
    (or_else (count_wrong l.count)
    (or_else (views_wrong k f (views_in k l))
    (buffer_wrong (views_bytes k (views_in k l)) out)))

unfoldable pub viewed_unwritten : ViewMark → ℕ → Transaction → ViewList → List ℕ → Check
viewed_unwritten k f x l out =
    or_else (group_wrong f)
    (or_else (counts_wrong x.r x.w)
    (or_else (count_wrong l.count)
    (or_else (tx_wrong (tx_in x))
    (or_else (views_wrong k f (views_in k l))
    (buffer_wrong (viewed_bytes k (tx_in x) (views_in k l)) out)))))

unfoldable pub rd_unwritten : ℕ → ℕ → List ℕ → Check
rd_unwritten k s out = or_else (rd_wrong k s) (buffer_wrong (rd_bytes k s) out)

-- ---- the answer, and the buffer afterwards
unfoldable pub wrote_by : Check → List ℕ → Result ℕ Refusal
wrote_by c bytes = or_else c (Ok (length bytes))

-- the record's bytes in front, the rest as it was; a refusal leaves all as it was
unfoldable pub buffer_by : Check → List ℕ → List ℕ → List ℕ
buffer_by (Ok _) bytes out = bytes ++ drop (length bytes) out
buffer_by (Err r) bytes out = out
