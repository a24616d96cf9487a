-- "cutting, record by record: mark bytes present (1), mark right (2), count bytes present (1), counts (3), rest present (1); then 4".
use Rattle.std.specs.Prelude.{ℕ, ◌+◌, List, [], ◌∷◌, length, get_or, take, drop}
use Rattle.terms.specs.Checks.{Check, or_else, if_less, if_other, short, mark, trailing}
use Rattle.records.specs.declared.Mark.{Mark}
use Rattle.records.specs.declared.Mark.TheVariants.{PR, LG, DC, RD, IV, LD}
use Rattle.records.specs.Tx.{mark_tx, r_count, w_count, tx_len}
use Rattle.records.specs.declared.ViewMark.{ViewMark}
use Rattle.records.specs.declared.ViewMark.TheVariants.{VS, EL}
use Rattle.records.specs.Vl.{mark_vl, vl_count, vl_len}
use Rattle.records.specs.Views.{ballots_from, view_mark_bytes, views_count, views_len}
use Rattle.records.specs.Contents.{counts_wrong, count_wrong}

-- "mark bytes present (1), mark right (2)"
unfoldable pub mark_wrong : List ℕ → List ℕ → Check
mark_wrong due s =
    or_else (if_less (length s) 2 short)
    (or_else (if_other (get_or s 0 0) (get_or due 0 0) mark)
    (if_other (get_or s 1 0) (get_or due 1 0) mark))

-- a TX at the front
unfoldable pub tx_cut : List ℕ → Check
tx_cut s =
    or_else (mark_wrong mark_tx s)
    (or_else (if_less (length s) 4 short)
    (or_else (counts_wrong (r_count s) (w_count s))
    (if_less (length s) (tx_len s) short)))

-- a VL at the front
unfoldable pub vl_cut : List ℕ → Check
vl_cut s =
    or_else (mark_wrong mark_vl s)
    (or_else (if_less (length s) 5 short)
    (or_else (count_wrong (vl_count s))
    (if_less (length s) (vl_len s) short)))

-- a VS or an EL at the front
unfoldable pub views_cut : ViewMark → List ℕ → Check
views_cut k s =
    or_else (mark_wrong (view_mark_bytes k) s)
    (or_else (if_less (length s) (ballots_from k) short)
    (or_else (count_wrong (views_count k s))
    (if_less (length s) (views_len k s) short)))

-- "trailing: bytes after the message"
unfoldable pub behind_wrong : ℕ → List ℕ → Check
behind_wrong n s = if_less n (length s) trailing

-- "PR: "PR", TX. LG and DC: mark, TX, VL. RD: "RD", key (2), stamp (8)"; A5, IV: "IV", TX, VS. LD: "LD", TX, EL
abbrev pub mark_pr : List ℕ
mark_pr = 80 ∷ 82 ∷ []

abbrev pub mark_lg : List ℕ
mark_lg = 76 ∷ 71 ∷ []

abbrev pub mark_dc : List ℕ
mark_dc = 68 ∷ 67 ∷ []

abbrev pub mark_rd : List ℕ
mark_rd = 82 ∷ 68 ∷ []

abbrev pub mark_iv : List ℕ
mark_iv = 73 ∷ 86 ∷ []

abbrev pub mark_ld : List ℕ
mark_ld = 76 ∷ 68 ∷ []

-- a message's mark as its two bytes
abbrev pub mark_bytes : Mark → List ℕ
mark_bytes PR = mark_pr
mark_bytes LG = mark_lg
mark_bytes DC = mark_dc
mark_bytes RD = mark_rd
mark_bytes IV = mark_iv
mark_bytes LD = mark_ld

-- the message that carries a VS, and the one that carries an EL
abbrev pub carrier : ViewMark → Mark
carrier VS = IV
carrier EL = LD

-- what stands behind a message's mark, and there behind the TX
abbrev pub behind_mark : List ℕ → List ℕ
behind_mark m = drop 2 m

unfoldable pub tx_part : List ℕ → List ℕ
tx_part m = take (tx_len (behind_mark m)) (behind_mark m)

unfoldable pub list_part : List ℕ → List ℕ
list_part m = drop (tx_len (behind_mark m)) (behind_mark m)

-- a TX and a VL behind the mark
unfoldable pub listed_cut : List ℕ → Check
listed_cut m = or_else (tx_cut (behind_mark m)) (vl_cut (list_part m))

-- a TX and a VS behind the mark, or a TX and an EL
unfoldable pub viewed_cut : ViewMark → List ℕ → Check
viewed_cut k m = or_else (tx_cut (behind_mark m)) (views_cut k (list_part m))

-- the length of an RD
abbrev pub rd_len : ℕ
rd_len = 12

-- what follows the mark
unfoldable pub rest_cut : Mark → List ℕ → Check
rest_cut PR m = tx_cut (behind_mark m)
rest_cut LG m = listed_cut m
rest_cut DC m = listed_cut m
rest_cut RD m = if_less (length m) rd_len short
rest_cut IV m = viewed_cut VS m
rest_cut LD m = viewed_cut EL m

-- a message at the front, where one with this mark is due
unfoldable pub message_cut : Mark → List ℕ → Check
message_cut k m = or_else (mark_wrong (mark_bytes k) m) (rest_cut k m)

-- its length
unfoldable pub listed_len : List ℕ → ℕ
listed_len m = 2 + tx_len (behind_mark m) + vl_len (list_part m)

unfoldable pub viewed_len : ViewMark → List ℕ → ℕ
viewed_len k m = 2 + tx_len (behind_mark m) + views_len k (list_part m)

unfoldable pub message_len : Mark → List ℕ → ℕ
message_len PR m = 2 + tx_len (behind_mark m)
message_len LG m = listed_len m
message_len DC m = listed_len m
message_len RD m = rd_len
message_len IV m = viewed_len VS m
message_len LD m = viewed_len EL m
