-- What the reading of any bytes answers: the record's value, or the first refusal.
use Rattle.std.specs.Prelude.{ℕ, Bool, ◌&&◌, List, [], length, get_or, eqb, ltb, Result, Ok, Err}
use Rattle.terms.specs.Choice.{pick}
use Rattle.terms.specs.Checks.{Check, or_else, short, mark}
use Rattle.terms.specs.declared.Refusal.{Refusal}
use Rattle.terms.specs.Group.{group_wrong}
use Rattle.records.specs.Numbers.{num_at}
use Rattle.records.specs.Tx.{tx_of, held_tx, tx_len}
use Rattle.records.specs.Vl.{Vl, vl_of, held_list, vl_len}
use Rattle.records.specs.Views.{Views, views_of, held_views, views_len}
use Rattle.records.specs.Contents.{tx_wrong, list_wrong, log_list_wrong, rd_wrong, views_wrong}
use Rattle.records.specs.Cutting.{tx_cut, vl_cut, behind_wrong, message_cut, message_len, tx_part, list_part, mark_pr, mark_lg, mark_dc, mark_rd, mark_iv, mark_ld, views_cut}
use Rattle.records.specs.declared.Mark.{Mark}
use Rattle.records.specs.declared.Mark.TheVariants.{PR, LG, DC, RD, IV, LD}
use Rattle.records.specs.declared.Message.{Message}
use Rattle.records.specs.declared.Message.TheVariants.{PR as pr, LG as lg, DC as dc, RD as rd, IV as iv, LD as ld}
use Rattle.records.specs.declared.Transaction.{Transaction}
use Rattle.records.specs.declared.VoteList.{VoteList}
use Rattle.records.specs.declared.ViewList.{ViewList}
use Rattle.records.specs.declared.ViewMark.{ViewMark}
use Rattle.records.specs.declared.ViewMark.TheVariants.{VS, EL}

-- ---- a TX, a VL, a VS and an EL by themselves
unfoldable pub tx_refusal : List ℕ → Check
tx_refusal s = or_else (tx_cut s) (or_else (behind_wrong (tx_len s) s) (tx_wrong (tx_of s)))

unfoldable pub vl_refusal : ℕ → List ℕ → Check
vl_refusal f s = or_else (group_wrong f) (or_else (vl_cut s) (or_else (behind_wrong (vl_len s) s) (list_wrong f (vl_of s))))

unfoldable pub views_refusal : ViewMark → ℕ → List ℕ → Check
views_refusal k f s =
    or_else (group_wrong f) (or_else (views_cut k s) (or_else (behind_wrong (views_len k s) s) (views_wrong k f (views_of k s))))

-- "A refusal returns its number only"
unfoldable pub read_tx : List ℕ → Result Transaction Refusal
read_tx s = or_else (tx_refusal s) (Ok (held_tx (tx_of s)))

unfoldable pub read_vl : ℕ → List ℕ → Result VoteList Refusal
read_vl f s = or_else (vl_refusal f s) (Ok (held_list (vl_of s)))

unfoldable pub read_views : ViewMark → ℕ → List ℕ → Result ViewList Refusal
read_views k f s = or_else (views_refusal k f s) (Ok (held_views (views_of k s)))

-- ---- what stands in a message
-- the list behind the transaction
unfoldable pub list_behind : List ℕ → Vl
list_behind m = vl_of (list_part m)

-- the views, or the election answers, behind the transaction
unfoldable pub views_behind : ViewMark → List ℕ → Views
views_behind k m = views_of k (list_part m)

-- the key and the stamp of an RD
abbrev pub rd_key : List ℕ → ℕ
rd_key m = num_at 2 2 m

abbrev pub rd_stamp : List ℕ → ℕ
rd_stamp m = num_at 8 4 m

-- what a message carries, by its mark
unfoldable pub message_of : Mark → List ℕ → Message
message_of PR m = pr (held_tx (tx_of (tx_part m)))
message_of LG m = lg (held_tx (tx_of (tx_part m))) (held_list (list_behind m))
message_of DC m = dc (held_tx (tx_of (tx_part m))) (held_list (list_behind m))
message_of RD m = rd (record { 0 = rd_key m }) (record { 0 = rd_stamp m })
message_of IV m = iv (held_tx (tx_of (tx_part m))) (held_views (views_behind VS m))
message_of LD m = ld (held_tx (tx_of (tx_part m))) (held_views (views_behind EL m))

-- ---- a message where one with this mark is due
-- "a list is judged only when the transaction before it was read"; "code: .. kind 2 in an LG"
unfoldable pub contents_wrong : Mark → ℕ → List ℕ → Check
contents_wrong PR f m = tx_wrong (tx_of (tx_part m))
contents_wrong LG f m = or_else (tx_wrong (tx_of (tx_part m))) (log_list_wrong f (list_behind m))
contents_wrong DC f m = or_else (tx_wrong (tx_of (tx_part m))) (list_wrong f (list_behind m))
contents_wrong RD f m = rd_wrong (rd_key m) (rd_stamp m)
contents_wrong IV f m = or_else (tx_wrong (tx_of (tx_part m))) (views_wrong VS f (views_behind VS m))
contents_wrong LD f m = or_else (tx_wrong (tx_of (tx_part m))) (views_wrong EL f (views_behind EL m))

-- "Order: 14, ..; then cutting, record by record ..; then 4. Then contents"
unfoldable pub due_refusal : Mark → ℕ → List ℕ → Check
due_refusal k f m =
    or_else (group_wrong f)
    (or_else (message_cut k m)
    (or_else (behind_wrong (message_len k m) m)
    (contents_wrong k f m)))

unfoldable pub read_due : Mark → ℕ → List ℕ → Result Message Refusal
read_due k f m = or_else (due_refusal k f m) (Ok (message_of k m))

-- ---- any of the six
unfoldable pub is_mark : List ℕ → List ℕ → Bool
is_mark due m = eqb (get_or m 0 0) (get_or due 0 0) && eqb (get_or m 1 0) (get_or due 1 0)

-- "mark bytes present (1)"; "mark is not .. PR, LG, DC, RD", A5's IV and LD, is 2
unfoldable pub mark_of : List ℕ → Result Mark Refusal
mark_of m =
    pick (ltb (length m) 2) (Err short)
    (pick (is_mark mark_pr m) (Ok PR)
    (pick (is_mark mark_lg m) (Ok LG)
    (pick (is_mark mark_dc m) (Ok DC)
    (pick (is_mark mark_rd m) (Ok RD)
    (pick (is_mark mark_iv m) (Ok IV)
    (pick (is_mark mark_ld m) (Ok LD) (Err mark)))))))

-- a message by the mark that it is said to have
unfoldable pub marked_refusal : Result Mark Refusal → ℕ → List ℕ → Check
marked_refusal (Ok k) f m = due_refusal k f m
marked_refusal (Err r) f m = Err r

unfoldable pub read_marked : Result Mark Refusal → ℕ → List ℕ → Result Message Refusal
read_marked (Ok k) f m = read_due k f m
read_marked (Err r) f m = Err r

-- the same where whoever calls holds something else for a refusal: a mark's is handed on as it is, and g tells what it holds for the message's
abbrev pub refused_as : {E A : Type 0} → (Refusal → E) → Result A Refusal → Result A E
refused_as g (Ok x) = Ok x
refused_as g (Err r) = Err (g r)

unfoldable pub read_marked_as : {E : Type 0} → (Refusal → E) → Result Mark E → ℕ → List ℕ → Result Message E
read_marked_as g (Ok k) f m = refused_as g (read_due k f m)
read_marked_as g (Err e) f m = Err e

-- "14 ..; then cutting"
unfoldable pub read_message : ℕ → List ℕ → Result Message Refusal
read_message f m = or_else (group_wrong f) (read_marked (mark_of m) f m)

-- "the transaction's bytes inside the message are handed back as they stand (an empty part for a refused message or an RD)"
unfoldable pub handed_by : Result Message Refusal → List ℕ → List ℕ
handed_by (Ok (pr x)) s = s
handed_by (Ok (lg x l)) s = s
handed_by (Ok (dc x l)) s = s
handed_by (Ok (rd k t)) s = []
handed_by (Ok (iv x l)) s = s
handed_by (Ok (ld x l)) s = s
handed_by (Err r) s = []

unfoldable pub handed_back : ℕ → List ℕ → List ℕ
handed_back f m = handed_by (read_message f m) (tx_part m)
