-- A message in parts: what is refused before its contents, what stands behind its transaction by its mark, and the six marks one after another.
use Rattle.std.specs.Prelude.{ℕ, Bool, true, false, List, [], ◌∷◌, Result, Ok, Err}
use Rattle.terms.specs.Choice.{pick}
use Rattle.terms.specs.Checks.{Check, passed, or_else, mark}
use Rattle.terms.specs.declared.Refusal.{Refusal}
use Rattle.records.specs.Tx.{tx_of, held_tx}
use Rattle.records.specs.Vl.{vl_len}
use Rattle.records.specs.Views.{views_len}
use Rattle.records.specs.Contents.{tx_wrong, list_wrong, log_list_wrong, views_wrong}
use Rattle.records.specs.Cutting.{mark_bytes, vl_cut, views_cut, tx_part, message_cut, message_len, behind_wrong}
use Rattle.records.specs.Messages.{is_mark, list_behind, views_behind}
use Rattle.records.specs.declared.Mark.{Mark}
use Rattle.records.specs.declared.Mark.TheVariants.{PR, LG, DC, RD, IV, LD}
use Rattle.records.specs.declared.Transaction.{Transaction}
use Rattle.records.specs.declared.ViewMark.TheVariants.{VS, EL}

-- whether a message has a transaction
abbrev pub has_tx : Mark → Bool
has_tx PR = true
has_tx LG = true
has_tx DC = true
has_tx RD = false
has_tx IV = true
has_tx LD = true

-- ---- the refusals between that of the group and those of the contents: "cutting, record by record ..; then 4"
unfoldable pub early : Mark → List ℕ → Check
early k m = or_else (message_cut k m) (behind_wrong (message_len k m) m)

-- ---- what stands behind the transaction: nothing in a PR, a list in an LG and a DC, views in an IV and an LD
abbrev pub list_cut : Mark → List ℕ → Check
list_cut PR s = passed
list_cut LG s = vl_cut s
list_cut DC s = vl_cut s
list_cut RD s = passed
list_cut IV s = views_cut VS s
list_cut LD s = views_cut EL s

abbrev pub list_len : Mark → List ℕ → ℕ
list_len PR s = 0
list_len LG s = vl_len s
list_len DC s = vl_len s
list_len RD s = 0
list_len IV s = views_len VS s
list_len LD s = views_len EL s

-- "code: .. kind 2 in an LG"
abbrev pub list_wrong_behind : Mark → ℕ → List ℕ → Check
list_wrong_behind PR f m = passed
list_wrong_behind LG f m = log_list_wrong f (list_behind m)
list_wrong_behind DC f m = list_wrong f (list_behind m)
list_wrong_behind RD f m = passed
list_wrong_behind IV f m = views_wrong VS f (views_behind VS m)
list_wrong_behind LD f m = views_wrong EL f (views_behind EL m)

-- ---- "a list is judged only when the transaction before it was read": the transaction of a message, or its refusal
abbrev pub tx_behind : List ℕ → Result Transaction Refusal
tx_behind m = or_else (tx_wrong (tx_of (tx_part m))) (Ok (held_tx (tx_of (tx_part m))))

-- ---- the first of the marks that a message has
abbrev pub marked_in : List Mark → List ℕ → Result Mark Refusal
marked_in [] m = Err mark
marked_in (k ∷ ks) m = pick (is_mark (mark_bytes k) m) (Ok k) (marked_in ks m)
