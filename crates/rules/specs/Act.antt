-- What any bytes do that reach a box, and the raising of its low mark: 14, then the reading, then the rules; and what the box holds afterwards.
use Rattle.std.specs.Prelude.{ℕ, max, List, get_or, set}
use Rattle.terms.specs.Checks.{Check, or_else, mark}
use Rattle.terms.specs.Group.{capacity_wrong, group_wrong}
use Rattle.records.specs.declared.Mark.{Mark}
use Rattle.records.specs.declared.Mark.TheVariants.{PR, LG, DC, RD, IV, LD}
use Rattle.std.specs.Prelude.{Result, Ok, Err}
use Rattle.terms.specs.declared.Refusal.{Refusal}
use Rattle.records.specs.declared.ViewMark.TheVariants.{VS, EL}
use Rattle.records.specs.Cutting.{tx_part}
use Rattle.records.specs.Messages.{due_refusal, list_behind, mark_of, rd_key, rd_stamp, views_behind}
use Rattle.rules.specs.Answers.{Version}
use Rattle.rules.specs.Table.{Box, Entry, Told, put}
use Rattle.rules.specs.Calls.{Act, Change, dc_rule, guarded, lg_rule, nothing, old_wrong, pr_rule, puts, raises, raises_low, rd_rule, refuse}
use Rattle.rules.specs.Bodies.{Body, stamp_of}
use Rattle.rules.specs.Fallback.{iv_rule, ld_rule}
use Rattle.rules.specs.Low.{above, folds_up_to, low_rule}

-- 14: "f not 1 to 5, or capacity not 1 to 255". "Order: 14, 16; then cutting": 16 is about a lent table, and is asked where one is lent
unfoldable pub told_wrong : Told → Check
told_wrong told = or_else (group_wrong told.f) (capacity_wrong told.capacity)

-- A11: "18 old, for PR, LG, DC, RD or a fallback message with a stamp at or below L .., the first state refusal"
unfoldable pub unless_old : Box → Body → Act → Act
unless_old x b a = guarded (old_wrong x.low (stamp_of b)) a

-- the rule of each message
unfoldable pub rule : Mark → Told → Box → List ℕ → Act
rule PR told x m = unless_old x (tx_part m) (pr_rule told x (tx_part m))
rule LG told x m = unless_old x (tx_part m) (lg_rule told x (tx_part m) (list_behind m))
rule DC told x m = unless_old x (tx_part m) (dc_rule told x (tx_part m) (list_behind m))
rule RD told x m = rd_rule told x (rd_key m) (rd_stamp m)
rule IV told x m = unless_old x (tx_part m) (iv_rule told x (tx_part m) (views_behind VS m))
rule LD told x m = unless_old x (tx_part m) (ld_rule told x (tx_part m) (views_behind EL m))

-- "then cutting ..; Then contents ..; State refusals follow": a message where one with this mark is due
unfoldable pub due_act : Mark → Told → Box → List ℕ → Act
due_act k told x m = guarded (due_refusal k told.f m) (rule k told x m)

-- by the mark that it is said to have, or the refusal of that
unfoldable pub marked_act : Result Mark Refusal → Told → Box → List ℕ → Act
marked_act (Ok k) told x m = due_act k told x m
marked_act (Err r) told x m = refuse r

-- how a box is called: by the entry point for any message, by the one where a certain mark is due, or, A11, to raise its low mark, which takes no
-- message
pub data EntryPoint : Type 0 where
  receive : EntryPoint
  due : Result Mark Refusal → EntryPoint
  raising : ℕ → EntryPoint

-- "mark is not the one due": where none of the six is due, all is refused with 2, whatever stands in the mark's place
unfoldable pub due_mark : {E : Type 0} → Result Mark E → Result Mark Refusal
due_mark (Ok k) = Ok k
due_mark (Err r) = Err mark

unfoldable pub mark_by : EntryPoint → List ℕ → Result Mark Refusal
mark_by receive m = mark_of m
mark_by (due k) m = due_mark k
mark_by (raising l) m = Err mark

-- a message by its mark, or a low mark
unfoldable pub act_by : EntryPoint → Told → Box → List ℕ → Act
act_by receive told x m = marked_act (mark_by receive m) told x m
act_by (due k) told x m = marked_act (mark_by (due k) m) told x m
act_by (raising l) told x m = low_rule x l

-- "Order: 14, .."
unfoldable pub act : EntryPoint → Told → Box → List ℕ → Act
act p told x m = guarded (told_wrong told) (act_by p told x m)

-- "Raises the key's read mark to the stamp if it is lower."
unfoldable pub raise : List ℕ → ℕ → ℕ → List ℕ
raise marks k s = set marks k (max (get_or marks k 0) s)

-- what a change leaves of the table, and of the read marks
unfoldable pub table_after : List Entry → Change → List Entry
table_after t nothing = t
table_after t (puts e) = put e t
table_after t (raises k s) = t
table_after t (raises_low l) = above l t

unfoldable pub marks_after : List ℕ → Change → List ℕ
marks_after marks nothing = marks
marks_after marks (puts e) = marks
marks_after marks (raises k s) = raise marks k s
marks_after marks (raises_low l) = marks

-- and of the low mark and what is folded
unfoldable pub low_after : ℕ → Change → ℕ
low_after low nothing = low
low_after low (puts e) = low
low_after low (raises k s) = low
low_after low (raises_low l) = l

unfoldable pub folds_after : List Entry → List Version → Change → List Version
folds_after t folds nothing = folds
folds_after t folds (puts e) = folds
folds_after t folds (raises k s) = folds
folds_after t folds (raises_low l) = folds_up_to l t folds

-- the box afterwards
unfoldable pub box_after : Box → Change → Box
box_after x c =
    record {
      table = table_after x.table c;
      marks = marks_after x.marks c;
      low = low_after x.low c;
      folds = folds_after x.table x.folds c;
    }

unfoldable pub after : EntryPoint → Told → Box → List ℕ → Box
after p told x m = box_after x (act p told x m).change
