-- The bridge: on a table that is taken an entry point does what the rules do, and the entries afterwards are the rules' entries afterwards.
use Prim.Native.Nat.{ℕ, ◌<◌, ◌≤◌}
use native.Mathlib.Omega.{arith}
use mathlib.Core.Path.{◌≡◌, refl, ap, sym, ◌∙◌}
use mathlib.Core.List.{List}
use lib.ListN.{length, drop}
use Rattle.terms.specs.Checks.{passed}
use Rattle.records.specs.Tx.{tx_len, TxThere}
use Rattle.std.specs.Prelude.{Result, Ok, Err}
use Rattle.terms.specs.declared.Refusal.{Refusal}
use Rattle.records.specs.declared.Mark.{Mark}
use Rattle.records.specs.Cutting.{tx_part}
use Rattle.rules.specs.declared.Told.{Told}
use Rattle.rules.specs.Bodies.{stamp_of}
use Rattle.rules.specs.Table.{Box}
use Rattle.rules.specs.Calls.{Change, nothing, puts, raises, raises_low, guarded}
use Rattle.rules.specs.Act.{EntryPoint, receive, due, raising, told_wrong, due_act, marked_act, mark_by, act_by, act}
use Rattle.rules.specs.Act.{table_after, low_after, folds_after, box_after, after}
use Rattle.rules.specs.Low.{low_rule}
use Rattle.rules.proofs.Room.{FitsBy, FitsIn, Fit, act_fits}
use Rattle.table.specs.Table.{entries_of, folds_of, low_of, table_wrong, count_of, place, state_in, head_len}
use Rattle.table.proofs.Storing.{stored_put, stored_right, stored_low, stored_folds}
use Rattle.low.proofs.Raised.{raised_entries, raised_low, raised_folds, raised_right}
use Rattle.table.proofs.Checked.{table_count, table_room}
use Rattle.steps.proofs.Stored.{below, put_entry}
use Rattle.engine.specs.Outcome.{Kept, box_in, lent_wrong, called, table_by}
use Rattle.engine.specs.Safety.{leaves}
use Rattle.engine.proofs.Guards.{through, guarded_or}
use Rattle.engine.proofs.Raised.{body_there, body_long}
use Rattle.engine.proofs.Steps.{Bodied, guarded_bodied, rule_bodied}

-- 16 passes, and the rest is the rules'
pub called_act : (way : EntryPoint) (told : Told) (x : Kept) (m : List ℕ) → table_wrong told.capacity x.table ≡ passed
    → called way told x m ≡ act way told (box_in x) m
unfolding called act lent_wrong
called_act way told x m fine =
    guarded_or _ _ _ ∙ (ap (guarded (told_wrong told)) (sym (through _ _ fine)))

-- what the rules put they put for a message with a body
marked_bodied : (k : Result Mark Refusal) (told : Told) (x : Box) (m : List ℕ) → Bodied m (marked_act k told x m).change
unfolding marked_act due_act Bodied
marked_bodied (Ok k) told x m = guarded_bodied m _ _ (rule_bodied k told x m)
marked_bodied (Err r) told x m = tt

way_bodied : (way : EntryPoint) (told : Told) (x : Box) (m : List ℕ) → Bodied m (act_by way told x m).change
unfolding act_by low_rule Bodied
way_bodied receive told x m = marked_bodied (mark_by receive m) told x m
way_bodied (due k) told x m = marked_bodied (mark_by (due k) m) told x m
way_bodied (raising l) told x m = guarded_bodied m _ _ (λ _. tt)

pub act_bodied : (way : EntryPoint) (told : Told) (x : Box) (m : List ℕ) → Bodied m (act way told x m).change
unfolding act
act_bodied way told x m = guarded_bodied m _ _ (λ _. way_bodied way told x m)

-- a change that fits: the entries of the table afterwards are the entries afterwards, so are low mark and folds, and it can be taken again
abbrev Bridged : ℕ → List ℕ → Change → Type 0
Bridged capacity t c =
    (entries_of (table_by t c) ≡ table_after (entries_of t) c)
    × (low_of (table_by t c) ≡ low_after (low_of t) c)
    × (folds_of (table_by t c) ≡ folds_after (entries_of t) (folds_of t) c)
    × (table_wrong capacity (table_by t c) ≡ passed)

bridged : (told : Told) (x : Kept) (m : List ℕ) → table_wrong told.capacity x.table ≡ passed → (c : Change) → FitsIn told (box_in x) (tx_part m) c
    → Bodied m c → Bridged told.capacity x.table c
unfolding table_by table_after low_after folds_after FitsBy Bodied box_in entries_of
bridged told x m fine nothing h d = (refl, refl, refl, fine)
bridged told x m fine (raises k s) h d = (refl, refl, refl, fine)
bridged told x m fine (raises_low l) h d = (
  raised_entries told.capacity l x.table fine,
  raised_low told.capacity l x.table fine,
  raised_folds told.capacity l x.table fine,
  raised_right told.capacity l x.table fine,
)
bridged told x m fine (puts e) h d = (
  stored_put told.capacity i e.body (state_in e) whole there free t fine refl ∙ (rw (put_entry e)),
  stored_low t i e.body (state_in e) head,
  stored_folds t i e.body (state_in e) head,
  stored_right told.capacity i e.body (state_in e) whole there free t fine refl,
)
  where
    t : List ℕ
    t = x.table

    i : ℕ
    i = place (stamp_of e.body) (entries_of t)

    head : head_len ≤ length t
    head = let r = table_room told.capacity t fine in omega arith

    whole : length e.body ≡ tx_len e.body
    whole = rw h.0 (body_long m d.1)

    there : TxThere e.body
    there = rw h.0 (body_there m d.1)

    free : i < told.capacity
    free = rw h.0 (below (drop head_len t) (count_of t) (stamp_of (tx_part m)) told.capacity (table_count told.capacity t fine) h.1)

-- so what is kept afterwards holds what the rules hold afterwards
pub bridge : (way : EntryPoint) (told : Told) (x : Kept) (m : List ℕ) → table_wrong told.capacity x.table ≡ passed
    → (box_in (leaves way told x m) ≡ after way told (box_in x) m) × (table_wrong told.capacity (leaves way told x m).table ≡ passed)
unfolding leaves after box_after box_in Fit
bridge way told x m fine =
    let a = called_act way told x m fine in
    let c = (act way told (box_in x) m).change in
    let b = bridged told x m fine c (act_fits told (box_in x) m way) (act_bodied way told (box_in x) m) in
    rw a (rw (b.0, b.1, b.2), b.3)
