-- Laws of an outcome: any bytes are judged by their mark, and a refusal leaves the box as it was.
use Prim.Native.Nat.{ℕ}
use mathlib.Core.Path.{◌≡◌, refl}
use mathlib.Core.List.{List}
use native.Mathlib.Omega.{arith}
use lib.ListN.{length, length-set}
use Rattle.terms.specs.declared.Refusal.{Refusal}
use Rattle.records.specs.declared.Mark.{Mark}
use Rattle.std.specs.Prelude.{Ok}
use Rattle.records.specs.Messages.{mark_of}
use Rattle.rules.specs.Answers.{Refused, Version}
use Rattle.rules.specs.Bodies.{Body}
use Rattle.rules.specs.Table.{Box, Entry, Told}
use Rattle.rules.specs.Calls.{Act, Change, nothing, puts, raises, raises_low, cast_act, log_act, decide_act, rd_answer, look_act}
use Rattle.rules.specs.Fallback.{elect_act}
use Rattle.rules.specs.Act.{EntryPoint, receive, due, due_mark, mark_by, act_by, act, table_after, raise, marks_after, low_after, folds_after, box_after, after}
use Rattle.rules.proofs.Moves.{Move, quiet, again, casts, logs_first, takes, elects, decides, replaces}
use Rattle.rules.proofs.Folds.{folds_long}
use Rattle.rules.proofs.Deeds.{Deed, deed, idles, lifts, looks, moves}

-- the entry point for any message does what the one for its mark does
pub act_due : (told : Told) (x : Box) (m : List ℕ) (k : Mark) → mark_of m ≡ Ok k → act receive told x m ≡ act (due (Ok k)) told x m
unfolding act act_by mark_by due_mark
act_due told x m k e = rw e

-- ---- "A refusal returns its number only. Table, read marks, .. stay unchanged."
refused_move : {f : ℕ} {x : Box} {way : EntryPoint} {m : List ℕ} {b : Body} {a : Act} (r : Refusal) → Move f x way m b a → a.answer ≡ Refused r → a.change ≡ nothing
unfolding cast_act log_act elect_act decide_act
refused_move r (quiet n) q = refl
refused_move r (again w e p h n) q = refl
refused_move r (casts v k o p n d c) q = let z : ◌≡◌ {A = ℕ} 0 1 = cc in absurd (omega arith)
refused_move r (logs_first l o w k y p n) q = let z : ◌≡◌ {A = ℕ} 0 1 = cc in absurd (omega arith)
refused_move r (takes l o w y p c n) q = let z : ◌≡◌ {A = ℕ} 0 1 = cc in absurd (omega arith)
refused_move r (elects told v e d u p h c) q = let z : ◌≡◌ {A = ℕ} 0 1 = cc in absurd (omega arith)
refused_move r (decides l o w p) q = let z : ◌≡◌ {A = ℕ} 0 1 = cc in absurd (omega arith)
refused_move r (replaces l e w p d) q = let z : ◌≡◌ {A = ℕ} 0 1 = cc in absurd (omega arith)

refused_change : {f : ℕ} {x : Box} {way : EntryPoint} {m : List ℕ} {b : Body} {a : Act} (r : Refusal) → Deed f x way m b a
    → a.answer ≡ Refused r → a.change ≡ nothing
unfolding look_act rd_answer
refused_change r (moves l k) q = refused_move r k q
refused_change r (idles n) q = refl
refused_change r (looks k s) q = let z : ◌≡◌ {A = ℕ} 0 1 = cc in absurd (omega arith)
refused_change r (lifts l h d) q = let z : ◌≡◌ {A = ℕ} 0 1 = cc in absurd (omega arith)

pub refused_keeps : (told : Told) (x : Box) (way : EntryPoint) (m : List ℕ) (r : Refusal) → (act way told x m).answer ≡ Refused r → after way told x m ≡ x
unfolding after box_after table_after marks_after low_after folds_after
refused_keeps told x way m r q = rw (refused_change r (deed told x way m) q)

-- there is a read mark for each key, whatever arrives
marks_after_lem : (marks : List ℕ) (c : Change) → length (marks_after marks c) ≡ length marks
unfolding marks_after raise
marks_after_lem marks nothing = refl
marks_after_lem marks (puts e) = refl
marks_after_lem marks (raises k s) = length-set marks k _
marks_after_lem marks (raises_low l) = refl

pub marks_long : (told : Told) (x : Box) (way : EntryPoint) (m : List ℕ) → length (after way told x m).marks ≡ length x.marks
unfolding after box_after
marks_long told x way m = marks_after_lem x.marks (act way told x m).change

-- and a fold
folds_after_lem : (t : List Entry) (folds : List Version) (c : Change) → length folds ≡ 512 → length (folds_after t folds c) ≡ 512
unfolding folds_after
folds_after_lem t folds nothing h = h
folds_after_lem t folds (puts e) h = h
folds_after_lem t folds (raises k s) h = h
folds_after_lem t folds (raises_low l) h = folds_long l t folds

pub folds_stay_long : (told : Told) (x : Box) (way : EntryPoint) (m : List ℕ) → length x.folds ≡ 512 → length (after way told x m).folds ≡ 512
unfolding after box_after
folds_stay_long told x way m h = folds_after_lem x.table x.folds (act way told x m).change h
