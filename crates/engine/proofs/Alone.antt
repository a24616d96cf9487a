-- PR, LG, DC, IV and LD raise no mark, RD puts no entry.
use Prim.Native.Nat.{ℕ}
use mathlib.Core.Path.{◌≡◌, refl}
use mathlib.Core.List.{List}
use Rattle.records.specs.declared.Mark.{Mark}
use Rattle.records.specs.declared.Mark.TheVariants.{PR, LG, DC, RD, IV, LD}
use Rattle.records.specs.Cutting.{tx_part}
use Rattle.records.specs.declared.ViewMark.TheVariants.{VS, EL}
use Rattle.records.specs.Messages.{list_behind, views_behind}
use Rattle.rules.specs.declared.Told.{Told}
use Rattle.rules.specs.Bodies.{Body}
use Rattle.rules.specs.Calls.{Act, nothing, look_act, rd_rule}
use Rattle.rules.specs.Act.{rule, unless_old, due_act, marked_act, due_mark, mark_by, act_by, marks_after}
use Rattle.rules.proofs.Deeds.{guarded_elim}
use Rattle.rules.proofs.Room.{pr_still, lg_still, dc_still, iv_still, ld_still}
use Rattle.engine.specs.Outcome.{Kept, box_in, called, table_by, leaves_alone, LeavesAlone}

nothing_alone : (k : Mark) (x : Kept) → leaves_alone k x nothing
unfolding leaves_alone marks_after table_by
nothing_alone PR x = refl
nothing_alone LG x = refl
nothing_alone DC x = refl
nothing_alone RD x = refl
nothing_alone IV x = refl
nothing_alone LD x = refl

-- where it is old too
old_alone : (k : Mark) (x : Kept) (b : Body) (a : Act) → leaves_alone k x a.change → leaves_alone k x (unless_old (box_in x) b a).change
unfolding unless_old
old_alone k x b a h = guarded_elim (λ (y : Act). leaves_alone k x y.change) _ a (λ _. h) (λ _. nothing_alone k x)

rule_alone : (k : Mark) (told : Told) (x : Kept) (m : List ℕ) → leaves_alone k x (rule k told (box_in x) m).change
unfolding leaves_alone rule rd_rule look_act table_by
rule_alone PR told x m = old_alone PR x _ _ (pr_still told (box_in x) (tx_part m) x.marks)
rule_alone LG told x m = old_alone LG x _ _ (lg_still told (box_in x) (tx_part m) x.marks (list_behind m))
rule_alone DC told x m = old_alone DC x _ _ (dc_still told (box_in x) (tx_part m) x.marks (list_behind m))
rule_alone IV told x m = old_alone IV x _ _ (iv_still told (box_in x) (tx_part m) x.marks (views_behind VS m))
rule_alone LD told x m = old_alone LD x _ _ (ld_still told (box_in x) (tx_part m) x.marks (views_behind EL m))
rule_alone RD told x m =
    guarded_elim (λ (a : Act). table_by x.table a.change ≡ x.table) _ _
    (λ _. guarded_elim (λ (a : Act). table_by x.table a.change ≡ x.table) _ _ (λ _. refl) (λ _. refl))
    (λ _. refl)

pub leaves_alone_lem : LeavesAlone
unfolding called act_by due_mark mark_by marked_act due_act
leaves_alone_lem k told x m =
    guarded_elim (λ (a : Act). leaves_alone k x a.change) _ _
    (λ _. guarded_elim (λ (a : Act). leaves_alone k x a.change) _ _ (λ _. rule_alone k told x m) (λ _. nothing_alone k x))
    (λ _. nothing_alone k x)
