use Rattle.engine.proofs.Lent.{long, wf, small_f}
use Rattle.engine.proofs.Steps.{does, pr_is, lg_is, dc_is, rd_is, iv_is, ld_is, list_is, views_are}
use Rattle.reading.proofs.Due.{pr_due, lg_due, dc_due, viewed_due, rd_due}
use Rattle.records.specs.declared.ViewMark.TheVariants.{VS, EL}
use native.Mathlib.Omega.{arith}
use Rattle.engine.proofs.step_of.Goals as goal

pub count_of-n-requires : goal.count_of-n-requires
count_of-n-requires c = let l = long _ _ c.requires.0 in omega arith

pub rows-rows-requires : goal.rows-rows-requires
rows-rows-requires c = let l = long _ _ c.requires.0 in omega arith

pub tx_part_of-requires : goal.tx_part_of-requires
tx_part_of-requires c = pr_due _ _ (rw c.in-PR.is at c.requires.1)

pub pr_step-requires : goal.pr_step-requires
pr_step-requires c = let l = long _ _ c.requires.0 in (wf _ _ c.requires.0 _ _ c.rows-rows.ensures c.count_of-n.ensures.0, c.tx_part_of.ensures.1, omega arith)

pub list_behind-list-requires : goal.list_behind-list-requires
list_behind-list-requires c = lg_due _ _ (rw c.in-LG.is at c.requires.1)

pub tx_part_of-requires-in-LG : goal.tx_part_of-requires-in-LG
tx_part_of-requires-in-LG c = let h = lg_due _ _ (rw c.in-LG.is at c.requires.1) in (h.0, h.1)

pub lg_step-requires : goal.lg_step-requires
lg_step-requires c = (wf _ _ c.requires.0 _ _ c.rows-rows.ensures c.count_of-n.ensures.0, c.tx_part_of-in-LG.ensures.1, small_f _ _ c.requires.0, c.list_behind-list.ensures.1)

pub list_behind-list-requires-in-DC : goal.list_behind-list-requires-in-DC
list_behind-list-requires-in-DC c = dc_due _ _ (rw c.in-DC.is at c.requires.1)

pub tx_part_of-requires-in-DC : goal.tx_part_of-requires-in-DC
tx_part_of-requires-in-DC c = let h = dc_due _ _ (rw c.in-DC.is at c.requires.1) in (h.0, h.1)

pub dc_step-requires : goal.dc_step-requires
dc_step-requires c = (wf _ _ c.requires.0 _ _ c.rows-rows.ensures c.count_of-n.ensures.0, c.tx_part_of-in-DC.ensures.1, small_f _ _ c.requires.0, c.list_behind-list-in-DC.ensures.1)

pub rd_key-requires : goal.rd_key-requires
rd_key-requires c = (rd_due _ _ (rw c.in-RD.is at c.requires.1)).0

pub rd_stamp-requires : goal.rd_stamp-requires
rd_stamp-requires c = (rd_due _ _ (rw c.in-RD.is at c.requires.1)).0

pub rd_step-requires : goal.rd_step-requires
rd_step-requires c = let l = long _ _ c.requires.0 in (wf _ _ c.requires.0 _ _ c.rows-rows.ensures c.count_of-n.ensures.0, omega arith)

pub views_behind-views-requires : goal.views_behind-views-requires
views_behind-views-requires c = viewed_due _ _ VS (rw c.in-IV.is at c.requires.1)

pub tx_part_of-requires-in-IV : goal.tx_part_of-requires-in-IV
tx_part_of-requires-in-IV c = let h = viewed_due _ _ VS (rw c.in-IV.is at c.requires.1) in (h.0, h.1)

pub iv_step-requires : goal.iv_step-requires
iv_step-requires c = (wf _ _ c.requires.0 _ _ c.rows-rows.ensures c.count_of-n.ensures.0, c.tx_part_of-in-IV.ensures.1, small_f _ _ c.requires.0, c.views_behind-views.ensures.1)

pub views_behind-answers-requires : goal.views_behind-answers-requires
views_behind-answers-requires c = viewed_due _ _ EL (rw c.in-LD.is at c.requires.1)

pub tx_part_of-requires-in-LD : goal.tx_part_of-requires-in-LD
tx_part_of-requires-in-LD c = let h = viewed_due _ _ EL (rw c.in-LD.is at c.requires.1) in (h.0, h.1)

pub ld_step-requires : goal.ld_step-requires
ld_step-requires c = (wf _ _ c.requires.0 _ _ c.rows-rows.ensures c.count_of-n.ensures.0, c.tx_part_of-in-LD.ensures.1, small_f _ _ c.requires.0, c.views_behind-answers.ensures.1)

pub returns-in-PR : goal.returns-in-PR
returns-in-PR c = let m = c.in-PR.is in let z = rw m at c.requires.1 in let o = rw m at c.requires.2 in rw m (does _ _ _ _ c.requires.0 _ z _ (pr_is _ _ _ _ _ c.rows-rows.ensures c.count_of-n.ensures.0 _ _ _ c.tx_part_of.ensures.0 o c.pr_step.ensures))

pub returns-in-LG : goal.returns-in-LG
returns-in-LG c = let m = c.in-LG.is in let z = rw m at c.requires.1 in let o = rw m at c.requires.2 in rw m (does _ _ _ _ c.requires.0 _ z _ (lg_is _ _ _ _ _ c.rows-rows.ensures c.count_of-n.ensures.0 _ _ _ c.tx_part_of-in-LG.ensures.0 o _ (list_is _ _ c.list_behind-list.ensures.0) (c.lg_step.ensures _ _ _)))

pub returns-in-DC : goal.returns-in-DC
returns-in-DC c = let m = c.in-DC.is in let z = rw m at c.requires.1 in let o = rw m at c.requires.2 in rw m (does _ _ _ _ c.requires.0 _ z _ (dc_is _ _ _ _ _ c.rows-rows.ensures c.count_of-n.ensures.0 _ _ _ c.tx_part_of-in-DC.ensures.0 o _ (list_is _ _ c.list_behind-list-in-DC.ensures.0) (c.dc_step.ensures _ _ _)))

pub returns-in-RD : goal.returns-in-RD
returns-in-RD c = let m = c.in-RD.is in let z = rw m at c.requires.1 in rw m (does _ _ _ _ c.requires.0 _ z _ (rd_is _ _ _ _ _ c.rows-rows.ensures c.count_of-n.ensures.0 _ _ _ _ c.rd_key.ensures c.rd_stamp.ensures (c.rd_step.ensures _ _)))

pub returns-in-IV : goal.returns-in-IV
returns-in-IV c = let m = c.in-IV.is in let z = rw m at c.requires.1 in let o = rw m at c.requires.2 in rw m (does _ _ _ _ c.requires.0 _ z _ (iv_is _ _ _ _ _ c.rows-rows.ensures c.count_of-n.ensures.0 _ _ _ c.tx_part_of-in-IV.ensures.0 o _ (views_are VS _ _ c.views_behind-views.ensures.0) (c.iv_step.ensures _ _ _)))

pub returns-in-LD : goal.returns-in-LD
returns-in-LD c = let m = c.in-LD.is in let z = rw m at c.requires.1 in let o = rw m at c.requires.2 in rw m (does _ _ _ _ c.requires.0 _ z _ (ld_is _ _ _ _ _ c.rows-rows.ensures c.count_of-n.ensures.0 _ _ _ c.tx_part_of-in-LD.ensures.0 o _ (views_are EL _ _ c.views_behind-answers.ensures.0) (c.ld_step.ensures _ _ _)))
