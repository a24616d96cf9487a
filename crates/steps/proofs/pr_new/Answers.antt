use mathlib.Core.Path.{sym, ◌∙◌}
use Rattle.terms.proofs.Scans.{tab_length}
use Rattle.rules.specs.Bodies.{stamp_of}
use Rattle.table.specs.Table.{box_from}
use Rattle.steps.proofs.Entries.{pr_full, pr_room}
use Rattle.steps.proofs.Looking.{own_most}
use native.Mathlib.Omega.{arith}
use Rattle.steps.proofs.pr_new.Goals as goal

pub returns-then-is_full : goal.returns-then-is_full
returns-then-is_full c = c.refuse.ensures ∙ pr_full _ _ (box_from _ _ _) _ _ (tab_length _ _ _) (sym c.is_full.ensures ∙ c.if-is_full.true)

pub overflow_add-own : goal.overflow_add-own
overflow_add-own c = let r = c.requires.0.room in let o = own_most c.args.t.now c.args.n (stamp_of c.args.b.now) c.args.own c.requires.2 in let k = c.first_vote-first.ensures.3 in omega arith

pub returns : goal.returns
returns c = c.cast.ensures ∙ pr_room _ _ (box_from _ _ _) _ _ (tab_length _ _ _) (sym c.is_full.ensures ∙ c.if-is_full.false) _ _ _ c.first_vote-first.ensures.0 c.requires.2 c.first_vote-first.ensures.1
