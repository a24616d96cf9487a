use mathlib.Core.Path.{◌∙◌}
use Rattle.rules.specs.Bodies.{stamp_of}
use Rattle.table.specs.Table.{box_from}
use Rattle.steps.proofs.Entries.{pr_commit, pr_abort, pr_waiting, pr_unvoted}
use Rattle.steps.proofs.Tallying.{by_branch}
use Rattle.steps.proofs.Looking.{own_most}
use native.Mathlib.Omega.{arith}
use Rattle.steps.proofs.pr_undecided.Goals as goal

pub overflow_add-own : goal.overflow_add-own
overflow_add-own c = let r = c.requires.0.room in let o = own_most c.args.t.now c.args.n (stamp_of c.args.b.now) c.args.own c.requires.2 in let k = c.waiting_rule-again.ensures.2 in omega arith

pub overflow_add-own-in-None : goal.overflow_add-own-in-None
overflow_add-own-in-None c = let r = c.requires.0.room in let o = own_most c.args.t.now c.args.n (stamp_of c.args.b.now) c.args.own c.requires.2 in let k = c.first_vote-first.ensures.3 in omega arith

pub returns-in-Commit : goal.returns-in-Commit
returns-in-Commit c =
    c.keep.ensures
    ∙ by_branch c.in-Commit.is (pr_commit _ _ (box_from _ _ _) _ _) (λ h. pr_abort _ _ (box_from _ _ _) _ _ h.0 h.1)

pub returns-in-Waiting : goal.returns-in-Waiting
returns-in-Waiting c = c.cast.ensures ∙ pr_waiting _ _ (box_from _ _ _) _ _ _ _ _ c.in-Waiting.is c.waiting_rule-again.ensures.0 c.requires.2 c.waiting_rule-again.ensures.1

pub returns-in-None : goal.returns-in-None
returns-in-None c = c.cast-in-None.ensures ∙ pr_unvoted _ _ (box_from _ _ _) _ _ _ _ _ c.in-None.is c.first_vote-first.ensures.0 c.requires.2 c.first_vote-first.ensures.2
