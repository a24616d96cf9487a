use Rattle.std.proofs.Common.{◌∙◌, sym}
use borrow.Author.Tests.{ne_eqb}
use Rattle.terms.proofs.Scans.{tab_length}
use Rattle.records.specs.Views.{views_in}
use Rattle.steps.proofs.Fallback.{apart, leads_not, leads_few, leads_mixed, leads_most}
use Rattle.steps.proofs.leads.Goals.{then-l-leader_of, else-l-leader_of, then-l-log_proof, else-l-log_proof}
use Rattle.steps.proofs.leads.Goals as goal

pub returns-then-one_view : goal.returns-then-one_view
unfolding views_in
returns-then-one_view c =
    let leader = rw c.stamp_of.ensures at c.leader_of.ensures in
    elim c.if-l-log_proof.branch [
      | then-l-log_proof w ↦ elim c.if-l-leader_of.branch [
        | then-l-leader_of u ↦
            leads_most _ _ _ _ leader u.if-l-leader_of.true _ _ (tab_length _ _ _) u.log_proof.ensures (sym u.value-is ∙ w.if-l-log_proof.true) _ w.one_view.ensures
            (sym w.value-is ∙ c.if-one_view.true) _ c.agreeing.ensures.0
        | else-l-leader_of u ↦ apart _ w.if-l-log_proof.true (u.value-is ∙ ne_eqb _ _ u.if-l-leader_of.false)
      ]
      | else-l-log_proof w ↦ apart _ c.if-one_view.true (w.value-is ∙ w.if-l-log_proof.false)
    ]

pub returns-else-one_view : goal.returns-else-one_view
unfolding views_in
returns-else-one_view c =
    let leader = rw c.stamp_of.ensures at c.leader_of.ensures in
    c.if-one_view.false
    ∙ (elim c.if-l-log_proof.branch [
      | then-l-log_proof w ↦ elim c.if-l-leader_of.branch [
        | then-l-leader_of u ↦
            leads_mixed _ _ _ _ leader u.if-l-leader_of.true _ _ (tab_length _ _ _) u.log_proof.ensures (sym u.value-is ∙ w.if-l-log_proof.true) _ w.one_view.ensures
            (sym w.value-is ∙ c.if-one_view.false)
        | else-l-leader_of u ↦ apart _ w.if-l-log_proof.true (u.value-is ∙ ne_eqb _ _ u.if-l-leader_of.false)
      ]
      | else-l-log_proof w ↦ elim c.if-l-leader_of.branch [
        | then-l-leader_of u ↦ leads_few _ _ _ _ leader u.if-l-leader_of.true _ _ (tab_length _ _ _) u.log_proof.ensures (sym u.value-is ∙ w.if-l-log_proof.false)
        | else-l-leader_of u ↦ leads_not _ _ _ _ leader u.if-l-leader_of.false
      ]
    ])
