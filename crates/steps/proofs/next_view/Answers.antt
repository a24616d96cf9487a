use Rattle.std.proofs.Common.{◌∙◌, sym, ap, option_map}
use Rattle.rules.specs.Answers.{View}
use Rattle.steps.proofs.Ballots.{next_many, next_few, next_same}
use Rattle.steps.proofs.next_view.Goals as goal

pub returns-in-Some : goal.returns-in-Some
returns-in-Some c =
    c.max.ensures ∙ next_many _ _ _ _ (sym (ap (option_map (λ (v : View). v.0)) c.in-Some.is) ∙ (rw c.commit_list.ensures at c.reached.ensures))

pub returns-in-Some-reached : goal.returns-in-Some-reached
returns-in-Some-reached c =
    c.max-in-Some-reached.ensures
    ∙ next_few _ _ _ (sym (ap (option_map (λ (v : View). v.0)) c.in-None.is) ∙ (rw c.commit_list.ensures at c.reached.ensures)) _
    (sym (ap (option_map (λ (v : View). v.0)) c.in-Some-reached.is) ∙ (rw c.abort_list.ensures at c.reached-in-None.ensures))

pub returns-in-None-reached : goal.returns-in-None-reached
returns-in-None-reached c =
    next_same _ _ _ (sym (ap (option_map (λ (v : View). v.0)) c.in-None.is) ∙ (rw c.commit_list.ensures at c.reached.ensures))
    (sym (ap (option_map (λ (v : View). v.0)) c.in-None-reached.is) ∙ (rw c.abort_list.ensures at c.reached-in-None.ensures))
