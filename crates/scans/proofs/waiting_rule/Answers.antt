use mathlib.Core.Path.{refl, ap, ◌∙◌}
use Rattle.terms.proofs.Scans.{tab_length}
use Rattle.records.specs.Tx.{tx_of}
use Rattle.rules.specs.Bodies.{reads_of}
use Rattle.rules.specs.Visits.{waiting_visits}
use Rattle.table.specs.Table.{entries}
use Rattle.scans.specs.Scans.{over, vote_by}
use Rattle.scans.proofs.Waiting.{worst_begin, worst_go, worst_end, waiting_is}
use Rattle.scans.proofs.Visits.{keyed_begin, keyed_fits, keyed_go, keyed_end}
use Rattle.scans.proofs.Counting.{waiting_most}
use native.Mathlib.Omega.{arith}
use Rattle.std.proofs.lemmas.Grind.{common_steps}
use Rattle.scans.proofs.waiting_rule.Goals as goal

pub loop-j-init : goal.loop-j-init
unfolding reads_of tx_of waiting_visits
loop-j-init c = (worst_begin (rw c.read_count-j-end.ensures.0), keyed_begin (rw c.read_count-j-end.ensures.0))

pub overflow_add-visited : goal.overflow_add-visited
overflow_add-visited c = let r = c.requires.0.room in let k = keyed_fits c.loop-j.invariant.1 (omega arith) c.status-one.result.visited (rw (← c.read_at.ensures) c.status-one.ensures.1) in let m = waiting_most (over c.args.h.now (entries c.args.t.now c.args.n)) c.args.b.now c.args.n (tab_length _ _ _) c.requires.1.0 in omega arith

pub loop-j-preserved : goal.loop-j-preserved
loop-j-preserved c = (worst_go c.loop-j.invariant.0 (omega arith) (rw (← c.read_at.ensures) (grind (arith, common_steps))) c.or-worst.ensures, keyed_go c.loop-j.invariant.1 (omega arith) c.status-one.result.visited (rw (← c.read_at.ensures) c.status-one.ensures.1) refl)

pub returns : goal.returns
returns c =
    let x = over c.args.h.now (entries c.args.t.now c.args.n) in
    let e = keyed_end c.loop-j.invariant.1 (omega arith) in
    (c.vote.ensures ∙ ap vote_by (worst_end c.loop-j.invariant.0 (omega arith)) ∙ waiting_is x c.args.b.now, e, rw e (waiting_most x c.args.b.now c.args.n (tab_length _ _ _) c.requires.1.0))
