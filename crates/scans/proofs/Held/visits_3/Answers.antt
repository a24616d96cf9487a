use mathlib.Core.Path.{sym, ◌∙◌}
use Rattle.terms.proofs.Scans.{tab_length}
use Rattle.records.specs.Tx.{tx_of}
use Rattle.rules.specs.Bodies.{reads_of}
use Rattle.rules.specs.Tests.{fold_above}
use Rattle.rules.specs.Visits.{visits3}
use Rattle.table.specs.Table.{entries}
use Rattle.scans.specs.Scans.{over}
use Rattle.rules.specs.Visits.{fails3}
use Rattle.scans.proofs.Visits.{keyed_begin, keyed_fits, keyed_stop, keyed_go, keyed_end, stops_at, goes_on, all_unless}
use Rattle.scans.proofs.Counting.{visits3_most}
use native.Mathlib.Omega.{arith}
use Rattle.scans.proofs.Held.visits_3.Goals as goal

pub loop-j-init : goal.loop-j-init
unfolding reads_of tx_of visits3 fails3 fold_above
loop-j-init c = keyed_begin (rw c.read_count-j-end.ensures.0)

pub overflow_add-result : goal.overflow_add-result
overflow_add-result c =
    let r = c.args.self.rows.whole.room in
    let o = stops_at _ (sym c.in-Some.is ∙ c.key_3.ensures) in
    let k = keyed_fits c.loop-j.invariant (omega arith) c.in-Some.last (rw (← c.read_at.ensures) o.1) in
    let m = visits3_most (over c.args.self.head.bytes.now (entries c.args.self.rows.bytes.now c.args.self.rows.n)) c.args.b.bytes.now c.args.self.rows.n (tab_length _ _ _) c.args.b.there.0 in
    omega arith

pub returns-in-Some : goal.returns-in-Some
returns-in-Some c =
    let o = stops_at _ (sym c.in-Some.is ∙ c.key_3.ensures) in
    let k = keyed_stop c.loop-j.invariant (omega arith) c.in-Some.last (rw (← c.read_at.ensures) o.1) (rw (← c.read_at.ensures) o.0) in
    omega arith

pub overflow_add-visited : goal.overflow_add-visited
overflow_add-visited c =
    let r = c.args.self.rows.whole.room in
    let d = goes_on _ _ (sym c.in-None.is ∙ c.key_3.ensures) in
    let k = keyed_fits c.loop-j.invariant (omega arith) c.args.self.rows.n (rw (← c.read_at.ensures) (all_unless _ _ c.args.self.rows.bytes.now c.args.self.rows.n d)) in
    let m = visits3_most (over c.args.self.head.bytes.now (entries c.args.self.rows.bytes.now c.args.self.rows.n)) c.args.b.bytes.now c.args.self.rows.n (tab_length _ _ _) c.args.b.there.0 in
    omega arith

pub loop-j-preserved : goal.loop-j-preserved
loop-j-preserved c =
    let d = goes_on _ _ (sym c.in-None.is ∙ c.key_3.ensures) in
    keyed_go c.loop-j.invariant (omega arith) c.args.self.rows.n (rw (← c.read_at.ensures) (all_unless _ _ c.args.self.rows.bytes.now c.args.self.rows.n d)) (rw (← c.read_at.ensures) d)

pub returns : goal.returns
returns c = keyed_end c.loop-j.invariant (omega arith)
