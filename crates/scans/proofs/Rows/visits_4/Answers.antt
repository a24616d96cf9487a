use mathlib.Core.Path.{sym, ◌∙◌}
use Rattle.terms.proofs.Scans.{tab_length}
use Rattle.records.specs.Tx.{tx_of}
use Rattle.rules.specs.Bodies.{writes_of}
use Rattle.rules.specs.Visits.{visits4}
use Rattle.table.specs.Table.{entries}
use Rattle.scans.specs.Scans.{entries_only}
use Rattle.rules.specs.Visits.{fails4}
use Rattle.scans.proofs.Visits.{keyed_begin, keyed_fits, keyed_stop, keyed_go, keyed_end, stops_at, goes_on, all_rows}
use Rattle.scans.proofs.Counting.{visits4_most}
use native.Mathlib.Omega.{arith}
use Rattle.std.proofs.Common.{rules}
use Rattle.scans.proofs.Rows.visits_4.Goals as goal

pub loop-j-init : goal.loop-j-init
unfolding writes_of tx_of visits4 fails4
loop-j-init c = keyed_begin (rw c.write_count-j-end.ensures.0)

pub overflow_add-result : goal.overflow_add-result
overflow_add-result c =
    let r = c.args.self.whole.room in
    let o = stops_at _ (sym c.in-Some.is ∙ c.up_to.ensures (fails4 c.args.b.bytes.now c.write_at.result.key.0) (λ e x p. search rules)) in
    let k = keyed_fits c.loop-j.invariant (omega arith) c.in-Some.last (rw (← c.write_at.ensures) o.1) in
    let m = visits4_most (entries_only (entries c.args.self.bytes.now c.args.self.n)) c.args.b.bytes.now c.args.self.n (tab_length _ _ _) c.args.b.there.1 in
    omega arith

pub returns-in-Some : goal.returns-in-Some
returns-in-Some c =
    let o = stops_at _ (sym c.in-Some.is ∙ c.up_to.ensures (fails4 c.args.b.bytes.now c.write_at.result.key.0) (λ e x p. search rules)) in
    let k = keyed_stop c.loop-j.invariant (omega arith) c.in-Some.last (rw (← c.write_at.ensures) o.1) (rw (← c.write_at.ensures) o.0) in
    omega arith

pub overflow_add-visited : goal.overflow_add-visited
overflow_add-visited c =
    let r = c.args.self.whole.room in
    let d = goes_on _ _ (sym c.in-None.is ∙ c.up_to.ensures (fails4 c.args.b.bytes.now c.write_at.result.key.0) (λ e x p. search rules)) in
    let k = keyed_fits c.loop-j.invariant (omega arith) c.args.self.n (rw (← c.write_at.ensures) (all_rows _ c.args.self.bytes.now c.args.self.n d)) in
    let m = visits4_most (entries_only (entries c.args.self.bytes.now c.args.self.n)) c.args.b.bytes.now c.args.self.n (tab_length _ _ _) c.args.b.there.1 in
    omega arith

pub loop-j-preserved : goal.loop-j-preserved
loop-j-preserved c =
    let d = goes_on _ _ (sym c.in-None.is ∙ c.up_to.ensures (fails4 c.args.b.bytes.now c.write_at.result.key.0) (λ e x p. search rules)) in
    keyed_go c.loop-j.invariant (omega arith) c.args.self.n (rw (← c.write_at.ensures) (all_rows _ c.args.self.bytes.now c.args.self.n d)) (rw (← c.write_at.ensures) d)

pub returns : goal.returns
returns c = keyed_end c.loop-j.invariant (omega arith)
