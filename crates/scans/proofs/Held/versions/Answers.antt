use mathlib.Core.Path.{◌≡◌, sym, ◌∙◌}
use Rattle.std.proofs.Common.{rules}
use Rattle.terms.proofs.Scans.{tab_length}
use Rattle.records.specs.Tx.{tx_of}
use Rattle.rules.specs.Bodies.{reads_of}
use Rattle.rules.specs.Visits.{visits2}
use Rattle.table.specs.Table.{entries}
use Rattle.scans.specs.declared.Standing.TheVariants.{Bad}
use Rattle.scans.specs.Scans.{over}
use Rattle.scans.proofs.Naming.{named_bad, named_ok}
use Rattle.scans.proofs.Waiting.{worst_begin, worst_stop, worst_go, worst_end}
use Rattle.scans.proofs.Visits.{keyed_begin, keyed_fits, keyed_stop, keyed_go, keyed_end}
use Rattle.scans.proofs.Counting.{visits2_most}
use native.Mathlib.Omega.{arith}
use Rattle.scans.proofs.Held.versions.Goals as goal

pub loop-j-init : goal.loop-j-init
unfolding reads_of tx_of visits2
loop-j-init c = (worst_begin (rw c.read_count-j-end.ensures.0), keyed_begin (rw c.read_count-j-end.ensures.0))

pub overflow_add-visited : goal.overflow_add-visited
overflow_add-visited c = let r = c.args.self.rows.whole.room in let k = keyed_fits c.loop-j.invariant.1 (omega arith) c.named-one.result.visited (rw (← c.read_at.ensures) c.named-one.ensures.1) in let m = visits2_most (over c.args.self.head.bytes.now (entries c.args.self.rows.bytes.now c.args.self.rows.n)) c.args.b.bytes.now c.args.self.rows.n (tab_length _ _ _) c.args.b.there.0 in omega arith

pub returns-then-eq : goal.returns-then-eq
returns-then-eq c =
    let p : c.named-one.result.what ≡ Bad = search rules in
    (worst_stop c.loop-j.invariant.0 (omega arith) (rw (← c.read_at.ensures) c.named-one.ensures.0) p, keyed_stop c.loop-j.invariant.1 (omega arith) c.named-one.result.visited (rw (← c.read_at.ensures) c.named-one.ensures.1) (rw (← c.read_at.ensures) (named_bad _ _ (sym c.named-one.ensures.0 ∙ p))))

pub loop-j-preserved : goal.loop-j-preserved
loop-j-preserved c =
    let p : c.named-one.result.what ≡ Bad → ⊥ = search rules in
    (worst_go c.loop-j.invariant.0 (omega arith) (rw (← c.read_at.ensures) c.named-one.ensures.0) c.or-what.ensures, keyed_go c.loop-j.invariant.1 (omega arith) c.named-one.result.visited (rw (← c.read_at.ensures) c.named-one.ensures.1) (rw (← c.read_at.ensures) (named_ok _ _ (λ z. p (c.named-one.ensures.0 ∙ z)))))

pub returns : goal.returns
returns c = (worst_end c.loop-j.invariant.0 (omega arith), keyed_end c.loop-j.invariant.1 (omega arith))
