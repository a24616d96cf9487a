use Rattle.table.specs.Table.{entries, low_of}
use Rattle.scans.specs.Scans.{over}
use Rattle.table.proofs.Looking.{find_none}
use Rattle.scans.proofs.Outcomes.{find_held}
use Rattle.scans.proofs.Waiting.{looked_low, looked_free, looked_held}
use Rattle.scans.proofs.Visits.{version_low, version_found, version_free}
use native.Mathlib.Omega.{arith}
use Rattle.scans.proofs.Held.looked_up.Goals as goal

pub returns-then-p-self : goal.returns-then-p-self
returns-then-p-self g c = let a = c.args in let l = c.args.self.marked in let u = c.if-p-self.true in record { what = λ by none_bad k. looked_low by (over a.self.head.bytes.now (entries a.self.rows.bytes.now a.self.rows.n)) a.p (omega arith) c.low_version.ensures; visited = version_low (low_of a.self.head.bytes.now) a.self.rows.bytes.now a.self.rows.n a.p (omega arith) }

pub returns-then-i-self : goal.returns-then-i-self
returns-then-i-self g c = let a = c.args in let l = c.args.self.marked in let u = c.if-p-self.false in record { what = λ by none_bad k. looked_held by (over a.self.head.bytes.now (entries a.self.rows.bytes.now a.self.rows.n)) a.p (omega arith) c.row.result.bytes.now (find_held a.self.rows.bytes.now a.p.version.0 a.self.rows.n c.place-i.result c.row.result.bytes.now c.place-i.ensures.0 c.if-i-self.true c.row.ensures) (k _ _ c.held.ensures); visited = version_found (low_of a.self.head.bytes.now) a.self.rows.bytes.now a.self.rows.n a.p (omega arith) c.place-i.result c.place-i.ensures.0 c.if-i-self.true }

pub returns : goal.returns
returns g c = let a = c.args in let l = c.args.self.marked in let u = c.if-p-self.false in record { what = λ by none_bad k. looked_free by (over a.self.head.bytes.now (entries a.self.rows.bytes.now a.self.rows.n)) a.p (omega arith) none_bad (find_none a.p.version.0 a.self.rows.bytes.now a.self.rows.n c.place-i.result c.place-i.ensures.0 c.if-i-self.false c.place-i.ensures.1); visited = version_free (low_of a.self.head.bytes.now) a.self.rows.bytes.now a.self.rows.n a.p (omega arith) c.place-i.result c.place-i.ensures.0 c.if-i-self.false }
