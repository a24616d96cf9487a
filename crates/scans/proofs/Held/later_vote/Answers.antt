use mathlib.Core.Path.{sym, ◌∙◌}
use native.Mathlib.Nat.{mul-le-mul_right}
use Rattle.terms.proofs.Scans.{tab_length}
use Rattle.table.specs.Table.{box_from, entries}
use Rattle.scans.specs.Scans.{over, entries_only, vote_by}
use Rattle.scans.proofs.Counting.{visits3_most, visits4_most, later_3, number_3, later_4, number_4, later_5, number_5, later_6, number_6}
use native.Mathlib.Omega.{arith}
use Rattle.scans.proofs.Held.later_vote.Goals as goal

pub overflow_add-result : goal.overflow_add-result
overflow_add-result c = let r = c.args.self.rows.whole.room in let g = c.requires in let e = c.visits_3.ensures in let m = visits3_most (over c.args.self.head.bytes.now (entries c.args.self.rows.bytes.now c.args.self.rows.n)) c.args.b.bytes.now c.args.self.rows.n (tab_length _ _ _) c.args.b.there.0 in omega arith

pub returns-then-test_3 : goal.returns-then-test_3
returns-then-test_3 c = let d = sym c.test_3.ensures ∙ c.if-test_3.true in (later_3 (box_from c.args.self.head.bytes.now (entries c.args.self.rows.bytes.now c.args.self.rows.n) c.args.marks.now) c.args.b.bytes.now c.args.self.rows.n c.args.read.visited (vote_by c.args.read.what) (tab_length _ _ _) d, number_3 (box_from c.args.self.head.bytes.now (entries c.args.self.rows.bytes.now c.args.self.rows.n) c.args.marks.now) c.args.b.bytes.now c.args.self.rows.n c.args.read.visited (vote_by c.args.read.what) (tab_length _ _ _) d c.visits_3.result c.visits_3.ensures)

pub overflow_mul-third : goal.overflow_mul-third
overflow_mul-third c = let r = c.args.self.rows.whole.room in let g = c.requires in let m = mul-le-mul_right c.args.self.rows.n c.read_count.ensures.1 in omega arith

pub overflow_add-third : goal.overflow_add-third
overflow_add-third c = let r = c.args.self.rows.whole.room in let g = c.requires in let m = mul-le-mul_right c.args.self.rows.n c.read_count.ensures.1 in omega arith

pub overflow_add-result-then-test_4 : goal.overflow_add-result-then-test_4
overflow_add-result-then-test_4 c = let r = c.args.self.rows.whole.room in let g = c.requires in let m = mul-le-mul_right c.args.self.rows.n c.read_count.ensures.1 in let e = c.visits_4.ensures in let k = visits4_most (entries_only (entries c.args.self.rows.bytes.now c.args.self.rows.n)) c.args.b.bytes.now c.args.self.rows.n (tab_length _ _ _) c.args.b.there.1 in omega arith

pub returns-then-test_4 : goal.returns-then-test_4
returns-then-test_4 c = let d = sym c.test_3.ensures ∙ c.if-test_3.false in let f = sym c.test_4.ensures ∙ c.if-test_4.true in (later_4 (box_from c.args.self.head.bytes.now (entries c.args.self.rows.bytes.now c.args.self.rows.n) c.args.marks.now) c.args.b.bytes.now c.args.self.rows.n c.args.read.visited (vote_by c.args.read.what) (tab_length _ _ _) d f, number_4 (box_from c.args.self.head.bytes.now (entries c.args.self.rows.bytes.now c.args.self.rows.n) c.args.marks.now) c.args.b.bytes.now c.args.self.rows.n c.args.read.visited (vote_by c.args.read.what) (tab_length _ _ _) d f c.read_count.result c.visits_4.result c.read_count.ensures.0 c.visits_4.ensures)

pub overflow_mul-fourth : goal.overflow_mul-fourth
overflow_mul-fourth c = let r = c.args.self.rows.whole.room in let g = c.requires in let m = mul-le-mul_right c.args.self.rows.n c.write_count.ensures.1 in omega arith

pub overflow_add-fourth : goal.overflow_add-fourth
overflow_add-fourth c = let r = c.args.self.rows.whole.room in let g = c.requires in let m = mul-le-mul_right c.args.self.rows.n c.read_count.ensures.1 in let k = mul-le-mul_right c.args.self.rows.n c.write_count.ensures.1 in omega arith

pub returns-then-test_5 : goal.returns-then-test_5
returns-then-test_5 c = let d = sym c.test_3.ensures ∙ c.if-test_3.false in let f = sym c.test_4.ensures ∙ c.if-test_4.false in let i = sym c.test_5.ensures ∙ c.if-test_5.true in (later_5 (box_from c.args.self.head.bytes.now (entries c.args.self.rows.bytes.now c.args.self.rows.n) c.args.marks.now) c.args.b.bytes.now c.args.self.rows.n c.args.read.visited (vote_by c.args.read.what) (tab_length _ _ _) d f i, number_5 (box_from c.args.self.head.bytes.now (entries c.args.self.rows.bytes.now c.args.self.rows.n) c.args.marks.now) c.args.b.bytes.now c.args.self.rows.n c.args.read.visited (vote_by c.args.read.what) (tab_length _ _ _) d f i c.read_count.result c.write_count.result c.read_count.ensures.0 c.write_count.ensures.0)

pub overflow_add-result-2 : goal.overflow_add-result-2
overflow_add-result-2 c = let r = c.args.self.rows.whole.room in let g = c.requires in let m = mul-le-mul_right c.args.self.rows.n c.read_count.ensures.1 in let k = mul-le-mul_right c.args.self.rows.n c.write_count.ensures.1 in omega arith

pub returns : goal.returns
returns c = let d = sym c.test_3.ensures ∙ c.if-test_3.false in let f = sym c.test_4.ensures ∙ c.if-test_4.false in let i = sym c.test_5.ensures ∙ c.if-test_5.false in (c.vote.ensures ∙ later_6 (box_from c.args.self.head.bytes.now (entries c.args.self.rows.bytes.now c.args.self.rows.n) c.args.marks.now) c.args.b.bytes.now c.args.self.rows.n c.args.read.visited (vote_by c.args.read.what) (tab_length _ _ _) d f i, number_6 (box_from c.args.self.head.bytes.now (entries c.args.self.rows.bytes.now c.args.self.rows.n) c.args.marks.now) c.args.b.bytes.now c.args.self.rows.n c.args.read.visited (vote_by c.args.read.what) (tab_length _ _ _) d f i c.read_count.result c.write_count.result c.read_count.ensures.0 c.write_count.ensures.0)
