use Prim.Native.Nat.{zero-le}
use mathlib.Core.Path.{◌≡◌, sym, ◌∙◌}
use Rattle.terms.proofs.Scans.{tab_length}
use Rattle.rules.specs.Visits.{new_last}
use Rattle.table.specs.Table.{box_from, entries}
use Rattle.scans.specs.declared.Standing.TheVariants.{Bad}
use Rattle.scans.specs.Scans.{over, vote_by}
use Rattle.scans.proofs.Outcomes.{first_1, first_2}
use Rattle.scans.proofs.Naming.{fails_2, passes_2, then_votes}
use Rattle.scans.proofs.Counting.{visits2_most, number_1, number_2, vote_on, number_held, number_new, number_most}
use native.Mathlib.Omega.{arith}
use Rattle.std.proofs.Common.{rules}
use Rattle.scans.proofs.first_vote.Goals as goal

pub returns-then-test_1 : goal.returns-then-test_1
returns-then-test_1 c = let es = entries c.args.t.now c.args.n in let x = box_from c.args.h.now es c.args.marks.now in let y = over c.args.h.now es in let a = sym c.test_1.ensures ∙ c.if-test_1.true in (first_1 c.args.told x c.args.b.now a, number_1 c.args.told x c.args.b.now a (new_last c.args.b.now es), number_1 c.args.told x c.args.b.now a es, zero-le)

pub returns-then-eq : goal.returns-then-eq
returns-then-eq c = let es = entries c.args.t.now c.args.n in let x = box_from c.args.h.now es c.args.marks.now in let y = over c.args.h.now es in let a = sym c.test_1.ensures ∙ c.if-test_1.false in let p : c.versions-read.result.what ≡ Bad = search rules in let d = sym (fails_2 y c.args.b.now c.versions-read.ensures.0 p) in let e = c.versions-read.ensures.1 in let m = visits2_most y c.args.b.now c.args.n (tab_length _ _ _) c.requires.1.0 in (first_2 c.args.told x c.args.b.now a d, number_2 c.args.told x c.args.b.now a d c.versions-read.result.visited e (new_last c.args.b.now es), number_2 c.args.told x c.args.b.now a d c.versions-read.result.visited e es, omega arith)

pub later_vote-requires : goal.later_vote-requires
later_vote-requires c = let es = entries c.args.t.now c.args.n in let x = box_from c.args.h.now es c.args.marks.now in let y = over c.args.h.now es in let e = c.versions-read.ensures.1 in rw e (visits2_most y c.args.b.now c.args.n (tab_length _ _ _) c.requires.1.0)

pub returns : goal.returns
returns c = let es = entries c.args.t.now c.args.n in let x = box_from c.args.h.now es c.args.marks.now in let y = over c.args.h.now es in let a = sym c.test_1.ensures ∙ c.if-test_1.false in let p : c.versions-read.result.what ≡ Bad → ⊥ = search rules in let d = sym (passes_2 y c.args.b.now c.versions-read.ensures.0 p) in let g = c.versions-read.result.visited in let v = c.later_vote.result.visited in let e = c.versions-read.ensures.1 in let f = c.later_vote.ensures.1 in (vote_on c.args.told x c.args.b.now a d c.later_vote.result.vote (vote_by c.versions-read.result.what) (then_votes y c.args.b.now c.versions-read.ensures.0 p) c.later_vote.ensures.0, number_new c.args.told x c.args.b.now a d g v e f, number_held c.args.told x c.args.b.now a d g v e f, number_most c.args.told x c.args.b.now a d g v e f c.args.n (tab_length _ _ _) c.requires.1.0 c.requires.1.1)
