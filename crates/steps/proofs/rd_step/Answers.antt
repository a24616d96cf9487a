use Rattle.std.proofs.Common.{◌∙◌, ◌<◌, ◌≤◌, rules, tests}
use Rattle.table.specs.Table.{box_from, entries}
use Rattle.steps.proofs.Reading.{rd_ahead, rd_old, rd_found}
use native.Mathlib.Omega.{arith}
use Rattle.steps.proofs.rd_step.Goals as goal

pub returns-then-ahead : goal.returns-then-ahead
returns-then-ahead c i marks = c.refuse.ensures ∙ rd_ahead _ (box_from _ _ marks) _ _ _ c.ahead.ensures i c.if-ahead.true

pub returns-then-le : goal.returns-then-le
returns-then-le c i marks =
    let a = c.args in
    let e = c.low_of.ensures in
    let u : a.s.0 ≤ c.low_of.result.0 = search (rules, tests) in
    c.refuse-then-le.ensures ∙ rd_old a.told (box_from a.h.now (entries a.t.now a.n) marks) a.k a.s c.ahead.result c.ahead.ensures i c.if-ahead.false (omega arith)

pub returns : goal.returns
returns c i marks =
    let a = c.args in
    let e = c.low_of.ensures in
    let u : c.low_of.result.0 < a.s.0 = search (rules, tests) in
    rd_found a.told (box_from a.h.now (entries a.t.now a.n) marks) a.k a.s c.ahead.result c.ahead.ensures i c.if-ahead.false (omega arith) c.found.result c.found.ensures
