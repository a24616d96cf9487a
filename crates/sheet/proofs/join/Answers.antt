use Rattle.sheet.proofs.Sheets.{off_commits, off_aborts, join_commit, join_abort}
use borrow.Author.Rules.{rules}
use Rattle.sheet.proofs.join.Goals as goal

pub with_box-commits-requires : goal.with_box-commits-requires
with_box-commits-requires c = (search rules, off_commits _ _ c.requires.1)

pub returns-then-answer-eq1 : goal.returns-then-answer-eq1
returns-then-answer-eq1 c = join_commit _ _ _ _ c.if-answer-eq1.true c.with_box-commits.ensures

pub with_box-aborts-requires : goal.with_box-aborts-requires
with_box-aborts-requires c = (search rules, off_aborts _ _ c.requires.1)

pub returns : goal.returns
returns c = join_abort _ _ _ _ c.if-answer-eq1.false c.with_box-aborts.ensures
