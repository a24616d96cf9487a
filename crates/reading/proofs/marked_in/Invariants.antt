use Rattle.std.proofs.Common.{◌≡◌, drop}
use Rattle.reading.specs.Judging.{marked_in}
use Rattle.reading.proofs.marked_in.Given as goal

abbrev pub invariant-loop-mark : goal.invariant-loop-mark
invariant-loop-mark l = marked_in (drop l.mark-index l.marks) l.m ≡ marked_in l.marks l.m
