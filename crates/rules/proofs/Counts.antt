-- A6's number, by computation.
use mathlib.Core.Path.{refl}
use Rattle.rules.specs.Counts.{Counts, aborts_by, again, all_pass, answer_of, at, commits_by, done, due_of, fourth, in_place, no_number, none_held, outer}
use Rattle.rules.specs.Counts.{readers, reading, second, third, waits_by, writers, writing}
use Rattle.rules.proofs.Running.{running}

pub counts : Counts
unfolding running answer_of due_of at commits_by waits_by aborts_by done writers readers reading writing outer second third fourth all_pass again in_place none_held no_number
counts = record {
  outer_tests = refl;
  test_2 = refl;
  test_3 = refl;
  test_4 = refl;
  none_fails = refl;
  asked_again = refl;
  as_if_new = refl;
  nothing_held = refl;
  no_number = refl;
}
