-- The codes of decisions and kinds.
use Rattle.std.specs.Prelude.{ℕ}
use Rattle.terms.specs.declared.Decision.{Decision}
use Rattle.terms.specs.declared.Decision.TheVariants.{Commit as commit, Abort as abort}
use Rattle.terms.specs.declared.Kind.{Kind}
use Rattle.terms.specs.declared.Kind.TheVariants.{Votes as votes, Logs as logs}

-- "decision (1 commit, 2 abort)"
abbrev pub decision_number : Decision → ℕ
decision_number commit = 1
decision_number abort = 2

-- "kind (1 votes, 2 logs)"
abbrev pub kind_number : Kind → ℕ
kind_number votes = 1
kind_number logs = 2
