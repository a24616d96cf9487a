-- Demand 3 of calls with low marks is not empty: the rules' trace in which they rise, on tables of zeros with room for two. Full tables, a mark
-- that is raised, the room used again, one that is old, and a reader that names a folded version and commits.
use Rattle.std.specs.Prelude.{ℕ, ◌≡◌, []}
use Rattle.terms.specs.declared.Refusal.TheVariants.{Full, Old}
use Rattle.terms.specs.declared.Decision.TheVariants.{Commit as commit}
use Rattle.records.specs.Tx.{tx_bytes}
use Rattle.rules.specs.declared.Answer.TheVariants.{Raised, Refused}
use Rattle.rules.specs.Answers.{apart_from_number}
use Rattle.rules.specs.Act.{raising, receive}
use Rattle.rules.specs.Cases.{PR, RD, commits, found, reads, writes}
use Rattle.rules.specs.System.{ProofBy, SafeBy}
use Rattle.rules.specs.Traces.{liar}
use Rattle.rules.specs.Lows.{emptied, filled, packed, reused}
use Rattle.engine.specs.Outcome.{Kept}
use Rattle.engine.specs.Safety.{FairCalls, answered, gave_by}
use Rattle.engine.specs.Busy.{zeros}

-- each box starts with room for two
unfoldable pub two : ℕ → Kept
two i = zeros 2

pub record LowCalls : Type 0 where
  pub fair : FairCalls 1 liar two reused
  pub full : answered 1 two (packed receive 0 (PR (reads 60 3 50))) filled ≡ Refused Full
  pub raised : answered 1 two (packed (raising 55) 0 []) filled ≡ Raised
  pub shows : answered 1 two (packed receive 0 (RD 3 60)) emptied ≡ found 50 7 0 0
  pub taken : apart_from_number (answered 1 two (packed receive 4 (PR (reads 60 3 50))) emptied) ≡ commits
  pub old : answered 1 two (packed receive 0 (PR (writes 54 3))) reused ≡ Refused Old
  pub full_again : answered 1 two (packed receive 0 (PR (writes 80 5))) reused ≡ Refused Full
  pub writer_commits : ProofBy 1 liar (gave_by 1 two reused) (tx_bytes (writes 50 3)) commit
  pub reader_commits : ProofBy 1 liar (gave_by 1 two reused) (tx_bytes (reads 60 3 50)) commit
  pub next_commits : ProofBy 1 liar (gave_by 1 two reused) (tx_bytes (writes 70 4)) commit
  pub safe : SafeBy 1 liar (gave_by 1 two reused)
