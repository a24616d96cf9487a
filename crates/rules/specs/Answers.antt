-- What a box answers: for every case of each enum the paper's number and values.
use Rattle.std.specs.Prelude.{ℕ, List, [], ◌∷◌, Option}
pub use Rattle.std.specs.Prelude.{None as unsettled, Some as settled}
pub use Rattle.std.specs.Prelude.{None as unlogged, Some as logged}
pub use Rattle.std.specs.Prelude.{None as unvisited, Some as visited}
use Rattle.terms.specs.Refusals.{number_of, lacking_of}
pub use Rattle.terms.specs.declared.Decision.{Decision}
pub use Rattle.terms.specs.declared.Decision.TheVariants.{Commit as commit, Abort as abort}
pub use Rattle.terms.specs.declared.Kind.{Kind}
pub use Rattle.terms.specs.declared.Kind.TheVariants.{Votes as votes, Logs as logs}
pub use Rattle.terms.specs.Codes.{decision_number, kind_number}
pub use Rattle.rules.specs.declared.Reason.{Reason}
pub use Rattle.rules.specs.declared.Reason.TheVariants.{Ahead, NoVersion, Overwritten, Undercuts, ReadMark, Dependency}
pub use Rattle.rules.specs.declared.Vote.{Vote}
pub use Rattle.rules.specs.declared.Vote.TheVariants.{None as unvoted, Commit as vote_commit, Abort as vote_abort, Waiting as waiting}
pub use Rattle.rules.specs.declared.Version.{Version}
pub use Rattle.rules.specs.declared.Answer.{Answer}
pub use Rattle.rules.specs.declared.Answer.TheVariants.{Voted, Decided, Logged, Done, Found, Refused, Elected, Raised}
pub use Rattle.terms.specs.declared.View.{View}
pub use Rattle.rules.specs.declared.Logged.{Logged as LoggedDecision}

-- "An abort vote carries one of six reasons": the five tests' numbers, and "abort, reason 6"
abbrev pub reason_number : Reason → ℕ
reason_number Ahead = 1
reason_number NoVersion = 2
reason_number Overwritten = 3
reason_number Undercuts = 4
reason_number ReadMark = 5
reason_number Dependency = 6

-- "vote (waiting, commit, abort with reason, or none)": its code, by which a commit and an abort are the answers 1 and 2 of a list and of a tally; and
-- the reason beside it
abbrev pub vote_number : Vote → ℕ
vote_number unvoted = 0
vote_number vote_commit = 1
vote_number (vote_abort r) = 2
vote_number waiting = 3

abbrev pub vote_reason : Vote → ℕ
vote_reason unvoted = 0
vote_reason waiting = 0
vote_reason vote_commit = 0
vote_reason (vote_abort r) = reason_number r

-- "decision or none", and its code
abbrev pub Settled : Type 0
Settled = Option Decision

abbrev pub settled_number : Settled → ℕ
settled_number unsettled = 0
settled_number (settled d) = decision_number d

-- a view by its number
abbrev pub view_as : ℕ → View
view_as v = record { 0 = v }

-- "logged decision or none", the case of one that was logged in a view, and its code; A5: "the view of its logged decision", "where nothing is logged,
-- the logged view counts as 0"
abbrev pub Log : Type 0
Log = Option LoggedDecision

abbrev pub logged_at : Decision → View → Log
logged_at d v = logged (record { decision = d; view = v })

abbrev pub log_number : Log → ℕ
log_number unlogged = 0
log_number (logged y) = decision_number y.decision

abbrev pub log_view : Log → View
log_view unlogged = view_as 0
log_view (logged y) = y.view

-- A6: a number of entries, told or not: "carry no number" is not 0
abbrev pub Visited : Type 0
Visited = Option ℕ

abbrev pub visited_told : Visited → ℕ
visited_told unvisited = 0
visited_told (visited n) = 1

abbrev pub visited_number : Visited → ℕ
visited_number unvisited = 0
visited_number (visited n) = n

-- "Answers: .. commit, abort and reason, wait, decided/logged and commit or abort, done, four numbers for RD .., refused and number"; A5: "a log answer
-- tells its view", an election answer its decision, view and leader
abbrev pub answer_values : Answer → List ℕ
answer_values (Voted v n) = vote_number v ∷ vote_reason v ∷ visited_told n ∷ visited_number n ∷ []
answer_values (Decided d) = decision_number d ∷ []
answer_values (Logged d v) = decision_number d ∷ v.0 ∷ []
answer_values Done = []
answer_values (Found c u) = c.stamp.0 ∷ c.value ∷ u.stamp.0 ∷ u.value ∷ []
answer_values (Refused r) = number_of r ∷ lacking_of r ∷ []
answer_values (Elected d v l) = decision_number d ∷ v.0 ∷ l ∷ []
answer_values Raised = []

-- "apart from A6's number": an answer without it
unfoldable pub apart_from_number : Answer → Answer
apart_from_number (Voted v n) = Voted v unvisited
apart_from_number (Decided d) = Decided d
apart_from_number (Logged d v) = Logged d v
apart_from_number (Elected d v l) = Elected d v l
apart_from_number Done = Done
apart_from_number Raised = Raised
apart_from_number (Found c u) = Found c u
apart_from_number (Refused r) = Refused r
