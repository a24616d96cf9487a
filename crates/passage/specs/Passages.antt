-- A4, "The passage register": the keys of a passage, what is judged of it, and the report.
use Rattle.std.specs.Prelude.{ℕ, ◌+◌, ◌-◌, ◌*◌, eqb, Result, Ok, Err}
use Rattle.terms.specs.Choice.{pick}
use Rattle.terms.specs.Checks.{Check, passed, or_else, if_less, if_same, if_other, mark, range, passage, versions, direction, axle_count, hot_axle}
use Rattle.terms.specs.declared.Key.{Key}
use Rattle.terms.specs.declared.Refusal.{Refusal}
use Rattle.terms.specs.Refusals.{number_of, refusal_of}
use Rattle.rules.specs.declared.Version.{Version}
use Rattle.rules.specs.Table.{no_version}
use Rattle.rules.specs.declared.Answer.{Answer}
use Rattle.rules.specs.declared.Answer.TheVariants.{Voted, Decided, Logged, Done, Found, Refused as Unanswered, Elected, Raised}
use Rattle.passage.specs.declared.Values.{Values}
use Rattle.passage.specs.declared.Seen.{Seen}
use Rattle.passage.specs.declared.Report.{Report}
use Rattle.passage.specs.declared.Ask.{Ask}
use Rattle.passage.specs.declared.Asked.{Asked}

-- "passage p, 0 to 127, owns keys 4p to 4p + 3: train number, direction, axle count, hot axle"
abbrev pub largest_passage : ℕ
largest_passage = 127

abbrev pub key_at : ℕ → ℕ → ℕ
key_at p i = 4 * p + i

abbrev pub key_of : ℕ → ℕ → Key
key_of p i = record { 0 = key_at p i }

-- the values alone
abbrev pub values_of : Seen → Values
values_of s =
    record { train = s.train.value; direction = s.direction.value; axles = s.axles.value; hot = s.hot.value }

-- ---- "Refusals, in this order"
-- "26 passage above 127"
unfoldable pub passage_wrong : ℕ → Check
passage_wrong p = if_less largest_passage p passage

-- "27 the four committed versions not all equal"
unfoldable pub versions_wrong : Seen → Check
versions_wrong s =
    or_else (if_other s.train.stamp.0 s.direction.stamp.0 versions)
    (or_else (if_other s.train.stamp.0 s.axles.stamp.0 versions)
    (if_other s.train.stamp.0 s.hot.stamp.0 versions))

-- "axle count (1 to 1000)"
abbrev pub largest_count : ℕ
largest_count = 1000

-- "28 direction not 0 or 1; 29 count not 1 to 1000, as at a passage never written; 30 hot axle above the count"
unfoldable pub values_wrong : Values → Check
values_wrong v =
    or_else (if_less 1 v.direction direction)
    (or_else (if_less v.axles 1 axle_count)
    (or_else (if_less largest_count v.axles axle_count)
    (if_less v.axles v.hot hot_axle)))

unfoldable pub seen_wrong : ℕ → Seen → Check
seen_wrong p s = or_else (passage_wrong p) (or_else (versions_wrong s) (values_wrong (values_of s)))

-- ---- the report
-- "The report counts from the train's leading end: direction 0 gives the number itself, 1 gives count + 1 − number; none stays none."
unfoldable pub from_lead : ℕ → ℕ → ℕ → ℕ
from_lead d count n = pick (eqb n 0) 0 (pick (eqb d 0) n (count + 1 - n))

unfoldable pub reported : Values → Report
reported v =
    record { train = v.train; direction = v.direction; axles = v.axles; hot = from_lead v.direction v.axles v.hot }

unfoldable pub reported_by : Check → Values → Result Report Refusal
reported_by c v = or_else c (Ok (reported v))

-- "A report is built from the committed halves of four RD answers taken at one stamp."
unfoldable pub report_of : ℕ → Seen → Result Report Refusal
report_of p s = reported_by (seen_wrong p s) (values_of s)

-- ---- "four RD answers taken at one stamp"
-- the RD of the i-th key
abbrev pub ask_at : ℕ → ℕ → ℕ → Ask
ask_at p i s = record { key = key_of p i; stamp = record { 0 = s } }

unfoldable pub asks_by : Check → ℕ → ℕ → Result Asked Refusal
asks_by c p s =
    or_else c (Ok (record { train = ask_at p 0 s; direction = ask_at p 1 s; axles = ask_at p 2 s; hot = ask_at p 3 s }))

-- 26, then 5: "stamp 0"
unfoldable pub asks_wrong : ℕ → ℕ → Check
asks_wrong p s = or_else (passage_wrong p) (if_same s 0 range)

-- all four at one stamp
unfoldable pub asks_of : ℕ → ℕ → Result Asked Refusal
asks_of p s = asks_by (asks_wrong p s) p s

-- the committed half of an answer
abbrev pub half : Answer → Version
half (Voted v n) = no_version
half (Decided d) = no_version
half (Logged d v) = no_version
half (Elected d v l) = no_version
half Done = no_version
half Raised = no_version
half (Found committed undecided) = committed
half (Unanswered r) = no_version

-- why there is none: the box's refusal (14, 16, 1 to 5, 15, 18), or the answer to another message; one that no RD gives is told by its number, as 17
abbrev pub unfound : Answer → Check
unfound (Voted v n) = Err mark
unfound (Decided d) = Err mark
unfound (Logged d v) = Err mark
unfound (Elected d v l) = Err mark
unfound Done = Err mark
unfound Raised = Err mark
unfound (Found committed undecided) = passed
unfound (Unanswered r) = Err (refusal_of (number_of r))

unfoldable pub sight_by : Check → Seen → Result Seen Refusal
sight_by c s = or_else c (Ok s)

abbrev pub halves : Answer → Answer → Answer → Answer → Seen
halves a b c d = record { train = half a; direction = half b; axles = half c; hot = half d }

unfoldable pub sight_of : Answer → Answer → Answer → Answer → Result Seen Refusal
sight_of a b c d = sight_by (or_else (unfound a) (or_else (unfound b) (or_else (unfound c) (unfound d)))) (halves a b c d)

unfoldable pub report_by : ℕ → Result Seen Refusal → Result Report Refusal
report_by p (Ok s) = report_of p s
report_by p (Err r) = Err r

unfoldable pub report_from : ℕ → Answer → Answer → Answer → Answer → Result Report Refusal
report_from p a b c d = report_by p (sight_of a b c d)
