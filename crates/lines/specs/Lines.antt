-- 01, 'Bench program': "Each record prints number from 0, its mark (`??` if the mark is cut or not GP, CK, PR, LG, DC, RD), the answer."
-- A5 adds IV and LD, A11 LM.
use Rattle.std.specs.Prelude.{ℕ, zero, suc, ◌+◌, ◌-◌, ◌*◌, ◌/◌, ◌%◌, ◌≤◌, ◌≡◌, Bool, false, ◌||◌, List, [], ◌∷◌, ◌++◌, length, take, drop, eqb, ltb, Result, is_ok}
use Rattle.terms.specs.Choice.{pick}
use Rattle.terms.specs.Refusals.{number_of, lacking_of}
use Rattle.terms.specs.declared.Refusal.{Refusal}
use Rattle.records.specs.declared.Mark.{Mark}
use Rattle.records.specs.Messages.{is_mark, mark_of}
use Rattle.rules.specs.Answers.{reason_number}
use Rattle.terms.specs.declared.Decision.{Decision}
use Rattle.terms.specs.declared.Decision.TheVariants.{Commit as commit, Abort as abort}
use Rattle.rules.specs.declared.Vote.{Vote}
use Rattle.rules.specs.declared.Vote.TheVariants.{None as unvoted, Commit as vote_commit, Abort as vote_abort, Waiting as waiting}
use Rattle.rules.specs.declared.Version.{Version}
use Rattle.rules.specs.declared.Answer.{Answer}
use Rattle.rules.specs.declared.Answer.TheVariants.{Voted, Decided, Logged, Done, Found, Refused, Elected, Raised}
use Rattle.lines.specs.declared.Said.{Said}
use Rattle.lines.specs.declared.Said.TheVariants.{Taken, Answered}

-- ---- numbers in decimal, as bytes in ASCII
-- a number's digits, the first of them not 0 unless the number is; at most n digits
unfoldable pub decimal_in : ℕ → ℕ → List ℕ
decimal_in zero x = []
decimal_in (suc n) x = pick (ltb x 10) ((48 + x) ∷ []) (decimal_in n (x / 10) ++ ((48 + x % 10) ∷ []))

-- twenty digits hold every 64-bit number
unfoldable pub decimal : ℕ → List ℕ
decimal x = decimal_in 20 x

-- the number that digits say, behind those that said n
unfoldable pub value : ℕ → List ℕ → ℕ
value n [] = n
value n (d ∷ ds) = value (n * 10 + (d - 48)) ds

-- ---- words, as bytes in ASCII
abbrev pub blank : List ℕ
blank = 32 ∷ []

abbrev pub line_end : List ℕ
line_end = 10 ∷ []

-- "ok"
abbrev pub ok_text : List ℕ
ok_text = 111 ∷ 107 ∷ []

-- "commit"
abbrev pub commit_text : List ℕ
commit_text = 99 ∷ 111 ∷ 109 ∷ 109 ∷ 105 ∷ 116 ∷ []

-- "abort"
abbrev pub abort_text : List ℕ
abort_text = 97 ∷ 98 ∷ 111 ∷ 114 ∷ 116 ∷ []

-- "abort "
abbrev pub abort_blank : List ℕ
abort_blank = 97 ∷ 98 ∷ 111 ∷ 114 ∷ 116 ∷ 32 ∷ []

-- "wait"
abbrev pub wait_text : List ℕ
wait_text = 119 ∷ 97 ∷ 105 ∷ 116 ∷ []

-- "none"
abbrev pub none_text : List ℕ
none_text = 110 ∷ 111 ∷ 110 ∷ 101 ∷ []

-- "decided "
abbrev pub decided_blank : List ℕ
decided_blank = 100 ∷ 101 ∷ 99 ∷ 105 ∷ 100 ∷ 101 ∷ 100 ∷ 32 ∷ []

-- "logged "
abbrev pub logged_blank : List ℕ
logged_blank = 108 ∷ 111 ∷ 103 ∷ 103 ∷ 101 ∷ 100 ∷ 32 ∷ []

-- "elect "
abbrev pub elect_blank : List ℕ
elect_blank = 101 ∷ 108 ∷ 101 ∷ 99 ∷ 116 ∷ 32 ∷ []

-- "done"
abbrev pub done_text : List ℕ
done_text = 100 ∷ 111 ∷ 110 ∷ 101 ∷ []

-- "refused "
abbrev pub refused_blank : List ℕ
refused_blank = 114 ∷ 101 ∷ 102 ∷ 117 ∷ 115 ∷ 101 ∷ 100 ∷ 32 ∷ []

-- ---- answers
unfoldable pub decision_text : Decision → List ℕ
decision_text commit = commit_text
decision_text abort = abort_text

-- "`commit`, `abort` and reason, `wait`"; no PR is answered with vote none
unfoldable pub vote_text : Vote → List ℕ
vote_text unvoted = none_text
vote_text vote_commit = commit_text
vote_text (vote_abort r) = abort_blank ++ decimal (reason_number r)
vote_text waiting = wait_text

-- "four numbers for RD (committed version, value, undecided version, value)"
unfoldable pub version_text : Version → List ℕ
version_text v = decimal v.stamp.0 ++ (blank ++ decimal v.value)

unfoldable pub found_text : Version → Version → List ℕ
found_text c u = version_text c ++ (blank ++ version_text u)

-- "`refused` and number"; A1: "the bench program, which prints it after the 11"
unfoldable pub lacking_text : ℕ → List ℕ
lacking_text lacking = pick (eqb lacking 0) [] (blank ++ decimal lacking)

unfoldable pub refusal_text : Refusal → List ℕ
refusal_text r = refused_blank ++ (decimal (number_of r) ++ lacking_text (lacking_of r))

-- A5: a log answer "tells its view"; an election answer tells its decision, view and leader
unfoldable pub logged_text : Decision → ℕ → List ℕ
logged_text d v = logged_blank ++ (decision_text d ++ (blank ++ decimal v))

unfoldable pub elected_text : Decision → ℕ → ℕ → List ℕ
elected_text d v l = elect_blank ++ (decision_text d ++ (blank ++ (decimal v ++ (blank ++ decimal l))))

-- "`decided`/`logged` and commit or abort, `done`, .. `refused` and number"; A6's number: "the bench does not print it"
unfoldable pub answer_text : Answer → List ℕ
answer_text (Voted v n) = vote_text v
answer_text (Decided d) = decided_blank ++ decision_text d
answer_text (Logged d v) = logged_text d v.0
answer_text Done = done_text
answer_text (Found c u) = found_text c u
answer_text (Refused r) = refusal_text r
answer_text (Elected d v l) = elected_text d v.0 l
answer_text Raised = ok_text

-- "`ok`": a GP or a CK that was taken
unfoldable pub said_text : Said → List ℕ
said_text Taken = ok_text
said_text (Answered a) = answer_text a

-- ---- the mark
abbrev pub mark_gp : List ℕ
mark_gp = 71 ∷ 80 ∷ []

abbrev pub mark_ck : List ℕ
mark_ck = 67 ∷ 75 ∷ []

abbrev pub mark_lm : List ℕ
mark_lm = 76 ∷ 77 ∷ []

-- "??"
abbrev pub no_mark : List ℕ
no_mark = 63 ∷ 63 ∷ []

-- "PR, LG, DC, RD", IV, LD
abbrev pub is_message : Result Mark Refusal → Bool
is_message found = is_ok found

-- "its mark (`??` if the mark is cut or not GP, CK, PR, LG, DC, RD)"
unfoldable pub known : List ℕ → Bool
known s = pick (ltb (length s) 2) false (is_mark mark_gp s || (is_mark mark_ck s || (is_mark mark_lm s || is_message (mark_of s))))

unfoldable pub mark_text : List ℕ → List ℕ
mark_text s = pick (known s) (take 2 s) no_mark

-- ---- a line: number k, the mark of the bytes s, what was said
unfoldable pub line_of : ℕ → List ℕ → Said → List ℕ
line_of k s said = decimal k ++ (blank ++ (mark_text s ++ (blank ++ (said_text said ++ line_end))))

-- text put down at a place, all else as it was
unfoldable pub put_at : List ℕ → ℕ → List ℕ → List ℕ
put_at out at text = take at out ++ (text ++ drop (at + length text) out)

-- text of at most so many bytes was put down: the place behind it, the buffer afterwards
pub record Puts (out : List ℕ) (at : ℕ) (text : List ℕ) (most : ℕ) (after : List ℕ) (behind : ℕ) : Type 0 where
  pub place : behind ≡ at + length text
  pub written : after ≡ put_at out at text
  pub short : length text ≤ most
