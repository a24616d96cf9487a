-- 01, 'Bench program', in its order: from the bytes read to the text printed.
use Rattle.std.specs.Prelude.{ℕ, zero, suc, ◌+◌, Bool, false, ◌||◌, List, [], ◌∷◌, ◌++◌, length, get_or, take, drop, eqb, ltb, Result, Ok, Err}
use Rattle.terms.specs.Choice.{pick}
use Rattle.terms.specs.Checks.{Check, or_else, if_less, short, buffer}
use Rattle.terms.specs.Refusals.{number_of}
use Rattle.records.specs.Numbers.{num_at}
use Rattle.terms.specs.declared.Refusal.{Refusal}
use Rattle.records.specs.declared.Mark.{Mark}
use Rattle.records.specs.Cutting.{mark_wrong, message_cut, message_len}
use Rattle.records.specs.Messages.{is_mark, mark_of}
use Rattle.rules.specs.declared.Answer.{Answer}
use Rattle.rules.specs.declared.Answer.TheVariants.{Voted, Decided, Logged, Done, Found, Refused, Elected, Raised}
use Rattle.rules.specs.declared.Told.{Told}
use Rattle.rules.specs.Table.{Box, empty}
use Rattle.rules.specs.Act.{EntryPoint, receive, raising, told_wrong, act, after}
use Rattle.lines.specs.declared.Said.{Said}
use Rattle.lines.specs.declared.Said.TheVariants.{Taken, Answered}
use Rattle.lines.specs.Lines.{line_of, mark_gp, mark_ck, mark_lm}

-- "Reads standard input, at most 65,536 bytes (more: the one line `too long` ..)"
abbrev pub longest : ℕ
longest = 65536

-- "too long", and the line's end
abbrev pub too_long : List ℕ
too_long = 116 ∷ 111 ∷ 111 ∷ 32 ∷ 108 ∷ 111 ∷ 110 ∷ 103 ∷ 10 ∷ []

-- "First GP: "GP", f, capacity, δ (8)."
abbrev pub gp_len : ℕ
gp_len = 12

unfoldable pub told_by : List ℕ → ℕ → Told
told_by gp clock = record { f = get_or gp 2 0; capacity = get_or gp 3 0; clock = clock; delta = num_at 8 4 gp }

-- ".. another mark first, is 2; a cut GP is 1"; then 14
unfoldable pub gp_refusal : List ℕ → Check
gp_refusal s = or_else (mark_wrong mark_gp s) (or_else (if_less (length s) gp_len short) (told_wrong (told_by s 0)))

-- "Then CK ("CK", clock, 8 bytes; clock starts at 0) and messages."
abbrev pub ck_len : ℕ
ck_len = 10

-- A11: LM, "LM" and the low mark in 8 bytes
abbrev pub lm_len : ℕ
lm_len = 10

-- a message at the front, by its mark, and its length
unfoldable pub marked_cut : Result Mark Refusal → List ℕ → Check
marked_cut (Ok k) s = message_cut k s
marked_cut (Err r) s = Err r

unfoldable pub marked_len : Result Mark Refusal → List ℕ → ℕ
marked_len (Ok k) s = message_len k s
marked_len (Err r) s = 0

-- a record at the front is cut by its mark: "Records follow one another directly, so 4 occurs only at the entry points that take a single message."
-- "GP elsewhere .. is 2"
unfoldable pub record_cut : List ℕ → Check
record_cut s =
    or_else (if_less (length s) 2 short)
    (pick (is_mark mark_ck s) (if_less (length s) ck_len short) (pick (is_mark mark_lm s) (if_less (length s) lm_len short) (marked_cut (mark_of s) s)))

unfoldable pub record_len : List ℕ → ℕ
record_len s = pick (is_mark mark_ck s) ck_len (pick (is_mark mark_lm s) lm_len (marked_len (mark_of s) s))

unfoldable pub front : List ℕ → List ℕ
front s = take (record_len s) s

-- an LM raises the low mark, a message reaches the box
unfoldable pub entry_point : List ℕ → EntryPoint
entry_point m = pick (is_mark mark_lm m) (raising (num_at 8 2 m)) receive

-- what a record says, and what stands afterwards: a CK moves the clock, every other one is a call
unfoldable pub said : Told → Box → List ℕ → Said
said told x m = pick (is_mark mark_ck m) Taken (Answered (act (entry_point m) told x m).answer)

unfoldable pub box_next : Told → Box → List ℕ → Box
box_next told x m = pick (is_mark mark_ck m) x (after (entry_point m) told x m)

unfoldable pub clock_next : ℕ → List ℕ → ℕ
clock_next clock m = pick (is_mark mark_ck m) (num_at 8 2 m) clock

-- "After refusals 1, 2, 3, 14 it stops."
abbrev pub stops_at : ℕ → Bool
stops_at n = eqb n 1 || (eqb n 2 || (eqb n 3 || eqb n 14))

abbrev pub answer_stops : Answer → Bool
answer_stops (Voted v n) = false
answer_stops (Decided d) = false
answer_stops (Logged d v) = false
answer_stops (Elected d v l) = false
answer_stops Done = false
answer_stops Raised = false
answer_stops (Found committed undecided) = false
answer_stops (Refused r) = stops_at (number_of r)

abbrev pub stops : Said → Bool
stops Taken = false
stops (Answered a) = answer_stops a

-- what cannot be cut has refusal 1, 2 or 3: its line is the last
unfoldable pub cut_or : Check → ℕ → List ℕ → List ℕ → List ℕ
cut_or (Ok _) k s rest = rest
cut_or (Err r) k s rest = line_of k s (Answered (Refused r))

-- "Each record prints number from 0 ..": the lines of at most n records s, the first with number k, where the GP, the clock and the box stand so
unfoldable pub lines_from : ℕ → ℕ → List ℕ → ℕ → Box → List ℕ → List ℕ
lines_from zero k gp clock x s = []
lines_from (suc n) k gp clock x s =
    pick (ltb 0 (length s))
    (cut_or (record_cut s) k s
    (line_of k s (said (told_by gp clock) x (front s))
    ++ pick (stops (said (told_by gp clock) x (front s))) []
    (lines_from n (k + 1) gp (clock_next clock (front s)) (box_next (told_by gp clock) x (front s)) (drop (record_len s) s))))
    []

-- behind a GP that is taken; no record is empty, so as many turns as there are bytes are enough (proofs/Running, `enough`)
unfoldable pub rest_text : List ℕ → List ℕ
rest_text s = lines_from (length s) 1 s 0 empty (drop gp_len s)

unfoldable pub run_text : List ℕ → List ℕ
run_text s = line_of 0 s Taken ++ rest_text s

-- ".. none: nothing printed"
unfoldable pub bench_text : List ℕ → List ℕ
bench_text s = pick (ltb longest (length s)) too_long (pick (ltb 0 (length s)) (cut_or (gp_refusal s) 0 s (run_text s)) [])

-- room for every text: a line is at most 112 bytes, and all records but the last have at least ten
abbrev pub room : ℕ
room = 786544

unfoldable pub room_wrong : List ℕ → Check
room_wrong out = if_less (length out) room buffer

-- how much was written
abbrev pub wrote_in : Result ℕ Refusal → ℕ
wrote_in (Ok n) = n
wrote_in (Err r) = 0
