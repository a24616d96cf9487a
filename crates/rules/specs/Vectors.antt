-- What cases 1 to 12 and demand 3 leave open: answers, and what a box holds afterwards, over message bytes and lent tables.
use Rattle.std.specs.Prelude.{ℕ, ◌≡◌, List, [], ◌∷◌, ◌++◌, map, replicate}
use Rattle.terms.specs.declared.Refusal.TheVariants.{Ahead as AheadOfClock, Code, Contradiction, Full, Group, Mark, Order, OtherBody}
use Rattle.terms.specs.declared.Refusal.TheVariants.{Election, LastView, NotLogged, Passed, Range, Short, Trailing}
use Rattle.records.specs.Tx.{Tx, tx_bytes}
use Rattle.rules.specs.Answers.{Answer, Decided, Decision, Done, Elected, Logged, Refused, Settled, Vote, abort, commit, logs, settled, unsettled, unvoted, votes, waiting}
use Rattle.rules.specs.Answers.{Log, logged_at, unlogged, view_as}
use Rattle.rules.specs.Answers.{Ahead, Dependency, NoVersion, Overwritten, ReadMark, Undercuts, vote_abort, vote_commit}
use Rattle.rules.specs.Table.{Box, Told, Entry, empty, no_version}
use Rattle.rules.specs.Act.{after}
use Rattle.rules.specs.Cases.{Case, DC, LG, PR, RD, aborts, case, commits, dc, due, few, found, given, lg, line, list, logs0, pairs, read, reads, tx, waits, write, writes}
use Rattle.rules.specs.Cases.{Sent, elections, got, iv, ld, logs_at, seen}

-- with another f or capacity; from a table that is lent
unfoldable pub group : ℕ → ℕ → List (List ℕ) → List Answer → Case
group f capacity sent due =
    record { told = record { f = f; capacity = capacity; clock = 100; delta = 10 }; start = empty; sent = map got sent; due = due }

-- entries, and the read mark of key 0
unfoldable pub marked : List Entry → ℕ → Box
marked table mark = record { table = table; marks = mark ∷ replicate 511 0; low = 0; folds = replicate 512 no_version }

unfoldable pub lent : List Entry → List (List ℕ) → List Answer → Case
lent table sent due = record { told = line; start = marked table 0; sent = map got sent; due = due }

-- a log of view 0, or none
unfoldable pub at_first : Settled → Log
at_first unsettled = unlogged
at_first (settled d) = logged_at d (view_as 0)

-- with the view of its log, and a current view
unfoldable pub viewed : Tx → Vote → Log → ℕ → Settled → Entry
viewed t v log view decided = record { body = tx_bytes t; vote = v; log = log; view = view_as view; decided = decided }

unfoldable pub entry : Tx → Vote → Settled → Settled → Entry
entry t v log decided = viewed t v (at_first log) 0 decided

-- A5: a log of a view; an election answer: decision, view and leader
unfoldable pub logs_in : Decision → ℕ → Answer
logs_in d v = Logged d (view_as v)

unfoldable pub elects : Decision → ℕ → ℕ → Answer
elects d v leader = Elected d (view_as v) leader

unfoldable pub zeros : ℕ → List ℕ
zeros n = replicate n 0

-- "Input in hex": its three messages, byte by byte
unfoldable pub in_hex : List Case
in_hex =
    case
    ((80 ∷ 82 ∷ 84 ∷ 88 ∷ 0 ∷ 1 ∷ 50 ∷ (zeros 7 ++ (3 ∷ 0 ∷ 7 ∷ zeros 7)))
    ∷ (80 ∷ 82 ∷ 84 ∷ 88 ∷ 1 ∷ 0 ∷ 60 ∷ (zeros 7 ++ (3 ∷ 0 ∷ 50 ∷ zeros 7)))
    ∷ (82 ∷ 68 ∷ 3 ∷ 0 ∷ 60 ∷ zeros 7)
    ∷ [])
    (commits ∷ waits ∷ found 0 0 50 7 ∷ [])
    ∷ []

-- the five thresholds, each from both sides, with f = 1 and with f = 5
unfoldable pub thresholds : List Case
thresholds =
    case (PR (writes 50 3) ∷ LG (writes 50 3) commit 3 ∷ LG (writes 50 3) commit 4 ∷ []) (commits ∷ few 1 ∷ logs0 commit ∷ [])
    ∷ case (PR (writes 50 3) ∷ LG (writes 50 3) abort 1 ∷ LG (writes 50 3) abort 2 ∷ []) (commits ∷ few 1 ∷ logs0 abort ∷ [])
    ∷ case (DC (writes 50 3) votes commit 5 ∷ DC (writes 50 3) votes commit 6 ∷ []) (few 1 ∷ Done ∷ [])
    ∷ case (DC (writes 50 3) votes abort 3 ∷ DC (writes 50 3) votes abort 4 ∷ []) (few 1 ∷ Done ∷ [])
    ∷ case (DC (writes 50 3) logs commit 4 ∷ DC (writes 50 3) logs commit 5 ∷ []) (few 1 ∷ Done ∷ [])
    ∷ case (DC (writes 50 3) logs abort 4 ∷ DC (writes 50 3) logs abort 5 ∷ []) (few 1 ∷ Done ∷ [])
    ∷ group 5 8 (PR (writes 50 3) ∷ LG (writes 50 3) commit 15 ∷ LG (writes 50 3) commit 16 ∷ []) (commits ∷ few 1 ∷ logs0 commit ∷ [])
    ∷ group 5 8 (PR (writes 50 3) ∷ LG (writes 50 3) abort 5 ∷ LG (writes 50 3) abort 6 ∷ []) (commits ∷ few 1 ∷ logs0 abort ∷ [])
    ∷ group 5 8 (DC (writes 50 3) votes commit 25 ∷ DC (writes 50 3) votes commit 26 ∷ []) (few 1 ∷ Done ∷ [])
    ∷ group 5 8 (DC (writes 50 3) votes abort 15 ∷ DC (writes 50 3) votes abort 16 ∷ []) (few 1 ∷ Done ∷ [])
    ∷ group 5 8 (DC (writes 50 3) logs commit 20 ∷ DC (writes 50 3) logs commit 21 ∷ []) (few 1 ∷ Done ∷ [])
    ∷ group 5 8 (DC (writes 50 3) logs abort 20 ∷ DC (writes 50 3) logs abort 21 ∷ []) (few 1 ∷ Done ∷ [])
    ∷ []

-- a list
unfoldable pub lists : List Case
lists =
    -- "only entries with that answer are counted"
    case (dc (writes 50 3) (list votes commit (pairs 0 5 commit ++ pairs 5 1 abort)) ∷ []) (few 1 ∷ [])
    -- A1: "from 1 up to the threshold": no answer counted, with f = 1 and with f = 5
    ∷ case (lg (writes 50 3) (list votes commit (pairs 0 6 abort)) ∷ lg (writes 50 3) (list votes abort (pairs 0 6 commit)) ∷ []) (few 4 ∷ few 2 ∷ [])
    ∷ case (dc (writes 50 3) (list votes commit (pairs 0 6 abort)) ∷ dc (writes 50 3) (list votes abort (pairs 0 6 commit)) ∷ []) (few 6 ∷ few 4 ∷ [])
    ∷ case (dc (writes 50 3) (list logs commit (pairs 0 6 abort)) ∷ dc (writes 50 3) (list logs abort (pairs 0 6 commit)) ∷ []) (few 5 ∷ few 5 ∷ [])
    ∷ group 5 8 (lg (writes 50 3) (list votes commit (pairs 0 26 abort)) ∷ dc (writes 50 3) (list votes commit (pairs 0 26 abort)) ∷ []) (few 16 ∷ few 26 ∷ [])
    ∷ group 5 8 (lg (writes 50 3) (list votes abort (pairs 0 26 commit)) ∷ dc (writes 50 3) (list votes abort (pairs 0 26 commit)) ∷ []) (few 6 ∷ few 16 ∷ [])
    ∷ group 5 8 (DC (writes 50 3) logs commit 1 ∷ DC (writes 50 3) logs abort 19 ∷ []) (few 20 ∷ few 2 ∷ [])
    -- LG on a logged and on a decided entry tells none
    ∷ case (LG (writes 50 3) commit 4 ∷ LG (writes 50 3) commit 1 ∷ DC (writes 50 3) logs commit 5 ∷ LG (writes 50 3) commit 1 ∷ [])
    (logs0 commit ∷ logs0 commit ∷ Done ∷ Decided commit ∷ [])
    -- "13. A list naming box 2 twice: 6."
    ∷ case (dc (writes 50 3) (list votes abort (pairs 0 3 abort ++ pairs 2 1 abort)) ∷ []) (Refused Order ∷ [])
    -- "kind 2 in an LG"
    ∷ case (PR (writes 50 3) ∷ lg (writes 50 3) (list logs commit (pairs 0 5 commit)) ∷ []) (commits ∷ Refused Code ∷ [])
    ∷ []

-- "Each test runs over all its keys before the next.": of two that fail the first gives the reason, whatever the order of the keys
unfoldable pub orders : List Case
orders =
    -- 1 and 2; 2 and 3, twice; 3 and 4; 4 and 5
    case (PR (reads 111 3 40) ∷ []) (aborts Ahead ∷ [])
    ∷ case (PR (writes 50 3) ∷ PR (tx 60 (read 3 0 ∷ read 4 40 ∷ []) []) ∷ []) (commits ∷ aborts NoVersion ∷ [])
    ∷ case (PR (writes 50 4) ∷ PR (tx 60 (read 3 40 ∷ read 4 0 ∷ []) []) ∷ []) (commits ∷ aborts NoVersion ∷ [])
    ∷ case (PR (writes 50 3) ∷ PR (reads 70 4 0) ∷ PR (tx 60 (read 3 0 ∷ []) (write 4 7 ∷ [])) ∷ []) (commits ∷ commits ∷ aborts Overwritten ∷ [])
    ∷ case (PR (reads 70 4 0) ∷ RD 3 80 ∷ PR (tx 60 [] (write 3 7 ∷ write 4 7 ∷ [])) ∷ []) (commits ∷ found 0 0 0 0 ∷ aborts Undercuts ∷ [])
    ∷ []

-- 60 reads key 3 at 50 and key 4 at 51
unfoldable pub reads_both : Tx
reads_both = tx 60 (read 3 50 ∷ read 4 51 ∷ []) []

-- the waiting rule
unfoldable pub waitings : List Case
waitings =
    -- reason 6 beats wait, whichever of the two it is
    case (PR (writes 50 3) ∷ PR (writes 51 4) ∷ PR reads_both ∷ DC (writes 51 4) votes abort 4 ∷ PR reads_both ∷ [])
    (commits ∷ commits ∷ waits ∷ Done ∷ aborts Dependency ∷ [])
    ∷ case (PR (writes 50 3) ∷ PR (writes 51 4) ∷ PR reads_both ∷ DC (writes 50 3) votes abort 4 ∷ PR reads_both ∷ [])
    (commits ∷ commits ∷ waits ∷ Done ∷ aborts Dependency ∷ [])
    -- "Else any undecided: wait."
    ∷ case (PR (writes 50 3) ∷ PR (writes 51 4) ∷ PR reads_both ∷ DC (writes 50 3) votes commit 6 ∷ PR reads_both ∷ [])
    (commits ∷ commits ∷ waits ∷ Done ∷ waits ∷ [])
    -- "waiting, the waiting rule": no test runs again
    ∷ case
    (PR (writes 50 3) ∷ PR (tx 60 (read 3 50 ∷ []) (write 4 7 ∷ [])) ∷ RD 4 70 ∷ DC (writes 50 3) votes commit 6
    ∷ PR (tx 60 (read 3 50 ∷ []) (write 4 7 ∷ [])) ∷ [])
    (commits ∷ waits ∷ found 0 0 60 7 ∷ Done ∷ commits ∷ [])
    -- "Deciding a wait by stamp alone after the body under it was replaced."
    ∷ case (PR (writes 50 3) ∷ PR (reads 60 3 50) ∷ DC (writes 50 4) votes commit 6 ∷ PR (reads 60 3 50) ∷ [])
    (commits ∷ waits ∷ Done ∷ aborts Dependency ∷ [])
    -- "Dropping a waiting entry from the live set, so that a later write slips under its read."
    ∷ case (PR (writes 50 3) ∷ PR (tx 60 (read 3 50 ∷ read 4 0 ∷ []) []) ∷ PR (writes 55 4) ∷ [])
    (commits ∷ waits ∷ aborts Undercuts ∷ [])
    ∷ []

-- what is held: 9 to 13, Decided, and what a DC replaces
unfoldable pub helds : List Case
helds =
    -- "vote cast, the same vote again", though the tests would say otherwise now
    case (PR (reads 60 3 40) ∷ PR (writes 40 3) ∷ PR (reads 60 3 40) ∷ []) (aborts NoVersion ∷ commits ∷ aborts NoVersion ∷ [])
    ∷ case (PR (writes 60 3) ∷ RD 3 70 ∷ PR (writes 60 3) ∷ []) (commits ∷ found 0 0 60 7 ∷ commits ∷ [])
    -- another body, undecided: 9 of PR, LG and an abort DC
    ∷ case (PR (writes 50 3) ∷ PR (writes 50 3) ∷ PR (writes 50 4) ∷ LG (writes 50 4) commit 4 ∷ DC (writes 50 4) votes abort 4 ∷ PR (writes 50 3) ∷ [])
    (commits ∷ commits ∷ Refused OtherBody ∷ Refused OtherBody ∷ Refused OtherBody ∷ commits ∷ [])
    -- "14. 50 held undecided, another body: PR 9; a DC commit proof for that body replaces it."
    ∷ case (PR (writes 50 3) ∷ PR (writes 50 4) ∷ DC (writes 50 4) votes commit 6 ∷ PR (writes 50 4) ∷ PR (writes 50 3) ∷ [])
    (commits ∷ Refused OtherBody ∷ Done ∷ Decided commit ∷ Refused OtherBody ∷ [])
    -- of a committed one: another committed body 12, too few 11 first, the opposite decision 12, the equal one Done
    ∷ case
    (DC (writes 50 4) votes commit 6 ∷ DC (writes 50 3) votes commit 6 ∷ DC (writes 50 3) votes commit 5 ∷ DC (writes 50 4) votes abort 4
    ∷ DC (writes 50 4) logs commit 5 ∷ PR (writes 50 4) ∷ [])
    (Done ∷ Refused Contradiction ∷ few 1 ∷ Refused Contradiction ∷ Done ∷ Decided commit ∷ [])
    -- of an aborted one: Decided before 11, the opposite decision 12, and another body replaces it
    ∷ case
    (DC (writes 50 3) votes abort 4 ∷ PR (writes 50 3) ∷ LG (writes 50 3) commit 1 ∷ DC (writes 50 3) votes commit 6
    ∷ DC (writes 50 4) votes commit 6 ∷ PR (writes 50 4) ∷ [])
    (Done ∷ Decided abort ∷ Decided abort ∷ Refused Contradiction ∷ Done ∷ Decided commit ∷ [])
    -- "The box's own vote does not matter."
    ∷ case (PR (reads 60 3 40) ∷ LG (reads 60 3 40) commit 4 ∷ PR (reads 60 3 40) ∷ []) (aborts NoVersion ∷ logs0 commit ∷ aborts NoVersion ∷ [])
    -- 13, before the tests; a body that replaces another needs no room
    ∷ group 1 1 (PR (writes 50 3) ∷ PR (writes 111 3) ∷ DC (writes 60 3) votes commit 6 ∷ DC (writes 50 4) votes commit 6 ∷ [])
    (commits ∷ Refused Full ∷ Refused Full ∷ Done ∷ [])
    ∷ []

-- A2: "An LG for a stamp not held": 11, 13, and the later PR
unfoldable pub missed : List Case
missed =
    -- 11; logged; not live, so a reader gets reason 2; then its PR, which votes, and the log stays
    case (LG (writes 50 3) commit 3 ∷ LG (writes 50 3) commit 4 ∷ PR (reads 60 3 50) ∷ PR (writes 50 3) ∷ LG (writes 50 3) abort 2 ∷ [])
    (few 1 ∷ logs0 commit ∷ aborts NoVersion ∷ commits ∷ logs0 commit ∷ [])
    -- not live before its PR: no clash with what reads under it, nor in what RD finds
    ∷ case (LG (writes 50 3) abort 2 ∷ RD 3 50 ∷ RD 3 40 ∷ PR (reads 60 3 0) ∷ PR (writes 50 3) ∷ [])
    (logs0 abort ∷ found 0 0 0 0 ∷ found 0 0 0 0 ∷ commits ∷ aborts Undercuts ∷ [])
    -- its PR runs the tests once, and the vote is cast then: it is live
    ∷ case (LG (writes 50 3) commit 4 ∷ PR (writes 50 3) ∷ RD 3 70 ∷ PR (writes 50 3) ∷ PR (reads 60 3 0) ∷ [])
    (logs0 commit ∷ commits ∷ found 0 0 50 7 ∷ commits ∷ aborts Overwritten ∷ [])
    -- another body: 9 of LG and of PR; decided by a DC: Decided
    ∷ case (LG (writes 50 3) commit 4 ∷ LG (writes 50 4) commit 4 ∷ PR (writes 50 4) ∷ DC (writes 50 3) logs commit 5 ∷ PR (writes 50 3) ∷ [])
    (logs0 commit ∷ Refused OtherBody ∷ Refused OtherBody ∷ Done ∷ Decided commit ∷ [])
    -- 11, then 13; at the later PR no room is asked for
    ∷ group 1 1 (LG (writes 50 3) commit 4 ∷ LG (writes 60 3) commit 3 ∷ LG (writes 60 3) commit 4 ∷ PR (writes 50 3) ∷ PR (writes 60 3) ∷ [])
    (logs0 commit ∷ few 1 ∷ Refused Full ∷ commits ∷ Refused Full ∷ [])
    ∷ []

-- RD
unfoldable pub lookings : List Case
lookings =
    -- "highest stamp strictly below", each half by itself; an aborted one is in neither
    case
    (DC (tx 50 [] (write 3 8 ∷ [])) votes commit 6 ∷ PR (writes 60 3) ∷ DC (writes 55 3) votes abort 4 ∷ RD 3 50 ∷ RD 3 51 ∷ RD 3 61 ∷ RD 4 61 ∷ [])
    (Done ∷ commits ∷ Done ∷ found 0 0 0 0 ∷ found 50 8 0 0 ∷ found 50 8 60 7 ∷ found 0 0 0 0 ∷ [])
    -- 15 raises no mark; a mark never falls
    ∷ case (RD 3 111 ∷ PR (writes 105 3) ∷ RD 3 110 ∷ PR (writes 106 3) ∷ [])
    (Refused AheadOfClock ∷ commits ∷ found 0 0 105 7 ∷ aborts ReadMark ∷ [])
    ∷ case (RD 3 70 ∷ RD 3 60 ∷ PR (writes 65 3) ∷ []) (found 0 0 0 0 ∷ found 0 0 0 0 ∷ aborts ReadMark ∷ [])
    ∷ []

-- 14 before any byte of the message; then 1, 2 and 4
unfoldable pub refusals : List Case
refusals =
    group 0 8 ([] ∷ []) (Refused Group ∷ [])
    ∷ group 6 8 ([] ∷ []) (Refused Group ∷ [])
    ∷ group 1 0 ([] ∷ []) (Refused Group ∷ [])
    ∷ group 1 256 ([] ∷ []) (Refused Group ∷ [])
    ∷ group 5 255 ([] ∷ (80 ∷ []) ∷ tx_bytes (writes 50 3) ∷ (PR (writes 50 3) ++ (0 ∷ [])) ∷ [])
    (Refused Short ∷ Refused Short ∷ Refused Mark ∷ Refused Trailing ∷ [])
    ∷ []

-- what only a lent table holds
unfoldable pub lents : List Case
lents =
    -- "If it holds one stamp twice, a look-up by stamp takes the first such entry, tests 3 and 4 look at every entry"
    lent (entry (writes 50 4) vote_commit unsettled unsettled ∷ entry (writes 50 3) vote_commit unsettled unsettled ∷ []) (PR (writes 50 3) ∷ PR (reads 60 3 0) ∷ [])
    (Refused OtherBody ∷ aborts Overwritten ∷ [])
    ∷ lent (entry (reads 60 4 0) vote_commit unsettled unsettled ∷ entry (reads 60 3 0) vote_commit unsettled unsettled ∷ []) (PR (writes 50 3) ∷ [])
    (aborts Undercuts ∷ [])
    -- "undecided with vote none .., the tests as if new, in its place": its log stays
    ∷ lent (entry (writes 50 3) unvoted (settled commit) unsettled ∷ []) (PR (writes 50 3) ∷ LG (writes 50 3) abort 1 ∷ []) (commits ∷ logs0 commit ∷ [])
    -- "or not held (only in a lent table)"
    ∷ lent (entry (reads 60 3 50) waiting unsettled unsettled ∷ []) (PR (reads 60 3 50) ∷ []) (aborts Dependency ∷ [])
    -- "committed by a body that lacks the key"; "any undecided: wait", whether it lacks the key or not
    ∷ lent (entry (writes 50 4) unvoted unsettled (settled commit) ∷ entry (reads 60 3 50) waiting unsettled unsettled ∷ []) (PR (reads 60 3 50) ∷ [])
    (aborts Dependency ∷ [])
    ∷ lent (entry (writes 50 4) vote_commit unsettled unsettled ∷ entry (reads 60 3 50) waiting unsettled unsettled ∷ []) (PR (reads 60 3 50) ∷ []) (waits ∷ [])
    -- "A version on which this box itself voted abort but which is undecided is still waited for."; a new reader of it fails test 2
    ∷ lent (entry (writes 50 3) (vote_abort ReadMark) unsettled unsettled ∷ entry (reads 60 3 50) waiting unsettled unsettled ∷ [])
    (PR (reads 60 3 50) ∷ PR (reads 70 3 50) ∷ [])
    (waits ∷ aborts NoVersion ∷ [])
    -- test 4: "at a version below this stamp", so not at this stamp
    ∷ lent (entry (reads 60 3 50) vote_commit unsettled unsettled ∷ []) (PR (writes 50 3) ∷ []) (commits ∷ [])
    -- "RD takes the first among equals, in an entry the first write of the key"
    ∷ lent (entry (tx 50 [] (write 3 8 ∷ write 3 9 ∷ [])) unvoted unsettled (settled commit) ∷ entry (writes 50 3) unvoted unsettled (settled commit) ∷ [])
    (RD 3 60 ∷ [])
    (found 50 8 0 0 ∷ [])
    ∷ []

-- A5, IV: 50 is led by boxes 2, 3, 4, 5, 0, 1, .. in views 0, 1, 2, ..
unfoldable pub movings : List Case
movings =
    -- 22 where nothing is held, and where no log is, also before 24; 9 before it
    case
    (iv (writes 50 3) (seen 0 4 0) ∷ PR (writes 50 3) ∷ iv (writes 50 3) (seen 0 4 0) ∷ iv (writes 50 3) (seen 0 4 65535)
    ∷ iv (writes 50 4) (seen 0 4 0) ∷ [])
    (Refused NotLogged ∷ commits ∷ Refused NotLogged ∷ Refused NotLogged ∷ Refused OtherBody ∷ [])
    -- 3f and 3f + 1 at a view; f and f + 1
    ∷ case
    (LG (writes 50 3) commit 4 ∷ iv (writes 50 3) (seen 0 3 0) ∷ iv (writes 50 3) (seen 0 4 0) ∷ iv (writes 50 3) (seen 0 1 9)
    ∷ iv (writes 50 3) (seen 0 2 9) ∷ [])
    (logs0 commit ∷ elects commit 0 2 ∷ elects commit 1 3 ∷ elects commit 1 3 ∷ elects commit 9 5 ∷ [])
    ∷ group 5 8
    (LG (writes 50 3) abort 6 ∷ iv (writes 50 3) (seen 0 15 0) ∷ iv (writes 50 3) (seen 0 16 0) ∷ iv (writes 50 3) (seen 0 5 9)
    ∷ iv (writes 50 3) (seen 0 6 9) ∷ [])
    (logs0 abort ∷ elects abort 0 24 ∷ elects abort 1 25 ∷ elects abort 1 25 ∷ elects abort 9 7 ∷ [])
    -- "higher views counting for lower ones", in both; where 3f + 1 are, it is not asked where f + 1 are
    ∷ case
    (LG (writes 50 3) commit 4 ∷ iv (writes 50 3) (seen 0 2 5 ++ seen 2 2 3) ∷ iv (writes 50 3) (seen 0 1 8 ++ seen 1 1 9)
    ∷ iv (writes 50 3) (seen 0 4 9 ++ seen 4 2 12) ∷ [])
    (logs0 commit ∷ elects commit 4 0 ∷ elects commit 8 4 ∷ elects commit 10 0 ∷ [])
    -- never back, by either
    ∷ case
    (LG (writes 50 3) commit 4 ∷ iv (writes 50 3) (seen 0 2 9) ∷ iv (writes 50 3) (seen 0 4 3) ∷ iv (writes 50 3) (seen 0 2 3) ∷ [])
    (logs0 commit ∷ elects commit 9 5 ∷ elects commit 9 5 ∷ elects commit 9 5 ∷ [])
    -- 24 only where the new view would pass 65,535; it leaves the current one
    ∷ case
    (LG (writes 50 3) commit 4 ∷ iv (writes 50 3) (seen 0 4 65535) ∷ iv (writes 50 3) (seen 0 1 0) ∷ iv (writes 50 3) (seen 0 4 65534)
    ∷ iv (writes 50 3) (seen 0 4 65535) ∷ iv (writes 50 3) (seen 0 2 65535) ∷ [])
    (logs0 commit ∷ Refused LastView ∷ elects commit 0 2 ∷ elects commit 65535 5 ∷ Refused LastView ∷ elects commit 65535 5 ∷ [])
    -- "box (v + stamp) mod n": a sum of whole numbers, also past 2^64
    ∷ case
    (LG (writes 18446744073709551615 3) commit 4 ∷ iv (writes 18446744073709551615 3) (seen 0 1 0) ∷ iv (writes 18446744073709551615 3) (seen 0 4 0)
    ∷ iv (writes 18446744073709551615 3) (seen 0 4 65534) ∷ [])
    (logs0 commit ∷ elects commit 0 3 ∷ elects commit 1 4 ∷ elects commit 65535 0 ∷ [])
    ∷ group 5 8 (LG (writes 18446744073709551615 3) abort 6 ∷ iv (writes 18446744073709551615 3) (seen 0 16 0) ∷ []) (logs0 abort ∷ elects abort 1 16 ∷ [])
    -- it tells the log, not the vote
    ∷ case (PR (writes 50 3) ∷ LG (writes 50 3) abort 2 ∷ iv (writes 50 3) (seen 0 1 0) ∷ []) (commits ∷ logs0 abort ∷ elects abort 0 2 ∷ [])
    -- "a log answer tells its view", not the current one
    ∷ case (LG (writes 50 3) commit 4 ∷ iv (writes 50 3) (seen 0 2 2) ∷ LG (writes 50 3) abort 2 ∷ []) (logs0 commit ∷ elects commit 2 4 ∷ logs0 commit ∷ [])
    -- "A log from an LG has view 0", and leaves the current one
    ∷ lent (viewed (writes 50 3) unvoted unlogged 3 unsettled ∷ []) (LG (writes 50 3) commit 4 ∷ iv (writes 50 3) (seen 0 1 0) ∷ [])
    (logs0 commit ∷ elects commit 3 5 ∷ [])
    -- 14, then the contents: 5 and 6
    ∷ group 0 8 (iv (writes 50 3) (seen 0 4 0) ∷ []) (Refused Group ∷ [])
    ∷ case (iv (writes 50 3) (seen 3 4 0) ∷ iv (writes 50 3) (seen 0 3 0 ++ seen 2 1 0) ∷ []) (Refused Range ∷ Refused Order ∷ [])
    ∷ []

-- A5, LD
unfoldable pub leadings : List Case
leadings =
    -- 23: another leader; 4f answers; 4f + 2; one of another view; all of another view; a minority. Then taken, of three to two, and once only
    case
    (ld (writes 50 3) 2 commit 1 (elections 0 5 commit 1) ∷ ld (writes 50 3) 3 commit 1 (elections 0 4 commit 1)
    ∷ ld (writes 50 3) 3 commit 1 (elections 0 6 commit 1) ∷ ld (writes 50 3) 3 commit 1 (elections 0 4 commit 1 ++ elections 4 1 commit 0)
    ∷ ld (writes 50 3) 3 commit 1 (elections 0 5 commit 0) ∷ ld (writes 50 3) 3 commit 1 (elections 0 2 commit 1 ++ elections 2 3 abort 1)
    ∷ ld (writes 50 3) 3 commit 1 (elections 0 3 commit 1 ++ elections 3 2 abort 1) ∷ ld (writes 50 3) 3 commit 1 (elections 0 5 commit 1) ∷ [])
    (Refused Election ∷ Refused Election ∷ Refused Election ∷ Refused Election ∷ Refused Election ∷ Refused Election ∷ logs_in commit 1 ∷ Refused Passed ∷ [])
    ∷ group 5 8
    (ld (writes 50 3) 25 abort 1 (elections 0 20 abort 1) ∷ ld (writes 50 3) 25 abort 1 (elections 0 22 abort 1)
    ∷ ld (writes 50 3) 25 abort 1 (elections 0 11 commit 1 ++ elections 11 10 abort 1)
    ∷ ld (writes 50 3) 25 abort 1 (elections 0 10 commit 1 ++ elections 10 11 abort 1) ∷ [])
    (Refused Election ∷ Refused Election ∷ Refused Election ∷ logs_in abort 1 ∷ [])
    -- the leader past 2^64
    ∷ case (ld (writes 18446744073709551615 3) 0 commit 1 (elections 0 5 commit 1) ∷ ld (writes 18446744073709551615 3) 4 commit 1 (elections 0 5 commit 1) ∷ [])
    (Refused Election ∷ logs_in commit 1 ∷ [])
    -- 23 before 21; 21 of view 0, of the logged view, of a lower one
    ∷ case
    (ld (writes 50 3) 3 commit 0 (elections 0 5 commit 0) ∷ ld (writes 50 3) 2 commit 0 (elections 0 5 commit 0)
    ∷ ld (writes 50 3) 4 abort 2 (elections 0 5 abort 2) ∷ ld (writes 50 3) 4 commit 2 (elections 0 5 commit 2)
    ∷ ld (writes 50 3) 3 commit 1 (elections 0 5 commit 1) ∷ ld (writes 50 3) 4 commit 1 (elections 0 5 commit 1) ∷ [])
    (Refused Election ∷ Refused Passed ∷ logs_in abort 2 ∷ Refused Passed ∷ Refused Passed ∷ Refused Election ∷ [])
    -- 21 where the current view is above; not where it is that view, nor where it is below
    ∷ case
    (LG (writes 50 3) commit 4 ∷ iv (writes 50 3) (seen 0 2 2) ∷ ld (writes 50 3) 3 abort 1 (elections 0 5 abort 1)
    ∷ ld (writes 50 3) 4 abort 2 (elections 0 5 abort 2) ∷ ld (writes 50 3) 0 commit 4 (elections 0 5 commit 4) ∷ [])
    (logs0 commit ∷ elects commit 2 4 ∷ Refused Passed ∷ logs_in abort 2 ∷ logs_in commit 4 ∷ [])
    -- 13 last, and only for a new entry
    ∷ group 1 1
    (PR (writes 60 3) ∷ ld (writes 50 3) 2 commit 1 (elections 0 5 commit 1) ∷ ld (writes 50 3) 2 commit 0 (elections 0 5 commit 0)
    ∷ ld (writes 50 3) 3 commit 1 (elections 0 5 commit 1) ∷ ld (writes 60 3) 1 commit 1 (elections 0 5 commit 1) ∷ [])
    (commits ∷ Refused Election ∷ Refused Passed ∷ Refused Full ∷ logs_in commit 1 ∷ [])
    -- 9 before 23; "A box that has decided answers Decided to both messages", after 9 and before 22 and 23
    ∷ case
    (DC (writes 50 3) votes abort 4 ∷ ld (writes 50 4) 2 commit 1 (elections 0 5 commit 1) ∷ ld (writes 50 3) 2 commit 1 (elections 0 5 commit 1)
    ∷ iv (writes 50 4) (seen 0 4 0) ∷ iv (writes 50 3) (seen 0 4 65535) ∷ [])
    (Done ∷ Refused OtherBody ∷ Decided abort ∷ Refused OtherBody ∷ Decided abort ∷ [])
    -- its view is the current one, of a held entry and of a new one; an LG afterwards tells that log and its view, also from a higher current view
    ∷ case
    (LG (writes 50 3) commit 4 ∷ ld (writes 50 3) 3 abort 1 (elections 0 5 abort 1) ∷ iv (writes 50 3) (seen 0 1 0) ∷ LG (writes 50 3) commit 4
    ∷ iv (writes 50 3) (seen 0 2 4) ∷ LG (writes 50 3) commit 1 ∷ [])
    (logs0 commit ∷ logs_in abort 1 ∷ elects abort 1 3 ∷ logs_in abort 1 ∷ elects abort 4 0 ∷ logs_in abort 1 ∷ [])
    ∷ case (ld (writes 50 3) 3 abort 1 (elections 0 5 abort 1) ∷ iv (writes 50 3) (seen 0 1 0) ∷ PR (writes 50 3) ∷ LG (writes 50 3) commit 4 ∷ [])
    (logs_in abort 1 ∷ elects abort 1 3 ∷ commits ∷ logs_in abort 1 ∷ [])
    -- a proof from the logs of any view is taken
    ∷ case (dc (writes 50 3) (logs_at 7 commit (pairs 0 5 commit)) ∷ PR (writes 50 3) ∷ []) (Done ∷ Decided commit ∷ [])
    -- 14, then the contents: 5 of the leader, 5 and 6 of the boxes
    ∷ group 6 8 (ld (writes 50 3) 3 commit 1 (elections 0 5 commit 1) ∷ []) (Refused Group ∷ [])
    ∷ case
    (ld (writes 50 3) 6 commit 1 (elections 0 5 commit 1) ∷ ld (writes 50 3) 3 commit 1 (elections 2 5 commit 1)
    ∷ ld (writes 50 3) 3 commit 1 (elections 0 4 commit 1 ++ elections 3 1 commit 1) ∷ [])
    (Refused Range ∷ Refused Range ∷ Refused Order ∷ [])
    ∷ []

unfoldable pub further : List Case
further =
    in_hex ++ (thresholds ++ (lists ++ (orders ++ (waitings ++ (helds ++ (missed ++ (lookings ++ (refusals ++ (lents ++ (movings ++ leadings))))))))))

abbrev pub Further : Type 0
Further = map given further ≡ map due further

-- ---- what a box holds afterwards: the entries that it begins with, the messages, and then its entries and the read mark of key 0
pub record Storing : Type 0 where
  pub start : List Entry
  pub sent : List Sent
  pub table : List Entry
  pub mark : ℕ

unfoldable pub stores : List Entry → List (List ℕ) → List Entry → ℕ → Storing
stores start sent table mark = record { start = start; sent = map got sent; table = table; mark = mark }

unfoldable pub run : Told → Box → List Sent → Box
run told x [] = x
run told x (c ∷ cs) = run told (after c.0 told x c.1) cs

unfoldable pub held : Storing → Box
held c = run line (marked c.start 0) c.sent

unfoldable pub wanted : Storing → Box
wanted c = marked c.table c.mark

unfoldable pub storings : List Storing
storings =
    -- a vote is stored behind the others, and changed in its place
    stores []
    (PR (writes 50 3) ∷ PR (reads 60 3 50) ∷ PR (writes 70 3) ∷ DC (writes 50 3) votes commit 6 ∷ PR (reads 60 3 50) ∷ [])
    (entry (writes 50 3) vote_commit unsettled (settled commit) ∷ entry (reads 60 3 50) vote_commit unsettled unsettled ∷ entry (writes 70 3) vote_commit unsettled unsettled ∷ [])
    0
    -- "An abort vote carries one of six reasons, and it is stored."; a log stands beside it
    ∷ stores [] (PR (reads 60 3 40) ∷ LG (reads 60 3 40) abort 2 ∷ []) (entry (reads 60 3 40) (vote_abort NoVersion) (settled abort) unsettled ∷ []) 0
    -- "a new entry with vote none and this decision"
    ∷ stores [] (DC (writes 50 3) votes abort 4 ∷ []) (entry (writes 50 3) unvoted unsettled (settled abort) ∷ []) 0
    -- "the new body replaces it, vote and log become none, decision commit"
    ∷ stores [] (PR (writes 50 3) ∷ LG (writes 50 3) commit 4 ∷ PR (writes 60 3) ∷ DC (writes 50 4) votes commit 6 ∷ [])
    (entry (writes 50 4) unvoted unsettled (settled commit) ∷ entry (writes 60 3) vote_commit unsettled unsettled ∷ [])
    0
    -- "undecided takes it", with its vote and its log; "equal decision changes nothing"; nor does a refusal
    ∷ stores []
    (PR (writes 50 3) ∷ LG (writes 50 3) commit 4 ∷ DC (writes 50 3) votes abort 4 ∷ DC (writes 50 3) logs abort 5
    ∷ DC (writes 50 3) votes commit 6 ∷ [])
    (entry (writes 50 3) vote_commit (settled commit) (settled abort) ∷ [])
    0
    -- A2: "stores the body with vote none and that log", behind the others; a PR "takes no further room", and it keeps the log and its place
    ∷ stores [] (PR (writes 60 3) ∷ LG (writes 50 3) abort 2 ∷ [])
    (entry (writes 60 3) vote_commit unsettled unsettled ∷ entry (writes 50 3) unvoted (settled abort) unsettled ∷ [])
    0
    ∷ stores [] (LG (writes 50 3) commit 4 ∷ PR (writes 60 3) ∷ PR (writes 50 3) ∷ LG (writes 70 3) commit 3 ∷ [])
    (entry (writes 50 3) vote_commit (settled commit) unsettled ∷ entry (writes 60 3) vote_commit unsettled unsettled ∷ [])
    0
    -- "Raises the key's read mark to the stamp if it is lower."
    ∷ stores [] (RD 0 60 ∷ RD 0 50 ∷ RD 0 111 ∷ []) [] 60
    -- "in its place": only the vote changes
    ∷ stores (entry (writes 50 3) unvoted (settled commit) unsettled ∷ entry (writes 60 4) unvoted unsettled unsettled ∷ []) (PR (writes 50 3) ∷ [])
    (entry (writes 50 3) vote_commit (settled commit) unsettled ∷ entry (writes 60 4) unvoted unsettled unsettled ∷ [])
    0
    -- A5: an IV changes the current view only
    ∷ stores [] (PR (writes 50 3) ∷ LG (writes 50 3) abort 2 ∷ PR (writes 60 3) ∷ iv (writes 50 3) (seen 0 4 0) ∷ [])
    (viewed (writes 50 3) vote_commit (logged_at abort (view_as 0)) 1 unsettled ∷ entry (writes 60 3) vote_commit unsettled unsettled ∷ [])
    0
    -- a decision that is taken: log and both views, in its place; and a new entry, with vote none
    ∷ stores []
    (PR (writes 50 3) ∷ LG (writes 50 3) commit 4 ∷ ld (writes 60 3) 1 commit 1 (elections 0 5 commit 1)
    ∷ ld (writes 50 3) 4 abort 2 (elections 0 5 abort 2) ∷ [])
    (viewed (writes 50 3) vote_commit (logged_at abort (view_as 2)) 2 unsettled ∷ viewed (writes 60 3) unvoted (logged_at commit (view_as 1)) 1 unsettled ∷ [])
    0
    -- a log from an LG: view 0, beside the current view
    ∷ stores (viewed (writes 50 3) unvoted unlogged 3 unsettled ∷ []) (LG (writes 50 3) commit 4 ∷ [])
    (viewed (writes 50 3) unvoted (logged_at commit (view_as 0)) 3 unsettled ∷ [])
    0
    -- a PR leaves the views, a new vote and a waiting one; so does a DC that is taken
    ∷ stores
    (viewed (writes 50 3) unvoted (logged_at abort (view_as 2)) 5 unsettled ∷ viewed (reads 60 3 50) waiting (logged_at commit (view_as 3)) 4 unsettled ∷ [])
    (PR (writes 50 3) ∷ PR (reads 60 3 50) ∷ dc (writes 50 3) (logs_at 2 abort (pairs 0 5 abort)) ∷ PR (reads 60 3 50) ∷ [])
    (viewed (writes 50 3) vote_commit (logged_at abort (view_as 2)) 5 (settled abort)
    ∷ viewed (reads 60 3 50) (vote_abort Dependency) (logged_at commit (view_as 3)) 4 unsettled
    ∷ [])
    0
    -- a body in the place of another has none
    ∷ stores (viewed (writes 50 3) vote_commit (logged_at abort (view_as 2)) 5 unsettled ∷ []) (DC (writes 50 4) votes commit 6 ∷ [])
    (entry (writes 50 4) unvoted unsettled (settled commit) ∷ [])
    0
    -- 9, 21, 22, 23 and 24 change nothing
    ∷ stores
    (viewed (writes 50 3) vote_commit (logged_at abort (view_as 2)) 5 unsettled ∷ entry (writes 60 3) vote_commit unsettled unsettled ∷ [])
    (iv (writes 50 4) (seen 0 4 7) ∷ ld (writes 50 3) 0 commit 4 (elections 0 5 commit 4) ∷ iv (writes 60 3) (seen 0 4 7)
    ∷ ld (writes 50 3) 3 commit 7 (elections 0 4 commit 7) ∷ iv (writes 50 3) (seen 0 4 65535) ∷ ld (writes 50 4) 3 commit 7 (elections 0 5 commit 7) ∷ [])
    (viewed (writes 50 3) vote_commit (logged_at abort (view_as 2)) 5 unsettled ∷ entry (writes 60 3) vote_commit unsettled unsettled ∷ [])
    0
    ∷ []

abbrev pub Stored : Type 0
Stored = map held storings ≡ map wanted storings
