-- A11 by computation: what is refused as old, what is folded and what stays; what a read of a folded version gives; and traces in which low marks rise.
use Rattle.std.specs.Prelude.{ℕ, zero, suc, ◌+◌, Bool, false, not, ◌&&◌, ◌||◌, ◌≡◌, List, [], ◌∷◌, ◌++◌, map, eqb, replicate}
use Rattle.terms.specs.declared.Refusal.TheVariants.{Ahead as AheadOfClock, Full, Group, Misbehaviour, Old, Undecided}
use Rattle.records.specs.Tx.{Tx, tx_bytes}
use Rattle.rules.specs.Answers.{Answer, Dependency, Done, NoVersion, Overwritten, Raised, Refused, Version, apart_from_number}
use Rattle.rules.specs.Answers.{abort, commit, settled, unsettled, unvoted, vote_abort, vote_commit, votes, waiting}
use Rattle.rules.specs.Bodies.{Body}
use Rattle.rules.specs.Table.{Box, Entry, box_with, empty, no_version}
use Rattle.rules.specs.Act.{EntryPoint, act, raising, receive}
use Rattle.rules.specs.System.{Event, Fair, Proof, Safe, answer_to}
use Rattle.rules.specs.SlipUnder.{ReadBy, Watched, asks, holds, is_found, watched}
use Rattle.rules.specs.Cases.{Case, DC, LG, LM, PR, RD, Sent, aborts, commits, dc, due, elections, found, given, got, iv, ld, line, list, logs0}
use Rattle.rules.specs.Cases.{read, reads, seen, tx, waits, write, writes}
use Rattle.rules.specs.Vectors.{entry, run}
use Rattle.rules.specs.Counts.{aborts_by, commits_by, done, writers}
use Rattle.rules.specs.Traces.{each, liar, with_liar}

-- from an empty box, as any are called; and from entries that are lent, with a low mark and what is folded of key 0
unfoldable pub called : List Sent → List Answer → Case
called sent due = record { told = line; start = empty; sent = sent; due = due }

unfoldable pub version : ℕ → ℕ → Version
version v x = record { stamp = record { 0 = v }; value = x }

unfoldable pub folded : List Entry → ℕ → Version → Box
folded t low g = box_with t (replicate 512 0) low (g ∷ replicate 511 no_version)

unfoldable pub lent_low : List Entry → ℕ → Version → List Sent → List Answer → Case
lent_low t low g sent due = record { told = line; start = folded t low g; sent = sent; due = due }

-- 18 and 19
unfoldable pub olds : List Case
olds =
    -- 50 is let go: 18 of PR, of LG and of DC before 11, of IV before 22, of LD before 23, of RD, and of an L not above it; 51 is not old
    called
    (got (DC (writes 50 3) votes commit 6) ∷ LM 50 ∷ got (PR (writes 50 3)) ∷ got (PR (writes 49 4)) ∷ got (LG (writes 50 3) commit 3)
    ∷ got (DC (writes 50 3) votes commit 5) ∷ got (DC (writes 50 3) votes commit 6) ∷ got (iv (writes 50 3) (seen 0 4 0))
    ∷ got (ld (writes 50 3) 2 commit 1 (elections 0 5 commit 1)) ∷ got (RD 3 50) ∷ LM 50 ∷ LM 49 ∷ LM 0
    ∷ got (RD 3 51) ∷ got (PR (writes 51 3)) ∷ got (LG (writes 51 3) commit 4) ∷ got (DC (writes 51 3) votes commit 6) ∷ LM 51 ∷ [])
    (Done ∷ Raised ∷ Refused Old ∷ Refused Old ∷ Refused Old ∷ Refused Old ∷ Refused Old ∷ Refused Old ∷ Refused Old ∷ Refused Old ∷ Refused Old
    ∷ Refused Old ∷ Refused Old ∷ found 50 7 0 0 ∷ commits ∷ logs0 commit ∷ Done ∷ Raised ∷ [])
    -- 15 stands before it, and so does 7; 9 and 13 behind it
    ∷ called (LM 120 ∷ got (RD 3 111) ∷ got (RD 3 110) ∷ got (PR (reads 60 3 60)) ∷ got (PR (reads 60 3 50)) ∷ [])
    (Raised ∷ Refused AheadOfClock ∷ Refused Old ∷ Refused Misbehaviour ∷ Refused Old ∷ [])
    ∷ lent_low (entry (writes 50 4) vote_commit unsettled unsettled ∷ []) 50 no_version (got (PR (writes 50 3)) ∷ got (PR (writes 50 4)) ∷ [])
    (Refused Old ∷ Refused Old ∷ [])
    ∷ record {
      told = record { f = 1; capacity = 1; clock = 100; delta = 10 };
      start = folded (entry (writes 60 4) vote_commit unsettled unsettled ∷ []) 50 no_version;
      sent = got (PR (writes 50 3)) ∷ got (PR (writes 51 3)) ∷ [];
      due = Refused Old ∷ Refused Full ∷ [];
    }
    -- the lowest mark is 0, and it "may be raised" at once, by any step, to the largest stamp
    ∷ called (LM 0 ∷ LM 1 ∷ LM 18446744073709551615 ∷ LM 18446744073709551615 ∷ []) (Refused Old ∷ Raised ∷ Raised ∷ Refused Old ∷ [])
    -- 19: voted commit, voted abort, waiting, logged without a vote; not of one above it, nor where it is decided
    ∷ called (got (PR (writes 50 3)) ∷ LM 49 ∷ LM 50 ∷ LM 60 ∷ got (DC (writes 50 3) votes abort 4) ∷ LM 50 ∷ [])
    (commits ∷ Raised ∷ Refused Undecided ∷ Refused Undecided ∷ Done ∷ Raised ∷ [])
    ∷ called (got (PR (reads 60 3 40)) ∷ LM 60 ∷ []) (aborts NoVersion ∷ Refused Undecided ∷ [])
    ∷ called (got (PR (writes 50 3)) ∷ got (PR (reads 60 3 50)) ∷ got (DC (writes 50 3) votes commit 6) ∷ LM 60 ∷ LM 59 ∷ [])
    (commits ∷ waits ∷ Done ∷ Refused Undecided ∷ Raised ∷ [])
    ∷ called (got (LG (writes 50 3) commit 4) ∷ LM 50 ∷ []) (logs0 commit ∷ Refused Undecided ∷ [])
    -- 18 before 19
    ∷ lent_low (entry (writes 50 3) vote_commit unsettled unsettled ∷ []) 60 no_version (LM 55 ∷ LM 60 ∷ LM 61 ∷ [])
    (Refused Old ∷ Refused Old ∷ Refused Undecided ∷ [])
    -- 14 before both
    ∷ record {
      told = record { f = 1; capacity = 256; clock = 100; delta = 10 };
      start = folded (entry (writes 50 3) vote_commit unsettled unsettled ∷ []) 60 no_version;
      sent = LM 55 ∷ LM 61 ∷ [];
      due = Refused Group ∷ Refused Group ∷ [];
    }
    ∷ []

-- what an old version gives: "the folded one" counts as committed; another nonzero one 2, though the fold is above it; 0 under a fold 3
unfoldable pub named : List Case
named =
    called
    (got (DC (writes 50 3) votes commit 6) ∷ LM 55 ∷ got (PR (reads 60 3 50)) ∷ got (PR (reads 61 3 0)) ∷ got (PR (reads 62 3 40))
    ∷ got (PR (reads 63 3 55)) ∷ got (PR (reads 64 4 40)) ∷ got (PR (reads 65 4 0)) ∷ got (PR (reads 66 4 50)) ∷ got (PR (reads 67 3 56)) ∷ [])
    (Done ∷ Raised ∷ commits ∷ aborts Overwritten ∷ aborts NoVersion ∷ aborts NoVersion ∷ aborts NoVersion ∷ commits ∷ aborts NoVersion ∷ aborts NoVersion ∷ [])
    -- and a live entry above the low mark still gives 3, and is still waited for
    ∷ called
    (got (DC (writes 50 3) votes commit 6) ∷ LM 50 ∷ got (PR (writes 55 3)) ∷ got (PR (reads 60 3 50)) ∷ got (PR (reads 61 3 55)) ∷ [])
    (Done ∷ Raised ∷ commits ∷ aborts Overwritten ∷ waits ∷ [])
    -- waiting: aborted and dropped 6; folded commit; folded under another 6
    ∷ called (got (PR (writes 50 3)) ∷ got (PR (reads 60 3 50)) ∷ got (DC (writes 50 3) votes abort 4) ∷ LM 50 ∷ got (PR (reads 60 3 50)) ∷ [])
    (commits ∷ waits ∷ Done ∷ Raised ∷ aborts Dependency ∷ [])
    ∷ called (got (PR (writes 50 3)) ∷ got (PR (reads 60 3 50)) ∷ got (DC (writes 50 3) votes commit 6) ∷ LM 50 ∷ got (PR (reads 60 3 50)) ∷ [])
    (commits ∷ waits ∷ Done ∷ Raised ∷ commits ∷ [])
    ∷ called
    (got (PR (writes 40 3)) ∷ got (PR (reads 60 3 40)) ∷ got (DC (writes 40 3) votes commit 6) ∷ got (DC (writes 50 3) votes commit 6) ∷ LM 50
    ∷ got (PR (reads 60 3 40)) ∷ [])
    (commits ∷ waits ∷ Done ∷ Done ∷ Raised ∷ aborts Dependency ∷ [])
    -- replaced by a body that lacks the key, and dropped: 6
    ∷ called (got (PR (writes 50 3)) ∷ got (PR (reads 60 3 50)) ∷ got (DC (writes 50 4) votes commit 6) ∷ LM 50 ∷ got (PR (reads 60 3 50)) ∷ [])
    (commits ∷ waits ∷ Done ∷ Raised ∷ aborts Dependency ∷ [])
    -- "never looked up": a lent entry at or below L does not make its version one that may be read, nor waited for
    ∷ lent_low (done (writes 40 0) ∷ entry (reads 61 0 40) waiting unsettled unsettled ∷ []) 50 no_version
    (got (PR (reads 60 0 40)) ∷ got (PR (reads 61 0 40)) ∷ [])
    (aborts NoVersion ∷ aborts Dependency ∷ [])
    ∷ []

-- what RD shows: the fold and its value; the newest, not the last; no aborted one; of its own key; the first among equals; the table before it
unfoldable pub shown : List Case
shown =
    called (got (DC (tx 50 [] (write 3 8 ∷ write 4 9 ∷ [])) votes commit 6) ∷ LM 50 ∷ got (RD 3 60) ∷ got (RD 4 60) ∷ got (RD 5 60) ∷ [])
    (Done ∷ Raised ∷ found 50 8 0 0 ∷ found 50 9 0 0 ∷ found 0 0 0 0 ∷ [])
    ∷ called (got (DC (writes 50 3) votes commit 6) ∷ got (DC (tx 40 [] (write 3 8 ∷ [])) votes commit 6) ∷ LM 50 ∷ got (RD 3 60) ∷ [])
    (Done ∷ Done ∷ Raised ∷ found 50 7 0 0 ∷ [])
    ∷ called (got (DC (writes 40 3) votes commit 6) ∷ got (DC (writes 50 3) votes abort 4) ∷ LM 50 ∷ got (RD 3 60) ∷ [])
    (Done ∷ Done ∷ Raised ∷ found 40 7 0 0 ∷ [])
    ∷ called
    (got (DC (writes 50 3) votes commit 6) ∷ got (DC (writes 45 4) votes commit 6) ∷ LM 50 ∷ got (RD 4 60) ∷ got (PR (reads 60 4 50))
    ∷ got (PR (reads 61 4 45)) ∷ [])
    (Done ∷ Done ∷ Raised ∷ found 45 7 0 0 ∷ aborts NoVersion ∷ commits ∷ [])
    ∷ called (got (DC (writes 50 3) votes commit 6) ∷ LM 50 ∷ got (DC (writes 55 3) votes commit 6) ∷ got (RD 3 55) ∷ got (RD 3 56) ∷ [])
    (Done ∷ Raised ∷ Done ∷ found 50 7 0 0 ∷ found 55 7 0 0 ∷ [])
    -- raised again: what nothing newer writes stays folded, and what something newer writes does not
    ∷ called
    (got (DC (writes 40 3) votes commit 6) ∷ got (DC (writes 41 4) votes commit 6) ∷ LM 45 ∷ got (DC (writes 50 4) votes commit 6) ∷ LM 50 ∷ got (RD 3 60)
    ∷ got (RD 4 60) ∷ [])
    (Done ∷ Done ∷ Raised ∷ Done ∷ Raised ∷ found 40 7 0 0 ∷ found 50 7 0 0 ∷ [])
    -- only lent: a committed one at or below L, "where the table has" one; an older one does not fold over the fold; of one stamp the first folds
    ∷ lent_low (done (writes 40 0) ∷ []) 50 (version 45 9) (got (RD 0 60) ∷ LM 55 ∷ got (RD 0 60) ∷ []) (found 40 7 0 0 ∷ Raised ∷ found 45 9 0 0 ∷ [])
    ∷ lent_low (done (tx 40 [] (write 0 8 ∷ [])) ∷ done (tx 40 [] (write 0 9 ∷ [])) ∷ []) 0 no_version (LM 50 ∷ got (RD 0 60) ∷ []) (Raised ∷ found 40 8 0 0 ∷ [])
    ∷ lent_low (done (tx 40 [] (write 0 8 ∷ write 0 9 ∷ [])) ∷ []) 0 no_version (LM 50 ∷ got (RD 0 60) ∷ []) (Raised ∷ found 40 8 0 0 ∷ [])
    ∷ lent_low (done (tx 40 [] (write 0 8 ∷ [])) ∷ []) 30 (version 40 9) (LM 50 ∷ got (RD 0 60) ∷ []) (Raised ∷ found 40 9 0 0 ∷ [])
    ∷ []

-- "their room is used again": full, raised, and not full
unfoldable pub roomy : List Case
roomy =
    record {
      told = record { f = 1; capacity = 2; clock = 100; delta = 10 };
      start = empty;
      sent =
          got (DC (writes 40 3) votes commit 6) ∷ got (DC (writes 41 4) votes abort 4) ∷ got (PR (writes 60 3)) ∷ LM 40 ∷ got (PR (writes 60 3))
          ∷ got (PR (writes 61 4)) ∷ LM 50 ∷ got (PR (writes 61 4)) ∷ got (PR (writes 62 5)) ∷ LM 59 ∷ got (PR (writes 62 5)) ∷ [];
      due = Done ∷ Done ∷ Refused Full ∷ Raised ∷ commits ∷ Refused Full ∷ Raised ∷ commits ∷ Refused Full ∷ Raised ∷ Refused Full ∷ [];
    }
    ∷ []

unfoldable pub low_cases : List Case
low_cases = olds ++ (named ++ (shown ++ roomy))

abbrev pub Lowered : Type 0
Lowered = map given low_cases ≡ map due low_cases

-- ---- what a box holds afterwards: all of it
pub record Leaving : Type 0 where
  pub start : Box
  pub sent : List Sent
  pub left : Box

unfoldable pub leaves : Box → List Sent → Box → Leaving
leaves start sent left = record { start = start; sent = sent; left = left }

unfoldable pub held_by : Leaving → Box
held_by c = run line c.start c.sent

unfoldable pub left_by : Leaving → Box
left_by c = c.left

unfoldable pub leavings : List Leaving
leavings =
    -- committed and aborted ones go, "the rest staying in order"; the read marks stay
    leaves
    (box_with
    (entry (writes 60 3) vote_commit unsettled unsettled ∷ done (writes 50 0) ∷ entry (reads 70 3 0) (vote_abort Overwritten) unsettled (settled abort)
    ∷ entry (writes 40 4) unvoted unsettled (settled abort) ∷ done (writes 55 4) ∷ [])
    (9 ∷ replicate 511 0) 20 (version 10 6 ∷ replicate 511 no_version))
    (LM 50 ∷ [])
    (box_with
    (entry (writes 60 3) vote_commit unsettled unsettled ∷ entry (reads 70 3 0) (vote_abort Overwritten) unsettled (settled abort) ∷ done (writes 55 4) ∷ [])
    (9 ∷ replicate 511 0) 50 (version 50 7 ∷ replicate 511 no_version))
    -- 18 of an RD leaves its mark; 18 and 19 leave all else
    ∷ leaves (folded (entry (writes 60 0) vote_commit unsettled unsettled ∷ []) 50 (version 40 7)) (got (RD 0 50) ∷ LM 50 ∷ LM 60 ∷ got (PR (writes 50 3)) ∷ [])
    (folded (entry (writes 60 0) vote_commit unsettled unsettled ∷ []) 50 (version 40 7))
    -- no other call raises the low mark or folds
    ∷ leaves (folded [] 50 (version 40 7)) (got (PR (writes 60 0)) ∷ got (DC (writes 60 0) votes commit 6) ∷ [])
    (folded (done (writes 60 0) ∷ []) 50 (version 40 7))
    ∷ []

abbrev pub Left : Type 0
Left = map held_by leavings ≡ map left_by leavings

-- ---- A6: "A6 counts entries only, and no look-up at or below L". H = 3: 10, 20 and 30, committed, write the keys 4, 5 and 6
pub record Folding : Type 0 where
  pub low : ℕ
  pub fold : Version
  pub asked : Tx
  pub due : Answer

unfoldable pub count_of : Folding → Answer
count_of c = (act receive line (folded writers c.low c.fold) (PR c.asked)).answer

unfoldable pub count_due : Folding → Answer
count_due c = c.due

unfoldable pub counts : ℕ → Version → Tx → Answer → Folding
counts low g asked due = record { low = low; fold = g; asked = asked; due = due }

unfoldable pub foldings : List Folding
foldings =
    -- 3, no look-up, 3 for the key's entries, and no look-up again; where 30 is read above L, two look-ups of 3 more
    counts 25 (version 15 7) (reads 60 0 15) (commits_by 6)
    ∷ counts 25 (version 15 7) (tx 60 (read 0 15 ∷ read 6 30 ∷ []) []) (commits_by 15)
    ∷ counts 25 no_version (reads 60 0 0) (commits_by 6)
    -- 2 without a look-up
    ∷ counts 25 (version 15 7) (reads 60 0 20) (aborts_by NoVersion 3)
    ∷ counts 25 (version 15 7) (reads 60 5 20) (aborts_by NoVersion 3)
    -- a key that fails at its fold counts none of its entries; the one before it all, or up to the one that fails
    ∷ counts 25 (version 15 7) (reads 60 0 0) (aborts_by Overwritten 3)
    ∷ counts 25 (version 15 7) (tx 60 (read 0 0 ∷ read 5 0 ∷ []) []) (aborts_by Overwritten 3)
    ∷ counts 25 (version 15 7) (tx 60 (read 0 15 ∷ read 5 0 ∷ []) []) (aborts_by Overwritten 8)
    ∷ []

abbrev pub FoldCounts : Type 0
FoldCounts = map count_of foldings ≡ map count_due foldings

-- ---- demand 3 with low marks is not empty. f = 1, box 5 lies, and every box has room for two: 50 and 55 commit, and 60, which reads 50's version, is
-- refused with 13. Low marks rise, at boxes 0 to 3 to 55, at box 4 to 57; then 60 is taken, by a version that is folded, and so is 70; 54 is old
unfoldable pub packed : EntryPoint → ℕ → List ℕ → Event
packed way i m = record { box = i; entry = way; capacity = 2; clock = 100; delta = 10; message = m }

unfoldable pub pack_each : EntryPoint → ℕ → ℕ → List ℕ → List Event → List Event
pack_each way i zero m es = es
pack_each way i (suc n) m es = packed way (i + n) m ∷ pack_each way i n m es

unfoldable pub filled : List Event
filled =
    pack_each receive 0 5 (dc (writes 55 4) (list votes commit (with_liar 0 5 commit)))
    (pack_each receive 0 5 (PR (writes 55 4))
    (pack_each receive 0 5 (dc (writes 50 3) (list votes commit (with_liar 0 5 commit)))
    (pack_each receive 0 5 (PR (writes 50 3)) [])))

unfoldable pub emptied : List Event
emptied =
    packed (raising 57) 4 []
    ∷ pack_each (raising 55) 0 4 []
    (pack_each receive 0 5 (PR (reads 60 3 50)) filled)

unfoldable pub reused : List Event
reused =
    pack_each receive 0 5 (PR (writes 54 3))
    (pack_each receive 0 5 (PR (writes 70 4))
    (pack_each receive 0 5 (PR (reads 60 3 50)) emptied))

pub record Reused : Type 0 where
  pub fair : Fair 1 liar reused
  pub full : answer_to 1 (packed receive 0 (PR (reads 60 3 50))) filled ≡ Refused Full
  pub raised : answer_to 1 (packed (raising 55) 0 []) filled ≡ Raised
  pub shows : answer_to 1 (packed receive 0 (RD 3 60)) emptied ≡ found 50 7 0 0
  pub taken : apart_from_number (answer_to 1 (packed receive 4 (PR (reads 60 3 50))) emptied) ≡ commits
  pub old : answer_to 1 (packed receive 0 (PR (writes 54 3))) reused ≡ Refused Old
  pub full_again : answer_to 1 (packed receive 0 (PR (writes 80 5))) reused ≡ Refused Full
  pub writer_commits : Proof 1 liar reused (tx_bytes (writes 50 3)) commit
  pub reader_commits : Proof 1 liar reused (tx_bytes (reads 60 3 50)) commit
  pub next_commits : Proof 1 liar reused (tx_bytes (writes 70 4)) commit
  pub safe : Safe 1 liar reused

-- ---- A10: "had held .. at any time up to its answer" is needed. 50 commits and is let go everywhere; then key 3 is read at 60 of every box, and none
-- holds 50 at that moment
unfoldable pub reads_without_now : Watched → ℕ → ℕ → ℕ → Body → Event → List Event → Bool
reads_without_now x i k s b e es = eqb e.box i && (asks k s e && (is_found (x.answer e es) && not (holds b (x.held es))))

unfoldable pub read_without_now : Watched → ℕ → ℕ → ℕ → Body → List Event → Bool
read_without_now x i k s b [] = false
read_without_now x i k s b (e ∷ es) = reads_without_now x i k s b e es || read_without_now x i k s b es

unfoldable pub let_go : List Event
let_go =
    each receive 0 5 (RD 3 60)
    (each (raising 50) 0 5 []
    (each receive 0 5 (dc (writes 50 3) (list votes commit (with_liar 0 5 commit)))
    (each receive 0 5 (PR (writes 50 3)) [])))

pub record NowIsTooWeak : Type 0 where
  pub fair : Fair 1 liar let_go
  pub none_now : ReadBy 1 liar (λ i. read_without_now (watched 1 i) i 3 60 (tx_bytes (writes 50 3)) let_go) 3 60 (tx_bytes (writes 50 3))
  pub commits : Proof 1 liar let_go (tx_bytes (writes 50 3)) commit
