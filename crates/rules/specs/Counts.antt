-- A6's number by computation: one PR at a lent table of three entries, and at the others that the count's words are about.
use Rattle.std.specs.Prelude.{ℕ, ◌≡◌, List, [], ◌∷◌, map}
use Rattle.terms.specs.declared.Refusal.TheVariants.{OtherBody}
use Rattle.records.specs.declared.Read.{Read}
use Rattle.records.specs.Tx.{Tx}
use Rattle.rules.specs.Answers.{Ahead, Answer, Decided, Dependency, NoVersion, Overwritten, ReadMark, Reason, Refused, Undercuts, Voted}
use Rattle.rules.specs.Answers.{abort, commit, settled, unsettled, unvisited, unvoted, visited, vote_abort, vote_commit, waiting}
use Rattle.rules.specs.Table.{Entry}
use Rattle.rules.specs.Act.{act, receive}
use Rattle.rules.specs.Cases.{PR, line, read, reads, tx, write, writes}
use Rattle.rules.specs.Vectors.{entry, marked}

pub record Counted : Type 0 where
  pub standing : List Entry
  pub mark : ℕ
  pub asked : Tx
  pub due : Answer

unfoldable pub answer_of : Counted → Answer
answer_of c = (act receive line (marked c.standing c.mark) (PR c.asked)).answer

unfoldable pub due_of : Counted → Answer
due_of c = c.due

unfoldable pub at : List Entry → Tx → Answer → Counted
at t asked due = record { standing = t; mark = 0; asked = asked; due = due }

-- a vote with its number, and one without
unfoldable pub commits_by : ℕ → Answer
commits_by n = Voted vote_commit (visited n)

unfoldable pub waits_by : ℕ → Answer
waits_by n = Voted waiting (visited n)

unfoldable pub aborts_by : Reason → ℕ → Answer
aborts_by r n = Voted (vote_abort r) (visited n)

-- H = 3: 10, 20 and 30, committed, write the keys 4, 5 and 6
unfoldable pub done : Tx → Entry
done t = entry t vote_commit unsettled (settled commit)

unfoldable pub writers : List Entry
writers = done (writes 10 4) ∷ done (writes 20 5) ∷ done (writes 30 6) ∷ []

-- H = 3: 70, 80 and 90, committed, read them at 0
unfoldable pub readers : List Entry
readers = done (reads 70 4 0) ∷ done (reads 80 5 0) ∷ done (reads 90 6 0) ∷ []

-- 60 reads three keys, or writes three
unfoldable pub reading : Read → Read → Read → Tx
reading a b c = tx 60 (a ∷ b ∷ c ∷ []) []

unfoldable pub writing : ℕ → ℕ → ℕ → Tx
writing a b c = tx 60 [] (write a 7 ∷ write b 7 ∷ write c 7 ∷ [])

-- "ending with the test that fails": test 1 behind the own look-up; test 5 behind test 4
unfoldable pub outer : List Counted
outer =
    at writers (writes 111 1) (aborts_by Ahead 3)
    ∷ at writers (reads 111 4 10) (aborts_by Ahead 3)
    ∷ record { standing = writers; mark = 65; asked = writes 60 0; due = aborts_by ReadMark 6 }
    ∷ record { standing = writers; mark = 65; asked = tx 60 (read 4 10 ∷ []) (write 0 7 ∷ []); due = aborts_by ReadMark 10 }
    ∷ []

-- test 2 fails at the first, the middle and the last key, with the first, the middle and the last row found; and where none is found
unfoldable pub second : List Counted
second =
    at writers (reading (read 1 10) (read 5 20) (read 6 30)) (aborts_by NoVersion 4)
    ∷ at writers (reading (read 1 20) (read 5 20) (read 6 30)) (aborts_by NoVersion 5)
    ∷ at writers (reading (read 1 30) (read 5 20) (read 6 30)) (aborts_by NoVersion 6)
    ∷ at writers (reading (read 1 40) (read 5 20) (read 6 30)) (aborts_by NoVersion 6)
    ∷ at writers (reading (read 4 10) (read 5 10) (read 6 30)) (aborts_by NoVersion 5)
    ∷ at writers (reading (read 4 10) (read 6 20) (read 7 30)) (aborts_by NoVersion 6)
    ∷ at writers (reading (read 4 10) (read 5 30) (read 6 30)) (aborts_by NoVersion 7)
    ∷ at writers (reading (read 4 10) (read 5 40) (read 6 30)) (aborts_by NoVersion 7)
    ∷ at writers (reading (read 4 10) (read 5 20) (read 6 10)) (aborts_by NoVersion 7)
    ∷ at writers (reading (read 4 10) (read 5 20) (read 6 20)) (aborts_by NoVersion 8)
    ∷ at writers (reading (read 4 10) (read 5 20) (read 7 30)) (aborts_by NoVersion 9)
    ∷ at writers (reading (read 4 10) (read 5 20) (read 6 40)) (aborts_by NoVersion 9)
    ∷ []

-- test 3 fails at the first, the middle and the last key, each at the first, the middle and the last row; a version 0 is not looked up
unfoldable pub third : List Counted
third =
    at writers (reading (read 4 0) (read 8 0) (read 9 0)) (aborts_by Overwritten 4)
    ∷ at writers (reading (read 5 0) (read 8 0) (read 9 0)) (aborts_by Overwritten 5)
    ∷ at writers (reading (read 6 0) (read 8 0) (read 9 0)) (aborts_by Overwritten 6)
    ∷ at writers (reading (read 1 0) (read 4 0) (read 9 0)) (aborts_by Overwritten 7)
    ∷ at writers (reading (read 1 0) (read 5 0) (read 9 0)) (aborts_by Overwritten 8)
    ∷ at writers (reading (read 1 0) (read 6 0) (read 9 0)) (aborts_by Overwritten 9)
    ∷ at writers (reading (read 1 0) (read 2 0) (read 4 0)) (aborts_by Overwritten 10)
    ∷ at writers (reading (read 1 0) (read 2 0) (read 5 0)) (aborts_by Overwritten 11)
    ∷ at writers (reading (read 1 0) (read 2 0) (read 6 0)) (aborts_by Overwritten 12)
    -- key by key: the first key's last row comes before the second key's first
    ∷ at (done (writes 10 5) ∷ done (writes 20 9) ∷ done (writes 30 4) ∷ []) (reading (read 4 0) (read 5 0) (read 6 0)) (aborts_by Overwritten 6)
    -- and a key that is written is not looked at behind it
    ∷ at writers (tx 60 (read 4 0 ∷ []) (write 1 7 ∷ [])) (aborts_by Overwritten 4)
    ∷ []

-- test 4, likewise at the keys written; behind test 3's walk where a key is read too
unfoldable pub fourth : List Counted
fourth =
    at readers (writing 4 8 9) (aborts_by Undercuts 4)
    ∷ at readers (writing 5 8 9) (aborts_by Undercuts 5)
    ∷ at readers (writing 6 8 9) (aborts_by Undercuts 6)
    ∷ at readers (writing 1 4 9) (aborts_by Undercuts 7)
    ∷ at readers (writing 1 5 9) (aborts_by Undercuts 8)
    ∷ at readers (writing 1 6 9) (aborts_by Undercuts 9)
    ∷ at readers (writing 1 2 4) (aborts_by Undercuts 10)
    ∷ at readers (writing 1 2 5) (aborts_by Undercuts 11)
    ∷ at readers (writing 1 2 6) (aborts_by Undercuts 12)
    ∷ at (done (reads 70 5 0) ∷ done (reads 80 9 0) ∷ done (reads 90 4 0) ∷ []) (writing 4 5 6) (aborts_by Undercuts 6)
    ∷ at readers (tx 60 (read 1 0 ∷ []) (write 4 7 ∷ [])) (aborts_by Undercuts 7)
    -- and the waiting rule does not run behind it
    ∷ at (done (writes 10 4) ∷ done (reads 70 5 0) ∷ []) (tx 60 (read 4 10 ∷ []) (write 5 7 ∷ [])) (aborts_by Undercuts 7)
    ∷ []

-- no test fails: 3, then 1 + 2 + 3, 3 times 3, 3, and 1 + 2 + 3 again
unfoldable pub all_pass : List Counted
all_pass =
    at writers (tx 60 (read 4 10 ∷ read 5 20 ∷ read 6 30 ∷ []) (write 1 7 ∷ [])) (commits_by 27)
    -- one version named twice is looked up twice
    ∷ at (done (tx 10 [] (write 4 7 ∷ write 5 7 ∷ [])) ∷ []) (tx 60 (read 4 10 ∷ read 5 10 ∷ []) []) (commits_by 7)
    -- an entry that is not live is gone through as well
    ∷ at (entry (writes 10 4) unvoted unsettled (settled abort) ∷ done (writes 20 5) ∷ []) (tx 60 (read 5 20 ∷ []) []) (commits_by 8)
    -- of one stamp held twice the first is found
    ∷ at (done (writes 10 4) ∷ done (writes 10 4) ∷ []) (reads 60 4 10) (commits_by 6)
    -- "wait" carries a number
    ∷ at (entry (writes 50 3) vote_commit unsettled unsettled ∷ []) (reads 60 3 50) (waits_by 4)
    -- 1 + 4 × 8: eight reads of one entry, and eight writes
    ∷ at (done (tx 10 [] (write 0 7 ∷ write 1 7 ∷ write 2 7 ∷ write 3 7 ∷ write 4 7 ∷ write 5 7 ∷ write 6 7 ∷ write 7 7 ∷ [])) ∷ [])
    (tx 60 (read 0 10 ∷ read 1 10 ∷ read 2 10 ∷ read 3 10 ∷ read 4 10 ∷ read 5 10 ∷ read 6 10 ∷ read 7 10 ∷ [])
    (write 0 7 ∷ write 1 7 ∷ write 2 7 ∷ write 3 7 ∷ write 4 7 ∷ write 5 7 ∷ write 6 7 ∷ write 7 7 ∷ []))
    (commits_by 33)
    ∷ []

-- "A look-up counts the entry it finds and stops there": a waiting entry asked again; the waiting rule does not stop early, not even where none is held
unfoldable pub again : List Counted
again =
    at (done (writes 10 4) ∷ entry (reads 60 4 10) waiting unsettled unsettled ∷ done (writes 30 6) ∷ []) (reads 60 4 10) (commits_by 3)
    ∷ at (entry (writes 10 4) vote_commit unsettled unsettled ∷ entry (reads 60 4 10) waiting unsettled unsettled ∷ []) (reads 60 4 10) (waits_by 3)
    ∷ at
    (entry (writes 10 4) vote_commit unsettled (settled abort) ∷ done (writes 20 5) ∷ entry (reading (read 4 10) (read 5 20) (read 6 0)) waiting unsettled unsettled ∷ [])
    (reading (read 4 10) (read 5 20) (read 6 0))
    (aborts_by Dependency 6)
    ∷ at (done (writes 20 5) ∷ entry (reading (read 4 10) (read 5 20) (read 6 0)) waiting unsettled unsettled ∷ [])
    (reading (read 4 10) (read 5 20) (read 6 0))
    (aborts_by Dependency 5)
    ∷ []

-- "undecided with vote none .., the tests as if new, in its place": its own entry is gone through, none is added behind
unfoldable pub in_place : List Counted
in_place =
    at (done (writes 10 4) ∷ entry (writes 60 9) unvoted unsettled unsettled ∷ done (writes 30 6) ∷ []) (writes 60 9) (commits_by 5)
    ∷ at (done (writes 10 4) ∷ entry (reads 60 4 10) unvoted unsettled unsettled ∷ done (writes 30 6) ∷ []) (reads 60 4 10) (commits_by 7)
    ∷ []

-- H = 0: 0 is a number
unfoldable pub none_held : List Counted
none_held =
    at [] (writes 60 3) (commits_by 0)
    ∷ at [] (reads 60 3 0) (commits_by 0)
    ∷ at [] (reads 60 3 40) (aborts_by NoVersion 0)
    ∷ []

-- "A refusal and an answer for an entry already decided or voted on carry no number."
unfoldable pub no_number : List Counted
no_number =
    at (entry (writes 60 3) vote_commit unsettled unsettled ∷ []) (writes 60 3) (Voted vote_commit unvisited)
    ∷ at (entry (writes 60 3) (vote_abort Undercuts) unsettled unsettled ∷ []) (writes 60 3) (Voted (vote_abort Undercuts) unvisited)
    ∷ at (done (writes 60 3) ∷ []) (writes 60 3) (Decided commit)
    ∷ at (done (writes 60 4) ∷ []) (writes 60 3) (Refused OtherBody)
    ∷ []

-- each as it is due
abbrev pub AsDue : List Counted → Type 0
AsDue cs = map answer_of cs ≡ map due_of cs

pub record Counts : Type 0 where
  pub outer_tests : AsDue outer
  pub test_2 : AsDue second
  pub test_3 : AsDue third
  pub test_4 : AsDue fourth
  pub none_fails : AsDue all_pass
  pub asked_again : AsDue again
  pub as_if_new : AsDue in_place
  pub nothing_held : AsDue none_held
  pub no_number : AsDue no_number
