-- A10 is not empty, and each of its numbers is needed: a panel reads a key while a transaction that writes below the read is on its way.
use Rattle.std.specs.Prelude.{ℕ, Bool, ◌||◌, ◌≡◌, List, [], ◌++◌, T, eqb, ltb}
use Rattle.terms.specs.Group.{boxes}
use Rattle.terms.specs.declared.Refusal.TheVariants.{TooFew}
use Rattle.records.specs.Tx.{tx_bytes}
use Rattle.rules.specs.Answers.{ReadMark, Refused, apart_from_number, commit, votes}
use Rattle.rules.specs.Act.{receive}
use Rattle.rules.specs.System.{Event, Fair, Proof, Sound, answer_to, gave, how_many, vote}
use Rattle.rules.specs.SlipUnder.{NoneHeld, NoneShown, ever_held, read_without, watched}
use Rattle.rules.specs.Cases.{PR, RD, aborts, found, lg, list, pairs, writes}
use Rattle.rules.specs.Traces.{at, each, liar, with_liar}

-- ---- f = 1, and box 5 lies. 60, which writes key 3, has reached boxes 3 and 4; the panel reads key 3 at 90 of boxes 0 to 2 and of the liar
unfoldable pub asked : ℕ → Bool
asked i = ltb i 3 || eqb i 5

unfoldable pub looked : List Event
looked = each receive 0 3 (RD 3 90) (each receive 3 2 (PR (writes 60 3)) [])

-- then 60 reaches the boxes that were asked; 90 writes key 3 too, and so does 95
unfoldable pub afterwards : List Event
afterwards =
    each receive 0 5 (PR (writes 95 3))
    (each receive 0 5 (PR (writes 90 3))
    (each receive 0 3 (PR (writes 60 3)) []))

pub record Panel : Type 0 where
  pub fair : Fair 1 liar (afterwards ++ looked)
  -- four boxes, the liar among them; none of the sound ones had held 60, and the two others had, and voted commit
  pub none_held : NoneHeld 1 liar (watched 1) 3 90 (tx_bytes (writes 60 3)) looked
  pub these : none_held.asked ≡ asked
  pub liar_asked : T (asked 5) × T (liar 5)
  pub shown : answer_to 1 (at receive 0 (RD 3 90)) (each receive 3 2 (PR (writes 60 3)) []) ≡ found 0 0 0 0
  -- nor did they show a version at or above it
  pub none_shown : NoneShown 1 liar (watched 1) 3 90 (tx_bytes (writes 60 3)) looked
  pub held_elsewhere : T (ever_held (watched 1 3) (tx_bytes (writes 60 3)) looked)
  pub voted_elsewhere : T (gave 1 3 (tx_bytes (writes 60 3)) (vote commit) looked)
  -- the read marks vote it down: with the liar it is one vote short of a list, and has no commit proof
  pub stopped : apart_from_number (answer_to 1 (at receive 0 (PR (writes 60 3))) looked) ≡ aborts ReadMark
  pub one_short : answer_to 1 (at receive 0 (lg (writes 60 3) (list votes commit (with_liar 3 2 commit)))) (afterwards ++ looked) ≡ Refused (TooFew 1)
  pub never : Proof 1 liar (afterwards ++ looked) (tx_bytes (writes 60 3)) commit → ⊥
  -- another transaction commits later
  pub other_commits : Proof 1 liar (afterwards ++ looked) (tx_bytes (writes 95 3)) commit
  -- "with a stamp below s": of 90 all else is so too, and it commits
  pub equal_unheld : (i : ℕ) → Sound 1 liar i → T (asked i) → T (read_without (watched 1 i) i 3 90 (tx_bytes (writes 90 3)) looked)
  pub equal_commits : Proof 1 liar (afterwards ++ looked) (tx_bytes (writes 90 3)) commit

-- ---- "by 3f + 1 boxes": the same with boxes 0, 1 and the liar. 2, 3 and 4 vote commit, which with the liar's vote is a list; all log it
unfoldable pub three_asked : ℕ → Bool
three_asked i = ltb i 2 || eqb i 5

unfoldable pub three_looked : List Event
three_looked = each receive 0 2 (RD 3 90) []

unfoldable pub slipped : List Event
slipped =
    each receive 0 5 (lg (writes 60 3) (list votes commit (pairs 2 4 commit)))
    (each receive 0 5 (PR (writes 60 3)) [])

pub record Slipped : Type 0 where
  pub fair : Fair 1 liar (slipped ++ three_looked)
  pub three : how_many three_asked (boxes 1) ≡ 3
  pub unheld : (i : ℕ) → Sound 1 liar i → T (three_asked i) → T (read_without (watched 1 i) i 3 90 (tx_bytes (writes 60 3)) three_looked)
  pub slips : Proof 1 liar (slipped ++ three_looked) (tx_bytes (writes 60 3)) commit
