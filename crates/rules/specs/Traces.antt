-- Demand 3 is not empty: fair traces with a box that lies, in which transactions commit and abort; a box that answers twice; A5's fallback.
use Rattle.std.specs.Prelude.{ℕ, zero, suc, ◌+◌, Bool, ◌≡◌, T, eqb, replicate}
use mathlib.Core.List.{List, [], ◌∷◌, ◌++◌, map, Memᴰ as In}
use Rattle.terms.specs.Group.{abort_proof}
use Rattle.terms.specs.declared.Refusal.TheVariants.{Election, Mark as OtherMark, Order}
use Rattle.std.specs.Prelude.{Ok, Err}
use Rattle.terms.specs.Checks.{order, passed}
use Rattle.records.specs.declared.Mark.TheVariants.{PR as marked_pr, LG as marked_lg, DC as marked_dc, RD as marked_rd, IV as marked_iv, LD as marked_ld}
use Rattle.records.specs.declared.Pair.{Pair}
use Rattle.records.specs.Tx.{Tx, tx_bytes}
use Rattle.records.specs.Vl.{Vl}
use Rattle.records.specs.Contents.{list_wrong}
use Rattle.rules.specs.Answers.{Decided, Decision, Done, Elected, Logged, Refused, abort, commit, logs, view_as, votes}
use Rattle.rules.specs.Lists.{kind_of, meets}
use Rattle.rules.specs.Act.{EntryPoint, receive, due}
use Rattle.rules.specs.System.{Backed, Event, Fair, Proof, Safe, answer_to, gave, log}
use Rattle.rules.specs.Cases.{DC, PR, RD, dc, elections, iv, ld, lg, list, logs_at, pairs, read, reads, seen, tx, write, writes}

-- f = 1, and box 5 of the six lies
unfoldable pub liar : ℕ → Bool
liar i = eqb i 5

-- a message for one box, by an entry point; the same for n boxes from i on
unfoldable pub at : EntryPoint → ℕ → List ℕ → Event
at way i m = record { box = i; entry = way; capacity = 8; clock = 100; delta = 10; message = m }

unfoldable pub each : EntryPoint → ℕ → ℕ → List ℕ → List Event → List Event
each way i zero m es = es
each way i (suc n) m es = at way (i + n) m ∷ each way i n m es

-- n answers from box i on, and the liar's
unfoldable pub with_liar : ℕ → ℕ → Decision → List Pair
with_liar i n d = pairs i n d ++ pairs 5 1 d

-- ---- a busy trace. 50 writes key 3 and commits; 60, which reads it there, commits; 55, which would write under that read, aborts by votes;
-- box 4 has key 4 read at 80 and votes abort on 70, so that 70 commits by logs only. The liar stands on both sides of 70, and in every list.
-- Every entry point is called; where box 0 is due an LG it gets a PR and refuses it
unfoldable pub busy_first : List Event
busy_first = at (due (Ok marked_lg)) 0 (PR (writes 50 3)) ∷ each (due (Ok marked_pr)) 0 4 (PR (writes 50 3)) []

unfoldable pub busy_then : List Event → List Event
busy_then before =
    each (due (Ok marked_dc)) 0 5 (dc (writes 70 4) (list logs commit (with_liar 0 4 commit)))
    (each receive 4 1 (lg (writes 70 4) (list votes abort (with_liar 4 1 abort)))
    (each (due (Ok marked_lg)) 0 4 (lg (writes 70 4) (list votes commit (with_liar 0 4 commit)))
    (each receive 0 5 (PR (writes 70 4))
    (each (due (Ok marked_rd)) 4 1 (RD 4 80)
    (each (due (Ok marked_pr)) 0 5 (PR (writes 55 3))
    (each receive 0 5 (PR (reads 60 3 50))
    (each receive 0 5 (dc (writes 50 3) (list votes commit (with_liar 0 5 commit)))
    (each receive 4 1 (PR (writes 50 3)) before))))))))

unfoldable pub busy : List Event
busy = busy_then busy_first

pub record Busy : Type 0 where
  pub fair : Fair 1 liar busy
  pub other_mark : answer_to 1 (at (due (Ok marked_lg)) 0 (PR (writes 50 3))) (each (due (Ok marked_pr)) 0 4 (PR (writes 50 3)) []) ≡ Refused OtherMark
  pub writer_commits : Proof 1 liar busy (tx_bytes (writes 50 3)) commit
  pub reader_commits : Proof 1 liar busy (tx_bytes (reads 60 3 50)) commit
  pub other_aborts : Proof 1 liar busy (tx_bytes (writes 55 3)) abort
  pub logs_commit : Proof 1 liar busy (tx_bytes (writes 70 4)) commit
  -- 55 has no proof from logs, and 70 none from votes
  pub by_votes : (P : Proof 1 liar busy (tx_bytes (writes 55 3)) abort) → kind_of P.list.kind ≡ votes
  pub by_logs : (P : Proof 1 liar busy (tx_bytes (writes 70 4)) commit) → kind_of P.list.kind ≡ logs
  pub safe : Safe 1 liar busy

-- ---- the incident: train, direction, axle count and hot axle of a passage stand at keys 0 to 3. 50 writes them; 60 corrects the direction
unfoldable pub passage : Tx
passage = tx 50 [] (write 0 12 ∷ write 1 0 ∷ write 2 8 ∷ write 3 5 ∷ [])

unfoldable pub correction : Tx
correction = tx 60 (read 0 50 ∷ read 1 50 ∷ read 2 50 ∷ read 3 50 ∷ []) (write 0 12 ∷ write 1 1 ∷ write 2 8 ∷ write 3 5 ∷ [])

-- boxes 3 and 4 have the direction read at 70 and vote abort; box 5 answers abort, twice: four answers, of three boxes
unfoldable pub doubled : Vl
doubled = list votes abort (pairs 3 3 abort ++ pairs 5 1 abort)

-- all five log commit, on the votes of 0, 1, 2 and the liar
unfoldable pub incident : List Event
incident =
    each receive 0 5 (lg correction (list votes commit (with_liar 0 3 commit)))
    (each receive 0 5 (PR correction)
    (each receive 3 2 (RD 1 70)
    (each receive 0 5 (DC passage votes commit 6)
    (each receive 0 5 (PR passage) []))))

pub record Incident : Type 0 where
  pub fair : Fair 1 liar incident
  -- counted by answers the list would prove abort, and each sound box on it gave what it says
  pub answers : T (meets (abort_proof 1) doubled)
  pub backed : Backed 1 liar incident (tx_bytes correction) doubled
  -- but it names a box twice, and a box that gets it refuses it
  pub unformed : list_wrong 1 doubled ≡ Err order
  pub refused : answer_to 1 (at receive 0 (dc correction doubled)) incident ≡ Refused Order
  -- so the correction has a commit proof and no abort proof
  pub commits : Proof 1 liar incident (tx_bytes correction) commit
  pub never_both : Proof 1 liar incident (tx_bytes correction) abort → ⊥

-- "Counting answers, not boxes": for every f, a list that names a box at two places is not in order
abbrev pub NamedOnce : Type 0
NamedOnce =
    (f : ℕ) (l : Vl) (before after : List Pair) (p q : Pair)
    → l.pairs ≡ before ++ (p ∷ after) → In q after → p.number ≡ q.number → list_wrong f l ≡ passed → ⊥

-- ---- A5: box 4 has key 3 read at 90 and votes abort. The gateway shows the votes for commit to boxes 0 to 2, with the liar's, and those for
-- abort to 3 and 4, with the liar's; then it dies
unfoldable pub torn : ℕ → List Event
torn s =
    each receive 3 2 (lg (writes s 3) (list votes abort (with_liar 4 1 abort)))
    (each receive 0 3 (lg (writes s 3) (list votes commit (with_liar 0 4 commit)))
    (each receive 0 5 (PR (writes s 3)) (at receive 4 (RD 3 90) ∷ [])))

-- somebody else invokes the fallback; the sound boxes move on from view v
unfoldable pub invoked : ℕ → ℕ → List Event → List Event
invoked s v es = each receive 0 5 (iv (writes s 3) (seen 0 4 v)) es

-- the election answers of view v while three have logged commit and two abort, and the decision that they give
unfoldable pub elected : ℕ → ℕ → ℕ → List ℕ
elected s leader v = ld (writes s 3) leader commit v (elections 0 3 commit v ++ elections 3 2 abort v)

-- ---- a dead gateway's transaction is finished: the leader of view 1 of 50 is box 3
unfoldable pub rescued : List Event
rescued = each (due (Ok marked_ld)) 0 5 (elected 50 3 1) (invoked 50 0 (torn 50))

-- five logs of view 1
unfoldable pub proved : List ℕ
proved = dc (writes 50 3) (logs_at 1 commit (pairs 0 5 commit))

unfoldable pub finished : List Event
finished = each receive 0 5 proved rescued

pub record Rescue : Type 0 where
  pub fair : Fair 1 liar finished
  -- both decisions are logged, and neither has a proof; nor after the election answers
  pub commit_logged : T (gave 1 2 (tx_bytes (writes 50 3)) (log commit 0) (torn 50))
  pub abort_logged : T (gave 1 3 (tx_bytes (writes 50 3)) (log abort 0) (torn 50))
  pub stuck : (d : Decision) → Proof 1 liar (torn 50) (tx_bytes (writes 50 3)) d → ⊥
  pub still_stuck : (d : Decision) → Proof 1 liar (invoked 50 0 (torn 50)) (tx_bytes (writes 50 3)) d → ⊥
  -- the boxes move to view 1, whose leader is box 3, and take its decision, box 3 over its own log
  pub moves : answer_to 1 (at (due (Ok marked_iv)) 3 (iv (writes 50 3) (seen 0 4 0))) (torn 50) ≡ Elected abort (view_as 1) 3
  pub takes : answer_to 1 (at receive 3 (elected 50 3 1)) (invoked 50 0 (torn 50)) ≡ Logged commit (view_as 1)
  -- so that there is a proof, and every box decides
  pub commits : Proof 1 liar rescued (tx_bytes (writes 50 3)) commit
  pub done : answer_to 1 (at receive 0 proved) rescued ≡ Done
  pub decided : map (λ i. answer_to 1 (at receive i (PR (writes 50 3))) finished) (0 ∷ 1 ∷ 2 ∷ 3 ∷ 4 ∷ []) ≡ replicate 5 (Decided commit)
  pub never_both : Proof 1 liar finished (tx_bytes (writes 50 3)) abort → ⊥

-- ---- a leader that lies: the leader of view 1 of 52 is the liar. It carries the minority; then what most of 4f answers say; then what most say in
-- view 1, as the decision of view 7, which it leads too
unfoldable pub minority : List ℕ
minority = ld (writes 52 3) 5 abort 1 (elections 0 3 commit 1 ++ elections 3 2 abort 1)

unfoldable pub fewer : List ℕ
fewer = ld (writes 52 3) 5 abort 1 (elections 2 1 commit 1 ++ elections 3 2 abort 1 ++ elections 5 1 abort 1)

unfoldable pub other_view : List ℕ
other_view = ld (writes 52 3) 5 abort 7 (elections 1 2 commit 1 ++ elections 3 2 abort 1 ++ elections 5 1 abort 7)

unfoldable pub misled : List Event
misled =
    each receive 0 5 other_view
    (each receive 0 5 fewer
    (each receive 0 5 minority (invoked 52 0 (torn 52))))

-- the boxes move to view 2, whose leader is box 0
unfoldable pub relieved : List Event
relieved = each receive 0 5 (elected 52 0 2) (invoked 52 1 misled)

pub record Misled : Type 0 where
  pub fair : Fair 1 liar relieved
  pub liar_leads : answer_to 1 (at receive 0 (iv (writes 52 3) (seen 0 4 0))) (torn 52) ≡ Elected commit (view_as 1) 5
  pub no_minority : answer_to 1 (at receive 3 minority) (invoked 52 0 (torn 52)) ≡ Refused Election
  pub no_fewer : answer_to 1 (at receive 3 fewer) (invoked 52 0 (torn 52)) ≡ Refused Election
  pub no_other_view : answer_to 1 (at receive 3 other_view) (invoked 52 0 (torn 52)) ≡ Refused Election
  pub stuck : (d : Decision) → Proof 1 liar misled (tx_bytes (writes 52 3)) d → ⊥
  pub moves : answer_to 1 (at receive 0 (iv (writes 52 3) (seen 0 4 1))) misled ≡ Elected commit (view_as 2) 0
  pub commits : Proof 1 liar relieved (tx_bytes (writes 52 3)) commit
  pub done : answer_to 1 (at receive 4 (dc (writes 52 3) (logs_at 2 commit (pairs 0 5 commit)))) relieved ≡ Done

-- ---- two leaders: boxes 0 to 3 take the decision of view 1 of 50, box 4 does not get it. With the liar's log that is a proof, which nobody sees.
-- In view 2, whose leader is box 4, its own abort and the liar's are two of five again: what view 1 logged is carried, and boxes 1 to 4 take it
unfoldable pub first : List Event
first = each receive 0 4 (elected 50 3 1) (invoked 50 0 (torn 50))

unfoldable pub carried : List ℕ
carried = ld (writes 50 3) 4 commit 2 (elections 0 3 commit 2 ++ elections 4 2 abort 2)

unfoldable pub second : List Event
second = each receive 1 4 carried (invoked 50 1 first)

pub record Leaders : Type 0 where
  pub fair : Fair 1 liar second
  -- box 0 has logged in view 1 only, box 4 in view 2 only, box 1 in both
  pub in_first : T (gave 1 0 (tx_bytes (writes 50 3)) (log commit 1) second)
  pub not_second : T (gave 1 0 (tx_bytes (writes 50 3)) (log commit 2) second) → ⊥
  pub in_second : T (gave 1 4 (tx_bytes (writes 50 3)) (log commit 2) second)
  pub not_first : T (gave 1 4 (tx_bytes (writes 50 3)) (log commit 1) second) → ⊥
  pub in_both : T (gave 1 1 (tx_bytes (writes 50 3)) (log commit 1) second) × T (gave 1 1 (tx_bytes (writes 50 3)) (log commit 2) second)
  -- box 4 told its own log, of abort
  pub told : answer_to 1 (at receive 4 (iv (writes 50 3) (seen 0 4 1))) first ≡ Elected abort (view_as 2) 4
  -- the decision had a proof before; now the logs of either view are one, and a box takes it
  pub commits : Proof 1 liar first (tx_bytes (writes 50 3)) commit
  pub backed_first : Backed 1 liar second (tx_bytes (writes 50 3)) (logs_at 1 commit (with_liar 0 4 commit))
  pub backed_second : Backed 1 liar second (tx_bytes (writes 50 3)) (logs_at 2 commit (with_liar 1 4 commit))
  pub by_first : answer_to 1 (at receive 4 (dc (writes 50 3) (logs_at 1 commit (with_liar 0 4 commit)))) second ≡ Done
  pub by_second : answer_to 1 (at receive 0 (dc (writes 50 3) (logs_at 2 commit (with_liar 1 4 commit)))) second ≡ Done
  pub never_both : Proof 1 liar second (tx_bytes (writes 50 3)) abort → ⊥
