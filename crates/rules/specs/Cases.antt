-- "Both sides of each line": cases 1 to 12 as one statement over a list, over real message bytes.
use Rattle.std.specs.Prelude.{ℕ, zero, suc, ◌≡◌, List, [], ◌∷◌, map}
use Rattle.terms.specs.declared.Refusal.TheVariants.{Misbehaviour, TooFew}
use Rattle.records.specs.declared.Read.{Read}
use Rattle.records.specs.declared.Write.{Write}
use Rattle.records.specs.declared.Pair.{Pair}
use Rattle.records.specs.Tx.{Tx}
use Rattle.records.specs.Vl.{Vl}
use Rattle.records.specs.declared.Ballot.{Ballot}
use Rattle.records.specs.declared.ViewMark.TheVariants.{VS, EL}
use Rattle.records.specs.declared.Mark.TheVariants.{LG as marked_lg, DC as marked_dc}
use Rattle.records.specs.Writing.{pr_bytes, listed_bytes, viewed_bytes, rd_bytes}
use Rattle.rules.specs.Answers.{Answer, Decision, Done, Found, Kind, Logged, Refused, Voted, abort, commit, logs, vote_abort, vote_commit, votes}
use Rattle.rules.specs.Answers.{Reason, Ahead, Dependency, NoVersion, Overwritten, ReadMark, Undercuts}
use Rattle.rules.specs.Answers.{apart_from_number, decision_number, kind_number, unvisited, view_as, waiting}
use Rattle.rules.specs.Table.{Box, Told, empty}
use Rattle.rules.specs.Act.{EntryPoint, act, after, raising, receive}

-- ---- a case: what one box gets, one after another, and the answers that are due. Bytes reach it by the entry point for any message; or, A11, its low
-- mark is raised
abbrev pub Sent : Type 0
Sent = EntryPoint × List ℕ

unfoldable pub got : List ℕ → Sent
got m = (receive, m)

unfoldable pub LM : ℕ → Sent
LM l = (raising l, [])

pub record Case : Type 0 where
  pub told : Told
  pub start : Box
  pub sent : List Sent
  pub due : List Answer

-- answers "apart from A6's number", which have vectors of their own (Counts)
unfoldable pub replay : Told → Box → List Sent → List Answer
replay told x [] = []
replay told x (c ∷ cs) = apart_from_number (act c.0 told x c.1).answer ∷ replay told (after c.0 told x c.1) cs

unfoldable pub given : Case → List Answer
given c = replay c.told c.start c.sent

unfoldable pub due : Case → List Answer
due c = c.due

-- "f = 1, δ = 10, clock 100, capacity 8; each starts empty"
unfoldable pub line : Told
line = record { f = 1; capacity = 8; clock = 100; delta = 10 }

unfoldable pub case : List (List ℕ) → List Answer → Case
case sent due = record { told = line; start = empty; sent = map got sent; due = due }

-- ---- the messages, as bytes
unfoldable pub read : ℕ → ℕ → Read
read k v = record { key = record { 0 = k }; version = record { 0 = v } }

unfoldable pub write : ℕ → ℕ → Write
write k v = record { key = record { 0 = k }; value = v }

unfoldable pub tx : ℕ → List Read → List Write → Tx
tx s rs ws = record { stamp = s; reads = rs; writes = ws }

-- s writes key k (the value 7); s reads key k at v
unfoldable pub writes : ℕ → ℕ → Tx
writes s k = tx s [] (write k 7 ∷ [])

unfoldable pub reads : ℕ → ℕ → ℕ → Tx
reads s k v = tx s (read k v ∷ []) []

-- n equal answers, from box i on
unfoldable pub pairs : ℕ → ℕ → Decision → List Pair
pairs i zero d = []
pairs i (suc n) d = record { number = i; answer = decision_number d } ∷ pairs (suc i) n d

unfoldable pub list : Kind → Decision → List Pair → Vl
list k d ps = record { kind = kind_number k; decision = decision_number d; view = 0; pairs = ps }

-- a list of logs of one view
unfoldable pub logs_at : ℕ → Decision → List Pair → Vl
logs_at v d ps = record { kind = kind_number logs; decision = decision_number d; view = v; pairs = ps }

-- n boxes from i on that are at view v, with this answer; in an IV without one; n election answers
unfoldable pub ballots_of : ℕ → ℕ → ℕ → ℕ → List Ballot
ballots_of i zero a v = []
ballots_of i (suc n) a v = record { number = i; answer = a; view = view_as v } ∷ ballots_of (suc i) n a v

unfoldable pub seen : ℕ → ℕ → ℕ → List Ballot
seen i n v = ballots_of i n 0 v

unfoldable pub elections : ℕ → ℕ → Decision → ℕ → List Ballot
elections i n d v = ballots_of i n (decision_number d) v

unfoldable pub PR : Tx → List ℕ
PR t = pr_bytes t

unfoldable pub lg : Tx → Vl → List ℕ
lg t l = listed_bytes marked_lg t l

unfoldable pub dc : Tx → Vl → List ℕ
dc t l = listed_bytes marked_dc t l

unfoldable pub iv : Tx → List Ballot → List ℕ
iv t ps = viewed_bytes VS t (record { leader = 0; decision = 0; view = 0; ballots = ps })

-- of the leader of a view, with the decision that it carries
unfoldable pub ld : Tx → ℕ → Decision → ℕ → List Ballot → List ℕ
ld t leader d v ps = viewed_bytes EL t (record { leader = leader; decision = decision_number d; view = v; ballots = ps })

-- with n votes, or n logs, of the boxes 0 to n − 1
unfoldable pub LG : Tx → Decision → ℕ → List ℕ
LG t d n = lg t (list votes d (pairs 0 n d))

unfoldable pub DC : Tx → Kind → Decision → ℕ → List ℕ
DC t k d n = dc t (list k d (pairs 0 n d))

unfoldable pub RD : ℕ → ℕ → List ℕ
RD k s = rd_bytes k s

-- ---- the answers of a PR, apart from A6's number
unfoldable pub commits : Answer
commits = Voted vote_commit unvisited

unfoldable pub waits : Answer
waits = Voted waiting unvisited

unfoldable pub aborts : Reason → Answer
aborts r = Voted (vote_abort r) unvisited

-- the answer of an LG: a log of view 0
unfoldable pub logs0 : Decision → Answer
logs0 d = Logged d (view_as 0)

-- 11, and how many are lacking
unfoldable pub few : ℕ → Answer
few k = Refused (TooFew k)

-- of an RD: version and value of what is committed, and of what is live and undecided
unfoldable pub found : ℕ → ℕ → ℕ → ℕ → Answer
found v x u y = Found (record { stamp = record { 0 = v }; value = x }) (record { stamp = record { 0 = u }; value = y })

-- ---- the twelve
unfoldable pub cases : List Case
cases =
    -- "1. 50 writes key 3: commit. 60 reads key 3 at 50: wait."
    case (PR (writes 50 3) ∷ PR (reads 60 3 50) ∷ [])
    (commits ∷ waits ∷ [])
    -- "2. Then 50 gets six commit votes in a DC; PR 60 again: commit."
    ∷ case (PR (writes 50 3) ∷ PR (reads 60 3 50) ∷ DC (writes 50 3) votes commit 6 ∷ PR (reads 60 3 50) ∷ [])
    (commits ∷ waits ∷ Done ∷ commits ∷ [])
    -- "3. Instead four abort votes: PR 60 again, abort 6."
    ∷ case (PR (writes 50 3) ∷ PR (reads 60 3 50) ∷ DC (writes 50 3) votes abort 4 ∷ PR (reads 60 3 50) ∷ [])
    (commits ∷ waits ∷ Done ∷ aborts Dependency ∷ [])
    -- "4. 50 writes key 3, commit; 60 reads key 3 at 0: abort 3."
    ∷ case (PR (writes 50 3) ∷ PR (reads 60 3 0) ∷ [])
    (commits ∷ aborts Overwritten ∷ [])
    -- "5. 60 reads key 3 at 0, commit; 50 writes key 3: abort 4."
    ∷ case (PR (reads 60 3 0) ∷ PR (writes 50 3) ∷ [])
    (commits ∷ aborts Undercuts ∷ [])
    -- "6. RD key 3 at 70; 60 writes it: abort 5."
    ∷ case (RD 3 70 ∷ PR (writes 60 3) ∷ [])
    (found 0 0 0 0 ∷ aborts ReadMark ∷ [])
    -- "7. As 6, but 70 writes it: commit."
    ∷ case (RD 3 70 ∷ PR (writes 70 3) ∷ [])
    (found 0 0 0 0 ∷ commits ∷ [])
    -- "8. Stamp 110 writing key 3: commit. Stamp 111: abort 1."
    ∷ case (PR (writes 110 3) ∷ PR (writes 111 3) ∷ [])
    (commits ∷ aborts Ahead ∷ [])
    -- "9. 60 reads key 3 at 40, nothing held: abort 2."
    ∷ case (PR (reads 60 3 40) ∷ [])
    (aborts NoVersion ∷ [])
    -- "10. 60 reads key 3 at 60: refusal 7."
    ∷ case (PR (reads 60 3 60) ∷ [])
    (Refused Misbehaviour ∷ [])
    -- "11. Held 50: LG with four commit votes, logged commit; LG with two abort votes, logged commit again."
    ∷ case (PR (writes 50 3) ∷ LG (writes 50 3) commit 4 ∷ LG (writes 50 3) abort 2 ∷ [])
    (commits ∷ logs0 commit ∷ logs0 commit ∷ [])
    -- "12. DC commit with five votes: 11; with five logs: done."
    ∷ case (DC (writes 50 3) votes commit 5 ∷ DC (writes 50 3) logs commit 5 ∷ [])
    (few 1 ∷ Done ∷ [])
    ∷ []

abbrev pub Twelve : Type 0
Twelve = map given cases ≡ map due cases
