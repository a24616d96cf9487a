-- The traces of specs/Traces, by computation: that a trace is fair, and what has a proof on it, can be tested.
use Prim.Native.Nat.{ℕ, zero, suc, ◌≤◌}
use mathlib.Core.Bool.{Bool, true, not, ◌&&◌, ◌||◌}
use mathlib.Core.Path.{◌≡◌, refl}
use mathlib.Core.Logic.{◌⊎◌, inl, inr}
use mathlib.Core.List.Memᴰ.{head as here}
use mathlib.Core.List.Memᴰ.{tail as there}
use mathlib.Core.List.{List, [], ◌∷◌, map, Memᴰ as In}
use native.Mathlib.Omega.{arith}
use lib.Dec.{T}
use lib.ListN.{replicate}
use Rattle.terms.specs.Group.{boxes, abort_proof}
use Rattle.terms.specs.declared.Refusal.TheVariants.{Election, Order}
use Rattle.records.specs.Tx.{tx_bytes}
use Rattle.records.specs.Vl.{Vl}
use Rattle.records.specs.Views.{Views}
use Rattle.records.specs.Contents.{list_wrong}
use Rattle.records.specs.declared.Mark.{Mark}
use Rattle.records.specs.declared.Mark.TheVariants.{PR as marked_pr, LG as marked_lg, DC as marked_dc, RD as marked_rd, IV as marked_iv, LD as marked_ld}
use Rattle.records.specs.declared.ViewMark.TheVariants.{EL}
use Rattle.std.specs.Prelude.{Result, Ok, Err, is_ok}
use Rattle.terms.specs.Checks.{order}
use Rattle.terms.specs.declared.Refusal.{Refusal}
use Rattle.terms.specs.declared.Refusal.TheVariants.{Mark as OtherMark}
use Rattle.rules.specs.Answers.{Decided, Decision, Done, Elected, Kind, Logged, Refused, abort, commit, logs, view_as, votes}
use Rattle.rules.specs.Bodies.{Body}
use Rattle.rules.specs.Lists.{kind_of, decision_of, bit, meets}
use Rattle.records.specs.Cutting.{tx_part}
use Rattle.records.specs.Messages.{due_refusal, list_behind, views_behind}
use Rattle.rules.specs.Act.{EntryPoint, mark_by, due, receive}
use Rattle.rules.specs.Fallback.{ballot_view}
use Rattle.rules.specs.System.{Event, answer_to, log, elect, word, gave, given_in, how_many, Backed, BackedBy, ChosenBy, Carries, HonestBy, Honest, Fair, Proof}
use Rattle.rules.specs.Cases.{PR, dc, iv, logs_at, pairs, reads, seen, writes}
use Rattle.rules.specs.Traces.{liar, at, each, with_liar, busy, Busy, passage, correction, doubled, incident, Incident, NamedOnce, busy_first, busy_then}
use Rattle.rules.specs.Traces.{torn, invoked, elected, rescued, proved, finished, Rescue, minority, fewer, other_view, misled, relieved, Misled}
use Rattle.rules.specs.Traces.{first, carried, second, Leaders}
use Rattle.rules.proofs.Laws.{and_l, and_r, or_cases, no_both}
use Rattle.rules.proofs.Counting.{named_once}
use Rattle.rules.proofs.Backing.{upheld, upheld_gave, proof_later}
use Rattle.rules.proofs.Made.{one_below, logged_view, top_view, enough_of, provable_by, provable, provable_proof, proof_by, proof_provable}
use Rattle.rules.proofs.Safety.{safety}
use Rattle.rules.proofs.Running.{tracing}

module _ (f : ℕ) (faulty : ℕ → Bool) where
  all : {A : Type 0} → (A → Bool) → List A → Bool
  all p [] = true
  all p (x ∷ xs) = p x && all p xs

  all_in : {A : Type 0} (p : A → Bool) (xs : List A) → T (all p xs) → (x : A) → In x xs → T (p x)
  unfolding all
  all_in p [] h x i = elim i [ ]
  all_in p (y ∷ xs) h x (here e) = rw e (and_l (p y) (all p xs) h)
  all_in p (y ∷ xs) h x (there i) = all_in p xs (and_r (p y) (all p xs) h) x i

  -- a list is backed
  backed_test : List Event → Body → Vl → Bool
  backed_test es b l = all (λ p. upheld f faulty es b (word (kind_of l.kind) l.view (decision_of p.answer)) p.number) l.pairs

  backed_by : (es : List Event) (b : Body) (l : Vl) → T (backed_test es b l) → Backed f faulty es b l
  unfolding BackedBy backed_test
  backed_by es b l h p m s =
      upheld_gave f faulty es b (word (kind_of l.kind) l.view (decision_of p.answer)) p.number (all_in _ l.pairs h p m) s.1

  -- election answers were given
  chosen_test : List Event → Body → Views → Bool
  chosen_test es b l = all (λ p. upheld f faulty es b (elect (decision_of p.answer) (ballot_view p)) p.number) l.ballots

  chosen_by : (es : List Event) (b : Body) (l : Views) → T (chosen_test es b l) → ChosenBy f faulty (given_in f es) b l
  unfolding ChosenBy chosen_test
  chosen_by es b l h p m s =
      upheld_gave f faulty es b (elect (decision_of p.answer) (ballot_view p)) p.number (all_in _ l.ballots h p m) s.1

  carries_test : List Event → Mark → List ℕ → Bool
  carries_test es marked_pr m = true
  carries_test es marked_lg m = backed_test es (tx_part m) (list_behind m)
  carries_test es marked_dc m = backed_test es (tx_part m) (list_behind m)
  carries_test es marked_rd m = true
  carries_test es marked_iv m = true
  carries_test es marked_ld m = chosen_test es (tx_part m) (views_behind EL m)

  carries_by : (es : List Event) (k : Mark) (m : List ℕ) → T (carries_test es k m) → Carries f faulty (given_in f es) k m
  unfolding Carries carries_test
  carries_by es marked_pr m h = tt
  carries_by es marked_lg m h = backed_by es (tx_part m) (list_behind m) h
  carries_by es marked_dc m h = backed_by es (tx_part m) (list_behind m) h
  carries_by es marked_rd m h = tt
  carries_by es marked_iv m h = tt
  carries_by es marked_ld m h = chosen_by es (tx_part m) (views_behind EL m) h

  -- what a message carries that is read was given
  honest_test : List Event → EntryPoint → List ℕ → Bool
  honest_test es way m = test_by (mark_by way m)
    where
      test_by : Result Mark Refusal → Bool
      test_by (Ok k) = not (is_ok (due_refusal k f m)) || carries_test es k m
      test_by (Err r) = true

  honest_by : (es : List Event) (way : EntryPoint) (m : List ℕ) → T (honest_test es way m) → Honest f faulty es way m
  unfolding HonestBy honest_test
  honest_by es way m h k q z = go (or_cases (not (is_ok (due_refusal k f m))) (carries_test es k m) (rw q at h))
    where
      go : T (not (is_ok (due_refusal k f m))) ⊎ T (carries_test es k m) → Carries f faulty (given_in f es) k m
      go (inl n) = absurd (no_both (is_ok (due_refusal k f m)) (rw z tt) n)
      go (inr y) = carries_by es k m y

  pub fair_test : List Event → Bool
  fair_test [] = true
  fair_test (e ∷ es) = honest_test es e.entry e.message && fair_test es

  pub fair_by : (es : List Event) → T (fair_test es) → Fair f faulty es
  unfolding Fair fair_test
  fair_by [] h = tt
  fair_by (e ∷ es) h =
      (fair_by es (and_r (honest_test es e.entry e.message) (fair_test es) h), λ _. honest_by es e.entry e.message (and_l (honest_test es e.entry e.message) (fair_test es) h))

  -- what no votes prove, or no logs, is proved by the other
  by_kind : how_many faulty (boxes f) ≤ f → (es : List Event) (b : Body) (d : Decision) (k : Kind) → T (not (provable_by f faulty es b d k))
      → (P : Proof f faulty es b d) → kind_of P.list.kind ≡ k → ⊥
  by_kind few es b d k n P q = no_both (provable_by f faulty es b d k) (rw q at (proof_by f faulty few es b d P)) n

-- a proof stays one, whatever more boxes get
each_later : (way : EntryPoint) (i n : ℕ) (m : List ℕ) (es : List Event) (b : Body) {d : Decision} → Proof 1 liar es b d → Proof 1 liar (each way i n m es) b d
unfolding each
each_later way i zero m es b P = P
each_later way i (suc n) m es b {d} P = proof_later 1 liar _ _ b d (each_later way i n m es b P)

unfoldable pub checking : ℕ
unfolding fair_test honest_test carries_test backed_test chosen_test all one_below logged_view top_view enough_of provable provable_by upheld liar at each with_liar busy_first busy_then busy passage correction doubled incident
checking = 0

unfoldable falling : ℕ
unfolding torn invoked elected rescued proved finished minority fewer other_view misled relieved first carried second
falling = 0

only_logs : (k : Kind) → (k ≡ votes → ⊥) → k ≡ logs
only_logs votes n = absurd (n refl)
only_logs logs n = refl

only_votes : (k : Kind) → (k ≡ logs → ⊥) → k ≡ votes
only_votes votes n = refl
only_votes logs n = absurd (n refl)

pub few : how_many liar (boxes 1) ≤ 1
unfolding how_many liar bit
few = omega arith

record BusyTests : Type 0 where
  fair : T (fair_test 1 liar busy)
  other_mark : answer_to 1 (at (due (Ok marked_lg)) 0 (PR (writes 50 3))) (each (due (Ok marked_pr)) 0 4 (PR (writes 50 3)) []) ≡ Refused OtherMark
  written : T (provable 1 liar busy (tx_bytes (writes 50 3)) commit)
  was_read : T (provable 1 liar busy (tx_bytes (reads 60 3 50)) commit)
  other : T (provable 1 liar busy (tx_bytes (writes 55 3)) abort)
  other_logs : T (not (provable_by 1 liar busy (tx_bytes (writes 55 3)) abort logs))
  last : T (provable 1 liar busy (tx_bytes (writes 70 4)) commit)
  last_votes : T (not (provable_by 1 liar busy (tx_bytes (writes 70 4)) commit votes))

busy_tests : BusyTests
unfolding tracing checking
busy_tests = record { fair = tt; other_mark = refl; written = tt; was_read = tt; other = tt; other_logs = tt; last = tt; last_votes = tt }

busy_fair : Fair 1 liar busy
busy_fair = fair_by 1 liar busy busy_tests.fair

pub busy_trace : Busy
busy_trace = record {
  fair = busy_fair;
  other_mark = busy_tests.other_mark;
  writer_commits = provable_proof 1 liar busy _ commit busy_tests.written;
  reader_commits = provable_proof 1 liar busy _ commit busy_tests.was_read;
  other_aborts = provable_proof 1 liar busy _ abort busy_tests.other;
  logs_commit = provable_proof 1 liar busy _ commit busy_tests.last;
  by_votes = λ P. only_votes _ (by_kind 1 liar few busy _ abort logs busy_tests.other_logs P);
  by_logs = λ P. only_logs _ (by_kind 1 liar few busy _ commit votes busy_tests.last_votes P);
  safe = safety 1 liar few busy busy_fair;
}

record IncidentTests : Type 0 where
  fair : T (fair_test 1 liar incident)
  answers : T (meets (abort_proof 1) doubled)
  backed : T (backed_test 1 liar incident (tx_bytes correction) doubled)
  unformed : list_wrong 1 doubled ≡ Err order
  refused : answer_to 1 (at receive 0 (dc correction doubled)) incident ≡ Refused Order
  commits : T (provable 1 liar incident (tx_bytes correction) commit)
  no_abort : T (not (provable 1 liar incident (tx_bytes correction) abort))

incident_tests : IncidentTests
unfolding tracing checking
incident_tests = record { fair = tt; answers = tt; backed = tt; unformed = refl; refused = refl; commits = tt; no_abort = tt }

pub incident_trace : Incident
incident_trace = record {
  fair = fair_by 1 liar incident incident_tests.fair;
  answers = incident_tests.answers;
  backed = backed_by 1 liar incident (tx_bytes correction) doubled incident_tests.backed;
  unformed = incident_tests.unformed;
  refused = incident_tests.refused;
  commits = provable_proof 1 liar incident _ commit incident_tests.commits;
  never_both = λ P.
      no_both (provable 1 liar incident (tx_bytes correction) abort)
      (proof_provable 1 liar few incident (tx_bytes correction) abort P)
      incident_tests.no_abort;
}

-- neither decision can be proved
neither : (es : List Event) (b : Body) → T (not (provable 1 liar es b commit)) → T (not (provable 1 liar es b abort)) → (d : Decision) → Proof 1 liar es b d → ⊥
neither es b c a commit P = no_both (provable 1 liar es b commit) (proof_provable 1 liar few es b commit P) c
neither es b c a abort P = no_both (provable 1 liar es b abort) (proof_provable 1 liar few es b abort P) a

record RescueTests : Type 0 where
  fair : T (fair_test 1 liar finished)
  commit_logged : T (gave 1 2 (tx_bytes (writes 50 3)) (log commit 0) (torn 50))
  abort_logged : T (gave 1 3 (tx_bytes (writes 50 3)) (log abort 0) (torn 50))
  no_commit : T (not (provable 1 liar (torn 50) (tx_bytes (writes 50 3)) commit))
  no_abort : T (not (provable 1 liar (torn 50) (tx_bytes (writes 50 3)) abort))
  still_no_commit : T (not (provable 1 liar (invoked 50 0 (torn 50)) (tx_bytes (writes 50 3)) commit))
  still_no_abort : T (not (provable 1 liar (invoked 50 0 (torn 50)) (tx_bytes (writes 50 3)) abort))
  moves : answer_to 1 (at (due (Ok marked_iv)) 3 (iv (writes 50 3) (seen 0 4 0))) (torn 50) ≡ Elected abort (view_as 1) 3
  takes : answer_to 1 (at receive 3 (elected 50 3 1)) (invoked 50 0 (torn 50)) ≡ Logged commit (view_as 1)
  commits : T (provable 1 liar rescued (tx_bytes (writes 50 3)) commit)
  done : answer_to 1 (at receive 0 proved) rescued ≡ Done
  decided : map (λ i. answer_to 1 (at receive i (PR (writes 50 3))) finished) (0 ∷ 1 ∷ 2 ∷ 3 ∷ 4 ∷ []) ≡ replicate 5 (Decided commit)

rescue_tests : RescueTests
unfolding tracing checking falling
rescue_tests = record {
  fair = tt;
  commit_logged = tt;
  abort_logged = tt;
  no_commit = tt;
  no_abort = tt;
  still_no_commit = tt;
  still_no_abort = tt;
  moves = refl;
  takes = refl;
  commits = tt;
  done = refl;
  decided = refl;
}

finished_fair : Fair 1 liar finished
finished_fair = fair_by 1 liar finished rescue_tests.fair

-- what has a commit proof has no abort proof
no_other : (es : List Event) (b : Body) → Fair 1 liar es → Proof 1 liar es b commit → Proof 1 liar es b abort → ⊥
no_other es b F = (safety 1 liar few es F).one_outcome b

rescue_commits : Proof 1 liar rescued (tx_bytes (writes 50 3)) commit
rescue_commits = provable_proof 1 liar rescued _ commit rescue_tests.commits

finished_commits : Proof 1 liar finished (tx_bytes (writes 50 3)) commit
unfolding finished
finished_commits = each_later receive 0 5 proved rescued (tx_bytes (writes 50 3)) rescue_commits

pub rescue_trace : Rescue
rescue_trace = record {
  fair = finished_fair;
  commit_logged = rescue_tests.commit_logged;
  abort_logged = rescue_tests.abort_logged;
  stuck = neither (torn 50) _ rescue_tests.no_commit rescue_tests.no_abort;
  still_stuck = neither (invoked 50 0 (torn 50)) _ rescue_tests.still_no_commit rescue_tests.still_no_abort;
  moves = rescue_tests.moves;
  takes = rescue_tests.takes;
  commits = rescue_commits;
  done = rescue_tests.done;
  decided = rescue_tests.decided;
  never_both = no_other finished _ finished_fair finished_commits;
}

record MisledTests : Type 0 where
  fair : T (fair_test 1 liar relieved)
  liar_leads : answer_to 1 (at receive 0 (iv (writes 52 3) (seen 0 4 0))) (torn 52) ≡ Elected commit (view_as 1) 5
  no_minority : answer_to 1 (at receive 3 minority) (invoked 52 0 (torn 52)) ≡ Refused Election
  no_fewer : answer_to 1 (at receive 3 fewer) (invoked 52 0 (torn 52)) ≡ Refused Election
  no_other_view : answer_to 1 (at receive 3 other_view) (invoked 52 0 (torn 52)) ≡ Refused Election
  no_commit : T (not (provable 1 liar misled (tx_bytes (writes 52 3)) commit))
  no_abort : T (not (provable 1 liar misled (tx_bytes (writes 52 3)) abort))
  moves : answer_to 1 (at receive 0 (iv (writes 52 3) (seen 0 4 1))) misled ≡ Elected commit (view_as 2) 0
  commits : T (provable 1 liar relieved (tx_bytes (writes 52 3)) commit)
  done : answer_to 1 (at receive 4 (dc (writes 52 3) (logs_at 2 commit (pairs 0 5 commit)))) relieved ≡ Done

misled_tests : MisledTests
unfolding tracing checking falling
misled_tests = record {
  fair = tt;
  liar_leads = refl;
  no_minority = refl;
  no_fewer = refl;
  no_other_view = refl;
  no_commit = tt;
  no_abort = tt;
  moves = refl;
  commits = tt;
  done = refl;
}

pub misled_trace : Misled
misled_trace = record {
  fair = fair_by 1 liar relieved misled_tests.fair;
  liar_leads = misled_tests.liar_leads;
  no_minority = misled_tests.no_minority;
  no_fewer = misled_tests.no_fewer;
  no_other_view = misled_tests.no_other_view;
  stuck = neither misled _ misled_tests.no_commit misled_tests.no_abort;
  moves = misled_tests.moves;
  commits = provable_proof 1 liar relieved _ commit misled_tests.commits;
  done = misled_tests.done;
}

record LeadersTests : Type 0 where
  fair : T (fair_test 1 liar second)
  in_first : T (gave 1 0 (tx_bytes (writes 50 3)) (log commit 1) second)
  not_second : T (not (gave 1 0 (tx_bytes (writes 50 3)) (log commit 2) second))
  in_second : T (gave 1 4 (tx_bytes (writes 50 3)) (log commit 2) second)
  not_first : T (not (gave 1 4 (tx_bytes (writes 50 3)) (log commit 1) second))
  both_first : T (gave 1 1 (tx_bytes (writes 50 3)) (log commit 1) second)
  both_second : T (gave 1 1 (tx_bytes (writes 50 3)) (log commit 2) second)
  told : answer_to 1 (at receive 4 (iv (writes 50 3) (seen 0 4 1))) first ≡ Elected abort (view_as 2) 4
  before : T (provable 1 liar first (tx_bytes (writes 50 3)) commit)
  commits : T (provable 1 liar second (tx_bytes (writes 50 3)) commit)
  backed_first : T (backed_test 1 liar second (tx_bytes (writes 50 3)) (logs_at 1 commit (with_liar 0 4 commit)))
  backed_second : T (backed_test 1 liar second (tx_bytes (writes 50 3)) (logs_at 2 commit (with_liar 1 4 commit)))
  by_first : answer_to 1 (at receive 4 (dc (writes 50 3) (logs_at 1 commit (with_liar 0 4 commit)))) second ≡ Done
  by_second : answer_to 1 (at receive 0 (dc (writes 50 3) (logs_at 2 commit (with_liar 1 4 commit)))) second ≡ Done

leaders_tests : LeadersTests
unfolding tracing checking falling
leaders_tests = record {
  fair = tt;
  in_first = tt;
  not_second = tt;
  in_second = tt;
  not_first = tt;
  both_first = tt;
  both_second = tt;
  told = refl;
  before = tt;
  commits = tt;
  backed_first = tt;
  backed_second = tt;
  by_first = refl;
  by_second = refl;
}

not_gave : (i : ℕ) (v : ℕ) → T (not (gave 1 i (tx_bytes (writes 50 3)) (log commit v) second)) → T (gave 1 i (tx_bytes (writes 50 3)) (log commit v) second) → ⊥
not_gave i v n h = no_both (gave 1 i (tx_bytes (writes 50 3)) (log commit v) second) h n

second_fair : Fair 1 liar second
second_fair = fair_by 1 liar second leaders_tests.fair

pub leaders_trace : Leaders
leaders_trace = record {
  fair = second_fair;
  in_first = leaders_tests.in_first;
  not_second = not_gave 0 2 leaders_tests.not_second;
  in_second = leaders_tests.in_second;
  not_first = not_gave 4 1 leaders_tests.not_first;
  in_both = (leaders_tests.both_first, leaders_tests.both_second);
  told = leaders_tests.told;
  commits = provable_proof 1 liar first _ commit leaders_tests.before;
  backed_first = backed_by 1 liar second _ _ leaders_tests.backed_first;
  backed_second = backed_by 1 liar second _ _ leaders_tests.backed_second;
  by_first = leaders_tests.by_first;
  by_second = leaders_tests.by_second;
  never_both = no_other second _ second_fair (provable_proof 1 liar second _ commit leaders_tests.commits);
}

pub box_named_once : NamedOnce
box_named_once = named_once
