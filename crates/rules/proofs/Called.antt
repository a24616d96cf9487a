-- PR, LG and DC as moves.
use Prim.Native.Nat.{ℕ}
use mathlib.Core.Bool.{Bool}
use mathlib.Core.Path.{◌≡◌, refl}
use mathlib.Core.Logic.{inl, inr}
use mathlib.Core.Option.{Option, some, none}
use mathlib.Core.List.{List}
use lib.Dec.{T}
use Rattle.terms.specs.Checks.{passed}
use Rattle.terms.specs.Choice.{pick}
use Rattle.terms.specs.declared.Refusal.{Refusal}
use Rattle.records.specs.Tx.{tx_of}
use Rattle.records.specs.Vl.{Vl}
use Rattle.records.specs.Contents.{tx_wrong, list_wrong}
use Rattle.rules.specs.Answers.{Decision, commit, abort, votes, Vote, unvoted, waiting, vote_commit, vote_abort, Decided, unsettled, Settled, settled, Log, logged, unlogged}
use Rattle.rules.specs.Bodies.{Body, stamp_of, same_body}
use Rattle.rules.specs.Lists.{kind_of, decision_of, for_logging, for_proof, meets}
use Rattle.rules.specs.Table.{Entry, Box, Told, find}
use Rattle.rules.specs.Tests.{waiting_rule, first_vote}
use Rattle.rules.specs.Calls.{Act, keep, refuse, is_full, room_for, needing, same_decision, pr_by_vote, pr_by_decision, pr_by_entry, pr_rule, lg_by_log}
use Rattle.rules.specs.Calls.{lg_by_decision, lg_by_entry, lg_rule, dc_same, dc_other, dc_by_entry, dc_rule}
use Rattle.rules.specs.Act.{EntryPoint}
use Rattle.rules.specs.System.{vote, log, cast, vote_word, word_in}
use Rattle.rules.proofs.Laws.{pick_elim, same_body_eq, not_same}
use Rattle.rules.proofs.Moves.{none_some, some_eq, un_settled, abort_commit, Holds, Prior, Brings, Arrives, Move, quiet, again, casts, logs_first, decides}
use Rattle.rules.proofs.Moves.{replaces}
use Rattle.rules.proofs.Tested.{ready_waiting, first_of}

-- refusals and the other answers that give no word
pub refuses : {f : ℕ} {x : Box} {way : EntryPoint} {m : List ℕ} {b : Body} (r : Refusal) → Move f x way m b (refuse r)
unfolding word_in
refuses r = quiet refl

pub tells : {f : ℕ} {x : Box} {way : EntryPoint} {m : List ℕ} {b : Body} (d : Decision) → Move f x way m b (keep (Decided d))
unfolding word_in
tells d = quiet refl

-- what is held
pub nothing : {t : List Entry} {b : Body} → find (stamp_of b) t ≡ none → Prior t b none
nothing p = record { at = p; body = λ e q. absurd (none_some refl q); undecided = λ e q. absurd (none_some refl q) }

pub own : {t : List Entry} {b : Body} (e : Entry) → find (stamp_of b) t ≡ some e → e.body ≡ b → e.decided ≡ unsettled → Prior t b (some e)
own e p s u = record { at = p; body = λ x q. rw (some_eq q refl) s; undecided = λ x q. rw (some_eq q refl) u }

-- asking for room changes no move, nor does a test that refuses
module _ {f : ℕ} {x : Box} {way : EntryPoint} {m : List ℕ} {b : Body} where
  pub room : (told : Told) (a : Act) → Move f x way m b a → Move f x way m b (room_for told x a)
  unfolding room_for
  room told a k = pick_elim (Move f x way m b) (is_full told x) (λ _. refuses _) (λ _. k)

  pub tested : (p : Bool) (r : Refusal) (a : Act) → (T p → Move f x way m b a) → Move f x way m b (pick p a (refuse r))
  tested p r a k = pick_elim (Move f x way m b) p k (λ _. refuses r)

  pub needed : (need : ℕ) (l : Vl) (a : Act) → (T (meets need l) → Move f x way m b a) → Move f x way m b (needing need l a)
  unfolding needing
  needed need l a k = tested (meets need l) _ a k

-- PR
module _ (told : Told) (x : Box) (way : EntryPoint) (m : List ℕ) (b : Body) (sane : tx_wrong (tx_of b) ≡ passed) where
  pr_vote : (e : Entry) → Prior x.table b (some e) → (v : Vote) → e.vote ≡ v → Move told.f x way m b (pr_by_vote told x b e v)
  unfolding pr_by_vote Holds cast vote_word word_in
  pr_vote e p vote_commit q = again (vote commit) e p (rw q) refl
  pr_vote e p (vote_abort r) q = again (vote abort) e p (rw q) refl
  pr_vote e p waiting q = casts (waiting_rule x b) _ (some e) p (rw q) (ready_waiting x b sane) (λ _. inr q)
  pr_vote e p unvoted q = let w = first_of told x b sane in casts (first_vote told x b) _ (some e) p (rw q) w.ready (λ k. inl (w.clear k))

  pr_decided : (e : Entry) → find (stamp_of b) x.table ≡ some e → e.body ≡ b → (o : Settled) → e.decided ≡ o
      → Move told.f x way m b (pr_by_decision told x b e o)
  unfolding pr_by_decision
  pr_decided e p s (settled d) q = tells d
  pr_decided e p s unsettled q = pr_vote e (own e p s q) e.vote refl

  pr_entry : (o : Option Entry) → find (stamp_of b) x.table ≡ o → Move told.f x way m b (pr_by_entry told x b o)
  unfolding pr_by_entry cast
  pr_entry none p = let w = first_of told x b sane in room told _ (casts (first_vote told x b) _ none (nothing p) refl w.ready (λ k. inl (w.clear k)))
  pr_entry (some e) p = tested (same_body e.body b) _ _ (λ s. pr_decided e p (same_body_eq e.body b s) e.decided refl)

  pub pr_move : Move told.f x way m b (pr_rule told x b)
  unfolding pr_rule
  pr_move = pr_entry (find (stamp_of b) x.table) refl

-- LG
module _ (told : Told) (x : Box) (way : EntryPoint) (m : List ℕ) (b : Body) (l : Vl) (w : Brings told.f way m b l) (k : kind_of l.kind ≡ votes)
    (h : list_wrong told.f l ≡ passed) where
  lg_log : (e : Entry) → Prior x.table b (some e) → (o : Log) → e.log ≡ o → Move told.f x way m b (lg_by_log told b l e o)
  unfolding lg_by_log Holds word_in
  lg_log e p (logged y) q = again (log y.decision y.view.0) e p q refl
  lg_log e p unlogged q =
      needed (for_logging told.f (decision_of l.decision)) l _ (λ n. logs_first l (some e) w k (record { formed = h; enough = n }) p q)

  lg_decided : (e : Entry) → find (stamp_of b) x.table ≡ some e → e.body ≡ b → (o : Settled) → e.decided ≡ o
      → Move told.f x way m b (lg_by_decision told b l e o)
  unfolding lg_by_decision
  lg_decided e p s (settled d) q = tells d
  lg_decided e p s unsettled q = lg_log e (own e p s q) e.log refl

  lg_entry : (o : Option Entry) → find (stamp_of b) x.table ≡ o → Move told.f x way m b (lg_by_entry told x b l o)
  unfolding lg_by_entry
  lg_entry none p =
      needed (for_logging told.f (decision_of l.decision)) l _
      (λ n. room told _ (logs_first l none w k (record { formed = h; enough = n }) (nothing p) refl))
  lg_entry (some e) p = tested (same_body e.body b) _ _ (λ s. lg_decided e p (same_body_eq e.body b s) e.decided refl)

  pub lg_move : Move told.f x way m b (lg_rule told x b l)
  unfolding lg_rule
  lg_move = lg_entry (find (stamp_of b) x.table) refl

-- DC
module _ (told : Told) (x : Box) (way : EntryPoint) (m : List ℕ) (b : Body) (l : Vl) (w : Arrives told.f way m b l) where
  dc_same_lem : (e : Entry) → find (stamp_of b) x.table ≡ some e → e.body ≡ b → (o : Settled) → e.decided ≡ o
      → Move told.f x way m b (dc_same b (decision_of l.decision) e o)
  unfolding dc_same word_in
  dc_same_lem e p s unsettled q = decides l (some e) w (own e p s q)
  dc_same_lem e p s (settled d) q = tested (same_decision d (decision_of l.decision)) _ _ (λ _. quiet refl)

  dc_other_lem : (e : Entry) → find (stamp_of b) x.table ≡ some e → (e.body ≡ b → ⊥) → (d : Decision) → decision_of l.decision ≡ d
      → (o : Settled) → e.decided ≡ o → Move told.f x way m b (dc_other b d o)
  unfolding dc_other
  dc_other_lem e p s abort r o q = refuses _
  dc_other_lem e p s commit r (settled commit) q = refuses _
  dc_other_lem e p s commit r (settled abort) q = replaces l e w (record { at = p; other = s; not_committed = λ h. absurd (abort_commit q h) }) r
  dc_other_lem e p s commit r unsettled q = replaces l e w (record { at = p; other = s; not_committed = λ h. un_settled q h }) r

  dc_entry : (o : Option Entry) → find (stamp_of b) x.table ≡ o → Move told.f x way m b (dc_by_entry told x b (decision_of l.decision) o)
  unfolding dc_by_entry
  dc_entry none p = room told _ (decides l none w (nothing p))
  dc_entry (some e) p =
      pick_elim (Move told.f x way m b) (same_body e.body b)
      (λ s. dc_same_lem e p (same_body_eq e.body b s) e.decided refl)
      (λ s. dc_other_lem e p (not_same e.body b s) (decision_of l.decision) refl e.decided refl)

pub dc_move : (told : Told) (x : Box) (way : EntryPoint) (m : List ℕ) (b : Body) (l : Vl) → Brings told.f way m b l → list_wrong told.f l ≡ passed → Move told.f x way m b (dc_rule told x b l)
unfolding dc_rule
dc_move told x way m b l w h =
    needed (for_proof told.f (kind_of l.kind) (decision_of l.decision)) l _
    (λ n. dc_entry told x way m b l (record { brings = w; listing = record { formed = h; enough = n } }) (find (stamp_of b) x.table) refl)
