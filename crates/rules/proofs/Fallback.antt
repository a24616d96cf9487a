-- IV and LD as moves.
use Prim.Native.Nat.{ℕ, suc, ◌*◌, ◌≤◌, ◌<◌, max}
use mathlib.Core.Bool.{not}
use mathlib.Core.Path.{◌≡◌, refl}
use mathlib.Core.Logic.{◌⊎◌, inl, inr}
use mathlib.Core.Option.{Option, some, none}
use mathlib.Core.List.{List, map}
use native.Mathlib.Omega.{arith}
use lib.Dec.{T, eqb, eqb→eq, leb, ltb, leb→le, ltb→lt}
use lib.ListN.{length}
use Rattle.terms.specs.Checks.{passed}
use Rattle.terms.specs.Choice.{any}
use Rattle.terms.specs.Group.{abort_list, commit_list, log_proof}
use Rattle.records.specs.declared.Ballot.{Ballot}
use Rattle.records.specs.Views.{Views, ballot_pair}
use Rattle.records.specs.Contents.{boxes_wrong}
use Rattle.rules.specs.Answers.{Log, Settled, log_view, logged, settled, unlogged, unsettled}
use Rattle.rules.specs.Bodies.{Body, same_body, stamp_of}
use Rattle.rules.specs.Lists.{tally}
use Rattle.rules.specs.Table.{Box, Told, Entry, find, log_in, view_in}
use Rattle.rules.specs.Calls.{Act}
use Rattle.rules.specs.Fallback.{ballot_view, largest_view, reached, by_few, by_many, next_view, iv_by_log, iv_by_decision, iv_by_entry, iv_rule}
use Rattle.rules.specs.Fallback.{one_view, leads, may_take, take_act, ld_by_decision, ld_by_entry, ld_rule}
use Rattle.rules.specs.Act.{EntryPoint}
use Rattle.rules.proofs.Laws.{pick_elim, and_l, and_r, ands, decide_t, not_any, same_body_eq}
use Rattle.rules.proofs.Quorums.{quorums}
use Rattle.rules.proofs.Moves.{Prior, Leads, Leading, Move, takes, elects}
use Rattle.rules.proofs.Called.{refuses, tells, nothing, own, room, tested}

-- IV: the current view never goes back
max_up : (m n : ℕ) → m ≤ max m n
max_up m n = omega arith

view_up : (f current : ℕ) (ps : List Ballot) → current ≤ next_view f current ps
unfolding next_view by_many by_few
view_up f current ps = many (reached (commit_list f) ps ps)
  where
    few : (o : Option ℕ) → current ≤ by_few current o
    few none = omega arith
    few (some v) = max_up current v

    many : (o : Option ℕ) → current ≤ by_many f current ps o
    many none = few (reached (abort_list f) ps ps)
    many (some v) = max_up current (suc v)

module _ (told : Told) (x : Box) (way : EntryPoint) (m : List ℕ) (b : Body) (ps : List Ballot) where
  iv_log : (e : Entry) → Prior x.table b (some e) → (o : Log) → e.log ≡ o → Move told.f x way m b (iv_by_log told b ps e o)
  unfolding iv_by_log
  iv_log e p unlogged q = refuses _
  iv_log e p (logged y) q =
      pick_elim (Move told.f x way m b) (ltb largest_view (next_view told.f (e.view).0 ps)) (λ _. refuses _)
      (λ _. elects told (next_view told.f (e.view).0 ps) e y.decision y.view p q (view_up told.f (e.view).0 ps))

  iv_decided : (e : Entry) → find (stamp_of b) x.table ≡ some e → e.body ≡ b → (o : Settled) → e.decided ≡ o
      → Move told.f x way m b (iv_by_decision told b ps e o)
  unfolding iv_by_decision
  iv_decided e p s (settled d) q = tells d
  iv_decided e p s unsettled q = iv_log e (own e p s q) e.log refl

  iv_entry : (o : Option Entry) → find (stamp_of b) x.table ≡ o → Move told.f x way m b (iv_by_entry told b ps o)
  unfolding iv_by_entry
  iv_entry none p = refuses _
  iv_entry (some e) p = tested (same_body e.body b) _ _ (λ s. iv_decided e p (same_body_eq e.body b s) e.decided refl)

pub iv_move : (told : Told) (x : Box) (way : EntryPoint) (m : List ℕ) (b : Body) (l : Views) → Move told.f x way m b (iv_rule told x b l)
unfolding iv_rule
iv_move told x way m b l = iv_entry told x way m b l.ballots (find (stamp_of b) x.table) refl

-- LD: what 23 leaves of the election answers
leading : (f : ℕ) (b : Body) (l : Views) → boxes_wrong f (map ballot_pair l.ballots) ≡ passed → T (leads f b l) → Leading f l
unfolding leads one_view
leading f b l w h =
    let n : T (eqb (length l.ballots) (log_proof f)) = search ands in
    let v : T (not (any (λ p. not (eqb (ballot_view p) l.view)) l.ballots)) = search ands in
    let k : T (ltb (length l.ballots) (2 * tally l.decision (map ballot_pair l.ballots))) = search ands in
    let g : log_proof f < 2 * tally l.decision (map ballot_pair l.ballots) =
    omega (arith, eqb→eq (length l.ballots) (log_proof f) n, ltb→lt (length l.ballots) (2 * tally l.decision (map ballot_pair l.ballots)) k) in
    record {
      formed = w;
      views = λ p i. same p (decide_t (eqb (ballot_view p) l.view)) (not_any (λ q. not (eqb (ballot_view q) l.view)) l.ballots v p i);
      most = (quorums f).more_than_half _ g;
    }
  where
    same : (p : Ballot) → T (eqb (ballot_view p) l.view) ⊎ T (not (eqb (ballot_view p) l.view)) → (T (not (eqb (ballot_view p) l.view)) → ⊥)
        → ballot_view p ≡ l.view
    same p (inl y) n = eqb→eq (ballot_view p) l.view y
    same p (inr y) n = absurd (n y)

module _ (told : Told) (x : Box) (way : EntryPoint) (m : List ℕ) (b : Body) (l : Views) (r : Leads told.f way m b l)
    (w : boxes_wrong told.f (map ballot_pair l.ballots) ≡ passed) where
  ld_take : (o : Option Entry) (a : Act)
      → (Leading told.f l → (view_in o).0 ≤ l.view → (log_view (log_in o)).0 < l.view → Move told.f x way m b a) → Move told.f x way m b (take_act told b l o a)
  unfolding take_act may_take
  ld_take o a g =
      tested (leads told.f b l) _ _
      (λ h. tested (may_take l.view o) _ _
      (λ k.
      g (leading told.f b l w h)
      (leb→le (view_in o).0 l.view (and_l (leb (view_in o).0 l.view) (ltb (log_view (log_in o)).0 l.view) k))
      (ltb→lt (log_view (log_in o)).0 l.view (and_r (leb (view_in o).0 l.view) (ltb (log_view (log_in o)).0 l.view) k))))

  ld_decided : (e : Entry) → find (stamp_of b) x.table ≡ some e → e.body ≡ b → (o : Settled) → e.decided ≡ o
      → Move told.f x way m b (ld_by_decision told b l e o)
  unfolding ld_by_decision
  ld_decided e p s (settled d) q = tells d
  ld_decided e p s unsettled q = ld_take (some e) _ (λ h u v. takes l (some e) r h (own e p s q) u v)

  ld_entry : (o : Option Entry) → find (stamp_of b) x.table ≡ o → Move told.f x way m b (ld_by_entry told x b l o)
  unfolding ld_by_entry
  ld_entry none p = ld_take none _ (λ h u v. room told _ (takes l none r h (nothing p) u v))
  ld_entry (some e) p = tested (same_body e.body b) _ _ (λ s. ld_decided e p (same_body_eq e.body b s) e.decided refl)

  pub ld_move : Move told.f x way m b (ld_rule told x b l)
  unfolding ld_rule
  ld_move = ld_entry (find (stamp_of b) x.table) refl
