-- What the tests and the waiting rule leave true. With Called and Deeds all that the theorem knows of the rules.
use Prim.Native.Nat.{ℕ, ◌≤◌, ◌<◌}
use mathlib.Core.Bool.{false, not, ◌&&◌}
use mathlib.Core.Path.{◌≡◌, refl}
use mathlib.Core.Logic.{◌⊎◌, inl, inr}
use mathlib.Core.Option.{Option, some, none}
use mathlib.Core.List.{Memᴰ as In}
use native.Mathlib.Omega.{arith}
use lib.Dec.{T, eqb, eqb→eq, leb, nleb→lt, nltb→le, not_T}
use Rattle.terms.specs.Checks.{passed}
use Rattle.terms.specs.Choice.{any}
use Rattle.terms.proofs.Checks.{first_none, rest_none, when_none}
use Rattle.records.specs.declared.Read.{Read}
use Rattle.records.specs.Tx.{tx_of, read_key, read_version}
use Rattle.records.specs.Contents.{tx_wrong, too_new, largest_key, read_wide}
use Rattle.rules.specs.Answers.{commit, abort, Reason, Ahead, NoVersion, Overwritten, Undercuts, ReadMark, Dependency, Vote, waiting, Settled, settled, unsettled}
use Rattle.rules.specs.Answers.{vote_commit, vote_abort}
use Rattle.rules.specs.Bodies.{Body, stamp_of, reads_of, writes_key}
use Rattle.rules.specs.Table.{Entry, Box, Told, find, folded_at, live}
use Rattle.rules.specs.Tests.{test1, test2, undercut, test3, test4, test5, Status, status_by, status_of, status, is_bad, is_pending, waiting_rule}
use Rattle.rules.specs.Tests.{fold_above, first_vote, is_folded, is_low, status_folded}
use Rattle.rules.proofs.Laws.{pick_elim, both, decide_t, no_both, nor_l, nor_r, any_of, not_any}
use Rattle.rules.proofs.Moves.{stands, Committed, Names, start, here_held, here_folded, Ready, Clear}

not_commit : (r : Reason) {A : Type 0} → ◌≡◌ {A = Vote} (vote_abort r) vote_commit → A
not_commit r p = let z : ◌≡◌ {A = ℕ} 0 1 = cc in absurd (omega arith)

not_waiting : {A : Type 0} → ◌≡◌ {A = Vote} waiting vote_commit → A
not_waiting p = let z : ◌≡◌ {A = ℕ} 0 1 = cc in absurd (omega arith)

-- 5: the keys of a transaction that is read without refusal
keys_of : (b : Body) → tx_wrong (tx_of b) ≡ passed → (r : Read) → In r (reads_of b) → read_key r ≤ largest_key
unfolding tx_wrong reads_of
keys_of b h r m = past (decide_t (read_wide r)) (when_none _ _ (first_none _ _ (rest_none _ _ h)))
  where
    past : T (read_wide r) ⊎ T (not (read_wide r)) → any read_wide (reads_of b) ≡ false → read_key r ≤ largest_key
    past (inl k) n = absurd (rw n at (any_of read_wide (reads_of b) r m k))
    past (inr k) n = nltb→le largest_key (read_key r) k

-- 7: what a transaction that is read without refusal names
below_of : (b : Body) → tx_wrong (tx_of b) ≡ passed → (r : Read) → In r (reads_of b) → read_version r < stamp_of b
unfolding tx_wrong reads_of stamp_of
below_of b h r m =
    past (decide_t (leb (stamp_of b) (read_version r)))
    (when_none _ _ (rest_none _ _ (rest_none _ _ (rest_none _ _ (rest_none _ _ (rest_none _ _ h))))))
  where
    past : T (leb (stamp_of b) (read_version r)) ⊎ T (not (leb (stamp_of b) (read_version r))) → any (too_new (stamp_of b)) (reads_of b) ≡ false
        → read_version r < stamp_of b
    past (inl k) n = absurd (rw n at (any_of (too_new (stamp_of b)) (reads_of b) r m k))
    past (inr k) n = nleb→lt (stamp_of b) (read_version r) k

-- the waiting rule
settled_by : (x : Box) (r : Read) (o : Option Entry) → find (read_version r) x.table ≡ o → (T (is_bad (status_of (read_key r) o)) → ⊥)
    → (T (is_pending (status_of (read_key r) o)) → ⊥) → Committed x r
unfolding status_of status_by
settled_by x r none e nb np = absurd (nb tt)
settled_by x r (some y) e nb np = go y.decided refl nb np
  where
    go : (o : Settled) → y.decided ≡ o → (T (is_bad (status_by (writes_key y.body (read_key r)) o)) → ⊥)
        → (T (is_pending (status_by (writes_key y.body (read_key r)) o)) → ⊥) → Committed x r
    go unsettled q u v = absurd (v tt)
    go (settled abort) q u v = absurd (u tt)
    go (settled commit) q u v =
        pick_elim (λ (s : Status). (T (is_bad s) → ⊥) → Committed x r) (writes_key y.body (read_key r))
        (λ w u'. record { entry = y; at = e; committed = q; writes = w })
        (λ w u'. absurd (u' tt))
        u

settled_of_lem : (x : Box) (r : Read) → (T (is_bad (status x r)) → ⊥) → (T (is_pending (status x r)) → ⊥) → Names x r
unfolding status status_folded is_folded
settled_of_lem x r =
    pick_elim P (eqb (read_version r) 0) (λ k u v. start (eqb→eq (read_version r) 0 k))
    (λ _. pick_elim P (is_low x r)
    (λ _. pick_elim P (is_folded x r) (λ k u v. here_folded (eqb→eq _ _ k)) (λ _ u v. absurd (u tt)))
    (λ _ u v. here_held (settled_by x r (find (read_version r) x.table) refl u v)))
  where
    P : Status → Type 0
    P s = (T (is_bad s) → ⊥) → (T (is_pending s) → ⊥) → Names x r

ready_abort : (x : Box) (b : Body) (n : Reason) → tx_wrong (tx_of b) ≡ passed → Ready x b (vote_abort n)
ready_abort x b n h = record { below = below_of b h; settled = λ p. not_commit n p }

pub ready_waiting : (x : Box) (b : Body) → tx_wrong (tx_of b) ≡ passed → Ready x b (waiting_rule x b)
unfolding waiting_rule
ready_waiting x b h =
    pick_elim (Ready x b) (any (λ r. is_bad (status x r)) (reads_of b))
    (λ _. ready_abort x b Dependency h)
    (λ nb. pick_elim (Ready x b) (any (λ r. is_pending (status x r)) (reads_of b))
    (λ _. record { below = below_of b h; settled = λ p. not_waiting p })
    (λ np. record {
      below = below_of b h;
      settled = λ p r m.
          settled_of_lem x r (not_any (λ q. is_bad (status x q)) (reads_of b) nb r m) (not_any (λ q. is_pending (status x q)) (reads_of b) np r m);
    }))

-- the first vote
pub record First (x : Box) (b : Body) (v : Vote) : Type 0 where
  pub ready : Ready x b v
  pub clear : T (stands v) → Clear x b

first_abort : (x : Box) (b : Body) (n : Reason) → tx_wrong (tx_of b) ≡ passed → First x b (vote_abort n)
unfolding stands
first_abort x b n h = record { ready = ready_abort x b n h; clear = λ s. absurd s }

clear_of : (x : Box) (b : Body) → tx_wrong (tx_of b) ≡ passed → T (not (test3 x b)) → T (not (test4 x b)) → T (not (test5 x b)) → Clear x b
unfolding test3 test4 fold_above
clear_of x b w h k n = record {
  under = λ e m l u. not_any (λ y. live y && undercut b y.body) x.table none_under e m (both (live e) (undercut b e.body) l u);
  over = λ e m l u. not_any (λ y. live y && undercut y.body b) x.table k e m (both (live e) (undercut e.body b) l u);
  unread = λ u. no_both (test5 x b) u n;
  folds = λ r m. nltb→le (read_version r) (folded_at x (read_key r)) (not_T (fold_above x r) (not_any (fold_above x) (reads_of b) none_folded r m));
  keys = keys_of b w;
}
  where
    none_folded : T (not (any (fold_above x) (reads_of b)))
    none_folded = nor_l (any (fold_above x) (reads_of b)) (any (λ e. live e && undercut b e.body) x.table) h

    none_under : T (not (any (λ e. live e && undercut b e.body) x.table))
    none_under = nor_r (any (fold_above x) (reads_of b)) (any (λ e. live e && undercut b e.body) x.table) h

pub first_of : (told : Told) (x : Box) (b : Body) → tx_wrong (tx_of b) ≡ passed → First x b (first_vote told x b)
unfolding first_vote
first_of told x b h =
    pick_elim P (test1 told b) (λ _. first_abort x b Ahead h)
    (λ _. pick_elim P (test2 x b) (λ _. first_abort x b NoVersion h)
    (λ _. pick_elim P (test3 x b) (λ _. first_abort x b Overwritten h)
    (λ u. pick_elim P (test4 x b) (λ _. first_abort x b Undercuts h)
    (λ o. pick_elim P (test5 x b) (λ _. first_abort x b ReadMark h)
    (λ n. record { ready = ready_waiting x b h; clear = λ _. clear_of x b h u o n })))))
  where
    P : Vote → Type 0
    P = First x b
