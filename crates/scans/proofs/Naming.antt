-- Test 2 and the waiting rule by one look-up for each version read.
use Prim.Native.Nat.{ℕ}
use mathlib.Core.Path.{◌≡◌, refl, sym, ap, ◌∙◌}
use mathlib.Core.List.{List}
use mathlib.Core.Bool.{Bool, true, false, not, ◌&&◌, false≢true}
use mathlib.Core.Option.{Option, some, none}
use lib.Dec.{eqb}
use lib.ListN.{get_or}
use Rattle.terms.specs.Choice.{pick, any}
use Rattle.terms.specs.declared.Decision.TheVariants.{Commit as commit, Abort as abort}
use Rattle.records.specs.declared.Read.{Read}
use Rattle.records.specs.Tx.{read_key, read_version}
use Rattle.rules.specs.declared.Vote.{Vote}
use Rattle.rules.specs.Answers.{Settled, settled, unsettled}
use Rattle.rules.specs.Bodies.{Body, reads_of, writes_key}
use Rattle.rules.specs.Table.{Box, Entry, find, live, live_by}
use Rattle.rules.specs.Tests.{Status, bad, pending, fine, is_bad, is_folded, is_low, is_pending, live_writer, names, names_none, status_by, status_folded, status_of, status}
use Rattle.rules.specs.Tests.{test2, waiting_rule}
use Rattle.table.specs.Table.{row_tx, entry_of, decided_at}
use Rattle.table.proofs.Bodies.{body_writes_key}
use Rattle.scans.specs.declared.Standing.{Standing}
use Rattle.scans.specs.declared.Standing.TheVariants.{Fine, Pending, Bad}
use Rattle.scans.specs.Scans.{looked, named_by, named, standing_of, vote_by, worst}
use Rattle.scans.proofs.Outcomes.{any_same}
use Rattle.scans.proofs.Waiting.{decided_as, undecided_as, fails, waits, worst_is, worst_same, waiting_is}

-- ---- a version held, by its outcomes
pub named_none : (k : ℕ) → named_by k none ≡ Bad
unfolding named_by live_writer
named_none k = refl

module _ (k : ℕ) (r : List ℕ) where
  aborted_dead : get_or r decided_at 0 ≡ 2 → live (entry_of r) ≡ false
  unfolding live live_by
  aborted_dead e = rw (decided_as k r 2 e)

  pub writer_dead : live (entry_of r) ≡ false → Bad ≡ named_by k (some (entry_of r))
  unfolding named_by live_writer
  writer_dead d = rw d

  module _ (l : live (entry_of r) ≡ true) where
    pub writer_lacks : writes_key (row_tx r) k ≡ false → Bad ≡ named_by k (some (entry_of r))
    unfolding named_by live_writer
    writer_lacks p = rw (l, body_writes_key r k, p)

    module _ (p : writes_key (row_tx r) k ≡ true) where
      pub writer_committed : get_or r decided_at 0 ≡ 1 → Fine ≡ named_by k (some (entry_of r))
      unfolding named_by live_writer status_of status_by
      writer_committed e = rw (l, body_writes_key r k, p, decided_as k r 1 e)

      pub writer_open : (get_or r decided_at 0 ≡ 1 → ⊥) → Pending ≡ named_by k (some (entry_of r))
      unfolding named_by live_writer status_of status_by
      writer_open h = rw (l, body_writes_key r k, p, undecided_as k r h (λ e. false≢true (sym (aborted_dead e) ∙ l)))

-- ---- what it tells of test 2 and of the waiting rule
-- a live writer of the key is never bad
held_right : (k : ℕ) (o : Option Entry) → live_writer k o ≡ true → is_bad (status_of k o) ≡ false
unfolding live_writer status_of status_by live live_by
held_right k none q = absurd (false≢true q)
held_right k (some e) q = by e.decided e.vote (writes_key e.body k) q
  where
    by : (d : Settled) (v : Vote) (w : Bool) → (live_by d v && w) ≡ true → is_bad (status_by w d) ≡ false
    by unsettled v w q = refl
    by (settled abort) v w q = absurd (false≢true q)
    by (settled commit) v true q = refl
    by (settled commit) v false q = absurd (false≢true q)

module _ (x : Box) (r : Read) where
  abbrev held : Bool
  held = live_writer (read_key r) (find (read_version r) x.table)

  abbrev found_as : Status
  found_as = status_of (read_key r) (find (read_version r) x.table)

  named_fails : fails (named x r) ≡ names_none x r
  unfolding looked named_by names
  named_fails = by (eqb (read_version r) 0) (is_low x r) (is_folded x r) held (is_pending found_as)
    where
      by : (z o f l w : Bool) → fails (pick z Fine (pick o (pick f Fine Bad) (pick l (pick w Pending Fine) Bad))) ≡ (not z && not (pick o f l))
      by true o f l w = refl
      by false true true l w = refl
      by false true false l w = refl
      by false false f true true = refl
      by false false f true false = refl
      by false false f false w = refl

  named_status : names_none x r ≡ false → named x r ≡ standing_of (status x r)
  unfolding looked named_by names status status_folded
  named_status = by (eqb (read_version r) 0) (is_low x r) (is_folded x r) held found_as (held_right (read_key r) (find (read_version r) x.table))
    where
      by : (z o f l : Bool) (s : Status) → (l ≡ true → is_bad s ≡ false) → (not z && not (pick o f l)) ≡ false
          → pick z Fine (pick o (pick f Fine Bad) (pick l (pick (is_pending s) Pending Fine) Bad)) ≡ standing_of (pick z fine (pick o (pick f fine bad) s))
      by true o f l s h e = refl
      by false true true l s h e = refl
      by false true false l s h e = absurd (false≢true (sym e))
      by false false f true bad h e = absurd (false≢true (sym (h refl)))
      by false false f true pending h e = refl
      by false false f true fine h e = refl
      by false false f false s h e = absurd (false≢true (sym e))

not_bad : (s : Standing) → (s ≡ Bad → ⊥) → false ≡ fails s
not_bad Fine g = refl
not_bad Pending g = refl
not_bad Bad g = absurd (g refl)

module _ (x : Box) (r : Read) where
  pub named_bad : named x r ≡ Bad → names_none x r ≡ true
  named_bad e = sym (named_fails x r) ∙ ap fails e

  pub named_ok : (named x r ≡ Bad → ⊥) → names_none x r ≡ false
  named_ok h = sym (named_fails x r) ∙ sym (not_bad (named x r) h)

-- ---- what the worst of all says
module _ (x : Box) (b : Body) {y : Standing} (e : y ≡ worst (named x) Fine (reads_of b)) where
  fails_is : fails y ≡ test2 x b
  unfolding test2
  fails_is =
      ap fails (e ∙ worst_is (named x) Fine (reads_of b))
      ∙ by (any (λ r. fails (named x r)) (reads_of b)) (any (λ r. waits (named x r)) (reads_of b))
      ∙ any_same (λ r. fails (named x r)) (names_none x) (named_fails x) (reads_of b)
    where
      by : (u p : Bool) → fails (pick u Bad (pick p Pending Fine)) ≡ u
      by true p = refl
      by false true = refl
      by false false = refl

  pub fails_2 : y ≡ Bad → true ≡ test2 x b
  fails_2 p = sym (ap fails p) ∙ fails_is

  module _ (h : y ≡ Bad → ⊥) where
    pub passes_2 : false ≡ test2 x b
    passes_2 = not_bad y h ∙ fails_is

    pub then_votes : vote_by y ≡ waiting_rule x b
    unfolding test2
    then_votes =
        ap vote_by (e ∙ worst_same (named x) (λ r. standing_of (status x r)) (names_none x) (named_status x) Fine (reads_of b) (sym passes_2))
        ∙ waiting_is x b
