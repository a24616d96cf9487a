-- The waiting rule: what a version read is, and the loop over the reads.
use Prim.Native.Nat.{ℕ, suc, ◌+◌, ◌-◌, ◌<◌, ◌≤◌, zero-le}
use native.Mathlib.Omega.{arith}
use native.Mathlib.Nat.{sub-zero}
use mathlib.Core.Path.{◌≡◌, refl, sym, ◌∙◌}
use mathlib.Core.List.{List, [], ◌∷◌}
use mathlib.Core.Bool.{Bool, true, false, ◌||◌, false≢true}
use mathlib.Core.Option.{Option, some, none}
use borrow.Author.Tests.{eq-eqb, ne_eqb, le-leb, lt-leb}
use lib.Dec.{eqb}
use lib.ListN.{get_or}
use Rattle.terms.specs.Choice.{pick, tab, any}
use Rattle.terms.specs.declared.Decision.TheVariants.{Commit as commit, Abort as abort}
use Rattle.records.specs.declared.Read.{Read}
use Rattle.records.specs.Tx.{read_key, read_version}
use Rattle.rules.specs.declared.Reason.TheVariants.{Dependency}
use Rattle.rules.specs.declared.Vote.TheVariants.{Waiting as waiting, Commit as vote_commit, Abort as vote_abort}
use Rattle.rules.specs.Answers.{Settled, settled, unsettled}
use Rattle.rules.specs.declared.Version.{Version}
use Rattle.rules.specs.Bodies.{Body, reads_of, writes_key}
use Rattle.rules.specs.Table.{Box, Entry, find, fold_at}
use Rattle.rules.specs.Tests.{Status, bad, pending, fine, is_bad, is_folded, is_low, is_pending, status_by, status_folded, status_of, status, waiting_rule}
use Rattle.table.specs.Table.{row_tx, state_at, entry_with, entry_of, decided_at, settled_of}
use Rattle.table.proofs.Bodies.{body_writes_key}
use Rattle.scans.specs.declared.Standing.{Standing}
use Rattle.scans.specs.declared.Standing.TheVariants.{Fine, Pending, Bad}
use Rattle.scans.specs.Scans.{low_standing, looked, standing_of, vote_by, worse, worst}
use Rattle.scans.proofs.Outcomes.{any_same}

-- ---- one version read
module _ (k : ℕ) (r : List ℕ) where
  by_codes : (w : Bool) (d : Settled) → (entry_of r).decided ≡ d → writes_key (row_tx r) k ≡ w → standing_of (status_by w d) ≡ standing_of (status_of k (some (entry_of r)))
  unfolding status_of
  by_codes w d e p = rw (body_writes_key r k, e, p)

  pub decided_as : (d : ℕ) → get_or r decided_at 0 ≡ d → (entry_of r).decided ≡ settled_of d
  unfolding entry_of entry_with state_at
  decided_as d e = rw e

  pub undecided_as : (get_or r decided_at 0 ≡ 1 → ⊥) → (get_or r decided_at 0 ≡ 2 → ⊥) → (entry_of r).decided ≡ unsettled
  unfolding entry_of entry_with state_at
  undecided_as p q = rw (ne_eqb (get_or r decided_at 0) 1 p, ne_eqb (get_or r decided_at 0) 2 q)

  module _ (e : get_or r decided_at 0 ≡ 1) where
    pub status_commit : writes_key (row_tx r) k ≡ true → Fine ≡ standing_of (status_of k (some (entry_of r)))
    unfolding status_by
    status_commit p = by_codes true (settled commit) (decided_as 1 e) p

    pub status_lacks : writes_key (row_tx r) k ≡ false → Bad ≡ standing_of (status_of k (some (entry_of r)))
    unfolding status_by
    status_lacks p = by_codes false (settled commit) (decided_as 1 e) p

  pub status_abort : get_or r decided_at 0 ≡ 2 → Bad ≡ standing_of (status_of k (some (entry_of r)))
  unfolding status_by
  status_abort e = by_codes (writes_key (row_tx r) k) (settled abort) (decided_as 2 e) refl

  pub status_open : (get_or r decided_at 0 ≡ 1 → ⊥) → (get_or r decided_at 0 ≡ 2 → ⊥) → Pending ≡ standing_of (status_of k (some (entry_of r)))
  unfolding status_by
  status_open p q = by_codes (writes_key (row_tx r) k) unsettled (undecided_as p q) refl

-- at or below the low mark: by the folds alone
pub low_fine : (folds : List Version) (r : Read) → read_version r ≡ 0 → Fine ≡ low_standing folds r
unfolding low_standing
low_fine folds r h = rw (eq-eqb (read_version r) 0 h)

module _ (folds : List Version) (r : Read) (h : read_version r ≡ 0 → ⊥) (g : Version) (e : g ≡ fold_at folds (read_key r)) where
  pub low_folded : g.stamp.0 ≡ read_version r → Fine ≡ low_standing folds r
  unfolding low_standing
  low_folded p = rw (ne_eqb (read_version r) 0 h, ← e, eq-eqb g.stamp.0 (read_version r) p)

  pub low_other : (g.stamp.0 ≡ read_version r → ⊥) → Bad ≡ low_standing folds r
  unfolding low_standing
  low_other p = rw (ne_eqb (read_version r) 0 h, ← e, ne_eqb g.stamp.0 (read_version r) p)

-- looked up, as `by` says of the entry held, or of none
module _ (by : Option Entry → Standing) (x : Box) (r : Read) where
  pub looked_low : {y : Standing} → read_version r ≤ x.low → y ≡ low_standing x.folds r → y ≡ looked by x r
  unfolding looked low_standing is_low is_folded
  looked_low h e = e ∙ (rw (le-leb (read_version r) x.low h))

  module _ (h : x.low < read_version r) where
    some_version : read_version r ≡ 0 → ⊥
    some_version e = omega arith

    pub looked_free : by none ≡ Bad → find (read_version r) x.table ≡ none → Bad ≡ looked by x r
    unfolding looked is_low
    looked_free b e = rw (ne_eqb (read_version r) 0 some_version, lt-leb (read_version r) x.low h, e, b)

    pub looked_held : (q : List ℕ) {y : Standing} → find (read_version r) x.table ≡ some (entry_of q) → y ≡ by (some (entry_of q)) → y ≡ looked by x r
    unfolding looked is_low
    looked_held q e p = p ∙ (rw (ne_eqb (read_version r) 0 some_version, lt-leb (read_version r) x.low h, e))

-- the waiting rule of a version read, looked up so
abbrev pub by_status : ℕ → Option Entry → Standing
by_status k o = standing_of (status_of k o)

pub by_status_none : (k : ℕ) → by_status k none ≡ Bad
unfolding status_of
by_status_none k = refl

pub looked_status : (x : Box) (r : Read) → looked (by_status (read_key r)) x r ≡ standing_of (status x r)
unfolding looked status status_folded
looked_status x r = by (eqb (read_version r) 0) (is_low x r) (is_folded x r)
  where
    by : (z o f : Bool) → pick z Fine (pick o (pick f Fine Bad) (standing_of (status_of (read_key r) (find (read_version r) x.table))))
        ≡ standing_of (pick z fine (pick o (pick f fine bad) (status_of (read_key r) (find (read_version r) x.table))))
    by true o f = refl
    by false true true = refl
    by false true false = refl
    by false false f = refl

-- ---- the loop: what is left from j on, with d of what stood before, is the worst of the whole, W
pub record Worst (f : Read → Standing) (g : ℕ → Read) (n : ℕ) (W d : Standing) (j : ℕ) : Type 0 where
  pub within : j ≤ n
  pub same : worst f d (tab g j (n - j)) ≡ W

abbrev pub fails : Standing → Bool
fails Fine = false
fails Pending = false
fails Bad = true

abbrev pub waits : Standing → Bool
waits Fine = false
waits Pending = true
waits Bad = false

abbrev whole : Bool → Bool → Standing
whole u p = pick u Bad (pick p Pending Fine)

module _ (f : Read → Standing) where
  -- the worst is bad where one is, else undecided where one is
  pub worst_is : (d : Standing) (rs : List Read) → worst f d rs ≡ whole (fails d || any (λ r. fails (f r)) rs) (waits d || any (λ r. waits (f r)) rs)
  unfolding worst
  worst_is Fine [] = refl
  worst_is Pending [] = refl
  worst_is Bad [] = refl
  worst_is d (r ∷ rs) = worst_is (worse d (f r)) rs ∙ by d (f r) (any (λ r. fails (f r)) rs) (any (λ r. waits (f r)) rs)
    where
      by : (d s : Standing) (u p : Bool) → whole (fails (worse d s) || u) (waits (worse d s) || p) ≡ whole (fails d || (fails s || u)) (waits d || (waits s || p))
      by Fine s u p = refl
      by Pending Fine u p = refl
      by Pending Pending u p = refl
      by Pending Bad u p = refl
      by Bad s u p = refl

  -- and as another rule has it, where both say the same of each read that fails no test w
  pub worst_same : (g : Read → Standing) (w : Read → Bool) → ((r : Read) → w r ≡ false → f r ≡ g r) → (d : Standing) (rs : List Read) → any w rs ≡ false → worst f d rs ≡ worst g d rs
  unfolding worst
  worst_same g w h d [] e = refl
  worst_same g w h d (r ∷ rs) e = by (w r) refl e (worst_same g w h (worse d (f r)) rs)
    where
      by : (c : Bool) → w r ≡ c → (c || any w rs) ≡ false → (any w rs ≡ false → worst f (worse d (f r)) rs ≡ worst g (worse d (f r)) rs)
          → worst f (worse d (f r)) rs ≡ worst g (worse d (g r)) rs
      by true p z k = absurd (false≢true (sym z))
      by false p z k = rw (← h r p) (k z)

  bad_stays : (rs : List Read) → Bad ≡ worst f Bad rs
  unfolding worst
  bad_stays [] = refl
  bad_stays (q ∷ rs) = bad_stays rs

worse_bad : (d : Standing) → worse d Bad ≡ Bad
worse_bad Fine = refl
worse_bad Pending = refl
worse_bad Bad = refl

module _ {f : Read → Standing} {g : ℕ → Read} {n : ℕ} {W : Standing} where
  pub worst_begin : worst f Fine (tab g 0 n) ≡ W → Worst f g n W Fine 0
  worst_begin e = record { within = zero-le; same = rw sub-zero e }

  module _ {d : Standing} {j : ℕ} (r : Worst f g n W d j) where
    step : j < n → worst f d (tab g j (n - j)) ≡ worst f (worse d (f (g j))) (tab g (j + 1) (n - (j + 1)))
    unfolding worst
    step h = let e : n - j ≡ suc (n - (j + 1)) = omega arith in rw e

    pub worst_go : {y v : Standing} → j < n → y ≡ f (g j) → v ≡ worse d y → Worst f g n W v (j + 1)
    worst_go h e p = record { within = omega arith; same = rw (p, e) (sym (step h) ∙ r.same) }

    pub worst_stop : {y : Standing} → j < n → y ≡ f (g j) → y ≡ Bad → Bad ≡ W
    worst_stop h e p = bad_stays f (tab g (j + 1) (n - (j + 1))) ∙ (rw (sym e ∙ p, worse_bad d) at (sym (step h) ∙ r.same))

    pub worst_end : n ≤ j → d ≡ W
    unfolding worst
    worst_end h = let e : n - j ≡ 0 = omega arith in rw e at r.same

-- the waiting rule is the vote by the worst
fails_said : (s : Status) → fails (standing_of s) ≡ is_bad s
fails_said bad = refl
fails_said pending = refl
fails_said fine = refl

waits_said : (s : Status) → waits (standing_of s) ≡ is_pending s
waits_said bad = refl
waits_said pending = refl
waits_said fine = refl

pub waiting_is : (x : Box) (b : Body) → vote_by (worst (λ r. standing_of (status x r)) Fine (reads_of b)) ≡ waiting_rule x b
unfolding waiting_rule
waiting_is x b =
    rw (
      worst_is (λ r. standing_of (status x r)) Fine (reads_of b),
      any_same (λ r. fails (standing_of (status x r))) (λ r. is_bad (status x r)) (λ r. fails_said (status x r)) (reads_of b),
      any_same (λ r. waits (standing_of (status x r))) (λ r. is_pending (status x r)) (λ r. waits_said (status x r)) (reads_of b),
    )
    (by (any (λ r. is_bad (status x r)) (reads_of b)) (any (λ r. is_pending (status x r)) (reads_of b)))
  where
    by : (u p : Bool) → vote_by (whole u p) ≡ pick u (vote_abort Dependency) (pick p waiting vote_commit)
    by true p = refl
    by false true = refl
    by false false = refl
