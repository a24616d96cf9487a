-- A11, "Let old entries go": raising the low mark, what it folds and what it drops. Refusal 19 stands here.
use Rattle.std.specs.Prelude.{ℕ, suc, Bool, ◌&&◌, List, [], ◌∷◌, leb, ltb}
use Rattle.std.proofs.Math.Option.{Option, some, none}
use Rattle.terms.specs.Checks.{Check, or_else, when, undecided}
use Rattle.terms.specs.Choice.{any, pick, tab}
use Rattle.rules.specs.Answers.{Raised, Version}
use Rattle.rules.specs.Bodies.{stamp_of}
use Rattle.rules.specs.Table.{Box, Entry, fold_at}
use Rattle.rules.specs.Calls.{Act, guarded, is_committed, is_undecided, newest, old_wrong, raises_low, version_or}

-- "at or below L"
unfoldable pub up_to : ℕ → Entry → Bool
up_to l e = leb (stamp_of e.body) l

-- "Every held entry at or below L must be decided."
unfoldable pub open_up_to : ℕ → Entry → Bool
open_up_to l e = up_to l e && is_undecided e.decided

-- "18 .. for an L not above the present one"; "19 undecided, after 18"
unfoldable pub low_wrong : Box → ℕ → Check
low_wrong x l = or_else (old_wrong x.low l) (when (any (open_up_to l) x.table) undecided)

-- "A low mark L may be raised"
unfoldable pub low_rule : Box → ℕ → Act
low_rule x l = guarded (low_wrong x l) (record { answer = Raised; change = raises_low l })

-- "the newest": of what was folded before and of a writer found now
unfoldable pub newer_fold : ℕ → Version → Option Entry → Version
newer_fold k g none = g
newer_fold k g (some e) = pick (ltb g.stamp.0 (stamp_of e.body)) (version_or k g (some e)) g

-- "Committed ones fold into one version and value per key, the newest"
unfoldable pub fold_up_to : ℕ → List Entry → List Version → ℕ → Version
fold_up_to l t folds k = newer_fold k (fold_at folds k) (newest (λ e. is_committed e.decided) k (suc l) t)

unfoldable pub folds_up_to : ℕ → List Entry → List Version → List Version
folds_up_to l t folds = tab (fold_up_to l t folds) 0 512

-- "those and the aborted ones are dropped .., the rest staying in order"
unfoldable pub above : ℕ → List Entry → List Entry
above l [] = []
above l (e ∷ es) = pick (up_to l e) (above l es) (e ∷ above l es)
