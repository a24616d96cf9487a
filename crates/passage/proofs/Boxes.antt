-- What four RDs show of a passage.
use Prim.Native.Nat.{ℕ, ◌+◌, ◌*◌}
use mathlib.Core.Path.{◌≡◌, refl, sym}
use mathlib.Core.List.{Memᴰ as In}
use native.Mathlib.Omega.{arith}
use Rattle.terms.specs.Checks.{or_else}
use Rattle.terms.proofs.Checks.{pass, rest_none, less_no}
use Rattle.records.specs.Contents.{rd_wrong}
use Rattle.rules.specs.declared.Version.{Version}
use Rattle.rules.specs.Table.{Box, Entry, fold_at}
use Rattle.rules.specs.Calls.{newest, version_or, rd_answer}
use Rattle.rules.specs.Act.{table_after, folds_after, box_after}
use Rattle.passage.specs.Passages.{key_at, report_of, sight_by, sight_of, report_by, report_from, asks_wrong}
use Rattle.passage.specs.Register.{seen_in, report_in, Stands, AsksRight, AskedInTurn}
use Rattle.passage.proofs.Making.{asks_low}
use Rattle.passage.proofs.Newest.{Fits, committed}

-- the committed half at a key: what was found, or the fold
unfoldable pub shown : Box → ℕ → ℕ → Version
shown x k s = version_or k (fold_at x.folds k) (newest committed k s x.table)

pub seen_is : (x : Box) (p s : ℕ)
    → seen_in x p s ≡ record { train = shown x (key_at p 0) s; direction = shown x (key_at p 1) s; axles = shown x (key_at p 2) s; hot = shown x (key_at p 3) s }
unfolding seen_in rd_answer shown
seen_is x p s = refl

-- an RD always has halves: the report from the answers is the one of what they show
pub report_is : (x : Box) (p s : ℕ) → report_in x p s ≡ report_of p (seen_in x p s)
unfolding report_in report_from sight_of sight_by report_by seen_in rd_answer or_else
report_is x p s = refl

pub asks_right : AsksRight
unfolding asks_wrong rd_wrong
asks_right p s e i h = let low = asks_low p s e in sym (pass (less_no 511 (4 * p + i) _ (omega arith)) (sym (rest_none _ _ e)))

pub asked_in_turn : AskedInTurn
unfolding seen_in rd_answer box_after table_after folds_after
asked_in_turn x p s k t = refl

-- ---- a body that stands, as an entry and by itself
pub stands_of : (x : Box) {k s : ℕ} (e : Entry) → In e x.table → Fits k s e → Stands x e.body
stands_of x e i q = record { entry = e; inside = i; body = refl; committed = q.committed }
