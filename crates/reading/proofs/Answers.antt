-- What was read from bytes is told whole.
use Rattle.std.proofs.Common.{ℕ, ◌≡◌, List, Ok}
use Rattle.terms.specs.Checks.{passed}
use Rattle.terms.proofs.Checks.{first_passed}
use Rattle.records.specs.declared.Transaction.{Transaction}
use Rattle.records.specs.Tx.{tx_of}
use Rattle.records.specs.Contents.{tx_wrong}
use Rattle.reading.specs.Judging.{tx_behind}
use Rattle.records.specs.declared.ViewMark.{ViewMark}
use Rattle.records.specs.Vl.{view_of, vl_of, list_in, held_list}
use Rattle.records.specs.Views.{OwnViews, views_of, views_in, held_views}
use Rattle.records.specs.Cutting.{tx_part, list_part}
use Rattle.records.specs.Messages.{list_behind, views_behind}
use Rattle.records.proofs.Held.{own_view, own_views_lem, list_in_lem, views_in_lem}

-- the view of the list behind a transaction is that of its kind; the views are all told
pub behind_view : (m : List ℕ) → view_of (list_behind m).kind (list_behind m).view ≡ (list_behind m).view
unfolding list_behind
behind_view m = own_view (list_part m)

pub behind_own : (k : ViewMark) (m : List ℕ) → OwnViews k (views_behind k m)
unfolding views_behind
behind_own k m = own_views_lem k (list_part m)

-- so a struct holds all of it
pub vl_told : (s : List ℕ) → list_in (held_list (vl_of s)) ≡ vl_of s
vl_told s = list_in_lem (vl_of s) (own_view s)

pub views_of_told : (k : ViewMark) (s : List ℕ) → views_in k (held_views (views_of k s)) ≡ views_of k s
views_of_told k s = views_in_lem k (views_of k s) (own_views_lem k s)

pub list_told : (m : List ℕ) → list_in (held_list (list_behind m)) ≡ list_behind m
list_told m = list_in_lem (list_behind m) (behind_view m)

pub views_told : (k : ViewMark) (m : List ℕ) → views_in k (held_views (views_behind k m)) ≡ views_behind k m
views_told k m = views_in_lem k (views_behind k m) (behind_own k m)

-- the transaction that was read passed
pub tx_ok : (m : List ℕ) {x : Transaction} → tx_behind m ≡ Ok x → tx_wrong (tx_of (tx_part m)) ≡ passed
tx_ok m e = first_passed (tx_wrong (tx_of (tx_part m))) _ _ e
