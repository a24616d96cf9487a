-- "VL": its bytes and its value.
use Rattle.std.specs.Prelude.{ℕ, ◌+◌, ◌*◌, ◌-◌, ◌≤◌, List, [], ◌∷◌, ◌++◌, eqb, length, get_or, replicate}
use Rattle.terms.specs.Choice.{pick, tab}
use Rattle.records.specs.Numbers.{num_at, le_bytes}
use Rattle.records.specs.declared.Pair.{Pair}
use Rattle.records.specs.declared.VoteList.{VoteList}

-- a list: "kind (1 votes, 2 logs), decision (1 commit, 2 abort), .. pairs of box number and answer (1 or 2)"; A5: "a list of kind 2 carries its view"
pub record Vl : Type 0 where
  pub kind : ℕ
  pub decision : ℕ
  pub view : ℕ
  pub pairs : List Pair

abbrev pub mark_vl : List ℕ
mark_vl = 86 ∷ 76 ∷ []

-- "count"
abbrev pub vl_count : List ℕ → ℕ
vl_count s = get_or s 4 0

-- A5: "its view, two bytes, after the count", of a list of kind 2; another kind is cut without one
unfoldable pub view_len : ℕ → ℕ
view_len kind = pick (eqb kind 2) 2 0

-- the view of a list: 0 where the kind has none
unfoldable pub view_of : ℕ → ℕ → ℕ
view_of kind v = pick (eqb kind 2) v 0

-- where the pairs begin
abbrev pub pairs_from : List ℕ → ℕ
pairs_from s = 5 + view_len (get_or s 2 0)

-- "Length 5 + 2 × count", and the view
abbrev pub vl_len : List ℕ → ℕ
vl_len s = pairs_from s + 2 * vl_count s

-- the j-th pair
unfoldable pub pair_at : List ℕ → ℕ → ℕ → Pair
pair_at s from j = record { number = get_or s (from + 2 * j) 0; answer = get_or s (from + 2 * j + 1) 0 }

-- what the bytes of a VL say
unfoldable pub vl_of : List ℕ → Vl
vl_of s =
    record {
      kind = get_or s 2 0;
      decision = get_or s 3 0;
      view = view_of (get_or s 2 0) (num_at 2 5 s);
      pairs = tab (pair_at s (pairs_from s)) 0 (vl_count s);
    }

-- two bytes for each
abbrev pub flat_pairs : List Pair → List ℕ
flat_pairs [] = []
flat_pairs (p ∷ ps) = p.number ∷ p.answer ∷ flat_pairs ps

-- the two bytes of a view, where the kind has one
unfoldable pub view_bytes : ℕ → ℕ → List ℕ
view_bytes kind v = pick (eqb kind 2) (le_bytes 2 v) []

-- the bytes of a list
unfoldable pub vl_bytes : Vl → List ℕ
vl_bytes l = mark_vl ++ (l.kind ∷ l.decision ∷ length l.pairs ∷ (view_bytes l.kind l.view ++ flat_pairs l.pairs))

abbrev pub zero_pair : Pair
zero_pair = record { number = 0; answer = 0 }

-- what an array holds at j
abbrev pub pairs_in : List Pair → ℕ → Pair
pairs_in a j = get_or a j zero_pair

-- the list that a struct holds: a view beside another kind than 2 is no part of it
unfoldable pub list_in : VoteList → Vl
list_in l =
    record { kind = l.kind; decision = l.decision; view = view_of l.kind l.view.0; pairs = tab (pairs_in l.pairs) 0 l.count }

-- a list in a struct, zeros in the places that are not used
unfoldable pub held_list : Vl → VoteList
held_list l =
    record {
      kind = l.kind;
      decision = l.decision;
      view = record { 0 = l.view };
      count = length l.pairs;
      pairs = l.pairs ++ replicate (26 - length l.pairs) zero_pair;
    }

-- all of a VL is there, and its count fits the array
abbrev pub VlThere : List ℕ → Type 0
VlThere s = (vl_count s ≤ 26) × (vl_len s ≤ length s)

-- no list
unfoldable pub no_list : Vl
no_list = record { kind = 0; decision = 0; view = 0; pairs = [] }
