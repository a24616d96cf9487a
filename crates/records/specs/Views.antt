-- "VS" and "EL": what boxes told of their views; their bytes and their values. A5: "The new records follow the pattern of LG".
use Rattle.std.specs.Prelude.{ℕ, ◌+◌, ◌*◌, ◌-◌, ◌≤◌, ◌≡◌, List, [], ◌∷◌, ◌++◌, map, length, get_or, replicate}
use Rattle.terms.specs.Choice.{tab}
use Rattle.records.specs.Numbers.{num_at, le_bytes}
use Rattle.records.specs.declared.Pair.{Pair}
use Rattle.records.specs.declared.Ballot.{Ballot}
use Rattle.records.specs.declared.ViewList.{ViewList}
use Rattle.records.specs.declared.ViewMark.{ViewMark}
use Rattle.records.specs.declared.ViewMark.TheVariants.{VS, EL}

-- what boxes told: their views in a VS; in an EL their election answers, with "leader (1), decision (1), view (2)". A VS has 0 for all that only an EL has
pub record Views : Type 0 where
  pub leader : ℕ
  pub decision : ℕ
  pub view : ℕ
  pub ballots : List Ballot

abbrev pub mark_vs : List ℕ
mark_vs = 86 ∷ 83 ∷ []

abbrev pub mark_el : List ℕ
mark_el = 69 ∷ 76 ∷ []

abbrev pub view_mark_bytes : ViewMark → List ℕ
view_mark_bytes VS = mark_vs
view_mark_bytes EL = mark_el

-- where the count stands: behind the mark in a VS; in an EL behind leader, decision and view
abbrev pub count_at : ViewMark → ℕ
count_at VS = 2
count_at EL = 6

-- where the ballots begin
abbrev pub ballots_from : ViewMark → ℕ
ballots_from k = 1 + count_at k

-- how many bytes each has: "box (1), view (2)", "box (1), answer (1), view (2)"
abbrev pub ballot_len : ViewMark → ℕ
ballot_len VS = 3
ballot_len EL = 4

-- "count"
abbrev pub views_count : ViewMark → List ℕ → ℕ
views_count k s = get_or s (count_at k) 0

abbrev pub views_len : ViewMark → List ℕ → ℕ
views_len k s = ballots_from k + ballot_len k * views_count k s

-- the ballot that begins at p
unfoldable pub ballot_from : ViewMark → List ℕ → ℕ → Ballot
ballot_from VS s p = record { number = get_or s p 0; answer = 0; view = record { 0 = num_at 2 (p + 1) s } }
ballot_from EL s p = record { number = get_or s p 0; answer = get_or s (p + 1) 0; view = record { 0 = num_at 2 (p + 2) s } }

-- the j-th ballot
unfoldable pub ballot_at : ViewMark → List ℕ → ℕ → Ballot
ballot_at k s j = ballot_from k s (ballots_from k + ballot_len k * j)

-- what the bytes of a VS, or of an EL, say
unfoldable pub views_of : ViewMark → List ℕ → Views
views_of VS s = record { leader = 0; decision = 0; view = 0; ballots = tab (ballot_at VS s) 0 (views_count VS s) }
views_of EL s =
    record { leader = get_or s 2 0; decision = get_or s 3 0; view = num_at 2 4 s; ballots = tab (ballot_at EL s) 0 (views_count EL s) }

-- the bytes of a ballot, and of ballots
unfoldable pub ballot_bytes : ViewMark → Ballot → List ℕ
ballot_bytes VS b = b.number ∷ le_bytes 2 b.view.0
ballot_bytes EL b = b.number ∷ b.answer ∷ le_bytes 2 b.view.0

abbrev pub flat_ballots : ViewMark → List Ballot → List ℕ
flat_ballots k [] = []
flat_ballots k (b ∷ bs) = ballot_bytes k b ++ flat_ballots k bs

-- what stands between mark and count
unfoldable pub led_bytes : ViewMark → ℕ → ℕ → ℕ → List ℕ
led_bytes VS leader decision view = []
led_bytes EL leader decision view = leader ∷ decision ∷ le_bytes 2 view

-- the bytes of a VS, or of an EL
unfoldable pub views_bytes : ViewMark → Views → List ℕ
views_bytes k l =
    view_mark_bytes k ++ (led_bytes k l.leader l.decision l.view ++ (length l.ballots ∷ flat_ballots k l.ballots))

abbrev pub zero_ballot : Ballot
zero_ballot = record { number = 0; answer = 0; view = record { 0 = 0 } }

-- what an array holds at j
abbrev pub ballots_in : List Ballot → ℕ → Ballot
ballots_in a j = get_or a j zero_ballot

-- what of a ballot is told: in a VS no answer
abbrev pub own_ballot : ViewMark → Ballot → Ballot
own_ballot VS b = record { number = b.number; answer = 0; view = b.view }
own_ballot EL b = b

-- a number that only an EL has
abbrev pub own_number : ViewMark → ℕ → ℕ
own_number VS n = 0
own_number EL n = n

-- what of views a VS, or an EL, tells; views that are all told
abbrev pub own_views : ViewMark → Views → Views
own_views k l =
    record {
      leader = own_number k l.leader;
      decision = own_number k l.decision;
      view = own_number k l.view;
      ballots = map (own_ballot k) l.ballots;
    }

abbrev pub OwnViews : ViewMark → Views → Type 0
OwnViews k l = own_views k l ≡ l

-- what a struct holds: what a VS has no place for is no part of it
unfoldable pub views_in : ViewMark → ViewList → Views
views_in k l =
    record {
      leader = own_number k l.leader;
      decision = own_number k l.decision;
      view = own_number k l.view.0;
      ballots = tab (λ j. own_ballot k (ballots_in l.ballots j)) 0 l.count;
    }

-- in a struct, zeros in the places that are not used
unfoldable pub held_views : Views → ViewList
held_views l =
    record {
      leader = l.leader;
      decision = l.decision;
      view = record { 0 = l.view };
      count = length l.ballots;
      ballots = l.ballots ++ replicate (26 - length l.ballots) zero_ballot;
    }

-- all of it is there, and its count fits the array
abbrev pub ViewsThere : ViewMark → List ℕ → Type 0
ViewsThere k s = (views_count k s ≤ 26) × (views_len k s ≤ length s)

-- none
unfoldable pub no_views : Views
no_views = record { leader = 0; decision = 0; view = 0; ballots = [] }

-- a ballot as a pair of box number and answer
abbrev pub ballot_pair : Ballot → Pair
ballot_pair b = record { number = b.number; answer = b.answer }
