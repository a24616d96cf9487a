-- What a table holds: the entry that the rules look up under a stamp, the entries one by one, and where a body stands in the lent bytes.
use Rattle.std.specs.Prelude.{ℕ, zero, suc, ◌+◌, ◌*◌, ◌<◌, ◌≤◌, List, [], ◌∷◌, ◌≡◌, length, take, drop, replicate, Result, Ok, Err, Option as Maybe, Some, None}
use Rattle.std.proofs.Math.Option.{Option, some, none}
use Rattle.terms.specs.Checks.{Check, passed, or_else}
use Rattle.terms.specs.Group.{capacity_wrong}
use Rattle.terms.specs.declared.Refusal.{Refusal}
use Rattle.records.specs.Tx.{tx_len, TxThere}
use Rattle.rules.specs.Answers.{vote_number, vote_reason, settled_number, log_number, log_view}
use Rattle.rules.specs.Bodies.{Body, stamp_of}
use Rattle.rules.specs.Table.{Entry, find}
use Rattle.table.specs.declared.State.{State}
use Rattle.table.specs.Table.{head_len, row_len, body_at, entries_of, table_wrong, state_in, place, stored}
use Rattle.held.specs.declared.Holding.{Holding}

-- what is told: something held, nothing, or the refusal
abbrev pub Telling : Type 0
Telling = Result (Maybe Holding) Refusal

-- "Order: 14, 16"; of 14 the capacity, since f is not told here
unfoldable pub held_wrong : ℕ → List ℕ → Check
held_wrong capacity t = or_else (capacity_wrong capacity) (table_wrong capacity t)

-- what is told of an entry that was looked up and whose body begins at that place
unfoldable pub holding_of : ℕ → Option Entry → Maybe Holding
holding_of at none = None
holding_of at (some e) = Some (record { at = at; len = length e.body; state = state_in e })

-- where the body of the first entry with that stamp begins: behind the count, the rows before it, and codes and views
abbrev pub body_place : List ℕ → ℕ → ℕ
body_place t s = head_len + place s (entries_of t) * row_len + body_at

-- "a look-up by stamp takes the first such entry"
unfoldable pub found_in : List ℕ → ℕ → Maybe Holding
found_in t s = holding_of (body_place t s) (find s (entries_of t))

-- what a table holds under a stamp: 14, 16, or the entry that the rules look up
unfoldable pub held_of : List ℕ → ℕ → ℕ → Telling
held_of t capacity s = or_else (held_wrong capacity t) (Ok (found_in t s))

-- the body of that entry; empty where nothing is held, and where it is refused
abbrev pub body_in : Option Entry → Body
body_in none = []
body_in (some e) = e.body

unfoldable pub body_by : Check → List ℕ → ℕ → Body
body_by (Ok _) t s = body_in (find s (entries_of t))
body_by (Err r) t s = []

unfoldable pub body_held : List ℕ → ℕ → ℕ → Body
body_held t capacity s = body_by (held_wrong capacity t) t s

-- the place and the length that are told lie within the table's bytes, and mean that body
abbrev pub There : List ℕ → Telling → Body → Type 0
There t (Ok (Some h)) b = (h.at + h.len ≤ length t) × (take h.len (drop h.at t) ≡ b)
There t (Ok None) b = b ≡ []
There t (Err r) b = b ≡ []

-- something is held, of which P is true
abbrev pub Told : (Holding → Type 0) → Telling → Type 0
Told P (Ok (Some h)) = P h
Told P (Ok None) = ⊥
Told P (Err r) = ⊥

abbrev pub BodyThere : Type 0
BodyThere = (t : List ℕ) (capacity s : ℕ) → There t (held_of t capacity s) (body_held t capacity s)

-- an entry that is held has a body of twelve bytes or more: mark, counts and stamp; so where no bytes are told, nothing is held
abbrev pub shortest : ℕ
shortest = 12

abbrev pub HeldLong : Type 0
HeldLong =
    (t : List ℕ) (capacity s : ℕ) (e : Entry) → held_wrong capacity t ≡ passed → find s (entries_of t) ≡ some e → Told (λ h. shortest ≤ h.len) (held_of t capacity s)

-- what a call stores in its place is what is told of its stamp afterwards: the body, and what is held beside it
abbrev pub StoredHeld : Type 0
StoredHeld =
    (capacity i : ℕ) (b : Body) (x : State) → length b ≡ tx_len b → TxThere b → i < capacity → (t : List ℕ) → held_wrong capacity t ≡ passed
    → i ≡ place (stamp_of b) (entries_of t)
    → (body_held (stored t i b x) capacity (stamp_of b) ≡ b) × Told (λ h. h.state ≡ x) (held_of (stored t i b x) capacity (stamp_of b))

-- ---- the entries one by one, in the order of their rows
-- entry i of a list, the first being 0; none where there are not so many
unfoldable pub nth : List Entry → ℕ → Option Entry
nth [] i = none
nth (e ∷ es) zero = some e
nth (e ∷ es) (suc i) = nth es i

-- what is told of entry i: its body begins behind the head, the rows before it, and codes and views
unfoldable pub entry_in : List ℕ → ℕ → Maybe Holding
entry_in t i = holding_of (head_len + i * row_len + body_at) (nth (entries_of t) i)

-- 14, 16, or entry i
unfoldable pub entry_told : List ℕ → ℕ → ℕ → Telling
entry_told t capacity i = or_else (held_wrong capacity t) (Ok (entry_in t i))

-- its body; empty where there is no such entry, and where it is refused
unfoldable pub entry_body_by : Check → List ℕ → ℕ → Body
entry_body_by (Ok _) t i = body_in (nth (entries_of t) i)
entry_body_by (Err r) t i = []

unfoldable pub entry_body : List ℕ → ℕ → ℕ → Body
entry_body t capacity i = entry_body_by (held_wrong capacity t) t i

-- 14, 16, or how many entries there are
unfoldable pub how_many_told : List ℕ → ℕ → Result ℕ Refusal
how_many_told t capacity = or_else (held_wrong capacity t) (Ok (length (entries_of t)))

-- the place and the length that are told mean the entry's body
abbrev pub EntryThere : Type 0
EntryThere = (t : List ℕ) (capacity i : ℕ) → There t (entry_told t capacity i) (entry_body t capacity i)

-- each entry that is counted is told with bytes, and nothing is told behind them
abbrev pub EachTold : Type 0
EachTold =
    (t : List ℕ) (capacity i n : ℕ) → how_many_told t capacity ≡ Ok n
    → (i < n → Told (λ h. shortest ≤ h.len) (entry_told t capacity i)) × (n ≤ i → entry_told t capacity i ≡ Ok None)

-- what is held under a stamp is the entry at that stamp's place
abbrev pub HeldIsEntry : Type 0
HeldIsEntry = (t : List ℕ) (capacity s : ℕ) → held_of t capacity s ≡ entry_told t capacity (place s (entries_of t))

-- as eight numbers: place and length of the body, vote, reason, decision, log, the log's view, the current view
abbrev pub holding_row : Holding → List ℕ
holding_row h =
    h.at
    ∷ h.len
    ∷ vote_number h.state.vote
    ∷ vote_reason h.state.vote
    ∷ settled_number h.state.decided
    ∷ log_number h.state.log
    ∷ (log_view h.state.log).0
    ∷ h.state.view.0
    ∷ []

-- the same of what is told; zeros where nothing is held, and where it is refused
abbrev pub held_row : Telling → List ℕ
held_row (Ok (Some h)) = holding_row h
held_row (Ok None) = replicate 8 0
held_row (Err r) = replicate 8 0
