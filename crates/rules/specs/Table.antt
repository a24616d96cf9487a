-- "A box's entries": an entry, the table that holds them, and what a box is told beside a message.
use Rattle.std.specs.Prelude.{ℕ, ◌+◌, Bool, true, false, List, [], ◌∷◌, eqb, get_or, replicate}
use Rattle.std.proofs.Math.Option.{Option, some, none}
use Rattle.terms.specs.Choice.{pick}
pub use Rattle.rules.specs.declared.Told.{Told}
use Rattle.rules.specs.Answers.{Log, Version, View, unlogged, view_as}
use Rattle.rules.specs.Answers.{Settled, Vote, abort, commit, settled, unsettled, unvoted, vote_abort, vote_commit, waiting}
use Rattle.rules.specs.Bodies.{Body, stamp_of}

-- "An entry holds body, vote (waiting, commit, abort with reason, or none), logged decision or none, decision or none"; A5: "a current view and the
-- view of its logged decision"
pub record Entry : Type 0 where
  pub body : Body
  pub vote : Vote
  pub log : Log
  pub view : View
  pub decided : Settled

-- a box: its entries in their places, and the read mark of each of the 512 keys; A11: its low mark, and "one version and value per key"
pub record Box : Type 0 where
  pub table : List Entry
  pub marks : List ℕ
  pub low : ℕ
  pub folds : List Version

abbrev pub box_with : List Entry → List ℕ → ℕ → List Version → Box
box_with es marks low folds = record { table = es; marks = marks; low = low; folds = folds }

-- "0 0 where there is none"
abbrev pub no_version : Version
no_version = record { stamp = record { 0 = 0 }; value = 0 }

-- the folded version of a key, and its stamp
abbrev pub fold_at : List Version → ℕ → Version
fold_at folds k = get_or folds k no_version

abbrev pub folded_at : Box → ℕ → ℕ
folded_at x k = (fold_at x.folds k).stamp.0

-- a box before its first message; A11: the low mark "starts at 0"
unfoldable pub empty : Box
empty = record { table = []; marks = replicate 512 0; low = 0; folds = replicate 512 no_version }

-- A box is told f, capacity, clock and δ beside each message (`Told`), anew each time: "The clock may go back."
-- "Clock + δ is a sum of whole numbers and never wraps"
abbrev pub limit : Told → ℕ
limit told = told.clock + told.delta

-- "If it holds one stamp twice, a look-up by stamp takes the first such entry"
unfoldable pub find : ℕ → List Entry → Option Entry
find s [] = none
find s (e ∷ es) = pick (eqb (stamp_of e.body) s) (some e) (find s es)

-- "in its place": where the first entry of that stamp stands, else behind the others
unfoldable pub put : Entry → List Entry → List Entry
put e [] = e ∷ []
put e (x ∷ xs) = pick (eqb (stamp_of x.body) (stamp_of e.body)) (e ∷ xs) (x ∷ put e xs)

-- the vote, the log and the current view that are held; none, and 0, where nothing is held
abbrev pub vote_in : Option Entry → Vote
vote_in none = unvoted
vote_in (some e) = e.vote

abbrev pub log_in : Option Entry → Log
log_in none = unlogged
log_in (some e) = e.log

abbrev pub view_in : Option Entry → View
view_in none = view_as 0
view_in (some e) = e.view

-- "An entry is live if it is decided commit, or undecided with vote commit or waiting"
unfoldable pub live_by : Settled → Vote → Bool
live_by (settled commit) v = true
live_by (settled abort) v = false
live_by unsettled unvoted = false
live_by unsettled waiting = true
live_by unsettled vote_commit = true
live_by unsettled (vote_abort r) = false

unfoldable pub live : Entry → Bool
live e = live_by e.decided e.vote
