-- A5, the leader's sheet: the election answers for one transaction in one view, taken one at a time, and the EL that is made of them.
use Rattle.std.specs.Prelude.{ℕ, zero, suc, ◌+◌, ◌-◌, ◌*◌, ◌≤◌, true, ◌≡◌, List, [], ◌∷◌, ◌++◌, map, eqb, leb, ltb, length, take, Result, Ok, Err}
use Rattle.std.proofs.Math.Option.{Option}
use Rattle.terms.specs.Choice.{pick}
use Rattle.terms.specs.Checks.{Check, passed, or_else, if_same, table}
use Rattle.terms.specs.Refusals.{number_of}
use Rattle.terms.specs.Group.{boxes, log_proof}
use Rattle.terms.specs.declared.Decision.TheVariants.{Commit as commit, Abort as abort}
use Rattle.terms.specs.declared.Refusal.{Refusal}
use Rattle.terms.specs.declared.Refusal.TheVariants.{Election as election, Passed}
use Rattle.records.specs.declared.Ballot.{Ballot}
use Rattle.records.specs.declared.ViewList.{ViewList}
use Rattle.records.specs.declared.ViewMark.TheVariants.{EL}
use Rattle.records.specs.Views.{Views, ballot_pair, held_views}
use Rattle.records.specs.Contents.{count_wrong, views_wrong}
use Rattle.rules.specs.Bodies.{Body, stamp_of}
use Rattle.rules.specs.Lists.{tally}
use Rattle.rules.specs.declared.Told.{Told}
use Rattle.rules.specs.Table.{Entry}
use Rattle.rules.specs.Calls.{Act, refuse}
use Rattle.rules.specs.Fallback.{leader_of, leads, may_take, take_act}
use Rattle.sheet.specs.declared.Sheet.{Sheet}
use Rattle.sheet.specs.Masks.{has}
use Rattle.sheet.specs.Sheets.{counted, given_wrong, joined, on, sheet_wrong}
use Rattle.election.specs.declared.Heard.{Heard}
use Rattle.election.specs.declared.Heard.TheVariants.{Lacking, OtherView, Repeat, Refused}

-- the reply as numbers
abbrev pub heard_values : Heard → List ℕ
heard_values (Lacking k) = 1 ∷ k ∷ []
heard_values OtherView = 2 ∷ 0 ∷ []
heard_values Repeat = 3 ∷ 0 ∷ []
heard_values (Refused r) = 4 ∷ number_of r ∷ []

-- it is a sheet of logs of that view: "14, 16"; one of votes is 16 too
unfoldable pub election_wrong : ℕ → Sheet → Check
election_wrong f s = or_else (sheet_wrong f s) (if_same s.kind 1 table)

-- "then 5, 8"
unfoldable pub heard_wrong : Sheet → ℕ → ℕ → ℕ → Check
heard_wrong s f number answer = or_else (election_wrong f s) (given_wrong f number answer)

-- how many answers are on it
unfoldable pub present : ℕ → Sheet → ℕ
present f s = counted f commit s + counted f abort s

-- "an answer of another view is told and changes nothing; Repeat"
unfoldable pub heard_by : Check → Sheet → ℕ → ℕ → ℕ → Sheet
heard_by (Ok _) s number answer view = pick (eqb view s.view) (pick (on s number) s (joined s number answer)) s
heard_by (Err r) s number answer view = s

unfoldable pub sheet_heard : Sheet → ℕ → ℕ → ℕ → ℕ → Sheet
sheet_heard s f number answer view = heard_by (heard_wrong s f number answer) s number answer view

-- "it tells how many are lacking of 4f + 1"
unfoldable pub said_by : Check → Sheet → ℕ → ℕ → ℕ → ℕ → Heard
said_by (Ok _) s f number answer view =
    pick (eqb view s.view) (pick (on s number) Repeat (Lacking (log_proof f - present f (joined s number answer)))) OtherView
said_by (Err r) s f number answer view = Refused r

unfoldable pub said : Sheet → ℕ → ℕ → ℕ → ℕ → Heard
said s f number answer view = said_by (heard_wrong s f number answer) s f number answer view

-- ---- the EL
-- a box on the sheet, with its answer and the sheet's view
unfoldable pub ballot_on : Sheet → ℕ → Ballot
ballot_on s b = record { number = b; answer = pick (has s.commits b) 1 2; view = record { 0 = s.view } }

-- those of the boxes below n that are on it, in rising order
unfoldable pub ballots_on : Sheet → ℕ → List Ballot
ballots_on s zero = []
ballots_on s (suc n) = ballots_on s n ++ pick (on s n) (ballot_on s n ∷ []) []

-- "exactly 4f + 1": those of the lowest numbers
unfoldable pub chosen : ℕ → Sheet → List Ballot
chosen f s = take (log_proof f) (ballots_on s (boxes f))

-- "with their majority"
unfoldable pub majority : List Ballot → ℕ
majority ps = pick (ltb (length ps) (2 * tally 1 (map ballot_pair ps))) 1 2

unfoldable pub election_for : Sheet → ℕ → ℕ → Views
election_for s f stamp =
    record { leader = leader_of f s.view stamp; decision = majority (chosen f s); view = s.view; ballots = chosen f s }

-- the same before leader and decision are known
unfoldable pub unled : ℕ → Sheet → Views
unled f s = record { leader = 0; decision = 0; view = s.view; ballots = chosen f s }

-- 14, 16, then 23 where there are too few
unfoldable pub gathered : Sheet → ℕ → ℕ → Result ViewList Refusal
gathered s f stamp =
    or_else (election_wrong f s) (pick (leb (log_proof f) (present f s)) (Ok (held_views (election_for s f stamp))) (Err election))

-- an EL that is given has its count and its contents in order, and is one that a box does not refuse with 23
pub record Right (f : ℕ) (b : Body) (l : Views) : Type 0 where
  pub count : count_wrong (length l.ballots) ≡ passed
  pub contents : views_wrong EL f l ≡ passed
  pub leading : leads f b l ≡ true

abbrev pub GivenIsRight : Type 0
GivenIsRight =
    (s : Sheet) (f : ℕ) (b : Body) → election_wrong f s ≡ passed → log_proof f ≤ present f s → Right f b (election_for s f (stamp_of b))

-- the same from the box's side: with that EL in an LD a box does not refuse with 23; it goes on to a, or refuses with 21 by its own views
abbrev pub NotRefusedWith23 : Type 0
NotRefusedWith23 =
    (told : Told) (s : Sheet) (b : Body) (o : Option Entry) (a : Act)
    → election_wrong told.f s ≡ passed
    → log_proof told.f ≤ present told.f s
    → take_act told b (election_for s told.f (stamp_of b)) o a ≡ pick (may_take s.view o) a (refuse Passed)
