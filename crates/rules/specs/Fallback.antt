-- A5, "Finish what a dead gateway began": IV and LD, what each answers and stores once the message is read. Refusals 21 to 24 stand here.
use Rattle.std.specs.Prelude.{ℕ, suc, ◌+◌, ◌*◌, ◌%◌, max, Bool, not, ◌&&◌, List, [], ◌∷◌, map, eqb, ltb, leb, length}
use Rattle.std.proofs.Math.Option.{Option, some, none}
use Rattle.terms.specs.Choice.{any, pick}
use Rattle.terms.specs.Group.{abort_list, boxes, commit_list, log_proof}
use Rattle.terms.specs.declared.Refusal.TheVariants.{OtherBody, Passed, NotLogged, Election, LastView}
use Rattle.records.specs.declared.Ballot.{Ballot}
use Rattle.records.specs.Views.{Views, ballot_pair}
use Rattle.rules.specs.Answers.{Decided, Decision, Elected, Log, Settled, log_view, logged, settled, unlogged, unsettled, view_as}
use Rattle.rules.specs.Bodies.{Body, same_body, stamp_of}
use Rattle.rules.specs.Lists.{bit, decision_of, tally}
use Rattle.rules.specs.Table.{Box, Told, Entry, find, log_in, view_in}
use Rattle.rules.specs.Calls.{Act, keep, log_act, puts, refuse, room_for}

-- "The leader of view v is box (v + stamp) mod n": a sum of whole numbers
unfoldable pub leader_of : ℕ → ℕ → ℕ → ℕ
leader_of f v s = (v + s) % boxes f

-- "A view is at most 65,535"
abbrev pub largest_view : ℕ
largest_view = 65535

-- ---- IV
abbrev pub ballot_view : Ballot → ℕ
ballot_view b = b.view.0

-- "higher views counting for lower ones": how many of the listed are at or above v
unfoldable pub reach : ℕ → List Ballot → ℕ
reach v [] = 0
reach v (p ∷ ps) = bit (leb v (ballot_view p)) + reach v ps

-- the higher of a view and one found before
unfoldable pub higher : ℕ → Option ℕ → ℕ
higher v none = v
higher v (some u) = max v u

-- the largest listed view that so many of all are at or above
unfoldable pub reached : ℕ → List Ballot → List Ballot → Option ℕ
reached need all [] = none
reached need all (p ∷ ps) =
    pick (leb need (reach (ballot_view p) all)) (some (higher (ballot_view p) (reached need all ps))) (reached need all ps)

-- "A box moves on by the paper's two rules (3f + 1, then f + 1 ..)": with f + 1 up to that view, never back
unfoldable pub by_few : ℕ → Option ℕ → ℕ
by_few current none = current
by_few current (some v) = max current v

-- with 3f + 1 to the view after it, never back
unfoldable pub by_many : ℕ → ℕ → List Ballot → Option ℕ → ℕ
by_many f current ps none = by_few current (reached (abort_list f) ps ps)
by_many f current ps (some v) = max current (suc v)

unfoldable pub next_view : ℕ → ℕ → List Ballot → ℕ
next_view f current ps = by_many f current ps (reached (commit_list f) ps ps)

-- the election answer: the logged decision, the view moved on to, its leader; only that view changes
unfoldable pub elect_act : Told → Body → Entry → Decision → ℕ → Act
elect_act told b e d v =
    record {
      answer = Elected d (view_as v) (leader_of told.f v (stamp_of b));
      change = puts (record { body = b; vote = e.vote; log = e.log; view = view_as v; decided = unsettled });
    }

-- "sends its election answer only if it has logged": "22 where the box holds no log for this body, then 24 where the new view would pass 65,535"
unfoldable pub iv_by_log : Told → Body → List Ballot → Entry → Log → Act
iv_by_log told b ps e unlogged = refuse NotLogged
iv_by_log told b ps e (logged y) =
    pick (ltb largest_view (next_view told.f e.view.0 ps)) (refuse LastView) (elect_act told b e y.decision (next_view told.f e.view.0 ps))

-- "A box that has decided answers Decided to both messages."
unfoldable pub iv_by_decision : Told → Body → List Ballot → Entry → Settled → Act
iv_by_decision told b ps e (settled d) = keep (Decided d)
iv_by_decision told b ps e unsettled = iv_by_log told b ps e e.log

-- "Refusals, after 9"; a body that is not held has no log
unfoldable pub iv_by_entry : Told → Body → List Ballot → Option Entry → Act
iv_by_entry told b ps none = refuse NotLogged
iv_by_entry told b ps (some e) = pick (same_body e.body b) (iv_by_decision told b ps e e.decided) (refuse OtherBody)

unfoldable pub iv_rule : Told → Box → Body → Views → Act
iv_rule told x b l = iv_by_entry told b l.ballots (find (stamp_of b) x.table)

-- ---- LD
-- "with equal view"
unfoldable pub one_view : ℕ → List Ballot → Bool
one_view v ps = not (any (λ p. not (eqb (ballot_view p) v)) ps)

-- "exactly 4f + 1 election answers from different boxes, with equal view, and carries their majority"
unfoldable pub leads : ℕ → Body → Views → Bool
leads f b l =
    eqb l.leader (leader_of f l.view (stamp_of b))
    && (eqb (length l.ballots) (log_proof f)
    && (one_view l.view l.ballots
    && ltb (length l.ballots) (2 * tally l.decision (map ballot_pair l.ballots))))

-- "A box takes it if its current view is not above that view and its logged view is strictly below"
unfoldable pub may_take : ℕ → Option Entry → Bool
may_take v o = leb (view_in o).0 v && ltb (log_view (log_in o)).0 v

-- "23 where the leader, the number of answers, their view or their majority is wrong, then 21 where the box's view or logged view forbids it"
unfoldable pub take_act : Told → Body → Views → Option Entry → Act → Act
take_act told b l o a = pick (leads told.f b l) (pick (may_take l.view o) a (refuse Passed)) (refuse Election)

-- a decision that is taken is logged with its view, which is the current one from then on
abbrev pub led_act : Body → Views → Option Entry → Act
led_act b l o = log_act b (decision_of l.decision) (view_as l.view) (view_as l.view) o

-- "A box that has decided answers Decided to both messages."
unfoldable pub ld_by_decision : Told → Body → Views → Entry → Settled → Act
ld_by_decision told b l e (settled d) = keep (Decided d)
ld_by_decision told b l e unsettled = take_act told b l (some e) (led_act b l (some e))

-- "after 9"; "then 13 for a new entry"
unfoldable pub ld_by_entry : Told → Box → Body → Views → Option Entry → Act
ld_by_entry told x b l none = take_act told b l none (room_for told x (led_act b l none))
ld_by_entry told x b l (some e) = pick (same_body e.body b) (ld_by_decision told b l e e.decided) (refuse OtherBody)

unfoldable pub ld_rule : Told → Box → Body → Views → Act
ld_rule told x b l = ld_by_entry told x b l (find (stamp_of b) x.table)
