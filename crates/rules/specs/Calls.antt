-- PR, LG, DC and RD: what each answers and stores, once the message is read. Refusals 9 to 13, 15 and 18 stand here.
use Rattle.std.specs.Prelude.{ℕ, Bool, true, false, ◌&&◌, List, [], ◌∷◌, eqb, ltb, leb, length, Ok, Err}
use Rattle.std.proofs.Math.Option.{Option, some, none}
use Rattle.terms.specs.Choice.{pick}
use Rattle.terms.specs.Checks.{Check, if_less, when, ahead, old}
use Rattle.terms.specs.declared.Refusal.{Refusal}
use Rattle.terms.specs.declared.Refusal.TheVariants.{OtherBody, TooFew, Contradiction, Full}
use Rattle.records.specs.declared.Write.{Write}
use Rattle.records.specs.Tx.{write_key, write_value}
use Rattle.records.specs.Vl.{Vl}
use Rattle.rules.specs.Answers.{Answer, Decided, Decision, Done, Found, Logged, Refused, Settled, Version, Voted, abort, commit, settled, unsettled}
use Rattle.rules.specs.Answers.{Log, View, logged, logged_at, unlogged, view_as}
use Rattle.rules.specs.Answers.{Vote, unvisited, unvoted, visited, vote_abort, vote_commit, waiting}
use Rattle.rules.specs.Bodies.{Body, same_body, stamp_of, writes_key, writes_of}
use Rattle.rules.specs.Lists.{decision_of, for_logging, for_proof, kind_of, lacking, meets}
use Rattle.rules.specs.Table.{Box, Told, Entry, find, fold_at, limit, live, log_in, no_version, view_in, vote_in}
use Rattle.rules.specs.Tests.{first_vote, waiting_rule}
use Rattle.rules.specs.Visits.{again_visits, first_visits, new_last}

-- what a call changes: nothing, an entry that is put into the table, a key's read mark that is raised to a stamp, or A11's low mark
pub data Change : Type 0 where
  nothing : Change
  puts : Entry → Change
  raises : ℕ → ℕ → Change
  raises_low : ℕ → Change

-- what a call does: it answers, and makes one change
pub record Act : Type 0 where
  pub answer : Answer
  pub change : Change

abbrev pub keep : Answer → Act
keep a = record { answer = a; change = nothing }

-- "A refusal returns its number only. Table, read marks, .. stay unchanged."
abbrev pub refuse : Refusal → Act
refuse r = keep (Refused r)

-- a check in front
unfoldable pub guarded : Check → Act → Act
guarded (Ok _) a = a
guarded (Err r) a = refuse r

-- A11: "18 old, for .. a stamp at or below L and for an L not above the present one, the first state refusal"
unfoldable pub old_wrong : ℕ → ℕ → Check
old_wrong low s = when (leb s low) old

-- 13: "a new entry is needed and the table is at capacity"; "Capacity counts every entry"
unfoldable pub is_full : Told → Box → Bool
is_full told x = leb told.capacity (length x.table)

unfoldable pub room_for : Told → Box → Act → Act
room_for told x a = pick (is_full told x) (refuse Full) a

-- 11: "the list misses its threshold"; A1: "Refusal 11 should carry how many counted answers are lacking"
unfoldable pub needing : ℕ → Vl → Act → Act
needing need l a = pick (meets need l) a (refuse (TooFew (lacking need l)))

-- "commit", "abort": one decision or two
unfoldable pub same_decision : Decision → Decision → Bool
same_decision commit commit = true
same_decision commit abort = false
same_decision abort commit = false
same_decision abort abort = true

-- ---- PR
-- "An abort vote carries one of six reasons, and it is stored"; "the entry is stored"; A6: "a PR answer reports entries visited"
unfoldable pub cast_act : Body → Option Entry → Vote → ℕ → Act
cast_act b o v n = record { answer = Voted v (visited n); change = puts (record { body = b; vote = v; log = log_in o; view = view_in o; decided = unsettled }) }

-- "vote cast, the same vote again; waiting, the waiting rule; undecided with vote none .., the tests as if new, in its place"; A2: "A PR for it later,
-- while it is undecided, runs the five tests as if new but takes no further room."; A6: "an answer for an entry already .. voted on" carries no number
unfoldable pub pr_by_vote : Told → Box → Body → Entry → Vote → Act
pr_by_vote told x b e vote_commit = keep (Voted vote_commit unvisited)
pr_by_vote told x b e (vote_abort r) = keep (Voted (vote_abort r) unvisited)
pr_by_vote told x b e waiting = cast_act b (some e) (waiting_rule x b) (again_visits x b)
pr_by_vote told x b e unvoted = cast_act b (some e) (first_vote told x b) (first_visits told x b x.table)

-- "Held with this body: decided, answer Decided"
unfoldable pub pr_by_decision : Told → Box → Body → Entry → Settled → Act
pr_by_decision told x b e (settled d) = keep (Decided d)
pr_by_decision told x b e unsettled = pr_by_vote told x b e e.vote

-- "Held with another body: 9. Not held: 13, else the first failing test gives an abort vote."
unfoldable pub pr_by_entry : Told → Box → Body → Option Entry → Act
pr_by_entry told x b none = room_for told x (cast_act b none (first_vote told x b) (first_visits told x b (new_last b x.table)))
pr_by_entry told x b (some e) = pick (same_body e.body b) (pr_by_decision told x b e e.decided) (refuse OtherBody)

unfoldable pub pr_rule : Told → Box → Body → Act
pr_rule told x b = pr_by_entry told x b (find (stamp_of b) x.table)

-- ---- LG
-- "else log it. The box's own vote does not matter."; A2: "stores the body with vote none and that log"
-- with the view of the log, and the current view that is left
unfoldable pub log_act : Body → Decision → View → View → Option Entry → Act
log_act b d v current o =
    record { answer = Logged d v; change = puts (record { body = b; vote = vote_in o; log = logged_at d v; view = current; decided = unsettled }) }

-- A5: "A log from an LG has view 0"
abbrev pub first_log : Body → Decision → Option Entry → Act
first_log b d o = log_act b d (view_as 0) (view_in o) o

-- "Already logged: that same log. Then 11"; A5: it "is taken only if nothing is logged"
unfoldable pub lg_by_log : Told → Body → Vl → Entry → Log → Act
lg_by_log told b l e (logged y) = keep (Logged y.decision y.view)
lg_by_log told b l e unlogged = needing (for_logging told.f (decision_of l.decision)) l (first_log b (decision_of l.decision) (some e))

-- "Decided: Decided."
unfoldable pub lg_by_decision : Told → Body → Vl → Entry → Settled → Act
lg_by_decision told b l e (settled d) = keep (Decided d)
lg_by_decision told b l e unsettled = lg_by_log told b l e e.log

-- A2: "An LG for a stamp not held stores the body ..", "LG gives 11, then 13 for a new entry". "Other body: 9."
unfoldable pub lg_by_entry : Told → Box → Body → Vl → Option Entry → Act
lg_by_entry told x b l none =
    needing (for_logging told.f (decision_of l.decision)) l (room_for told x (first_log b (decision_of l.decision) none))
lg_by_entry told x b l (some e) = pick (same_body e.body b) (lg_by_decision told b l e e.decided) (refuse OtherBody)

unfoldable pub lg_rule : Told → Box → Body → Vl → Act
lg_rule told x b l = lg_by_entry told x b l (find (stamp_of b) x.table)

-- ---- DC
-- "a new entry with vote none and this decision"; "undecided takes it"; "Accepted answers Done."
unfoldable pub decide_act : Body → Decision → Option Entry → Act
decide_act b d o =
    record { answer = Done; change = puts (record { body = b; vote = vote_in o; log = log_in o; view = view_in o; decided = settled d }) }

-- "Held, same body: undecided takes it; equal decision changes nothing; opposite, 12."
unfoldable pub dc_same : Body → Decision → Entry → Settled → Act
dc_same b d e unsettled = decide_act b d (some e)
dc_same b d e (settled held) = pick (same_decision held d) (keep Done) (refuse Contradiction)

-- "Held, other body: abort gives 9; commit gives 12 if the held one is committed, else the new body replaces it, vote and log become none,
-- decision commit."
unfoldable pub dc_other : Body → Decision → Settled → Act
dc_other b abort o = refuse OtherBody
dc_other b commit (settled commit) = refuse Contradiction
dc_other b commit (settled abort) = decide_act b commit none
dc_other b commit unsettled = decide_act b commit none

-- "Not held: 13, else a new entry .. Held, same body: .. Held, other body: .."
unfoldable pub dc_by_entry : Told → Box → Body → Decision → Option Entry → Act
dc_by_entry told x b d none = room_for told x (decide_act b d none)
dc_by_entry told x b d (some e) = pick (same_body e.body b) (dc_same b d e e.decided) (dc_other b d e.decided)

-- "11 first."
unfoldable pub dc_rule : Told → Box → Body → Vl → Act
dc_rule told x b l =
    needing (for_proof told.f (kind_of l.kind) (decision_of l.decision)) l
    (dc_by_entry told x b (decision_of l.decision) (find (stamp_of b) x.table))

-- ---- RD
-- "highest stamp"; "RD takes the first among equals"
unfoldable pub better : Entry → Option Entry → Option Entry
better e none = some e
better e (some o) = pick (ltb (stamp_of e.body) (stamp_of o.body)) (some o) (some e)

-- of the entries that pass and write the key, the one "with the highest stamp strictly below"
unfoldable pub newest : (Entry → Bool) → ℕ → ℕ → List Entry → Option Entry
newest p k s [] = none
newest p k s (e ∷ es) =
    pick (p e && (writes_key e.body k && ltb (stamp_of e.body) s)) (better e (newest p k s es)) (newest p k s es)

-- "in an entry the first write of the key"
unfoldable pub value_at : ℕ → List Write → ℕ
value_at k [] = 0
value_at k (w ∷ ws) = pick (eqb (write_key w) k) (write_value w) (value_at k ws)

-- "version and value", or another where there is none
unfoldable pub version_or : ℕ → Version → Option Entry → Version
version_or k g none = g
version_or k g (some e) = record { stamp = record { 0 = stamp_of e.body }; value = value_at k (writes_of e.body) }

-- "0 0 where there is none"
unfoldable pub version_of : ℕ → Option Entry → Version
version_of k o = version_or k no_version o

-- "committed"; "undecided"
unfoldable pub is_committed : Settled → Bool
is_committed unsettled = false
is_committed (settled commit) = true
is_committed (settled abort) = false

unfoldable pub is_undecided : Settled → Bool
is_undecided unsettled = true
is_undecided (settled d) = false

-- "Returns version and value of the committed writer with the highest stamp strictly below, and likewise of the live undecided one"; A11: "RD falls
-- back to the folded version"
unfoldable pub rd_answer : Box → ℕ → ℕ → Answer
rd_answer x k s =
    Found (version_or k (fold_at x.folds k) (newest (λ e. is_committed e.decided) k s x.table))
    (version_of k (newest (λ e. is_undecided e.decided && live e) k s x.table))

-- "Raises the key's read mark to the stamp if it is lower."
unfoldable pub look_act : Box → ℕ → ℕ → Act
look_act x k s = record { answer = rd_answer x k s; change = raises k s }

-- 15: "RD stamp above clock + δ"; "RD has 5, then 15."; 15 is asked beside the contents, A11's 18 of the state
unfoldable pub rd_rule : Told → Box → ℕ → ℕ → Act
rd_rule told x k s = guarded (if_less (limit told) s ahead) (guarded (old_wrong x.low s) (look_act x k s))
