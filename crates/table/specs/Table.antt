-- The lent table: a byte that counts its entries, the low mark, for each key the folded version and value, then a row for each entry: the codes of
-- vote, reason, decision and log, the log's view and the current one, then the TX record's bytes.
use Rattle.std.specs.Prelude.{ℕ, ◌+◌, ◌*◌, ◌/◌, ◌%◌, ◌≤◌, ◌<◌, List, [], ◌∷◌, ◌++◌, ◌≡◌, Bool, length, get_or, take, drop, set, eqb, is_err}
use Rattle.terms.specs.Choice.{pick, tab, any}
use Rattle.terms.specs.Checks.{Check, or_else, when, if_less, if_same, table}
use Rattle.terms.specs.declared.View.{View}
use Rattle.terms.specs.declared.Decision.TheVariants.{Commit as commit, Abort as abort}
use Rattle.records.specs.Numbers.{num_at}
use Rattle.records.specs.Tx.{tx_len, r_count, w_count}
use Rattle.rules.specs.declared.Reason.{Reason}
use Rattle.rules.specs.declared.Reason.TheVariants.{Ahead, NoVersion, Overwritten, Undercuts, ReadMark, Dependency}
use Rattle.rules.specs.declared.Vote.{Vote}
use Rattle.rules.specs.declared.Vote.TheVariants.{None as unvoted, Commit as vote_commit, Abort as vote_abort, Waiting as waiting}
use Rattle.rules.specs.Answers.{Log, Settled, logged_at, settled, unlogged, unsettled}
use Rattle.rules.specs.declared.Version.{Version}
use Rattle.rules.specs.Answers.{vote_number, vote_reason, settled_number, log_number, log_view, view_as}
use Rattle.rules.specs.Bodies.{Body, stamp_of}
use Rattle.rules.specs.Table.{Box, Entry, box_with}
use Rattle.table.specs.declared.State.{State}

-- ---- head
-- A11: where the low mark stands, eight bytes, and the folded versions, eight bytes for the stamp and eight for the value of each of the 512 keys
abbrev pub low_at : ℕ
low_at = 1

abbrev pub folds_at : ℕ
folds_at = 9

abbrev pub fold_len : ℕ
fold_len = 16

-- how many bytes stand in front of the rows: count, low mark and folds
abbrev pub head_len : ℕ
head_len = 8201

unfoldable pub low_of : List ℕ → ℕ
low_of t = num_at 8 low_at t

unfoldable pub fold_in : List ℕ → ℕ → Version
fold_in t k = record { stamp = record { 0 = num_at 8 (folds_at + k * fold_len) t }; value = num_at 8 (folds_at + k * fold_len + 8) t }

unfoldable pub folds_of : List ℕ → List Version
folds_of t = tab (fold_in t) 0 512

-- the box of a head's bytes, of entries and of read marks: any low mark and any folds are taken as they stand
abbrev pub box_from : List ℕ → List Entry → List ℕ → Box
box_from h es marks = box_with es marks (low_of h) (folds_of h)

-- ---- rows

-- how many bytes a row has: a byte for each code, two for each view, then room for the longest TX
abbrev pub row_len : ℕ
row_len = 180

abbrev pub vote_at : ℕ
vote_at = 0

abbrev pub reason_at : ℕ
reason_at = 1

abbrev pub decided_at : ℕ
decided_at = 2

abbrev pub log_at : ℕ
log_at = 3

abbrev pub log_view_at : ℕ
log_view_at = 4

abbrev pub view_at : ℕ
view_at = 6

abbrev pub body_at : ℕ
body_at = 8

-- how many bytes a table has
abbrev pub table_len : ℕ → ℕ
table_len capacity = head_len + capacity * row_len

-- row i of the rows
abbrev pub row_at : List ℕ → ℕ → List ℕ
row_at t i = take row_len (drop (i * row_len) t)

-- the rows with another row at i
abbrev pub put_row : List ℕ → ℕ → List ℕ → List ℕ
put_row t i r = take (i * row_len) t ++ (r ++ drop row_len (drop (i * row_len) t))

-- the bytes of a row behind codes and views: those of its TX, then what is left
abbrev pub row_tx : List ℕ → List ℕ
row_tx r = drop body_at r

-- ---- codes
-- "one of six reasons": what its number says
abbrev pub reason_of : ℕ → Reason
reason_of x = pick (eqb x 1) Ahead (pick (eqb x 2) NoVersion (pick (eqb x 3) Overwritten (pick (eqb x 4) Undercuts (pick (eqb x 5) ReadMark Dependency))))

-- "vote (waiting, commit, abort with reason, or none)": what its code and its reason's say
abbrev pub vote_of : ℕ → ℕ → Vote
vote_of x y = pick (eqb x 1) vote_commit (pick (eqb x 2) (vote_abort (reason_of y)) (pick (eqb x 3) waiting unvoted))

-- "decision or none": what the code says
abbrev pub settled_of : ℕ → Settled
settled_of x = pick (eqb x 1) (settled commit) (pick (eqb x 2) (settled abort) unsettled)

-- "logged decision or none": what the code says, and its view; any view is taken, and one beside no log is no part of it
abbrev pub log_of : ℕ → ℕ → Log
log_of x v = pick (eqb x 1) (logged_at commit (view_as v)) (pick (eqb x 2) (logged_at abort (view_as v)) unlogged)

-- the two bytes of a view, the lower one first
abbrev pub lower : View → ℕ
lower v = v.0 % 256

abbrev pub upper : View → ℕ
upper v = v.0 / 256

abbrev pub view_bytes : View → List ℕ
view_bytes v = lower v ∷ upper v ∷ []

-- ---- entries
-- what an entry holds beside the body: in a row, and in the rules
unfoldable pub state_at : List ℕ → State
state_at r =
    record {
      vote = vote_of (get_or r vote_at 0) (get_or r reason_at 0);
      log = log_of (get_or r log_at 0) (num_at 2 log_view_at r);
      view = view_as (num_at 2 view_at r);
      decided = settled_of (get_or r decided_at 0);
    }

unfoldable pub state_in : Entry → State
state_in e = record { vote = e.vote; log = e.log; view = e.view; decided = e.decided }

-- the entry of a body and of what is held beside it
unfoldable pub entry_with : Body → State → Entry
entry_with b x = record { body = b; vote = x.vote; log = x.log; view = x.view; decided = x.decided }

-- the body that a row holds: as many bytes as its counts give
unfoldable pub row_body : List ℕ → Body
row_body r = take (tx_len (row_tx r)) (row_tx r)

-- "An entry holds body, vote (waiting, commit, abort with reason, or none), logged decision or none, decision or none"; A5: its views
unfoldable pub entry_of : List ℕ → Entry
entry_of r = entry_with (row_body r) (state_at r)

abbrev pub entry_at : List ℕ → ℕ → Entry
entry_at t i = entry_of (row_at t i)

-- the entries of the first n rows
abbrev pub entries : List ℕ → ℕ → List Entry
entries t n = tab (entry_at t) 0 n

-- the byte that counts the entries
abbrev pub count_of : List ℕ → ℕ
count_of t = get_or t 0 0

-- the entries of a table
unfoldable pub entries_of : List ℕ → List Entry
entries_of t = entries (drop head_len t) (count_of t)

-- ---- what is taken as a table
-- "reason .. code outside its list": 1 to 6 beside an abort, else 0
unfoldable pub reason_wrong : ℕ → ℕ → Check
reason_wrong v r = pick (eqb v 2) (or_else (if_same r 0 table) (if_less 6 r table)) (if_less 0 r table)

-- a vote code, and the reason's beside it
abbrev pub vote_wrong : List ℕ → Check
vote_wrong r = or_else (if_less 3 (get_or r vote_at 0) table) (reason_wrong (get_or r vote_at 0) (get_or r reason_at 0))

-- the code of a log, and that of a decision
abbrev pub settled_wrong : List ℕ → Check
settled_wrong r = or_else (if_less 2 (get_or r log_at 0) table) (if_less 2 (get_or r decided_at 0) table)

-- "an entry's r or w above 8, or a vote, reason, log or decision code outside its list"
unfoldable pub row_wrong : List ℕ → Check
row_wrong r =
    or_else (if_less 8 (r_count (row_tx r)) table)
    (or_else (if_less 8 (w_count (row_tx r)) table)
    (or_else (vote_wrong r) (settled_wrong r)))

abbrev pub row_bad : List ℕ → Bool
row_bad r = is_err (row_wrong r)

-- 16: a slice too short for the capacity; "more entries than the capacity"; or some entry's row is wrong
unfoldable pub table_wrong : ℕ → List ℕ → Check
table_wrong capacity t =
    or_else (if_less (length t) (table_len capacity) table)
    (or_else (if_less capacity (count_of t) table) (when (any row_bad (tab (row_at (drop head_len t)) 0 (count_of t))) table))

-- what the check leaves of a row, and of rows
pub record WfRow (r : List ℕ) : Type 0 where
  pub long : length r ≡ row_len
  pub reads : r_count (row_tx r) ≤ 8
  pub writes : w_count (row_tx r) ≤ 8

pub record Wf (t : List ℕ) (n : ℕ) : Type 0 where
  pub room : n * row_len ≤ length t
  pub rows : (i : ℕ) → i < n → WfRow (row_at t i)

-- ---- look-up
-- "a look-up by stamp takes the first such entry": its place, or how many entries there are
unfoldable pub place : ℕ → List Entry → ℕ
place s [] = 0
place s (e ∷ es) = pick (eqb (stamp_of e.body) s) 0 (1 + place s es)

-- ---- store
-- the codes of what is held, each in its place
abbrev pub codes_of : State → List ℕ
codes_of x = vote_number x.vote ∷ vote_reason x.vote ∷ settled_number x.decided ∷ log_number x.log ∷ []

-- a row of body b and of what is held beside it; between the body's end and the row's stands what stood there
unfoldable pub new_row : List ℕ → Body → State → List ℕ
new_row d b x = codes_of x ++ (view_bytes (log_view x.log) ++ (view_bytes x.view ++ (b ++ drop (length b) (row_tx d))))

-- the count once row i is stored: one more where i is behind the last
unfoldable pub new_count : ℕ → ℕ → ℕ
new_count n i = pick (eqb i n) (n + 1) n

-- "in its place": the table with a body and what is held beside it in row i
unfoldable pub stored : List ℕ → ℕ → Body → State → List ℕ
stored t i b x =
    set
    (take (head_len + i * row_len) t ++ (new_row (take row_len (drop (head_len + i * row_len) t)) b x ++ drop row_len (drop (head_len + i * row_len) t)))
    0
    (new_count (count_of t) i)
