-- The eight moves that a message can be, on the entry of its stamp.
use Prim.Native.Nat.{ℕ, ◌≤◌, ◌<◌}
use mathlib.Core.Bool.{Bool, true, false, ◌&&◌}
use mathlib.Core.Path.{◌≡◌, refl, ap}
use mathlib.Core.Logic.{◌⊎◌}
use mathlib.Core.Option.{Option, some, none}
use mathlib.Core.List.{List, map, Memᴰ as In}
use native.Mathlib.Omega.{arith}
use lib.Dec.{T, eqb, eqb→eq, eqb_refl}
use Rattle.terms.specs.Checks.{passed}
use Rattle.records.specs.declared.Read.{Read}
use Rattle.records.specs.Tx.{read_key, read_version}
use Rattle.records.specs.Vl.{Vl}
use Rattle.records.specs.declared.Ballot.{Ballot}
use Rattle.records.specs.declared.ViewMark.TheVariants.{EL}
use Rattle.records.specs.Views.{Views, ballot_pair}
use Rattle.records.specs.Contents.{list_wrong, boxes_wrong, largest_key}
use Rattle.records.specs.declared.Mark.{Mark}
use Rattle.records.specs.declared.Mark.TheVariants.{LG, DC, LD}
use Rattle.std.specs.Prelude.{Ok}
use Rattle.rules.specs.Act.{EntryPoint, mark_by}
use Rattle.rules.specs.Answers.{Decision, commit, abort, votes, Settled, settled, unsettled, Vote, unvoted, waiting, vote_commit, vote_abort, Answer}
use Rattle.rules.specs.Answers.{Log, LoggedDecision, View, logged_at, unlogged, log_view, view_as}
use Rattle.rules.specs.Bodies.{Body, stamp_of, reads_of, writes_key}
use Rattle.rules.specs.Lists.{kind_of, decision_of, for_logging, for_proof, tally, meets}
use Rattle.rules.specs.Table.{Entry, Box, Told, find, folded_at, vote_in, log_in, view_in, live}
use Rattle.rules.specs.Tests.{undercut, test5}
use Rattle.rules.specs.Calls.{Act, keep, same_decision, cast_act, first_log, decide_act}
use Rattle.rules.specs.Fallback.{ballot_view, elect_act, led_act}
use Rattle.rules.specs.Quorums.{majority}
use Rattle.records.specs.Cutting.{tx_part}
use Rattle.records.specs.Messages.{due_refusal, list_behind, views_behind}
use Rattle.rules.specs.System.{Word, vote, log, elect, cast, word_in, same_word, is_word}
use Rattle.rules.proofs.Laws.{both, ands, same_decision_eq, same_decision_refl}

pub none_some : {A : Type 0} {o : Option A} {x : A} → o ≡ none → o ≡ some x → ⊥
none_some p q = let z : ◌≡◌ {A = ℕ} 0 1 = cc in omega arith

pub some_eq : {A : Type 0} {o : Option A} {x y : A} → o ≡ some x → o ≡ some y → x ≡ y
some_eq p q = cc

pub un_settled : {o : Settled} {d : Decision} → o ≡ unsettled → o ≡ settled d → ⊥
un_settled p q = let z : ◌≡◌ {A = ℕ} 0 1 = cc in omega arith

pub settled_eq : {o : Settled} {d e : Decision} → o ≡ settled d → o ≡ settled e → d ≡ e
settled_eq p q = cc

pub abort_commit : {o : Settled} → o ≡ settled abort → o ≡ settled commit → ⊥
abort_commit p q = let z : ◌≡◌ {A = ℕ} 0 1 = cc in omega arith

pub un_logged : {y : Log} {d : Decision} {v : View} → y ≡ unlogged → y ≡ logged_at d v → ⊥
un_logged p q = let z : ◌≡◌ {A = ℕ} 0 1 = cc in omega arith

pub logged_eq : {d d' : Decision} {v w : View} → logged_at d v ≡ logged_at d' w → (d ≡ d') × (v ≡ w)
logged_eq {d = d} {d' = d'} {v = v} {w = w} p =
    let e : ◌≡◌ {A = LoggedDecision} (record { decision = d; view = v }) (record { decision = d'; view = w }) = cc in
    (ap (λ (y : LoggedDecision). y.decision) e, ap (λ (y : LoggedDecision). y.view) e)

-- the words that an entry holds; an election answer is not held
unfoldable pub Holds : Option Entry → Word → Type 0
Holds o (vote d) = cast (vote_in o) ≡ settled d
Holds o (log d v) = log_in o ≡ logged_at d (view_as v)
Holds o (elect d v) = ⊥

unfoldable pub stands : Vote → Bool
stands unvoted = false
stands waiting = true
stands vote_commit = true
stands (vote_abort r) = false

pub stands_cast : (v : Vote) → cast v ≡ settled commit → T (stands v)
unfolding cast stands
stands_cast unvoted h = un_settled refl h
stands_cast waiting h = tt
stands_cast vote_commit h = tt
stands_cast (vote_abort r) h = abort_commit refl h

-- the tests for words
pub word_eq : (w : Word) (o : Option Word) → T (is_word w o) → o ≡ some w
unfolding is_word same_word
word_eq w none h = absurd h
word_eq w (some w') h = ap some (same w' w h)
  where
    at : (f : Decision → ℕ → Word) (d d' : Decision) (v v' : ℕ) → T (same_decision d d' && eqb v v') → f d v ≡ f d' v'
    at f d d' v v' k =
        let x : T (same_decision d d') = search ands in
        let y : T (eqb v v') = search ands in
        rw (same_decision_eq d d' x, eqb→eq v v' y) refl

    same : (a b : Word) → T (same_word a b) → a ≡ b
    same (vote d) (vote d') k = ap vote (same_decision_eq d d' k)
    same (vote d) (log d' v') k = absurd k
    same (vote d) (elect d' v') k = absurd k
    same (log d v) (vote d') k = absurd k
    same (log d v) (log d' v') k = at log d d' v v' k
    same (log d v) (elect d' v') k = absurd k
    same (elect d v) (vote d') k = absurd k
    same (elect d v) (log d' v') k = absurd k
    same (elect d v) (elect d' v') k = at elect d d' v v' k

same_word_lem : (w : Word) → T (same_word w w)
unfolding same_word
same_word_lem (vote d) = same_decision_refl d
same_word_lem (log d v) = both (same_decision d d) (eqb v v) (same_decision_refl d) (eqb_refl v)
same_word_lem (elect d v) = both (same_decision d d) (eqb v v) (same_decision_refl d) (eqb_refl v)

pub is_word_lem : (w : Word) (o : Option Word) → o ≡ some w → T (is_word w o)
unfolding is_word same_word
is_word_lem w o q = rw q (same_word_lem w)

-- the version that a read names is committed here, by a writer of the key
pub record Committed (x : Box) (r : Read) : Type 0 where
  pub entry : Entry
  pub at : find (read_version r) x.table ≡ some entry
  pub committed : entry.decided ≡ settled commit
  pub writes : T (writes_key entry.body (read_key r))

-- what a read may name: the start, a committed writer here, or A11's folded version
pub data Names (x : Box) (r : Read) : Type 0 where
  start : read_version r ≡ 0 → Names x r
  here_held : Committed x r → Names x r
  here_folded : folded_at x (read_key r) ≡ read_version r → Names x r

-- what a vote that is stored has been tested for
pub record Ready (x : Box) (b : Body) (v : Vote) : Type 0 where
  pub below : (r : Read) → In r (reads_of b) → read_version r < stamp_of b
  pub settled : v ≡ vote_commit → (r : Read) → In r (reads_of b) → Names x r

pub record Clear (x : Box) (b : Body) : Type 0 where
  pub under : (e : Entry) → In e x.table → T (live e) → T (undercut b e.body) → ⊥
  pub over : (e : Entry) → In e x.table → T (live e) → T (undercut e.body b) → ⊥
  pub unread : T (test5 x b) → ⊥
  pub folds : (r : Read) → In r (reads_of b) → folded_at x (read_key r) ≤ read_version r
  pub keys : (r : Read) → In r (reads_of b) → read_key r ≤ largest_key

-- what is held under the stamp of b: nothing, or b undecided
pub record Prior (t : List Entry) (b : Body) (o : Option Entry) : Type 0 where
  pub at : find (stamp_of b) t ≡ o
  pub body : (e : Entry) → o ≡ some e → e.body ≡ b
  pub undecided : (e : Entry) → o ≡ some e → e.decided ≡ unsettled

-- a list that is in order and reaches a threshold
pub record Listing (f : ℕ) (l : Vl) (need : ℕ) : Type 0 where
  pub formed : list_wrong f l ≡ passed
  pub enough : T (meets need l)

-- the messages that carry a list of votes, or of logs
pub data Listed : Mark → Type 0 where
  in_lg : Listed LG
  in_dc : Listed DC

-- a message that was read without refusal and carries a list: its body and its list
pub record Brings (f : ℕ) (way : EntryPoint) (m : List ℕ) (b : Body) (l : Vl) : Type 0 where
  pub mark : Mark
  pub marked : mark_by way m ≡ Ok mark
  pub read : due_refusal mark f m ≡ passed
  pub carries : Listed mark
  pub body : tx_part m ≡ b
  pub list : list_behind m ≡ l

-- a leader's decision that was read without refusal: its body and its election answers
pub record Leads (f : ℕ) (way : EntryPoint) (m : List ℕ) (b : Body) (l : Views) : Type 0 where
  pub marked : mark_by way m ≡ Ok LD
  pub read : due_refusal LD f m ≡ passed
  pub body : tx_part m ≡ b
  pub answers : views_behind EL m ≡ l

-- that carries the majority of election answers of its view
pub record Leading (f : ℕ) (l : Views) : Type 0 where
  pub formed : boxes_wrong f (map ballot_pair l.ballots) ≡ passed
  pub views : (p : Ballot) → In p l.ballots → ballot_view p ≡ l.view
  pub most : majority f ≤ tally l.decision (map ballot_pair l.ballots)

-- a decision that arrives with its proof
pub record Arrives (f : ℕ) (way : EntryPoint) (m : List ℕ) (b : Body) (l : Vl) : Type 0 where
  pub brings : Brings f way m b l
  pub listing : Listing f l (for_proof f (kind_of l.kind) (decision_of l.decision))

-- another body held under this stamp, not committed
pub record Rival (t : List Entry) (b : Body) (e : Entry) : Type 0 where
  pub at : find (stamp_of b) t ≡ some e
  pub other : e.body ≡ b → ⊥
  pub not_committed : e.decided ≡ settled commit → ⊥

pub data Move (f : ℕ) (x : Box) (way : EntryPoint) (m : List ℕ) (b : Body) : Act → Type 0 where
  -- nothing is stored, and no word is given
  quiet : {a : Answer} → word_in a ≡ none → Move f x way m b (keep a)
  -- a word that is held is given again
  again : {a : Answer} (w : Word) (e : Entry) → Prior x.table b (some e) → Holds (some e) w → word_in a ≡ some w → Move f x way m b (keep a)
  -- a vote after the tests, or a waiting one after the waiting rule
  casts : (v : Vote) (n : ℕ) (o : Option Entry) → Prior x.table b o → cast (vote_in o) ≡ unsettled → Ready x b v
      → (T (stands v) → Clear x b ⊎ (vote_in o ≡ waiting)) → Move f x way m b (cast_act b o v n)
  -- a first log
  logs_first : (l : Vl) (o : Option Entry) → Brings f way m b l → kind_of l.kind ≡ votes → Listing f l (for_logging f (decision_of l.decision))
      → Prior x.table b o → log_in o ≡ unlogged → Move f x way m b (first_log b (decision_of l.decision) o)
  -- a leader's log, of a view above that of the last log and not below the current one
  takes : (l : Views) (o : Option Entry) → Leads f way m b l → Leading f l → Prior x.table b o → (view_in o).0 ≤ l.view → (log_view (log_in o)).0 < l.view
      → Move f x way m b (led_act b l o)
  -- an election answer of what is logged, at a view not below the current one
  elects : (told : Told) (v : ℕ) (e : Entry) (d : Decision) (u : View) → Prior x.table b (some e) → e.log ≡ logged_at d u → (e.view).0 ≤ v
      → Move f x way m b (elect_act told b e d v)
  -- a first decision
  decides : (l : Vl) (o : Option Entry) → Arrives f way m b l → Prior x.table b o → Move f x way m b (decide_act b (decision_of l.decision) o)
  -- a committed body in the place of another
  replaces : (l : Vl) (e : Entry) → Arrives f way m b l → Rival x.table b e → decision_of l.decision ≡ commit → Move f x way m b (decide_act b commit none)
