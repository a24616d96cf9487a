-- DEMAND 3: many boxes under the rules, any messages in any order, and what is claimed of them. A trace lists what happened, the newest first.
use Rattle.std.specs.Prelude.{ℕ, zero, suc, ◌+◌, ◌≤◌, ◌<◌, Bool, false, not, ◌&&◌, ◌||◌, ◌≡◌, T, eqb}
use mathlib.Core.List.{List, [], ◌∷◌, Memᴰ as In}
use Rattle.std.proofs.Math.Option.{Option, some, none}
use Rattle.terms.specs.Choice.{pick}
use Rattle.terms.specs.Group.{boxes}
use Rattle.records.specs.declared.Read.{Read}
use Rattle.records.specs.declared.Pair.{Pair}
use Rattle.records.specs.Tx.{read_key, read_version}
use Rattle.records.specs.Vl.{Vl}
use Rattle.records.specs.declared.Ballot.{Ballot}
use Rattle.records.specs.Views.{Views}
use Rattle.records.specs.declared.ViewMark.TheVariants.{EL}
use Rattle.records.specs.Contents.{list_wrong}
use Rattle.records.specs.declared.Mark.{Mark}
use Rattle.records.specs.declared.Mark.TheVariants.{PR, LG, DC, RD, IV, LD}
use Rattle.std.specs.Prelude.{Ok}
use Rattle.terms.specs.Checks.{passed}
use Rattle.records.specs.Cutting.{tx_part}
use Rattle.records.specs.Messages.{due_refusal, list_behind, views_behind}
use Rattle.rules.specs.Answers.{Answer, Decided, Decision, Done, Elected, Found, Kind, Logged, Raised, Refused, Voted, abort, commit, logs, votes}
use Rattle.rules.specs.Answers.{Settled, Vote, settled, unsettled, unvoted, vote_abort, vote_commit, waiting}
use Rattle.rules.specs.Bodies.{Body, reads_of, same_body, stamp_of, writes_key}
use Rattle.rules.specs.Lists.{bit, decision_of, for_proof, kind_of, meets}
use Rattle.rules.specs.Table.{Box, Told, empty}
use Rattle.rules.specs.Calls.{same_decision}
use Rattle.rules.specs.Fallback.{ballot_view}
use Rattle.rules.specs.Act.{EntryPoint, act, after, mark_by}

-- any bytes that reach a box, by any entry point: "their capacities, clocks and δ may differ", from one message to the next too
pub record Event : Type 0 where
  pub box : ℕ
  pub entry : EntryPoint
  pub capacity : ℕ
  pub clock : ℕ
  pub delta : ℕ
  pub message : List ℕ

-- "All sound boxes have the same f"
abbrev pub told_at : ℕ → Event → Told
told_at f e = record { f = f; capacity = e.capacity; clock = e.clock; delta = e.delta }

-- box i after a trace
unfoldable pub box_at : ℕ → ℕ → List Event → Box
box_at f i [] = empty
box_at f i (e ∷ es) = pick (eqb e.box i) (after e.entry (told_at f e) (box_at f i es) e.message) (box_at f i es)

-- what is answered to a message that comes after a trace
unfoldable pub answer_to : ℕ → Event → List Event → Answer
answer_to f e es = (act e.entry (told_at f e) (box_at f e.box es) e.message).answer

-- what a box can be held to: a vote; "a log or election answer .. with the decision and the view it was given with"
pub data Word : Type 0 where
  vote : Decision → Word
  log elect : Decision → ℕ → Word

unfoldable pub word : Kind → ℕ → Decision → Word
word votes v d = vote d
word logs v d = log d v

-- "The answers Decided, wait and Done are neither votes nor logged decisions."
unfoldable pub cast : Vote → Settled
cast unvoted = unsettled
cast waiting = unsettled
cast vote_commit = settled commit
cast (vote_abort r) = settled abort

unfoldable pub vote_word : Settled → Option Word
vote_word unsettled = none
vote_word (settled d) = some (vote d)

unfoldable pub word_in : Answer → Option Word
word_in (Voted v n) = vote_word (cast v)
word_in (Logged d v) = some (log d v.0)
word_in (Elected d v l) = some (elect d v.0)
word_in (Decided d) = none
word_in Done = none
word_in Raised = none
word_in (Found committed undecided) = none
word_in (Refused r) = none

unfoldable pub same_word : Word → Word → Bool
same_word (vote a) (vote b) = same_decision a b
same_word (vote a) (log b w) = false
same_word (vote a) (elect b w) = false
same_word (log a v) (vote b) = false
same_word (log a v) (log b w) = same_decision a b && eqb v w
same_word (log a v) (elect b w) = false
same_word (elect a v) (vote b) = false
same_word (elect a v) (log b w) = false
same_word (elect a v) (elect b w) = same_decision a b && eqb v w

unfoldable pub is_word : Word → Option Word → Bool
is_word w none = false
is_word w (some said) = same_word said w

-- with this message box i gives this word "for exactly this body"; it gave it somewhere in the trace
unfoldable pub gives_now : ℕ → ℕ → Body → Word → Event → List Event → Bool
gives_now f i b w e es = eqb e.box i && (same_body (tx_part e.message) b && is_word w (word_in (answer_to f e es)))

unfoldable pub gave : ℕ → ℕ → Body → Word → List Event → Bool
gave f i b w [] = false
gave f i b w (e ∷ es) = gives_now f i b w e es || gave f i b w es

-- who gave what: a box, for a body, a word; and of a trace
abbrev pub Given : Type 0
Given = ℕ → Body → Word → Bool

abbrev pub given_in : ℕ → List Event → Given
given_in f es = λ i b w. gave f i b w es

-- how many of the numbers below n pass a test
unfoldable pub how_many : (ℕ → Bool) → ℕ → ℕ
how_many p zero = 0
how_many p (suc n) = bit (p n) + how_many p n

module _ (f : ℕ) (faulty : ℕ → Bool) where
  abbrev pub Sound : ℕ → Type 0
  Sound i = (i < boxes f) × T (not (faulty i))

  -- a list "made of votes, or of logged decisions, that sound boxes have given for exactly this body, with anything under the faulty boxes' numbers"
  unfoldable pub BackedBy : Given → Body → Vl → Type 0
  BackedBy given b l =
      (p : Pair) → In p l.pairs → Sound p.number → T (given p.number b (word (kind_of l.kind) l.view (decision_of p.answer)))

  abbrev pub Backed : List Event → Body → Vl → Type 0
  Backed es b l = BackedBy (given_in f es) b l

  -- A5: "with the same premise on election answers"
  unfoldable pub ChosenBy : Given → Body → Views → Type 0
  ChosenBy given b l =
      (p : Ballot) → In p l.ballots → Sound p.number → T (given p.number b (elect (decision_of p.answer) (ballot_view p)))

  -- the messages that carry a list; safety does not rest on the views of an IV
  unfoldable pub Carries : Given → Mark → List ℕ → Type 0
  Carries given PR m = Unit {0}
  Carries given LG m = BackedBy given (tx_part m) (list_behind m)
  Carries given DC m = BackedBy given (tx_part m) (list_behind m)
  Carries given RD m = Unit {0}
  Carries given IV m = Unit {0}
  Carries given LD m = ChosenBy given (tx_part m) (views_behind EL m)

  -- asked of a message only if it is read without refusal
  unfoldable pub HonestBy : Given → EntryPoint → List ℕ → Type 0
  HonestBy given p m = (k : Mark) → mark_by p m ≡ Ok k → due_refusal k f m ≡ passed → Carries given k m

  abbrev pub Honest : List Event → EntryPoint → List ℕ → Type 0
  Honest es p m = HonestBy (given_in f es) p m

  -- the premise ("signatures (checked before a message arrives)"): the lists that reach sound boxes are backed by what was given before
  unfoldable pub Fair : List Event → Type 0
  Fair [] = Unit {0}
  Fair (e ∷ es) = Fair es × (Sound e.box → Honest es e.entry e.message)

  -- "a transaction has a proof from the moment when a list meeting a proof's threshold can be made": the same predicate on lists
  pub record ProofBy (given : Given) (b : Body) (d : Decision) : Type 0 where
    pub list : Vl
    pub names : decision_of list.decision ≡ d
    pub formed : list_wrong f list ≡ passed
    pub enough : T (meets (for_proof f (kind_of list.kind) (decision_of list.decision)) list)
    pub backed : BackedBy given b list

  abbrev pub Proof : List Event → Body → Decision → Type 0
  Proof es b d = ProofBy (given_in f es) b d

-- the version that stands at each key after a transaction has run
unfoldable pub written : (ℕ → ℕ) → Body → ℕ → ℕ
written at b k = pick (writes_key b k) (stamp_of b) (at k)

-- transactions run one after another: each read names the version that stands there
unfoldable pub Serial : (ℕ → ℕ) → List Body → Type 0
Serial at [] = Unit {0}
Serial at (b ∷ bs) = ((r : Read) → In r (reads_of b) → at (read_key r) ≡ read_version r) × Serial (written at b) bs

unfoldable pub InOrder : List Body → Type 0
InOrder [] = Unit {0}
InOrder (b ∷ bs) = ((c : Body) → In c bs → stamp_of b < stamp_of c) × InOrder bs

-- just the committed ones, in stamp order
pub record ListsBy (f : ℕ) (faulty : ℕ → Bool) (given : Given) (bs : List Body) : Type 0 where
  pub order : InOrder bs
  pub only : (b : Body) → In b bs → ProofBy f faulty given b commit
  pub every : (b : Body) → ProofBy f faulty given b commit → In b bs

-- what is claimed of whatever was given
pub record SafeBy (f : ℕ) (faulty : ℕ → Bool) (given : Given) : Type 0 where
  -- no transaction has both a commit proof and an abort proof
  pub one_outcome : (b : Body) → ProofBy f faulty given b commit → ProofBy f faulty given b abort → ⊥
  -- no two bodies under one stamp both commit
  pub one_body : (b c : Body) → stamp_of b ≡ stamp_of c → ProofBy f faulty given b commit → ProofBy f faulty given c commit → b ≡ c
  -- the committed ones can be listed in stamp order
  pub listed : (bs : List Body) × ListsBy f faulty given bs
  -- and every such list runs, from version 0 at every key, with each read naming the version that stands there
  pub serial : (bs : List Body) → ListsBy f faulty given bs → Serial (λ k. 0) bs

abbrev pub Lists : ℕ → (ℕ → Bool) → List Event → List Body → Type 0
Lists f faulty es bs = ListsBy f faulty (given_in f es) bs

abbrev pub Safe : ℕ → (ℕ → Bool) → List Event → Type 0
Safe f faulty es = SafeBy f faulty (given_in f es)

-- the claim, for every f, so for 1 to 5 too, and for every set of at most f faulty boxes; at every moment, since each tail of a fair trace is fair
abbrev pub Safety : Type 0
Safety = (f : ℕ) (faulty : ℕ → Bool) → how_many faulty (boxes f) ≤ f → (es : List Event) → Fair f faulty es → Safe f faulty es
