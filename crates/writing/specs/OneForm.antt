-- Each record has one form: what the theorems say.
use Rattle.std.specs.Prelude.{ℕ, ◌^◌, ◌<◌, ◌≤◌, ◌≡◌, List, [], ◌∷◌, ◌⊎◌, length, get_or, Result, Ok, Err}
use Rattle.terms.specs.Checks.{passed, mark}
use Rattle.terms.specs.Group.{group_wrong}
use Rattle.terms.specs.Refusals.{number_of}
use Rattle.terms.specs.declared.Refusal.{Refusal}
use Rattle.records.specs.Tx.{Tx, tx_in, held_tx, tx_bytes, read_key, read_version, write_key, write_value}
use Rattle.records.specs.Vl.{Vl, view_of, list_in, held_list, vl_bytes}
use Rattle.records.specs.Views.{Views, OwnViews, views_in, held_views, views_bytes}
use Rattle.records.specs.Contents.{counts_wrong, count_wrong, tx_wrong, list_wrong, views_wrong, rd_wrong}
use Rattle.records.specs.Cutting.{carrier}
use Rattle.records.specs.Messages.{read_tx, read_vl, read_views, read_due, read_message}
use Rattle.records.specs.Writing.{pr_bytes, listed_bytes, viewed_bytes, rd_bytes, listed_wrong}
use Rattle.records.specs.declared.Ballot.{Ballot}
use Rattle.records.specs.declared.Mark.{Mark}
use Rattle.records.specs.declared.Mark.TheVariants.{PR, LG, DC, RD, IV, LD}
use Rattle.records.specs.declared.Message.{Message as MessageRead}
use Rattle.records.specs.declared.Message.TheVariants.{PR as a_pr, LG as an_lg, DC as a_dc, RD as an_rd, IV as an_iv, LD as an_ld}
use Rattle.records.specs.declared.Transaction.{Transaction}
use Rattle.records.specs.declared.ViewList.{ViewList}
use Rattle.records.specs.declared.ViewMark.{ViewMark}
use Rattle.records.specs.declared.ViewMark.TheVariants.{VS, EL}
use Rattle.records.specs.declared.VoteList.{VoteList}

-- a byte string
abbrev pub Bytes : List ℕ → Type 0
Bytes s = (i : ℕ) → get_or s i 0 < 256

pub data Each {A : Type 0} (P : A → Type 0) : List A → Type 0 where
  none : Each P []
  more : {x : A} {xs : List A} → P x → Each P xs → Each P (x ∷ xs)

-- a key that two bytes hold, and a number that eight hold
abbrev pub Fits : {A : Type 0} → (A → ℕ) → (A → ℕ) → A → Type 0
Fits k v x = (k x < 256 ^ 2) × (v x < 256 ^ 8)

-- a transaction in order: its counts, its contents, and each number fits its field
pub record TxRight (x : Tx) : Type 0 where
  pub counts : counts_wrong (length x.reads) (length x.writes) ≡ passed
  pub contents : tx_wrong x ≡ passed
  pub stamp : x.stamp < 256 ^ 8
  pub reads : Each (Fits read_key read_version) x.reads
  pub writes : Each (Fits write_key write_value) x.writes

-- "a list of kind 2 carries its view, two bytes": below 65,536; 0 where the kind is another
abbrev pub ViewRight : Vl → Type 0
ViewRight l = (view_of l.kind l.view ≡ l.view) × (l.view < 256 ^ 2)

-- a list in order in its group
pub record ListRight (f : ℕ) (l : Vl) : Type 0 where
  pub group : group_wrong f ≡ passed
  pub count : count_wrong (length l.pairs) ≡ passed
  pub contents : list_wrong f l ≡ passed
  pub view : ViewRight l

-- a box's view that two bytes hold
abbrev pub ViewFits : Ballot → Type 0
ViewFits b = b.view.0 < 256 ^ 2

-- a VS or an EL in order in its group: nothing beside what it tells, and each view fits its field
pub record ViewsRight (k : ViewMark) (f : ℕ) (l : Views) : Type 0 where
  pub group : group_wrong f ≡ passed
  pub count : count_wrong (length l.ballots) ≡ passed
  pub contents : views_wrong k f l ≡ passed
  pub own : OwnViews k l
  pub view : l.view < 256 ^ 2
  pub ballots : Each ViewFits l.ballots

-- ---- what a message says: a PR's transaction, an LG's or a DC's with its list, an IV's with its VS, an LD's with its EL, an RD's key and stamp
pub data Message : Type 0 where
  pr : Tx → Message
  listed : Mark → Tx → Vl → Message
  viewed : ViewMark → Tx → Views → Message
  rd : ℕ → ℕ → Message

abbrev pub its_mark : Message → Mark
its_mark (pr x) = PR
its_mark (listed k x l) = k
its_mark (viewed k x l) = carrier k
its_mark (rd n s) = RD

-- its bytes: what `write_pr`, `write_listed`, `write_viewed` and `write_rd` write
abbrev pub bytes_of : Message → List ℕ
bytes_of (pr x) = pr_bytes x
bytes_of (listed k x l) = listed_bytes k x l
bytes_of (viewed k x l) = viewed_bytes k x l
bytes_of (rd n s) = rd_bytes n s

-- in order in its group; a list stands where the mark carries one
abbrev pub Right : ℕ → Message → Type 0
Right f (pr x) = TxRight x
Right f (listed k x l) = TxRight x × ListRight f l × (listed_wrong k f l ≡ passed)
Right f (viewed k x l) = TxRight x × ViewsRight k f l
Right f (rd n s) = (rd_wrong n s ≡ passed) × (s < 256 ^ 8)

-- what reading it answers: a list stands in an LG or a DC (2), views in an IV or an LD
abbrev pub listed_as : Mark → Tx → Vl → Result MessageRead Refusal
listed_as PR x l = Err mark
listed_as LG x l = Ok (an_lg (held_tx x) (held_list l))
listed_as DC x l = Ok (a_dc (held_tx x) (held_list l))
listed_as RD x l = Err mark
listed_as IV x l = Err mark
listed_as LD x l = Err mark

abbrev pub viewed_as : ViewMark → Tx → Views → MessageRead
viewed_as VS x l = an_iv (held_tx x) (held_views l)
viewed_as EL x l = an_ld (held_tx x) (held_views l)

abbrev pub read_as : Message → Result MessageRead Refusal
read_as (pr x) = Ok (a_pr (held_tx x))
read_as (listed k x l) = listed_as k x l
read_as (viewed k x l) = Ok (viewed_as k x l)
read_as (rd n s) = Ok (an_rd (record { 0 = n }) (record { 0 = s }))

-- ---- what is written is read back as the same value: a message where its mark is due, and where any message is
pub record WrittenIsRead : Type 0 where
  pub tx : (x : Tx) → TxRight x → read_tx (tx_bytes x) ≡ Ok (held_tx x)
  pub vl : (f : ℕ) (l : Vl) → ListRight f l → read_vl f (vl_bytes l) ≡ Ok (held_list l)
  pub views : (k : ViewMark) (f : ℕ) (l : Views) → ViewsRight k f l → read_views k f (views_bytes k l) ≡ Ok (held_views l)
  pub due : (f : ℕ) (m : Message) → group_wrong f ≡ passed → Right f m → read_due (its_mark m) f (bytes_of m) ≡ read_as m
  pub message : (f : ℕ) (m : Message) → group_wrong f ≡ passed → Right f m → read_message f (bytes_of m) ≡ read_as m

-- ---- what is accepted, written again, is the same bytes
abbrev pub Accepted : {A : Type 0} → Result A Refusal → Type 0
Accepted {A} r = (x : A) × (r ≡ Ok x)

-- the bytes of what was read
abbrev pub written : MessageRead → List ℕ
written (a_pr x) = pr_bytes (tx_in x)
written (an_lg x l) = listed_bytes LG (tx_in x) (list_in l)
written (a_dc x l) = listed_bytes DC (tx_in x) (list_in l)
written (an_rd n s) = rd_bytes n.0 s.0
written (an_iv x l) = viewed_bytes VS (tx_in x) (views_in VS l)
written (an_ld x l) = viewed_bytes EL (tx_in x) (views_in EL l)

pub record ReadIsWritten : Type 0 where
  pub tx : (s : List ℕ) → Bytes s → (x : Transaction) → read_tx s ≡ Ok x → tx_bytes (tx_in x) ≡ s
  pub vl : (f : ℕ) (s : List ℕ) → Bytes s → (l : VoteList) → read_vl f s ≡ Ok l → vl_bytes (list_in l) ≡ s
  pub views : (k : ViewMark) (f : ℕ) (s : List ℕ) → Bytes s → (l : ViewList) → read_views k f s ≡ Ok l → views_bytes k (views_in k l) ≡ s
  pub due : (k : Mark) (f : ℕ) (m : List ℕ) → Bytes m → (x : MessageRead) → read_due k f m ≡ Ok x → written x ≡ m
  pub message : (f : ℕ) (m : List ℕ) → Bytes m → (x : MessageRead) → read_message f m ≡ Ok x → written x ≡ m

-- ---- one form: byte strings of which one is accepted, and which are read alike, are alike
abbrev pub OneFormOf : {A : Type 0} → (List ℕ → Result A Refusal) → Type 0
OneFormOf read = (s t : List ℕ) → Bytes s → Bytes t → Accepted (read s) → read s ≡ read t → s ≡ t

pub record OneForm : Type 0 where
  pub tx : OneFormOf read_tx
  pub vl : (f : ℕ) → OneFormOf (read_vl f)
  pub views : (k : ViewMark) (f : ℕ) → OneFormOf (read_views k f)
  pub due : (k : Mark) (f : ℕ) → OneFormOf (read_due k f)
  pub message : (f : ℕ) → OneFormOf (read_message f)

-- ---- every byte string is accepted, or refused with one of the numbers that bytes alone can have: 1 to 8, and 14
abbrev pub ReaderNumber : ℕ → Type 0
ReaderNumber n = ((1 ≤ n) × (n ≤ 8)) ⊎ (n ≡ 14)

abbrev pub AcceptedOrRefused : Type 0
AcceptedOrRefused = (f : ℕ) (m : List ℕ) → Accepted (read_message f m) ⊎ ((r : Refusal) × (ReaderNumber (number_of r) × (read_message f m ≡ Err r)))
