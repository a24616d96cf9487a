-- A transaction, a list and a list of views lent as numbers and arrays, and a reading and a writer's answer said in them.
use Rattle.std.specs.Prelude.{ℕ, List, [], ◌∷◌, eqb, get_or, Result, Ok, Err}
use Rattle.std.specs.Result.{result_unwrap_or}
use Rattle.terms.specs.Choice.{pick, tab}
use Rattle.terms.specs.Checks.{mark}
use Rattle.terms.specs.Refusals.{number_of}
use Rattle.terms.specs.declared.Key.{Key}
use Rattle.terms.specs.declared.Refusal.{Refusal}
use Rattle.terms.specs.declared.Stamp.{Stamp}
use Rattle.records.specs.Tx.{read_key, read_version, write_key, write_value, reads_in, writes_in, held_tx, no_tx}
use Rattle.records.specs.Vl.{pairs_in, held_list, no_list}
use Rattle.records.specs.Views.{ballots_in, held_views, no_views}
use Rattle.records.specs.declared.Read.{Read}
use Rattle.records.specs.declared.Write.{Write}
use Rattle.records.specs.declared.Pair.{Pair}
use Rattle.records.specs.declared.Ballot.{Ballot}
use Rattle.records.specs.declared.Transaction.{Transaction}
use Rattle.records.specs.declared.VoteList.{VoteList}
use Rattle.records.specs.declared.ViewList.{ViewList}
use Rattle.records.specs.declared.Mark.{Mark}
use Rattle.records.specs.declared.Mark.TheVariants.{PR, LG, DC, RD, IV, LD}
use Rattle.records.specs.declared.Message.{Message}
use Rattle.records.specs.declared.Message.TheVariants.{PR as pr, LG as lg, DC as dc, RD as rd, IV as iv, LD as ld}
use Rattle.arrays.specs.declared.Parts.{Parts}

-- ---- put together
abbrev pub lent_read : List ℕ → List ℕ → ℕ → Read
lent_read keys versions j = record { key = record { 0 = get_or keys j 0 }; version = record { 0 = get_or versions j 0 } }

abbrev pub lent_write : List ℕ → List ℕ → ℕ → Write
lent_write keys values j = record { key = record { 0 = get_or keys j 0 }; value = get_or values j 0 }

abbrev pub lent_pair : List ℕ → List ℕ → ℕ → Pair
lent_pair numbers answers j = record { number = get_or numbers j 0; answer = get_or answers j 0 }

abbrev pub lent_ballot : List ℕ → List ℕ → List ℕ → ℕ → Ballot
lent_ballot numbers answers views j =
    record { number = get_or numbers j 0; answer = get_or answers j 0; view = record { 0 = get_or views j 0 } }

-- stamp, r and w; the keys and versions read, the keys and values written, eight places each
unfoldable pub lent_tx : ℕ → ℕ → ℕ → List ℕ → List ℕ → List ℕ → List ℕ → Transaction
lent_tx stamp r w read_keys versions write_keys values =
    record {
      stamp = record { 0 = stamp };
      r = r;
      w = w;
      reads = tab (lent_read read_keys versions) 0 8;
      writes = tab (lent_write write_keys values) 0 8;
    }

-- kind, decision, view and count; the box numbers and their answers, 26 places each
unfoldable pub lent_list : ℕ → ℕ → ℕ → ℕ → List ℕ → List ℕ → VoteList
lent_list kind decision view count numbers answers =
    record { kind = kind; decision = decision; view = record { 0 = view }; count = count; pairs = tab (lent_pair numbers answers) 0 26 }

-- leader, decision, view and count; the box numbers, their answers and their views, 26 places each
unfoldable pub lent_views : ℕ → ℕ → ℕ → ℕ → List ℕ → List ℕ → List ℕ → ViewList
lent_views leader decision view count numbers answers views =
    record {
      leader = leader;
      decision = decision;
      view = record { 0 = view };
      count = count;
      ballots = tab (lent_ballot numbers answers views) 0 26;
    }

-- ---- an answer: the refusal's number; 0 where something is answered. What its caller holds for a refusal tells the number by g
abbrev pub number_by : {A E : Type 0} → (E → ℕ) → Result A E → ℕ
number_by g (Ok a) = 0
number_by g (Err r) = g r

abbrev pub refusal_number : {A : Type 0} → Result A Refusal → ℕ
refusal_number x = number_by number_of x

-- what is put down of it; zeros where it was refused
abbrev pub tx_or_none : Result Transaction Refusal → Transaction
tx_or_none x = result_unwrap_or x (held_tx no_tx)

abbrev pub list_or_none : Result VoteList Refusal → VoteList
list_or_none x = result_unwrap_or x (held_list no_list)

abbrev pub views_or_none : Result ViewList Refusal → ViewList
views_or_none x = result_unwrap_or x (held_views no_views)

-- ---- a writer's answer
-- 0 where the record was written, else the refusal's number
abbrev pub written_number : Result ℕ Refusal → ℕ
written_number w = refusal_number w

-- the record's length; 0 where it was refused
abbrev pub written_length : Result ℕ Refusal → ℕ
written_length w = result_unwrap_or w 0

-- ---- taken apart: all places of an array
abbrev pub read_keys : List Read → List ℕ
read_keys a = tab (λ j. read_key (reads_in a j)) 0 8

abbrev pub read_versions : List Read → List ℕ
read_versions a = tab (λ j. read_version (reads_in a j)) 0 8

abbrev pub write_keys : List Write → List ℕ
write_keys a = tab (λ j. write_key (writes_in a j)) 0 8

abbrev pub write_values : List Write → List ℕ
write_values a = tab (λ j. write_value (writes_in a j)) 0 8

abbrev pub pair_numbers : List Pair → List ℕ
pair_numbers a = tab (λ j. (pairs_in a j).number) 0 26

abbrev pub pair_answers : List Pair → List ℕ
pair_answers a = tab (λ j. (pairs_in a j).answer) 0 26

abbrev pub ballot_numbers : List Ballot → List ℕ
ballot_numbers a = tab (λ j. (ballots_in a j).number) 0 26

abbrev pub ballot_answers : List Ballot → List ℕ
ballot_answers a = tab (λ j. (ballots_in a j).answer) 0 26

abbrev pub ballot_views : List Ballot → List ℕ
ballot_views a = tab (λ j. (ballots_in a j).view.0) 0 26

-- ---- a reading: the refusal's number, or 0
abbrev pub found_number : Result Message Refusal → ℕ
found_number x = refusal_number x

-- a mark's number, and a message's mark
abbrev pub number_of_mark : Mark → ℕ
number_of_mark PR = 1
number_of_mark LG = 2
number_of_mark DC = 3
number_of_mark RD = 4
number_of_mark IV = 5
number_of_mark LD = 6

abbrev pub mark_in : Message → Mark
mark_in (pr x) = PR
mark_in (lg x l) = LG
mark_in (dc x l) = DC
mark_in (rd k s) = RD
mark_in (iv x l) = IV
mark_in (ld x l) = LD

-- which message was found, where g tells its mark; 0 where it was refused
abbrev pub mark_number_by : {A E : Type 0} → (A → Mark) → Result A E → ℕ
mark_number_by g (Ok x) = number_of_mark (g x)
mark_number_by g (Err r) = 0

-- which message was read; 0 where it was refused
abbrev pub mark_number : Result Message Refusal → ℕ
mark_number x = mark_number_by mark_in x

-- the mark that a number names; "mark is not the one due" where it names none
unfoldable pub marked_by : ℕ → Result Mark Refusal
marked_by n =
    pick (eqb n 1) (Ok PR)
    (pick (eqb n 2) (Ok LG)
    (pick (eqb n 3) (Ok DC)
    (pick (eqb n 4) (Ok RD)
    (pick (eqb n 5) (Ok IV)
    (pick (eqb n 6) (Ok LD) (Err mark))))))

-- what was read: the transaction, the list, the list of views and the key; zeros where the message carries none, and where it was refused
abbrev pub tx_in_reading : Result Message Refusal → Transaction
tx_in_reading (Ok (pr x)) = x
tx_in_reading (Ok (lg x l)) = x
tx_in_reading (Ok (dc x l)) = x
tx_in_reading (Ok (rd k s)) = held_tx no_tx
tx_in_reading (Ok (iv x l)) = x
tx_in_reading (Ok (ld x l)) = x
tx_in_reading (Err r) = held_tx no_tx

abbrev pub list_in_reading : Result Message Refusal → VoteList
list_in_reading (Ok (pr x)) = held_list no_list
list_in_reading (Ok (lg x l)) = l
list_in_reading (Ok (dc x l)) = l
list_in_reading (Ok (rd k s)) = held_list no_list
list_in_reading (Ok (iv x l)) = held_list no_list
list_in_reading (Ok (ld x l)) = held_list no_list
list_in_reading (Err r) = held_list no_list

abbrev pub views_in_reading : Result Message Refusal → ViewList
views_in_reading (Ok (pr x)) = held_views no_views
views_in_reading (Ok (lg x l)) = held_views no_views
views_in_reading (Ok (dc x l)) = held_views no_views
views_in_reading (Ok (rd k s)) = held_views no_views
views_in_reading (Ok (iv x l)) = l
views_in_reading (Ok (ld x l)) = l
views_in_reading (Err r) = held_views no_views

abbrev pub key_in_reading : Result Message Refusal → Key
key_in_reading (Ok (pr x)) = record { 0 = 0 }
key_in_reading (Ok (lg x l)) = record { 0 = 0 }
key_in_reading (Ok (dc x l)) = record { 0 = 0 }
key_in_reading (Ok (rd k s)) = k
key_in_reading (Ok (iv x l)) = record { 0 = 0 }
key_in_reading (Ok (ld x l)) = record { 0 = 0 }
key_in_reading (Err r) = record { 0 = 0 }

-- an RD's own stamp, else the transaction's
abbrev pub found_stamp : Result Message Refusal → Stamp
found_stamp (Ok (pr x)) = x.stamp
found_stamp (Ok (lg x l)) = x.stamp
found_stamp (Ok (dc x l)) = x.stamp
found_stamp (Ok (rd k s)) = s
found_stamp (Ok (iv x l)) = x.stamp
found_stamp (Ok (ld x l)) = x.stamp
found_stamp (Err r) = (held_tx no_tx).stamp

-- a reading's numbers: mark, stamp, r, w, key, kind, decision, view, count
abbrev pub head_row : Result Message Refusal → List ℕ
head_row x =
    mark_number x
    ∷ (found_stamp x).0
    ∷ (tx_in_reading x).r
    ∷ (tx_in_reading x).w
    ∷ (key_in_reading x).0
    ∷ (list_in_reading x).kind
    ∷ (list_in_reading x).decision
    ∷ (list_in_reading x).view.0
    ∷ (list_in_reading x).count
    ∷ []

-- a transaction in the arrays lent for it
pub record TxFields : Type 0 where
  pub reads : List ℕ
  pub versions : List ℕ
  pub writes : List ℕ
  pub values : List ℕ

abbrev pub tx_fields : List ℕ → List ℕ → List ℕ → List ℕ → TxFields
tx_fields reads versions writes values = record { reads = reads; versions = versions; writes = writes; values = values }

-- its numbers: stamp, r, w
abbrev pub tx_row : Transaction → List ℕ
tx_row x = x.stamp.0 ∷ x.r ∷ x.w ∷ []

unfoldable pub tx_fields_of : Transaction → TxFields
tx_fields_of x = tx_fields (read_keys x.reads) (read_versions x.reads) (write_keys x.writes) (write_values x.writes)

-- all that was read, in the arrays lent for it
pub record Fields : Type 0 where
  pub head : List ℕ
  pub reads : List ℕ
  pub versions : List ℕ
  pub writes : List ℕ
  pub values : List ℕ
  pub numbers : List ℕ
  pub answers : List ℕ

abbrev pub fields : List ℕ → List ℕ → List ℕ → List ℕ → List ℕ → List ℕ → List ℕ → Fields
fields head reads versions writes values numbers answers =
    record { head = head; reads = reads; versions = versions; writes = writes; values = values; numbers = numbers; answers = answers }

unfoldable pub fields_of : Result Message Refusal → Fields
fields_of x =
    fields
    (head_row x)
    (read_keys (tx_in_reading x).reads)
    (read_versions (tx_in_reading x).reads)
    (write_keys (tx_in_reading x).writes)
    (write_values (tx_in_reading x).writes)
    (pair_numbers (list_in_reading x).pairs)
    (pair_answers (list_in_reading x).pairs)

-- ---- the parts of a message by themselves, in any combination: an RD has its own stamp, the others have the transaction's
abbrev pub stamp_by : Result Mark ℕ → Stamp → Stamp → Stamp
stamp_by (Ok PR) own tx = tx
stamp_by (Ok LG) own tx = tx
stamp_by (Ok DC) own tx = tx
stamp_by (Ok RD) own tx = own
stamp_by (Ok IV) own tx = tx
stamp_by (Ok LD) own tx = tx
stamp_by (Err n) own tx = tx

abbrev pub parts_stamp : Parts → Stamp
parts_stamp x = stamp_by x.found x.stamp x.tx.stamp

-- their numbers: mark, stamp, r, w, key, kind, decision, view, count
abbrev pub parts_row : Parts → List ℕ
parts_row x =
    mark_number_by (λ k. k) x.found
    ∷ (parts_stamp x).0
    ∷ x.tx.r
    ∷ x.tx.w
    ∷ x.key.0
    ∷ x.list.kind
    ∷ x.list.decision
    ∷ x.list.view.0
    ∷ x.list.count
    ∷ []

unfoldable pub parts_fields : Parts → Fields
parts_fields x =
    fields
    (parts_row x)
    (read_keys x.tx.reads)
    (read_versions x.tx.reads)
    (write_keys x.tx.writes)
    (write_values x.tx.writes)
    (pair_numbers x.list.pairs)
    (pair_answers x.list.pairs)

-- those of a reading: its mark or its refusal's number; the stamp that an RD has of its own
abbrev pub mark_found : Result Message Refusal → Result Mark ℕ
mark_found (Ok x) = Ok (mark_in x)
mark_found (Err r) = Err (number_of r)

abbrev pub own_stamp : Result Message Refusal → Stamp
own_stamp (Ok (pr x)) = record { 0 = 0 }
own_stamp (Ok (lg x l)) = record { 0 = 0 }
own_stamp (Ok (dc x l)) = record { 0 = 0 }
own_stamp (Ok (rd k s)) = s
own_stamp (Ok (iv x l)) = record { 0 = 0 }
own_stamp (Ok (ld x l)) = record { 0 = 0 }
own_stamp (Err r) = record { 0 = 0 }

abbrev pub parts_of : Result Message Refusal → Parts
parts_of x =
    record {
      found = mark_found x;
      stamp = own_stamp x;
      key = key_in_reading x;
      tx = tx_in_reading x;
      list = list_in_reading x;
    }

-- a list of views in the arrays lent for it: leader, decision, view, count; the boxes, their answers, their views
pub record ViewFields : Type 0 where
  pub head : List ℕ
  pub numbers : List ℕ
  pub answers : List ℕ
  pub views : List ℕ

abbrev pub view_fields : List ℕ → List ℕ → List ℕ → List ℕ → ViewFields
view_fields head numbers answers views = record { head = head; numbers = numbers; answers = answers; views = views }

abbrev pub view_row : ViewList → List ℕ
view_row l = l.leader ∷ l.decision ∷ l.view.0 ∷ l.count ∷ []

unfoldable pub view_fields_of : ViewList → ViewFields
view_fields_of l = view_fields (view_row l) (ballot_numbers l.ballots) (ballot_answers l.ballots) (ballot_views l.ballots)

-- a list in the arrays lent for it: kind, decision, view, count; the boxes, their answers
pub record ListFields : Type 0 where
  pub head : List ℕ
  pub numbers : List ℕ
  pub answers : List ℕ

abbrev pub list_fields : List ℕ → List ℕ → List ℕ → ListFields
list_fields head numbers answers = record { head = head; numbers = numbers; answers = answers }

abbrev pub list_row : VoteList → List ℕ
list_row l = l.kind ∷ l.decision ∷ l.view.0 ∷ l.count ∷ []

unfoldable pub list_fields_of : VoteList → ListFields
list_fields_of l = list_fields (list_row l) (pair_numbers l.pairs) (pair_answers l.pairs)
