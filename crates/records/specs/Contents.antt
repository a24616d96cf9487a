-- "Then contents: all of TX for 5, then 6, then 7; a list .. for 8, then 5, then 6. RD has 5". A VS has 5, then 6.
use Rattle.std.specs.Prelude.{ℕ, ◌+◌, Bool, ◌||◌, List, map, eqb, ltb, leb}
use Rattle.terms.specs.Choice.{any, falls}
use Rattle.terms.specs.Checks.{Check, or_else, when, if_less, if_same, count, range, order, misbehaviour, code}
use Rattle.terms.specs.Group.{boxes}
use Rattle.records.specs.declared.Read.{Read}
use Rattle.records.specs.declared.Write.{Write}
use Rattle.records.specs.declared.Pair.{Pair}
use Rattle.records.specs.Tx.{Tx, read_key, read_version, write_key}
use Rattle.records.specs.Vl.{Vl}
use Rattle.records.specs.declared.ViewMark.{ViewMark}
use Rattle.records.specs.declared.ViewMark.TheVariants.{VS, EL}
use Rattle.records.specs.Views.{Views, ballot_pair}

-- "count: r or w above 8, r + w = 0"
unfoldable pub counts_wrong : ℕ → ℕ → Check
counts_wrong r w = or_else (if_less 8 r count) (or_else (if_less 8 w count) (if_same (r + w) 0 count))

-- "count: .. list count 0 or above 26"
unfoldable pub count_wrong : ℕ → Check
count_wrong n = or_else (if_same n 0 count) (if_less 26 n count)

-- "keys 0 to 511"
abbrev pub largest_key : ℕ
largest_key = 511

-- "key above 511"
abbrev pub read_wide : Read → Bool
read_wide r = ltb largest_key (read_key r)

abbrev pub write_wide : Write → Bool
write_wide w = ltb largest_key (write_key w)

-- "a read version at or above the own stamp"
abbrev pub too_new : ℕ → Read → Bool
too_new s r = leb s (read_version r)

-- "range: stamp 0, key above 511"; "order: keys .. not strictly rising"; "misbehaviour: a read version at or above the own stamp"
unfoldable pub tx_wrong : Tx → Check
tx_wrong x =
    or_else (if_same x.stamp 0 range)
    (or_else (when (any read_wide x.reads) range)
    (or_else (when (any write_wide x.writes) range)
    (or_else (when (falls read_key 0 x.reads) order)
    (or_else (when (falls write_key 0 x.writes) order)
    (when (any (too_new x.stamp) x.reads) misbehaviour)))))

-- "not 1 or 2"
unfoldable pub code_wrong : ℕ → Check
code_wrong n = or_else (if_same n 0 code) (if_less 2 n code)

abbrev pub answer_odd : Pair → Bool
answer_odd p = eqb p.answer 0 || ltb 2 p.answer

-- "box number n or more"
abbrev pub box_wide : ℕ → Pair → Bool
box_wide f p = leb (boxes f) p.number

abbrev pub pair_box : Pair → ℕ
pair_box p = p.number

-- "range: .. box number n or more"; "order: .. box numbers not strictly rising"
abbrev pub boxes_wrong : ℕ → List Pair → Check
boxes_wrong f ps = or_else (when (any (box_wide f) ps) range) (when (falls pair_box 0 ps) order)

-- "code: kind, decision or answer not 1 or 2"; then the boxes
unfoldable pub list_wrong : ℕ → Vl → Check
list_wrong f l =
    or_else (code_wrong l.kind)
    (or_else (code_wrong l.decision)
    (or_else (when (any answer_odd l.pairs) code)
    (boxes_wrong f l.pairs)))

-- the kind of a list of logs
abbrev pub logs : ℕ
logs = 2

-- the list of an LG: "code: .. kind 2 in an LG"
unfoldable pub log_list_wrong : ℕ → Vl → Check
log_list_wrong f l = or_else (if_same l.kind logs code) (list_wrong f l)

-- a VS: the boxes; an EL: "8 (decision, answers), 5 (leader or a box n or more), 6"
unfoldable pub views_wrong : ViewMark → ℕ → Views → Check
views_wrong VS f l = boxes_wrong f (map ballot_pair l.ballots)
views_wrong EL f l =
    or_else (code_wrong l.decision)
    (or_else (when (any answer_odd (map ballot_pair l.ballots)) code)
    (or_else (when (leb (boxes f) l.leader) range)
    (boxes_wrong f (map ballot_pair l.ballots))))

-- an RD's key and stamp, without the clock
unfoldable pub rd_wrong : ℕ → ℕ → Check
rd_wrong k s = or_else (if_less largest_key k range) (if_same s 0 range)
