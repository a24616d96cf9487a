-- What any bytes do to a box: a move above its low mark, or none, or a read mark is raised; or the low mark itself is. The reading is taken apart here,
-- and nowhere else.
use Prim.Native.Nat.{ℕ, ◌≤◌, ◌<◌}
use mathlib.Core.Bool.{Bool, true, false, not}
use mathlib.Core.Path.{◌≡◌, refl, ap}
use mathlib.Core.Logic.{◌⊎◌, inl, inr}
use mathlib.Core.Option.{none}
use mathlib.Core.List.{List, Memᴰ as In}
use native.Mathlib.Omega.{arith}
use lib.Dec.{T, eqb, eqb_refl, leb, le→leb, nleb→lt}
use Rattle.terms.specs.Choice.{any, pick}
use Rattle.terms.specs.Checks.{Check, passed, if_same, code}
use Rattle.terms.specs.declared.Refusal.{Refusal}
use Rattle.terms.proofs.Checks.{not_passed, first_none, rest_none, not_less, when_none}
use Rattle.records.specs.Contents.{list_wrong, log_list_wrong, code_wrong, views_wrong}
use Rattle.records.specs.declared.Mark.{Mark}
use Rattle.records.specs.declared.Mark.TheVariants.{PR, LG, DC, RD, IV, LD}
use Rattle.std.specs.Prelude.{Result, Ok, Err}
use Rattle.records.specs.declared.ViewMark.TheVariants.{VS, EL}
use Rattle.records.specs.Messages.{contents_wrong, due_refusal, list_behind, views_behind}
use Rattle.rules.specs.Answers.{Answer, Raised, unsettled, votes}
use Rattle.rules.specs.Bodies.{Body, stamp_of}
use Rattle.rules.specs.Lists.{kind_of}
use Rattle.rules.specs.Table.{Box, Entry, Told}
use Rattle.rules.specs.Calls.{Act, keep, refuse, guarded, is_undecided, look_act, old_wrong, raises_low, rd_rule}
use Rattle.rules.specs.Low.{low_rule, low_wrong, open_up_to, up_to}
use Rattle.records.specs.Cutting.{tx_part}
use Rattle.rules.specs.Act.{EntryPoint, receive, due, raising, told_wrong, unless_old, rule, due_act, marked_act, mark_by, act_by, act}
use Rattle.rules.specs.System.{word_in}
use Rattle.rules.proofs.Laws.{any_of, both, decide_t}
use Rattle.rules.proofs.Moves.{Listed, in_lg, in_dc, Brings, Move}
use Rattle.rules.proofs.Called.{pr_move, lg_move, dc_move}
use Rattle.rules.proofs.Fallback.{iv_move, ld_move}

pub data Deed (f : ℕ) (x : Box) (way : EntryPoint) (m : List ℕ) (b : Body) : Act → Type 0 where
  -- a move, of a stamp above the low mark
  moves : {a : Act} → x.low < stamp_of b → Move f x way m b a → Deed f x way m b a
  -- nothing is stored, and no word is given
  idles : {a : Answer} → word_in a ≡ none → Deed f x way m b (keep a)
  -- a read mark is raised, and no word is given
  looks : (k s : ℕ) → Deed f x way m b (look_act x k s)
  -- the low mark is raised, and what stands at or below it is decided
  lifts : (l : ℕ) → x.low < l → ((e : Entry) → In e x.table → stamp_of e.body ≤ l → e.decided ≡ unsettled → ⊥)
      → Deed f x way m b (record { answer = Raised; change = raises_low l })

pub guarded_elim : (P : Act → Type 0) (c : Check) (a : Act) → (c ≡ passed → P a) → ((r : Refusal) → P (refuse r)) → P (guarded c a)
unfolding guarded
guarded_elim P (Ok _) a h k = h refl
guarded_elim P (Err r) a h k = k r

-- a check in front changes no deed
guard : {f : ℕ} {x : Box} {way : EntryPoint} {m : List ℕ} {b : Body} (c : Check) (a : Act) → (c ≡ passed → Deed f x way m b a) → Deed f x way m b (guarded c a)
unfolding word_in
guard {f} {x} {way} {m} {b} c a h = guarded_elim (Deed f x way m b) c a h (λ r. idles refl)

-- 18: what is not old is above the low mark
pub not_old : (low s : ℕ) → old_wrong low s ≡ passed → low < s
unfolding old_wrong
not_old low s h = go (decide_t (leb s low)) (when_none (leb s low) _ h)
  where
    go : T (leb s low) ⊎ T (not (leb s low)) → leb s low ≡ false → low < s
    go (inl k) q = absurd (rw q at k)
    go (inr k) q = nleb→lt s low k

young : {f : ℕ} {x : Box} {way : EntryPoint} {m : List ℕ} (b : Body) (a : Act) → Move f x way m b a → Deed f x way m b (unless_old x b a)
unfolding unless_old
young {x = x} b a k = guard (old_wrong x.low (stamp_of b)) a (λ h. moves (not_old x.low (stamp_of b) h) k)

same_none : (a b : ℕ) (r : Refusal) → if_same a b r ≡ passed → a ≡ b → ⊥
unfolding if_same
same_none a b r e q = go (eqb a b) (rw q (eqb_refl b)) e
  where
    go : (t : Bool) → T t → pick t (Err r) passed ≡ passed → ⊥
    go true h k = not_passed k
    go false h k = h

-- "kind 2 in an LG" is 8, so what is read is a list of votes
kind_votes : (n : ℕ) → if_same n 2 code ≡ passed → code_wrong n ≡ passed → kind_of n ≡ votes
unfolding kind_of code_wrong
kind_votes n h k =
    let one : n ≡ 1 = omega (arith, same_none n 2 _ h, same_none n 0 _ (first_none _ _ k), not_less 2 n _ (rest_none _ _ k)) in
    rw one

-- what each message does, once it is read
module _ (told : Told) (x : Box) (way : EntryPoint) (m : List ℕ) where
  -- 14, the cutting and 4 are behind it
  judged : (k : Mark) → due_refusal k told.f m ≡ passed → contents_wrong k told.f m ≡ passed
  unfolding due_refusal
  judged k h = rest_none _ _ (rest_none _ _ (rest_none _ _ h))

  brings : (k : Mark) → mark_by way m ≡ Ok k → due_refusal k told.f m ≡ passed → Listed k → Brings told.f way m (tx_part m) (list_behind m)
  brings k q h y = record { mark = k; marked = q; read = h; carries = y; body = refl; list = refl }

  deed_by : (k : Mark) → mark_by way m ≡ Ok k → due_refusal k told.f m ≡ passed → Deed told.f x way m (tx_part m) (rule k told x m)
  unfolding rule contents_wrong log_list_wrong list_wrong views_wrong rd_rule
  deed_by PR q h = young (tx_part m) _ (pr_move told x way m (tx_part m) (judged PR h))
  deed_by LG q h =
      let list = rest_none _ _ (judged LG h) in
      let formed = rest_none _ _ list in
      young (tx_part m) _
      (lg_move told x way m (tx_part m) (list_behind m) (brings LG q h in_lg) (kind_votes _ (first_none _ _ list) (first_none _ _ formed)) formed)
  deed_by DC q h = young (tx_part m) _ (dc_move told x way m (tx_part m) (list_behind m) (brings DC q h in_dc) (rest_none _ _ (judged DC h)))
  deed_by RD q h = guard _ _ (λ _. guard _ _ (λ _. looks _ _))
  deed_by IV q h = young (tx_part m) _ (iv_move told x way m (tx_part m) (views_behind VS m))
  deed_by LD q h =
      let answers = rest_none _ _ (judged LD h) in
      young (tx_part m) _
      (ld_move told x way m (tx_part m) (views_behind EL m) (record { marked = q; read = h; body = refl; answers = refl })
      (rest_none _ _ (rest_none _ _ (rest_none _ _ answers))))

  deed_marked : (k : Result Mark Refusal) → mark_by way m ≡ k → Deed told.f x way m (tx_part m) (marked_act k told x m)
  unfolding marked_act due_act word_in
  deed_marked (Ok k) q = guard (due_refusal k told.f m) _ (deed_by k q)
  deed_marked (Err n) q = idles refl

-- what is taken for a message with a mark is judged as one
pub act_marked : (told : Told) (x : Box) (way : EntryPoint) (m : List ℕ) (k : Mark) → mark_by way m ≡ Ok k → act_by way told x m ≡ due_act k told x m
unfolding act_by marked_act mark_by
act_marked told x receive m k e = ap (λ (q : Result Mark Refusal). marked_act q told x m) e
act_marked told x (due q) m k e = ap (λ (q : Result Mark Refusal). marked_act q told x m) e
act_marked told x (raising l) m k e = let z : ◌≡◌ {A = ℕ} 0 1 = cc in absurd (omega arith)

-- 18 and 19: the low mark rises, over decided entries
decided_below : (x : Box) (l : ℕ) → low_wrong x l ≡ passed → (e : Entry) → In e x.table → stamp_of e.body ≤ l → e.decided ≡ unsettled → ⊥
unfolding low_wrong open_up_to up_to is_undecided
decided_below x l h e i k q = go (when_none (any (open_up_to l) x.table) _ (rest_none _ _ h))
  where
    stands_open : T (open_up_to l e)
    stands_open = both (leb (stamp_of e.body) l) (is_undecided e.decided) (le→leb (stamp_of e.body) l k) (rw q tt)

    go : any (open_up_to l) x.table ≡ false → ⊥
    go n = rw n at (any_of (open_up_to l) x.table e i stands_open)

deed_low : (f : ℕ) (x : Box) (way : EntryPoint) (m : List ℕ) (l : ℕ) → Deed f x way m (tx_part m) (low_rule x l)
unfolding low_rule low_wrong
deed_low f x way m l = guard (low_wrong x l) _ (λ h. lifts l (not_old x.low l (first_none _ _ h)) (decided_below x l h))

-- whatever the bytes are, and however a box is called, it is such a deed
deed_way : (told : Told) (x : Box) (way : EntryPoint) (m : List ℕ) → Deed told.f x way m (tx_part m) (act_by way told x m)
unfolding act_by
deed_way told x receive m = deed_marked told x receive m (mark_by receive m) refl
deed_way told x (due k) m = deed_marked told x (due k) m (mark_by (due k) m) refl
deed_way told x (raising l) m = deed_low told.f x (raising l) m l

pub deed : (told : Told) (x : Box) (way : EntryPoint) (m : List ℕ) → Deed told.f x way m (tx_part m) (act way told x m)
unfolding act
deed told x way m = guard (told_wrong told) _ (λ _. deed_way told x way m)
