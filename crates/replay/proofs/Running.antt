-- The bench's run: what is put down, what is still to come, and what stands, at each turn.
use Prim.Native.Nat.{ℕ, zero, suc, ◌+◌, ◌-◌, ◌*◌, ◌≤◌, ◌<◌}
use native.Mathlib.Omega.{arith}
use mathlib.Core.Bool.{Bool, true, false}
use mathlib.Core.Path.{◌≡◌, refl, ap, sym, ◌∙◌}
use mathlib.Core.List.{List, [], ◌∷◌, ◌++◌, append_assoc, append-nil}
use lib.Dec.{ltb}
use Rattle.std.specs.Prelude.{Ok, Err}
use lib.ListN.{length, get_or, take, drop, replicate, length-drop, drop_of_length-le}
use lib.Seq.{drop-drop, length-take-le}
use borrow.Author.Tests.{lt-ltb, ltb-true, ltb-false}
use Rattle.terms.specs.Choice.{pick}
use Rattle.terms.specs.Checks.{Check, passed}
use Rattle.terms.specs.declared.Refusal.{Refusal}
use Rattle.terms.proofs.Checks.{not_less, first_none, rest_none}
use Rattle.terms.proofs.Groups.{capacity_small}
use Rattle.rules.specs.declared.Answer.TheVariants.{Refused}
use Rattle.rules.specs.declared.Told.{Told}
use Rattle.rules.specs.Table.{Box, empty}
use Rattle.rules.specs.Act.{told_wrong}
use Rattle.table.specs.Table.{table_wrong, entries_of}
use Rattle.engine.specs.Outcome.{Kept, kept, box_in}
use Rattle.engine.proofs.Starts.{folds_none, low_none, zeros_taken}
use Rattle.lines.specs.declared.Said.{Said}
use Rattle.lines.specs.declared.Said.TheVariants.{Taken, Answered}
use Rattle.lines.specs.Lines.{line_of, Puts}
use Rattle.lines.proofs.Putting.{puts_none, puts_same, puts_both, puts_as}
use Rattle.replay.specs.Bench.{longest, told_by, gp_refusal, record_cut, record_len, front, said, box_next, clock_next, stops, cut_or, lines_from, rest_text, run_text, room}
use Rattle.replay.specs.Turn.{Fronted, said_to, kept_next}
use Rattle.replay.proofs.Cuts.{yes, no, Sized, cut_sized}
use Rattle.replay.proofs.Turns.{said_same, next_same}

-- ---- the lines of the records that are left
pub cut_is : {c : Check} {r : Refusal} (k : ℕ) (s rest : List ℕ) → c ≡ Err r → cut_or c k s rest ≡ line_of k s (Answered (Refused r))
unfolding cut_or
cut_is k s rest e = rw e

pub cut_passes : {c : Check} (k : ℕ) (s rest : List ℕ) → c ≡ passed → cut_or c k s rest ≡ rest
unfolding cut_or
cut_passes k s rest z = rw z

lines_end : (n k : ℕ) (gp : List ℕ) (clock : ℕ) (x : Box) (s : List ℕ) → s ≡ [] → lines_from n k gp clock x s ≡ []
unfolding lines_from
lines_end zero k gp clock x s e = refl
lines_end (suc n) k gp clock x s e = rw e

no_bytes : (s : List ℕ) → length s ≤ 0 → s ≡ []
no_bytes [] h = refl
no_bytes (x ∷ s) h = absurd (omega arith)

module _ (n k : ℕ) (gp : List ℕ) (clock : ℕ) (x : Box) (s : List ℕ) (h : 0 < length s) where
  abbrev told : Told
  told = told_by gp clock

  lines_cut : {r : Refusal} → record_cut s ≡ Err r → lines_from (suc n) k gp clock x s ≡ line_of k s (Answered (Refused r))
  unfolding lines_from
  lines_cut e = yes _ _ _ (lt-ltb 0 (length s) h) ∙ cut_is _ _ _ e

  module _ (z : record_cut s ≡ passed) where
    goes : lines_from (suc n) k gp clock x s
        ≡ line_of k s (said told x (front s)) ++ pick (stops (said told x (front s))) [] (lines_from n (k + 1) gp (clock_next clock (front s)) (box_next told x (front s)) (drop (record_len s) s))
    unfolding lines_from
    goes = yes _ _ _ (lt-ltb 0 (length s) h) ∙ cut_passes _ _ _ z

    lines_stop : stops (said told x (front s)) ≡ true → lines_from (suc n) k gp clock x s ≡ line_of k s (said told x (front s))
    lines_stop p = goes ∙ ap (λ (l : List ℕ). line_of k s (said told x (front s)) ++ l) (yes _ _ _ p) ∙ append-nil _

    lines_go : stops (said told x (front s)) ≡ false → lines_from (suc n) k gp clock x s
        ≡ line_of k s (said told x (front s)) ++ lines_from n (k + 1) gp (clock_next clock (front s)) (box_next told x (front s)) (drop (record_len s) s)
    lines_go p = goes ∙ ap (λ (l : List ℕ). line_of k s (said told x (front s)) ++ l) (no _ _ _ p)

-- no line is lost to the number of turns: as many turns as there are bytes are enough, and more change nothing
pub enough : (n k : ℕ) (gp : List ℕ) (clock : ℕ) (x : Box) (s : List ℕ) → length s ≤ n → lines_from n k gp clock x s ≡ lines_from (suc n) k gp clock x s
enough zero k gp clock x s h =
    let e : s ≡ [] = no_bytes s h in
    lines_end zero k gp clock x s e ∙ sym (lines_end 1 k gp clock x s e)
enough (suc n) k gp clock x s h =
    by (ltb 0 (length s)) refl (record_cut s) refl (stops (said (told_by gp clock) x (front s))) refl
    (λ (l : length (drop (record_len s) s) ≤ n). enough n (k + 1) gp (clock_next clock (front s)) (box_next (told_by gp clock) x (front s)) (drop (record_len s) s) l)
  where
    next : ℕ → List ℕ
    next i = lines_from i (k + 1) gp (clock_next clock (front s)) (box_next (told_by gp clock) x (front s)) (drop (record_len s) s)

    by : (some : Bool) → ltb 0 (length s) ≡ some → (c : Check) → record_cut s ≡ c → (halt : Bool) → stops (said (told_by gp clock) x (front s)) ≡ halt
        → (length (drop (record_len s) s) ≤ n → next n ≡ next (suc n)) → lines_from (suc n) k gp clock x s ≡ lines_from (suc (suc n)) k gp clock x s
    by false p c q halt r more =
        let e : s ≡ [] = no_bytes s (ltb-false 0 (length s) p) in
        lines_end (suc n) k gp clock x s e ∙ sym (lines_end (suc (suc n)) k gp clock x s e)
    by true p (Err why) q halt r more =
        let l : 0 < length s = ltb-true 0 (length s) p in
        lines_cut n k gp clock x s l q ∙ sym (lines_cut (suc n) k gp clock x s l q)
    by true p (Ok _) q true r more = let l : 0 < length s = ltb-true 0 (length s) p in lines_stop n k gp clock x s l q r ∙ sym (lines_stop (suc n) k gp clock x s l q r)
    by true p (Ok _) q false r more =
        let l : 0 < length s = ltb-true 0 (length s) p in
        let f = front s in
        let d = length-drop (record_len s) s in
        let z = (cut_sized s q).0 in
        lines_go n k gp clock x s l q r
        ∙ ap (λ (t : List ℕ). line_of k s (said (told_by gp clock) x f) ++ t) (more (omega arith))
        ∙ sym (lines_go (suc n) k gp clock x s l q r)

pub gp_long : (s : List ℕ) → gp_refusal s ≡ passed → 12 ≤ length s
unfolding gp_refusal
gp_long s z = not_less _ _ _ (first_none _ _ (rest_none _ _ z))

-- the front of a record that is cut
pub front_is : (s : List ℕ) (n : ℕ) → Sized s n → Fronted s (take n s)
unfolding front
front_is s n size =
    let l : length (take n s) ≡ n = length-take-le n s size.2 in
    let a = size.1 in
    let b = size.2 in
    (ap (λ (k : ℕ). take k s) size.0, l ∙ size.0, omega arith, omega arith)

-- ---- the loop: from the place `first` of the buffer on
pub record Running (input out₀ : List ℕ) (first number at clock n : ℕ) (table marks out : List ℕ) : Type 0 where
  pub done : List ℕ
  pub put : Puts out₀ first done (12 * at - 144) out n
  pub whole : rest_text input ≡ done ++ lines_from (length input + 1 - number) number input clock (box_in (kept table marks)) (drop at input)
  pub taken : table_wrong (get_or input 3 0) table ≡ passed
  pub counted : number ≤ at
  pub behind : 12 ≤ at
  pub within : at ≤ length input
  pub few : length input ≤ longest
  pub wide : room ≤ length out₀
  pub short : first ≤ 112

pub running_first : {input out : List ℕ} {first : ℕ} {table marks : List ℕ}
    → (gp_refusal input ≡ passed) × (length input ≤ longest) × (room ≤ length out) × (first ≤ 112) × (table_wrong (get_or input 3 0) table ≡ passed) × (box_in (kept table marks) ≡ empty)
    → Running input out first 1 12 0 first table marks out
unfolding rest_text
running_first {input} {out} {first} {table} {marks} h =
    let k : length input + 1 - 1 ≡ length input = omega arith in
    let w = h.2 in
    let s = h.3 in
    record {
      done = [];
      put = puts_none out first _ (omega arith);
      whole = rw (k, h.5);
      taken = h.4;
      counted = omega arith;
      behind = omega arith;
      within = gp_long input h.0;
      few = h.1;
      wide = h.2;
      short = h.3;
    }

module _ {input out₀ : List ℕ} {first number at clock n : ℕ} {table marks out : List ℕ} (r : Running input out₀ first number at clock n table marks out) where
  -- no line leaves the buffer
  pub same_long : {text e : List ℕ} {b : ℕ} → Puts out₀ first text 786400 e b → length e ≡ length out₀
  same_long p = let w = r.wide in let s = r.short in puts_same p (omega arith)

  -- all lines are put down
  pub running_end : length input ≤ at → Puts out₀ first (rest_text input) 786400 out n
  running_end h =
      let e = lines_end (length input + 1 - number) number input clock (box_in (kept table marks)) (drop at input) (drop_of_length-le input h) in
      let w = r.within in
      let f = r.few in
      puts_as (sym (r.whole ∙ ap (λ (l : List ℕ). r.done ++ l) e ∙ append-nil _)) r.put (omega arith)

  module _ (h : at < length input) where
    -- the fuel of what is left
    abbrev left : ℕ
    left = length input - number

    more : length input + 1 - number ≡ suc left
    more = let c = r.counted in omega arith

    some : 0 < length (drop at input)
    some = rw (length-drop at input) (omega arith)

    room_behind : first + (12 * at - 144) ≤ length out₀
    room_behind = let w = r.wide in let f = r.few in let s = r.short in omega arith

    pub has_room : n + 112 ≤ length out
    has_room =
        let p = r.put in
        let a = p.place in
        let b = p.short in
        let f = r.few in
        let w = r.wide in
        let s = r.short in
        let t = r.behind in
        let l : length out ≡ length out₀ = puts_same p room_behind in
        omega arith

    -- a record that cannot be cut, or that stops the bench, has the last line
    last : (line out' : List ℕ) (n' : ℕ) → Puts out n line 112 out' n' → lines_from (suc left) number input clock (box_in (kept table marks)) (drop at input) ≡ line → Puts out₀ first (rest_text input) 786400 out' n'
    last line out' n' p e =
        let f = r.few in
        puts_as
        (sym (r.whole ∙ ap (λ (k : ℕ). r.done ++ lines_from k number input clock (box_in (kept table marks)) (drop at input)) more ∙ ap (λ (l : List ℕ). r.done ++ l) e))
        (puts_both r.put p room_behind)
        (omega arith)

    module _ (s : List ℕ) (is : s ≡ drop at input) (c : Check) (cut : c ≡ record_cut s) where
      pub running_cut : {r : Refusal} (what : Said) (out' : List ℕ) (n' : ℕ) → c ≡ Err r → what ≡ Answered (Refused r)
          → Puts out n (line_of number s what) 112 out' n' → Puts out₀ first (rest_text input) 786400 out' n'
      running_cut what out' n' z q p =
          last _ out' n' (rw (← is) p)
          (lines_cut left number input clock _ _ some (ap record_cut (sym is) ∙ sym cut ∙ z) ∙ ap (line_of number (drop at input)) (sym q))

      -- a record that is cut
      module _ (z : c ≡ passed) (m : List ℕ) (fronted : Fronted s m) (told : Told) (same : told ≡ told_by input clock) (what : Said)
          (answers : what ≡ said_to told (kept table marks) m) (out' : List ℕ) (n' : ℕ) (p : Puts out n (line_of number s what) 112 out' n') where
        cut_there : record_cut (drop at input) ≡ passed
        cut_there = ap record_cut (sym is) ∙ sym cut ∙ z

        fronts : m ≡ front (drop at input)
        fronts = fronted.0 ∙ ap front is

        put_down : Puts out n (line_of number (drop at input) what) 112 out' n'
        put_down = rw (← is) p

        taken_so : table_wrong (told_by input clock).capacity table ≡ passed
        unfolding told_by
        taken_so = r.taken

        still : table_wrong (get_or input 3 0) (kept_next (told_by input clock) (kept table marks) (front (drop at input))).table ≡ passed
        unfolding told_by
        still = (next_same (told_by input clock) (kept table marks) (front (drop at input)) taken_so).1

        what_said : what ≡ said (told_by input clock) (box_in (kept table marks)) (front (drop at input))
        what_said = answers ∙ (rw (same, fronts) (said_same (told_by input clock) (kept table marks) (front (drop at input)) taken_so))

        pub running_stop : stops what ≡ true → Puts out₀ first (rest_text input) 786400 out' n'
        running_stop q =
            last _ out' n' put_down (lines_stop left number input clock _ _ some cut_there (ap stops (sym what_said) ∙ q) ∙ ap (line_of number (drop at input)) (sym what_said))

        -- it ends within the input
        pub fits : at + length m ≤ length input
        fits = let d = length-drop at input in let b = fronted.3 in let e = ap length is in omega arith

        pub running_more : stops what ≡ false → (clock' : ℕ) (table' marks' : List ℕ) → clock' ≡ clock_next clock m
            → table' ≡ (kept_next told (kept table marks) m).table → marks' ≡ (kept_next told (kept table marks) m).marks
            → Running input out₀ first (number + 1) (at + length m) clock' n' table' marks' out'
        running_more q clock' table' marks' u v w =
            let x = kept table marks in
            let y = drop at input in
            let k : kept_next told x m ≡ kept_next (told_by input clock) x (front y) = rw (same, fronts) refl in
            let t = next_same (told_by input clock) x (front y) taken_so in
            let tv : table' ≡ (kept_next (told_by input clock) x (front y)).table = v ∙ ap (λ (y : Kept). y.table) k in
            let tw : marks' ≡ (kept_next (told_by input clock) x (front y)).marks = w ∙ ap (λ (y : Kept). y.marks) k in
            let bx : box_in (kept table' marks') ≡ box_next (told_by input clock) (box_in (kept table marks)) (front y) = (rw (tv, tw) t.0) in
            let ck : clock' ≡ clock_next clock (front y) = u ∙ ap (clock_next clock) fronts in
            let dr : drop (at + length m) input ≡ drop (record_len y) y = sym (drop-drop (length m) at input) ∙ ap (λ (i : ℕ). drop i y) (fronted.1 ∙ ap record_len is) in
            let fu : length input + 1 - (number + 1) ≡ left = omega arith in
            let go = lines_go left number input clock (box_in (kept table marks)) y some cut_there (ap stops (sym what_said) ∙ q) in
            let d = r.done in
            let line = line_of number y what in
            let g = fronted.2 in
            let co = r.counted in
            let be = r.behind in
            record {
              done = d ++ line;
              put = puts_as refl (puts_both r.put put_down room_behind) (omega arith);
              whole =
                  r.whole
                  ∙ ap (λ (i : ℕ). d ++ lines_from i number input clock (box_in (kept table marks)) y) more
                  ∙ ap (λ (l : List ℕ). d ++ l) (go ∙ (rw (fu, ck, bx, dr, what_said)))
                  ∙ sym (append_assoc d line _);
              taken = rw tv still;
              counted = omega arith;
              behind = omega arith;
              within = fits;
              few = r.few;
              wide = r.wide;
              short = r.short;
            }

-- ---- a table of zeros is empty, for each capacity that a GP may ask
zeros_empty : (n : ℕ) → box_in (kept (replicate (suc n) 0) (replicate 512 0)) ≡ empty
unfolding box_in empty entries_of
zeros_empty n = rw (low_none (suc n), folds_none (suc n))

pub zeros_start : (input : List ℕ) → gp_refusal input ≡ passed → (table_wrong (get_or input 3 0) (replicate 54101 0) ≡ passed) × (box_in (kept (replicate 54101 0) (replicate 512 0)) ≡ empty)
unfolding gp_refusal told_wrong told_by
zeros_start input z =
    let c : get_or input 3 0 ≤ 255 = capacity_small _ (rest_none _ _ (rest_none _ _ (rest_none _ _ z))) in
    (zeros_taken (get_or input 3 0) 54100 (omega arith), zeros_empty 54100)

-- the first line, then the rest
pub rest_ready : (input : List ℕ) {o e : List ℕ} {a : ℕ} → (gp_refusal input ≡ passed) × (length input ≤ longest) × (room ≤ length o) → Puts o 0 (line_of 0 input Taken) 112 e a
    → (gp_refusal input ≡ passed) × (length input ≤ longest) × (room ≤ length e) × (a ≤ 112) × (table_wrong (get_or input 3 0) (replicate 54101 0) ≡ passed) × (box_in (kept (replicate 54101 0) (replicate 512 0)) ≡ empty)
rest_ready input h p =
    let w = h.2 in
    let l = puts_same p (omega arith) in
    let a = p.place in
    let b = p.short in
    let z = zeros_start input h.0 in
    (h.0, h.1, omega arith, omega arith, z.0, z.1)

pub run_all : (input : List ℕ) {o e f : List ℕ} {a b : ℕ} → room ≤ length o → Puts o 0 (line_of 0 input Taken) 112 e a → Puts e a (rest_text input) 786400 f b → Puts o 0 (run_text input) room f b
unfolding run_text
run_all input w x y = puts_as refl (puts_both x y (omega arith)) (omega arith)
