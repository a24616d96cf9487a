-- A trace of calls beside one of the rules: what is refused with 14 or 16 is left out, and all else is what the rules' trace has.
use Prim.Native.Nat.{ℕ}
use mathlib.Core.Bool.{Bool, true, false, ◌&&◌}
use mathlib.Core.Option.{none}
use mathlib.Core.Path.{◌≡◌, refl, ap, sym, ◌∙◌}
use mathlib.Core.List.{List, [], ◌∷◌}
use lib.Dec.{T, eqb, eqb→eq}
use borrow.Author.Tests.{eqb-true}
use Rattle.terms.specs.declared.Refusal.{Refusal}
use Rattle.std.specs.Prelude.{Err}
use Rattle.terms.specs.Checks.{passed}
use Rattle.records.specs.Cutting.{tx_part}
use Rattle.terms.specs.Choice.{pick}
use Rattle.rules.specs.Bodies.{Body, same_body}
use Rattle.rules.specs.Table.{Box, empty}
use Rattle.rules.specs.Calls.{Act}
use Rattle.rules.specs.Act.{act, after}
use Rattle.rules.specs.System.{Event, told_at, box_at, answer_to, Word, gives_now, gave, given_in, HonestBy, Fair, Given, is_word, word_in}
use Rattle.rules.specs.Traces.{liar}
use Rattle.rules.proofs.Laws.{ands}
use Rattle.rules.proofs.Alike.{Alike, carries_alike}
use Rattle.table.specs.Table.{table_wrong}
use Rattle.engine.specs.Outcome.{Kept, box_in, lent_wrong}
use Rattle.engine.specs.Safety.{leaves, kept_at, answered, gave_by, FairCalls}
use Rattle.engine.specs.Busy.{zeros}
use Rattle.engine.proofs.Bridge.{called_act, bridge}
use Rattle.engine.proofs.Safety.{all_left, no_word, and_none}
use Rattle.engine.proofs.Starts.{empty_box, starts_empty, starts_taken}

-- the same calls, all told one capacity, but for those that are refused with 14 or 16
pub data Runs (capacity : ℕ) (start : ℕ → Kept) : List Event → List Event → Type 0 where
  done : Runs capacity start [] []
  takes : {es rs : List Event} (e : Event) → e.capacity ≡ capacity → Runs capacity start es rs → Runs capacity start (e ∷ es) (e ∷ rs)
  drops : {es rs : List Event} (e : Event) (r : Refusal) → lent_wrong (told_at 1 e) (kept_at 1 start e.box es).table ≡ Err r
      → ((g : Given) → HonestBy 1 liar g e.entry e.message) → Runs capacity start es rs → Runs capacity start (e ∷ es) rs

pub record Held (capacity : ℕ) (x : Kept) (y : Box) : Type 0 where
  pub taken : table_wrong capacity x.table ≡ passed
  pub same : box_in x ≡ y

-- a table of zeros holds the empty box
pub zeros_held : (capacity : ℕ) → Held capacity (zeros capacity) empty
zeros_held capacity = record { taken = starts_taken capacity; same = empty_box (zeros capacity) (starts_empty capacity) }

module _ {capacity : ℕ} {start : ℕ → Kept} (begun : (i : ℕ) → Held capacity (start i) empty) where
  pub holds : {es rs : List Event} → Runs capacity start es rs → (i : ℕ) → Held capacity (kept_at 1 start i es) (box_at 1 i rs)
  unfolding kept_at box_at
  holds done i = begun i
  holds {es = e ∷ es} {rs = e' ∷ rs} (takes e₁ c r) i = go (eqb e.box i) (holds r i)
    where
      go : (t : Bool) → Held capacity (kept_at 1 start i es) (box_at 1 i rs)
          → Held capacity (pick t (leaves e.entry (told_at 1 e) (kept_at 1 start i es) e.message) (kept_at 1 start i es))
          (pick t (after e.entry (told_at 1 e) (box_at 1 i rs) e.message) (box_at 1 i rs))
      go false h = h
      go true h =
          let b = bridge e.entry (told_at 1 e) (kept_at 1 start i es) e.message (rw c h.taken) in
          record { taken = rw (← c) b.1; same = b.0 ∙ ap (λ (y : Box). after e.entry (told_at 1 e) y e.message) h.same }
  holds {es = e ∷ es} {rs = rs} (drops e₁ n q o r) i = go (eqb e.box i) refl (holds r i)
    where
      go : (t : Bool) → eqb e.box i ≡ t → Held capacity (kept_at 1 start i es) (box_at 1 i rs)
          → Held capacity (pick t (leaves e.entry (told_at 1 e) (kept_at 1 start i es) e.message) (kept_at 1 start i es)) (box_at 1 i rs)
      go false p h = h
      go true p h =
          let j : e.box ≡ i = eqb-true e.box i p in
          rw (all_left e.entry (told_at 1 e) (kept_at 1 start i es) e.message n (rw j at q)) h

  pub answers : {es rs : List Event} → Runs capacity start es rs → (e : Event) → e.capacity ≡ capacity → answered 1 start e es ≡ answer_to 1 e rs
  unfolding answered answer_to
  answers {es = es} r e c =
      let h = holds r e.box in
      ap (λ (a : Act). a.answer)
      (called_act e.entry (told_at 1 e) (kept_at 1 start e.box es) e.message (rw c h.taken)
      ∙ ap (λ (y : Box). act e.entry (told_at 1 e) y e.message) h.same)

  silent : (e : Event) (es : List Event) (r : Refusal) → lent_wrong (told_at 1 e) (kept_at 1 start e.box es).table ≡ Err r → word_in (answered 1 start e es) ≡ none
  unfolding answered
  silent e es n q = no_word e.entry (told_at 1 e) (kept_at 1 start e.box es) e.message n q

  gives : {es rs : List Event} → Runs capacity start es rs → (i : ℕ) (b : Body) (w : Word) → gave_by 1 start es i b w ≡ gave 1 i b w rs
  unfolding gave_by gave gives_now is_word
  gives done i b w = refl
  gives {es = e ∷ es} {rs = e' ∷ rs} (takes e₁ c r) i b w = rw (answers r e c, gives r i b w)
  gives {es = e ∷ es} {rs = rs} (drops e₁ n q o r) i b w =
      rw (silent e es n q, and_none (same_body (tx_part e.message) b), and_none (eqb e.box i)) (gives r i b w)

  pub alike : {es rs : List Event} → Runs capacity start es rs → Alike 1 liar (given_in 1 rs) (gave_by 1 start es)
  alike r i s b w = sym (gives r i b w)

  pub fair_calls : {es rs : List Event} → Runs capacity start es rs → Fair 1 liar rs → FairCalls 1 liar start es
  unfolding Fair FairCalls HonestBy
  fair_calls done F = tt
  fair_calls (takes e c r) F = (fair_calls r F.0, λ s k q z. carries_alike 1 liar _ _ (alike r) k _ (F.1 s k q z))
  fair_calls (drops e n q o r) F = (fair_calls r F, λ s. o _)

-- where every call is told that capacity
unfoldable pub roomy : ℕ → List Event → Bool
roomy capacity [] = true
roomy capacity (e ∷ es) = eqb e.capacity capacity && roomy capacity es

pub all_run : {start : ℕ → Kept} (capacity : ℕ) (es : List Event) → T (roomy capacity es) → Runs capacity start es es
unfolding roomy
all_run capacity [] h = done
all_run capacity (e ∷ es) h =
    let c : T (eqb e.capacity capacity) = search ands in
    let r : T (roomy capacity es) = search ands in
    takes e (eqb→eq e.capacity capacity c) (all_run capacity es r)
