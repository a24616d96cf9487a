-- One turn: a CK is taken and leaves all as it was, an LM raises the low mark, a message is answered by the engine; and the engine's turn is the rules'.
use Prim.Native.Nat.{ℕ}
use mathlib.Core.Bool.{Bool, true, false}
use mathlib.Core.Path.{◌≡◌, refl, ap, sym, ◌∙◌}
use mathlib.Core.List.{List}
use Rattle.terms.specs.Choice.{pick}
use Rattle.terms.specs.Checks.{passed}
use Rattle.records.specs.Numbers.{num_at}
use Rattle.records.specs.Messages.{is_mark}
use Rattle.rules.specs.declared.Answer.{Answer}
use Rattle.rules.specs.declared.Told.{Told}
use Rattle.rules.specs.Calls.{Act}
use Rattle.rules.specs.Low.{low_rule}
use Rattle.rules.specs.Act.{EntryPoint, receive, raising, act_by, marks_after, after}
use Rattle.rules.proofs.Deeds.{guarded_elim}
use Rattle.table.specs.Table.{table_wrong}
use Rattle.engine.specs.Outcome.{Kept, box_in, called, lowered, table_by}
use Rattle.engine.specs.Safety.{leaves}
use Rattle.engine.proofs.Lowered.{low_alike}
use Rattle.engine.proofs.Bridge.{called_act, bridge}
use Rattle.lines.specs.declared.Said.TheVariants.{Taken, Answered}
use Rattle.lines.specs.Lines.{mark_ck, mark_lm}
use Rattle.replay.specs.Bench.{entry_point, said, box_next}
use Rattle.replay.specs.Turn.{said_to, kept_next}
use Rattle.replay.proofs.Cuts.{yes, no}

module _ (told : Told) (x : Kept) (m : List ℕ) where
  pub turn_ck : is_mark mark_ck m ≡ true → (Taken ≡ said_to told x m) × (x.table ≡ (kept_next told x m).table) × (x.marks ≡ (kept_next told x m).marks)
  unfolding said_to kept_next
  turn_ck p = (sym (yes _ _ _ p), ap (λ (y : Kept). y.table) (sym (yes _ _ _ p)), ap (λ (y : Kept). y.marks) (sym (yes _ _ _ p)))

  -- every other record is a call
  turn_call : is_mark mark_ck m ≡ false → (way : EntryPoint) → entry_point m ≡ way → (a : Answer) (t marks : List ℕ) → a ≡ (called way told x m).answer
      → t ≡ table_by x.table (called way told x m).change → marks ≡ marks_after x.marks (called way told x m).change
      → (Answered a ≡ said_to told x m) × (t ≡ (kept_next told x m).table) × (marks ≡ (kept_next told x m).marks)
  unfolding said_to kept_next leaves
  turn_call p way w a t marks e g h = (
    ap Answered (e ∙ ap (λ (y : EntryPoint). (called y told x m).answer) (sym w)) ∙ sym (no _ _ _ p),
    g ∙ ap (λ (y : EntryPoint). table_by x.table (called y told x m).change) (sym w) ∙ ap (λ (y : Kept). y.table) (sym (no _ _ _ p)),
    h ∙ ap (λ (y : EntryPoint). marks_after x.marks (called y told x m).change) (sym w) ∙ ap (λ (y : Kept). y.marks) (sym (no _ _ _ p)),
  )

  pub turn_message : is_mark mark_ck m ≡ false → is_mark mark_lm m ≡ false → (a : Answer) (t marks : List ℕ) → a ≡ (called receive told x m).answer
      → t ≡ table_by x.table (called receive told x m).change → marks ≡ marks_after x.marks (called receive told x m).change
      → (Answered a ≡ said_to told x m) × (t ≡ (kept_next told x m).table) × (marks ≡ (kept_next told x m).marks)
  unfolding entry_point
  turn_message p q = turn_call p receive (no _ _ _ q)

  -- the low mark moves no read mark
  marks_stay : (l : ℕ) → x.marks ≡ marks_after x.marks (called (raising l) told x m).change
  unfolding called act_by low_rule marks_after
  marks_stay l =
      guarded_elim (λ (y : Act). x.marks ≡ marks_after x.marks y.change) _ _
      (λ _. guarded_elim (λ (y : Act). x.marks ≡ marks_after x.marks y.change) _ _ (λ _. refl) (λ _. refl))
      (λ _. refl)

  pub turn_low : is_mark mark_ck m ≡ false → is_mark mark_lm m ≡ true → (l : ℕ) → l ≡ num_at 8 2 m → (a : Answer) (t : List ℕ)
      → a ≡ (lowered l told x.table).answer → t ≡ table_by x.table (lowered l told x.table).change
      → (Answered a ≡ said_to told x m) × (t ≡ (kept_next told x m).table) × (x.marks ≡ (kept_next told x m).marks)
  unfolding entry_point
  turn_low p q l n a t e g =
      let w : entry_point m ≡ raising l = yes _ _ _ q ∙ ap raising (sym n) in
      let c = low_alike l told x m in
      turn_call p (raising l) w a t x.marks (e ∙ ap (λ (y : Act). y.answer) c) (g ∙ ap (λ (y : Act). table_by x.table y.change) c) (marks_stay l)

  -- where the table that is kept is taken
  module _ (taken : table_wrong told.capacity x.table ≡ passed) where
    pub said_same : said_to told x m ≡ said told (box_in x) m
    unfolding said_to said
    said_same = ap (λ (a : Act). pick (is_mark mark_ck m) Taken (Answered a.answer)) (called_act (entry_point m) told x m taken)

    pub next_same : (box_in (kept_next told x m) ≡ box_next told (box_in x) m) × (table_wrong told.capacity (kept_next told x m).table ≡ passed)
    unfolding kept_next box_next
    next_same = by (is_mark mark_ck m)
      where
        by : (b : Bool) → (box_in (pick b x (leaves (entry_point m) told x m)) ≡ pick b (box_in x) (after (entry_point m) told (box_in x) m))
            × (table_wrong told.capacity (pick b x (leaves (entry_point m) told x m)).table ≡ passed)
        by true = (refl, taken)
        by false = bridge (entry_point m) told x m taken
