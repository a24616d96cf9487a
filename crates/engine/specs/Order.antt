-- A9 of the entry points: two decisions in either order on what is kept for a box, whatever bytes it is, and whatever capacity each call is told.
use Rattle.terms.specs.Checks.{passed}
use Rattle.std.specs.Prelude.{◌+◌, ◌≤◌, ◌≡◌}
use Rattle.terms.specs.declared.Refusal.TheVariants.{Full}
use Rattle.rules.specs.declared.Answer.{Answer}
use Rattle.rules.specs.declared.Answer.TheVariants.{Refused}
use Rattle.rules.specs.Order.{Answering, Call, EitherOrder, IsDC, NeedsNew, stamp_in}
use Rattle.table.specs.Table.{count_of, entries_of, folds_of, low_of}
use Rattle.engine.specs.Outcome.{Kept, called, lent_wrong}
use Rattle.engine.specs.Safety.{leaves}

-- what an entry point answers, and what is kept afterwards: the equations of its contract
unfoldable pub reply_by : Kept → Call → Answer
reply_by x c = (called c.entry c.told x c.message).answer

unfoldable pub next_by : Kept → Call → Kept
next_by x c = leaves c.entry c.told x c.message

abbrev pub of_calls : Answering Kept
of_calls =
    record {
      reply = reply_by;
      next = next_by;
      entries = λ x. entries_of x.table;
      marks = λ x. x.marks;
      low = λ x. low_of x.table;
      folds = λ x. folds_of x.table;
    }

-- "with room for both", by the capacity that p is told: for its new entry beside q's; and where p needs none, for q's alone, since "more entries
-- than the capacity" is 16. It is asked only where the table is taken: what is refused with 14 or 16 is refused so in either order
pub record RoomBy (x : Kept) (p q : Call) : Type 0 where
  pub for_both : NeedsNew of_calls x p → NeedsNew of_calls x q → count_of x.table + 2 ≤ p.told.capacity
  pub for_other : lent_wrong p.told x.table ≡ passed → NeedsNew of_calls x q → count_of x.table + 1 ≤ p.told.capacity

-- "two DC calls with different stamps, made in either order on one table with room for both"
abbrev pub CallsCommute : Type 0
CallsCommute =
    (x : Kept) (p q : Call) → IsDC p → IsDC q → (stamp_in p ≡ stamp_in q → ⊥) → RoomBy x p q → RoomBy x q p → EitherOrder of_calls x p q

-- of calls that are told one capacity, as one box's are: room matters only where both need a new entry
abbrev pub OneCapacity : Type 0
OneCapacity =
    (x : Kept) (p q : Call) → IsDC p → IsDC q → (stamp_in p ≡ stamp_in q → ⊥) → p.told.capacity ≡ q.told.capacity
    → (NeedsNew of_calls x p → NeedsNew of_calls x q → count_of x.table + 2 ≤ p.told.capacity)
    → EitherOrder of_calls x p q

-- "Where both need a new entry and there is room for one, the second is refused with 13": whichever it is
abbrev pub OneCallRefused : Type 0
OneCallRefused =
    (x : Kept) (p q : Call) → IsDC p → IsDC q → (stamp_in p ≡ stamp_in q → ⊥) → NeedsNew of_calls x p → NeedsNew of_calls x q
    → q.told.capacity ≡ count_of x.table + 1
    → reply_by (next_by x p) q ≡ Refused Full
