use Rattle.std.proofs.Common.{ℕ, ◌++◌, refl, ap, ◌∙◌, arith}
use Rattle.records.specs.Numbers.{le_bytes}
use Rattle.writing.proofs.Laid.{fill_none, fill_more, fill_all, items, puts_as}
use Rattle.writing.proofs.put_items.Goals as goal

pub loop-item-init : goal.loop-item-init
loop-item-init g c = record { place = omega arith; puts = λ k v p. fill_none }

pub loop-item-preserved : goal.loop-item-preserved
loop-item-preserved g c =
    record {
      place = omega arith;
      puts = λ k v p.
          let e = p c.item-item.result _ c.of-key.ensures ∙ ap (λ x. (k x, v x)) c.item-item.is in
          let b = puts_as (ap (λ (y : ℕ × ℕ). le_bytes 2 y.0 ++ le_bytes 8 y.1) e) c.put_item-next.ensures in
          fill_more (c.loop-item.invariant.puts k v p) c.item-item.result c.requires.room (omega arith) refl b;
    }

pub returns-clause-bytes : goal.returns-clause-bytes
returns-clause-bytes g c k v p = puts_as (items k v _) (fill_all (c.loop-item.invariant.puts k v p) (omega arith))
