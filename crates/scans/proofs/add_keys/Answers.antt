use Rattle.scans.specs.Keys.{keys_at}
use Rattle.scans.proofs.Keys.{joined, stays, still_long}
use Rattle.scans.proofs.Skipping.{none_begin, none_more, none_end}
use native.Mathlib.Omega.{arith}
use Rattle.scans.proofs.add_keys.Goals as goal

pub loop-j-init : goal.loop-j-init
loop-j-init c = (c.requires.1, none_begin)

pub loop-j-preserved : goal.loop-j-preserved
loop-j-preserved c =
    let v = c.loop-j.invariant in (
      rw c.add_key.ensures (still_long _ _ v.0),
      none_more v.1 (omega arith) (rw c.add_key.ensures (stays _ _ v.0))
          (rw (c.add_key.ensures, ← c.u16_at.ensures) (joined _ _ v.0)),
    )

pub returns : goal.returns
unfolding keys_at
returns c = none_end c.loop-j.invariant.1 (omega arith)
