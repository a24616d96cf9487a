use Rattle.low.proofs.Parts.{write_past, write_new, write_old}
use native.Mathlib.Nat.{add-sub_cancel_left}
use Rattle.low.proofs.fold_write.Goals as goal

pub returns-then-w-gt-LARGEST_KEY : goal.returns-then-w-gt-LARGEST_KEY
returns-then-w-gt-LARGEST_KEY c = write_past c.args.stamp.0 c.args.w c.args.t.now c.if-w-gt-LARGEST_KEY.true

pub returns-then-u64_at-stamp : goal.returns-then-u64_at-stamp
returns-then-u64_at-stamp c = rw (c.put_fold.ensures, add-sub_cancel_left) (write_new c.args.stamp.0 c.args.w c.args.t.now c.if-w-gt-LARGEST_KEY.false (rw (← c.u64_at.ensures) c.if-u64_at-stamp.true))

pub returns-else-u64_at-stamp : goal.returns-else-u64_at-stamp
returns-else-u64_at-stamp c = write_old c.args.stamp.0 c.args.w c.args.t.now c.if-w-gt-LARGEST_KEY.false (rw (← c.u64_at.ensures) c.if-u64_at-stamp.false)
