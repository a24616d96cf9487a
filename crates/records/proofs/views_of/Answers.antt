use mathlib.Core.Path.{ap}
use Rattle.records.specs.Views.{count_at, views_of}
use Rattle.records.proofs.Held.{views_held}
use native.Mathlib.Omega.{arith}
use Rattle.records.proofs.views_of.Goals as goal

pub ballots_of-ballots-requires : goal.ballots_of-ballots-requires
ballots_of-ballots-requires c = rw (c.wide-count.ensures.0, c.count_at.ensures.0) c.requires

pub bounds-s-2 : goal.bounds-s-2
bounds-s-2 c = omega (arith, ap count_at c.in-EL.is)

pub bounds-s-3 : goal.bounds-s-3
bounds-s-3 c = omega (arith, ap count_at c.in-EL.is)

pub u16_at-requires : goal.u16_at-requires
u16_at-requires c = omega (arith, ap count_at c.in-EL.is)

pub returns-in-VS : goal.returns-in-VS
unfolding views_of
returns-in-VS c =
    let e = c.in-VS.is in
    (views_held c.args.k c.args.s.now _ _ _ _ _ (rw e) (rw e) (rw e) (rw c.count_at.ensures.0 at c.wide-count.ensures.0) c.ballots_of-ballots.ensures, rw (c.wide-count.ensures.0, c.count_at.ensures.0) c.requires.0)

pub returns-in-EL : goal.returns-in-EL
unfolding views_of
returns-in-EL c =
    let e = c.in-EL.is in
    (views_held c.args.k c.args.s.now _ _ _ _ _ (rw e) (rw e) (rw e c.u16_at.ensures) (rw c.count_at.ensures.0 at c.wide-count.ensures.0) c.ballots_of-ballots.ensures, rw (c.wide-count.ensures.0, c.count_at.ensures.0) c.requires.0)
