use borrow.Author.Tests.{ne_eqb}
use Rattle.terms.specs.Refusals.{refusal_of}
use Rattle.terms.proofs.Refusal.of.Goals as goal

pub returns-in-1 : goal.returns-in-1
unfolding refusal_of
returns-in-1 c = rw c.in-1.is

pub returns-in-2 : goal.returns-in-2
unfolding refusal_of
returns-in-2 c = rw c.in-2.is

pub returns-in-3 : goal.returns-in-3
unfolding refusal_of
returns-in-3 c = rw c.in-3.is

pub returns-in-4 : goal.returns-in-4
unfolding refusal_of
returns-in-4 c = rw c.in-4.is

pub returns-in-5 : goal.returns-in-5
unfolding refusal_of
returns-in-5 c = rw c.in-5.is

pub returns-in-6 : goal.returns-in-6
unfolding refusal_of
returns-in-6 c = rw c.in-6.is

pub returns-in-7 : goal.returns-in-7
unfolding refusal_of
returns-in-7 c = rw c.in-7.is

pub returns-in-8 : goal.returns-in-8
unfolding refusal_of
returns-in-8 c = rw c.in-8.is

pub returns-in-14 : goal.returns-in-14
unfolding refusal_of
returns-in-14 c = rw c.in-14.is

pub returns-in-15 : goal.returns-in-15
unfolding refusal_of
returns-in-15 c = rw c.in-15.is

pub returns-in-16 : goal.returns-in-16
unfolding refusal_of
returns-in-16 c = rw c.in-16.is

pub returns-in-18 : goal.returns-in-18
unfolding refusal_of
returns-in-18 c = rw c.in-18.is

pub returns-in-19 : goal.returns-in-19
unfolding refusal_of
returns-in-19 c = rw c.in-19.is

pub returns-in-26 : goal.returns-in-26
unfolding refusal_of
returns-in-26 c = rw c.in-26.is

pub returns-in-27 : goal.returns-in-27
unfolding refusal_of
returns-in-27 c = rw c.in-27.is

pub returns-in-28 : goal.returns-in-28
unfolding refusal_of
returns-in-28 c = rw c.in-28.is

pub returns-in-29 : goal.returns-in-29
unfolding refusal_of
returns-in-29 c = rw c.in-29.is

pub returns-in-30 : goal.returns-in-30
unfolding refusal_of
returns-in-30 c = rw c.in-30.is

pub returns-in_default : goal.returns-in_default
unfolding refusal_of
returns-in_default c = simp (ne_eqb _ _ c.in_default.in_default-own.rest.0.0.0.0.0.0.0.0.0.0.0.0.0.0.0.0.0.1, ne_eqb _ _ c.in_default.in_default-own.rest.0.0.0.0.0.0.0.0.0.0.0.0.0.0.0.0.1, ne_eqb _ _ c.in_default.in_default-own.rest.0.0.0.0.0.0.0.0.0.0.0.0.0.0.0.1, ne_eqb _ _ c.in_default.in_default-own.rest.0.0.0.0.0.0.0.0.0.0.0.0.0.0.1, ne_eqb _ _ c.in_default.in_default-own.rest.0.0.0.0.0.0.0.0.0.0.0.0.0.1, ne_eqb _ _ c.in_default.in_default-own.rest.0.0.0.0.0.0.0.0.0.0.0.0.1, ne_eqb _ _ c.in_default.in_default-own.rest.0.0.0.0.0.0.0.0.0.0.0.1, ne_eqb _ _ c.in_default.in_default-own.rest.0.0.0.0.0.0.0.0.0.0.1, ne_eqb _ _ c.in_default.in_default-own.rest.0.0.0.0.0.0.0.0.0.1, ne_eqb _ _ c.in_default.in_default-own.rest.0.0.0.0.0.0.0.0.1, ne_eqb _ _ c.in_default.in_default-own.rest.0.0.0.0.0.0.0.1, ne_eqb _ _ c.in_default.in_default-own.rest.0.0.0.0.0.0.1, ne_eqb _ _ c.in_default.in_default-own.rest.0.0.0.0.0.1, ne_eqb _ _ c.in_default.in_default-own.rest.0.0.0.0.1, ne_eqb _ _ c.in_default.in_default-own.rest.0.0.0.1, ne_eqb _ _ c.in_default.in_default-own.rest.0.0.1, ne_eqb _ _ c.in_default.in_default-own.rest.0.1, ne_eqb _ _ c.in_default.in_default-own.rest.1)
