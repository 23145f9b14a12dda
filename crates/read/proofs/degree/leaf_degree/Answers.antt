use Rattle.read.specs.Degrees.{degree_entry}
use borrow.Author.Tests.{eq-eqb, ne_eqb}
use Rattle.read.proofs.degree.leaf_degree.Goals as goal

pub returns-then-w-eq0 : goal.returns-then-w-eq0
unfolding degree_entry
returns-then-w-eq0 c = rw (c.in-Base.is, eq-eqb _ _ c.if-w-eq0.true)

pub returns-else-w-eq0 : goal.returns-else-w-eq0
unfolding degree_entry
returns-else-w-eq0 c = rw (c.in-Base.is, ne_eqb _ _ c.if-w-eq0.false)

pub returns-in-Extension : goal.returns-in-Extension
unfolding degree_entry
returns-in-Extension c = rw c.in-Extension.is

pub returns-in-Challenge : goal.returns-in-Challenge
unfolding degree_entry
returns-in-Challenge c = rw c.in-Challenge.is

pub returns-in-Operation : goal.returns-in-Operation
unfolding degree_entry
returns-in-Operation c = rw c.in-Operation.is

pub returns-in-Input : goal.returns-in-Input
unfolding degree_entry
returns-in-Input c = rw c.in-Input.is
