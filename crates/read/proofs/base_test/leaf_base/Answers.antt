use Rattle.read.specs.Bases.{base_entry}
use Rattle.read.proofs.base_test.leaf_base.Goals as goal

pub returns-in-Base : goal.returns-in-Base
unfolding base_entry
returns-in-Base c = rw c.in-Base.is

pub returns-in-Extension : goal.returns-in-Extension
unfolding base_entry
returns-in-Extension c = rw c.in-Extension.is

pub returns-in-Challenge : goal.returns-in-Challenge
unfolding base_entry
returns-in-Challenge c = rw c.in-Challenge.is

pub returns-in-Operation : goal.returns-in-Operation
unfolding base_entry
returns-in-Operation c = rw c.in-Operation.is

pub returns-in-Input : goal.returns-in-Input
unfolding base_entry
returns-in-Input c = rw c.in-Input.is c.main_bit.ensures
