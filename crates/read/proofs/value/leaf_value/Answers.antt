use mathlib.Core.List.{[]}
use Rattle.read.proofs.Values.{input_tables}
use Rattle.read.specs.Values.{value_entry}
use Rattle.reading.specs.Calls.{assigned}
use mathlib.Core.Path.{◌∙◌}
use Rattle.read.proofs.value.leaf_value.Goals as goal

pub returns-in-Base : goal.returns-in-Base
unfolding value_entry
returns-in-Base c = rw c.in-Base.is c.lift.ensures

pub returns-in-Extension : goal.returns-in-Extension
unfolding value_entry
returns-in-Extension c = rw c.in-Extension.is

pub returns-in-Challenge : goal.returns-in-Challenge
unfolding value_entry assigned
returns-in-Challenge c = rw c.in-Challenge.is c.aux_at.ensures

pub returns-in-Operation : goal.returns-in-Operation
unfolding value_entry
returns-in-Operation c = rw c.in-Operation.is c.lift-in-Operation.ensures

pub returns-in-Input : goal.returns-in-Input
unfolding value_entry
returns-in-Input c = rw c.in-Input.is (c.input_value.ensures ∙ input_tables c.args.main.now c.args.aux.now [] c.args.challenges.now c.in-Input.q)
