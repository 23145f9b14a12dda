use Rattle.filler.proofs.plan.source_of.Goals as goal

pub input_source-requires : goal.input_source-requires
input_source-requires c = (c.requires.0, c.requires.1 _ c.in-Input.is)

pub returns-in-Base : goal.returns-in-Base
returns-in-Base c = rw c.in-Base.is

pub returns-in-Extension : goal.returns-in-Extension
returns-in-Extension c = rw c.in-Extension.is

pub returns-in-Challenge : goal.returns-in-Challenge
returns-in-Challenge c = rw c.in-Challenge.is

pub returns-in-Operation : goal.returns-in-Operation
returns-in-Operation c = rw c.in-Operation.is

pub returns-in-Input : goal.returns-in-Input
returns-in-Input c = rw c.in-Input.is c.input_source.ensures
