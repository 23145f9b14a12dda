use Rattle.fillable.specs.Reaching.{reach_entry}
use Rattle.fillable.proofs.reach.leaf_reach.Goals as goal

pub input_reach-requires : goal.input_reach-requires
input_reach-requires c = c.requires.small _ c.in-Input.is

pub returns-in-Base : goal.returns-in-Base
unfolding reach_entry
returns-in-Base c = rw c.in-Base.is

pub returns-in-Extension : goal.returns-in-Extension
unfolding reach_entry
returns-in-Extension c = rw c.in-Extension.is

pub returns-in-Challenge : goal.returns-in-Challenge
unfolding reach_entry
returns-in-Challenge c = rw c.in-Challenge.is

pub returns-in-Operation : goal.returns-in-Operation
unfolding reach_entry
returns-in-Operation c = rw c.in-Operation.is

pub returns-in-Input : goal.returns-in-Input
unfolding reach_entry
returns-in-Input c = rw c.in-Input.is c.input_reach.ensures
