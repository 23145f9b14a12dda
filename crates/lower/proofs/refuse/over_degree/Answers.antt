use native.Mathlib.Omega.{arith}
use Rattle.layout.proofs.Valid.{valid_length}
use Rattle.paths.proofs.Counts.{valid_top}
use Rattle.lower.proofs.Refuses.{degree_told}
use Rattle.lower.proofs.refuse.over_degree.Goals as goal

pub bounds-m-1 : goal.bounds-m-1
bounds-m-1 c = valid_length _ c.requires.0

pub high_nodes-requires : goal.high_nodes-requires
high_nodes-requires c = let t = valid_top c.args.m.now c.requires.0 in omega arith

pub returns : goal.returns
returns c = degree_told _ _ _ _ _ _ c.requires c.survey.ensures _ _ c.high_nodes.ensures
