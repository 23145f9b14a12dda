use native.Mathlib.Omega.{arith}
use Rattle.layout.proofs.Valid.{valid_length, valid_header, header_top}
use Rattle.build.proofs.Stepping.{no_place, joins, made_step}
use Rattle.build.proofs.steps.make_node.Goals as goal

pub bounds-m-1 : goal.bounds-m-1
bounds-m-1 c = valid_length _ c.requires.buildable.circuit

pub overflow_add-needed : goal.overflow_add-needed
overflow_add-needed c = let t = header_top _ (valid_header _ c.requires.buildable.circuit) in omega arith

pub returns-then-limit_of-needed : goal.returns-then-limit_of-needed
returns-then-limit_of-needed c = no_place _ _ _ _ _ c.requires (rw c.limit_of.ensures at c.if-limit_of-needed.true)

pub join-requires : goal.join-requires
join-requires c = joins _ _ _ _ _ c.requires (let l = c.limit_of.ensures in let t = c.if-limit_of-needed.false in omega arith) _ c.make.ensures

pub returns : goal.returns
returns c = made_step _ _ _ _ _ c.requires (let l = c.limit_of.ensures in let t = c.if-limit_of-needed.false in omega arith) _ c.make.ensures _ _ _ c.join.ensures
