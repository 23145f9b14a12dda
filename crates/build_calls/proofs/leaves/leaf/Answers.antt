use native.Mathlib.Omega.{arith}
use Rattle.layout.proofs.Valid.{valid_length}
use Rattle.build_calls.proofs.Wording.{leaf_at, leaf_full, leaf_made}
use Rattle.build_calls.proofs.leaves.leaf.Goals as goal

pub bounds-m-1 : goal.bounds-m-1
bounds-m-1 c = valid_length _ c.requires.circuit

pub returns-then-limit_of-u : goal.returns-then-limit_of-u
returns-then-limit_of-u c = leaf_full _ _ c.requires _ c.find_leaf-found.ensures c.in-None.is (let l = c.limit_of.ensures in let t = c.if-limit_of-u.true in omega arith)

pub returns-in-Some : goal.returns-in-Some
returns-in-Some c = leaf_at _ _ c.requires _ c.find_leaf-found.ensures _ c.in-Some.is

pub returns-else-limit_of-u : goal.returns-else-limit_of-u
returns-else-limit_of-u c = leaf_made _ _ c.requires _ c.find_leaf-found.ensures c.in-None.is (let l = c.limit_of.ensures in let t = c.if-limit_of-u.false in omega arith) _ c.make.ensures
