use borrow.Author.Tests.{lt-ltb, le-ltb}
use Rattle.layout.specs.NotCircuit.{bad_node}
use native.Mathlib.Nat.{add-zero}
use Rattle.circuit.proofs.check.bad_node.Goals as goal

pub returns-then-m-at-gt8 : goal.returns-then-m-at-gt8
unfolding bad_node
returns-then-m-at-gt8 c = rw (add-zero, lt-ltb _ _ c.if-m-at-gt8.true)

pub returns-then-m-at-gt1 : goal.returns-then-m-at-gt1
unfolding bad_node
returns-then-m-at-gt1 c = rw (add-zero, le-ltb _ _ c.if-m-at-gt8.false, lt-ltb _ _ c.if-m-at-gt1.true)

pub returns : goal.returns
unfolding bad_node
returns c = rw (add-zero, le-ltb _ _ c.if-m-at-gt8.false, le-ltb _ _ c.if-m-at-gt1.false, ← c.expression_at.ensures) c.bad_expression.ensures
