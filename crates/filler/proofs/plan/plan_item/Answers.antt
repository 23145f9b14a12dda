use borrow.Author.Tests.{eq-eqb, ne_eqb}
use Rattle.filler.proofs.plan.plan_item.Goals as goal

pub returns-then-bases-node : goal.returns-then-bases-node
returns-then-bases-node c = rw (eq-eqb _ _ c.if-bases-node.true)

pub returns : goal.returns
returns c = rw (ne_eqb _ _ c.if-bases-node.false)
