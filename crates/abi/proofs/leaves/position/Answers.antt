use borrow.Author.Tests.{eq-eqb, ne_eqb}
use Rattle.abi.specs.Numbers.{positioned}
use Rattle.abi.proofs.leaves.position.Goals as goal

pub returns-then-row-eq0 : goal.returns-then-row-eq0
unfolding positioned
returns-then-row-eq0 c = rw (eq-eqb _ _ c.if-row-eq0.true)

pub returns-then-row-eq1 : goal.returns-then-row-eq1
unfolding positioned
returns-then-row-eq1 c = rw (ne_eqb _ _ c.if-row-eq0.false, eq-eqb _ _ c.if-row-eq1.true)

pub returns-then-row-eq2 : goal.returns-then-row-eq2
unfolding positioned
returns-then-row-eq2 c = rw (ne_eqb _ _ c.if-row-eq0.false, ne_eqb _ _ c.if-row-eq1.false, eq-eqb _ _ c.if-row-eq2.true)

pub returns : goal.returns
unfolding positioned
returns c = rw (ne_eqb _ _ c.if-row-eq0.false, ne_eqb _ _ c.if-row-eq1.false, ne_eqb _ _ c.if-row-eq2.false)
