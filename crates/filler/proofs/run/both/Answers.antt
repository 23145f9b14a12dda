use borrow.Author.Tests.{eq-eqb, ne_eqb}
use Rattle.filler.proofs.run.both.Goals as goal

pub returns-then-op-eq4 : goal.returns-then-op-eq4
returns-then-op-eq4 c = rw (eq-eqb _ 4 c.if-op-eq4.true) c.add.ensures

pub returns : goal.returns
returns c = rw (ne_eqb _ 4 c.if-op-eq4.false) c.multiply.ensures
