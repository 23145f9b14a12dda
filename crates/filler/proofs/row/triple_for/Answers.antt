use borrow.Author.Tests.{eq-eqb, ne_eqb}
use Rattle.filler.proofs.row.triple_for.Goals as goal

pub returns-then-bases-place-eq1 : goal.returns-then-bases-place-eq1
returns-then-bases-place-eq1 c = rw (eq-eqb _ 1 c.if-bases-place-eq1.true) c.lift.ensures

pub returns : goal.returns
returns c = rw (ne_eqb _ 1 c.if-bases-place-eq1.false) c.entry_at.ensures
