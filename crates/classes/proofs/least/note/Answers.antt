use borrow.Author.Tests.{eq-eqb, ne_eqb}
use Rattle.classes.specs.Least.{noted}
use Rattle.classes.proofs.least.note.Goals as goal

pub returns-then-least-k-eq0 : goal.returns-then-least-k-eq0
unfolding noted
returns-then-least-k-eq0 c = rw (eq-eqb _ _ c.if-least-k-eq0.true)

pub returns-else-least-k-eq0 : goal.returns-else-least-k-eq0
unfolding noted
returns-else-least-k-eq0 c = rw (ne_eqb _ _ c.if-least-k-eq0.false)
