use borrow.Author.Tests.{eq-eqb, ne_eqb}
use Rattle.lower.proofs.redirect.rename.Goals as goal

pub returns-then-i-s : goal.returns-then-i-s
returns-then-i-s c = rw (eq-eqb _ _ c.if-i-s.true)

pub returns-else-i-s : goal.returns-else-i-s
returns-else-i-s c = rw (ne_eqb _ _ c.if-i-s.false)
