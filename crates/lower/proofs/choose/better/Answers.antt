use borrow.Author.Tests.{lt-ltb, le-ltb, eq-eqb, ne_eqb}
use Rattle.lower.proofs.choose.better.Goals as goal

pub returns-then-a-b : goal.returns-then-a-b
returns-then-a-b c = rw (lt-ltb _ _ c.if-a-b.true)

pub returns-then-a-b-2 : goal.returns-then-a-b-2
returns-then-a-b-2 c = rw (le-ltb _ _ c.if-a-b.false, ne_eqb _ _ c.if-a-b-2.true)

pub returns-then-a-b-3 : goal.returns-then-a-b-3
returns-then-a-b-3 c = rw (le-ltb _ _ c.if-a-b.false, eq-eqb _ _ c.if-a-b-2.false, lt-ltb _ _ c.if-a-b-3.true)

pub returns : goal.returns
returns c = rw (le-ltb _ _ c.if-a-b.false, eq-eqb _ _ c.if-a-b-2.false, le-ltb _ _ c.if-a-b-3.false)
