use Rattle.read.proofs.Degrees.{product_left, product_right}
use native.Mathlib.Omega.{arith}
use Rattle.read.proofs.degree.degree_over.Goals as goal

pub returns-then-a-eq0 : goal.returns-then-a-eq0
returns-then-a-eq0 c = rw (c.in-Multiply.is, product_left _ c.args.b c.if-a-eq0.true) (omega arith)

pub returns-then-b-eq0 : goal.returns-then-b-eq0
returns-then-b-eq0 c = rw (c.in-Multiply.is, product_right c.args.a _ c.if-b-eq0.true) (omega arith)
