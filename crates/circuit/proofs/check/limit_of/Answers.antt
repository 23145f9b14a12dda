use native.Mathlib.Omega.{arith}
use Rattle.layout.specs.Words.{limit}
use Rattle.circuit.proofs.check.limit_of.Goals as goal

pub returns-then-m-lt-HEADER : goal.returns-then-m-lt-HEADER
unfolding limit
returns-then-m-lt-HEADER c = omega arith

pub returns : goal.returns
unfolding limit
returns c = omega arith
