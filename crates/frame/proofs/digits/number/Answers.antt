use native.Mathlib.Omega.{arith}
use Rattle.frame.proofs.Hexadecimal.{byte_small, number-none, number_small, number-again, number_done}
use Rattle.frame.proofs.digits.number.Goals as goal

pub loop-k-init : goal.loop-k-init
loop-k-init c = number-none _ _

pub overflow_mul-n : goal.overflow_mul-n
overflow_mul-n c = omega (arith, number_small _ _ _ _ c.loop-k.invariant (omega arith))

pub overflow_add-n : goal.overflow_add-n
overflow_add-n c = omega (arith, number_small _ _ _ _ c.loop-k.invariant (omega arith), byte_small _ _ _ c.byte_at.ensures)

pub loop-k-preserved : goal.loop-k-preserved
loop-k-preserved c = number-again _ _ _ _ _ c.loop-k.invariant c.byte_at.ensures

pub returns : goal.returns
returns c = number_done _ _ _ _ _ c.loop-k.invariant c.loop-k.auto.k-end c.loop-k-test.false
