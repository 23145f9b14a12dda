use mathlib.Core.Path.{sym}
use native.Mathlib.Omega.{arith}
use Rattle.frame.proofs.Hexadecimal.{digit_small, byte_none, byte_here}
use borrow.Author.Rules.{rules}
use Rattle.frame.proofs.digits.byte_at.Goals as goal

pub returns-then-line-at : goal.returns-then-line-at
returns-then-line-at c = sym (byte_none _ _ c.if-line-at.true)

pub overflow_mul-result : goal.overflow_mul-result
overflow_mul-result c = omega (arith, digit_small _ _ c.digit.ensures)

pub overflow_add-result : goal.overflow_add-result
overflow_add-result c = omega (arith, digit_small _ _ c.digit.ensures, digit_small _ _ c.digit-2.ensures)

pub returns : goal.returns
returns c = rw (c.digit-2.ensures, c.digit.ensures) (byte_here _ _ (search rules))
