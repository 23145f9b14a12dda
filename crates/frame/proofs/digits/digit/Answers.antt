use mathlib.Core.Path.{sym, ◌∙◌}
use native.Mathlib.Omega.{arith}
use Rattle.frame.proofs.Hexadecimal.{digit_ordered, no_digit, decimal_digit, letter_digit}
use Rattle.frame.proofs.digits.digit.Goals as goal

pub returns-then-not-is_digit : goal.returns-then-not-is_digit
returns-then-not-is_digit c = sym (no_digit _ (sym c.is_digit.ensures ∙ c.if-not-is_digit.true))

pub overflow_sub-result : goal.overflow_sub-result
overflow_sub-result c = omega (arith, (digit_ordered _ (sym c.is_digit.ensures ∙ c.if-not-is_digit.false)).low)

pub returns-then-c-le57 : goal.returns-then-c-le57
returns-then-c-le57 c = sym (decimal_digit _ (sym c.is_digit.ensures ∙ c.if-not-is_digit.false) c.if-c-le57.true)

pub overflow_sub-result-2 : goal.overflow_sub-result-2
overflow_sub-result-2 c = omega (arith, (digit_ordered _ (sym c.is_digit.ensures ∙ c.if-not-is_digit.false)).apart c.if-c-le57.false)

pub returns : goal.returns
returns c = sym (letter_digit _ (sym c.is_digit.ensures ∙ c.if-not-is_digit.false) c.if-c-le57.false)
