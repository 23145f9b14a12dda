use Rattle.frame.proofs.Hexadecimal.{before_digits, decimal, between_digits, letter}
use mathlib.Core.Path.{sym}
use Rattle.frame.proofs.digits.is_digit.Goals as goal

pub returns-then-c-lt48 : goal.returns-then-c-lt48
returns-then-c-lt48 c = sym (before_digits _ c.if-c-lt48.true)

pub returns-then-c-le57 : goal.returns-then-c-le57
returns-then-c-le57 c = sym (decimal _ c.if-c-lt48.false c.if-c-le57.true)

pub returns-then-c-lt97 : goal.returns-then-c-lt97
returns-then-c-lt97 c = sym (between_digits _ c.if-c-le57.false c.if-c-lt97.true)

pub returns : goal.returns
returns c = letter _ c.if-c-lt97.false
