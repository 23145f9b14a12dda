use mathlib.Core.Path.{sym, ◌∙◌}
use native.Mathlib.Omega.{arith}
use Rattle.frame.proofs.Reading.{no_digits, other_length, its_length}
use Rattle.frame.proofs.request.read.Goals as goal

pub returns-then-not-all_digits : goal.returns-then-not-all_digits
returns-then-not-all_digits c = sym (no_digits _ (sym c.all_digits.ensures ∙ c.if-not-all_digits.true))

pub overflow_mul-f : goal.overflow_mul-f
overflow_mul-f c = omega arith

pub returns-then-line-f : goal.returns-then-line-f
returns-then-line-f c = sym (other_length _ _ c.form_of-f.ensures.0 (sym c.all_digits.ensures ∙ c.if-not-all_digits.false) c.if-line-f.true)

pub returns : goal.returns
returns c = sym (its_length _ _ c.form_of-f.ensures.0 (sym c.all_digits.ensures ∙ c.if-not-all_digits.false) c.if-line-f.false)
