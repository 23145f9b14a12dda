use mathlib.Core.Path.{ap, ◌∙◌, refl}
use Rattle.classes.specs.Numbers.{key_of}
use Rattle.classes.proofs.numbers.enter_one.Goals as goal

pub returns : goal.returns
returns c = record { number = c.intern-v.result; put = refl; interned = rw (c.key_of-w.ensures ∙ ap (key_of _) c.expression_at-e.ensures) at c.intern-v.ensures }
