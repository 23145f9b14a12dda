use mathlib.Core.Path.{ap, ◌∙◌}
use Rattle.layout.specs.Words.{encode}
use Rattle.classes.specs.Numbers.{key_of}
use Rattle.classes.proofs.numbers.key_of.Goals as goal

pub returns : goal.returns
unfolding key_of
returns c = c.words_of.ensures ∙ ap encode c.over_numbers.ensures
