use Rattle.layout.specs.Lists.{same_words}
use Rattle.layout.specs.Words.{encode}
use Rattle.filling.specs.Constraints.{is_input}
use mathlib.Core.Path.{ap, ap₂, ◌∙◌}
use Rattle.fillable.proofs.form.is_input.Goals as goal

pub returns : goal.returns
unfolding is_input
returns c = c.same_words.ensures ∙ ap₂ same_words (c.words_of.ensures ∙ ap encode c.expression_at.ensures) c.words_of-wanted.ensures
