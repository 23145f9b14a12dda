use mathlib.Core.Path.{sym, ◌∙◌}
use Rattle.layout.specs.NotCircuit.{bad_words}
use Rattle.circuit.proofs.check.bad_words.Goals as goal

pub returns-then-bad_word : goal.returns-then-bad_word
unfolding bad_words
returns-then-bad_word c = rw (sym c.bad_word.ensures ∙ c.if-bad_word.true)

pub returns-then-bad_word-2 : goal.returns-then-bad_word-2
unfolding bad_words
returns-then-bad_word-2 c = rw (sym c.bad_word.ensures ∙ c.if-bad_word.false, sym c.bad_word-2.ensures ∙ c.if-bad_word-2.true)

pub returns : goal.returns
unfolding bad_words
returns c = rw (sym c.bad_word.ensures ∙ c.if-bad_word.false, sym c.bad_word-2.ensures ∙ c.if-bad_word-2.false) c.bad_word-3.ensures
