use mathlib.Core.Path.{sym, ◌∙◌}
use borrow.Author.Tests.{le-leb, lt-leb}
use Rattle.layout.specs.NotCircuit.{bad_expression}
use Rattle.circuit.proofs.check.bad_expression.Goals as goal

pub returns-then-bad_words : goal.returns-then-bad_words
unfolding bad_expression
returns-then-bad_words c = rw (c.in-Extension.is, sym c.bad_words.ensures ∙ c.if-bad_words.true)

pub returns-then-n-l : goal.returns-then-n-l
unfolding bad_expression
returns-then-n-l c = rw (c.in-Operation.is, le-leb _ _ c.if-n-l.true)

pub returns-then-bad_index : goal.returns-then-bad_index
unfolding bad_expression
returns-then-bad_index c = rw (c.in-Input.is, ← c.column_of.ensures, sym c.bad_index-in-Input.ensures ∙ c.if-bad_index.true)

pub returns-in-Base : goal.returns-in-Base
unfolding bad_expression
returns-in-Base c = rw c.in-Base.is c.bad_word.ensures

pub returns-else-bad_words : goal.returns-else-bad_words
unfolding bad_expression
returns-else-bad_words c = rw (c.in-Extension.is, sym c.bad_words.ensures ∙ c.if-bad_words.false) c.unlifts.ensures

pub returns-in-Challenge : goal.returns-in-Challenge
unfolding bad_expression
returns-in-Challenge c = rw c.in-Challenge.is c.bad_index.ensures

pub returns-else-n-l : goal.returns-else-n-l
unfolding bad_expression
returns-else-n-l c = rw (c.in-Operation.is, lt-leb _ _ c.if-n-l.false)

pub returns-else-bad_index : goal.returns-else-bad_index
unfolding bad_expression
returns-else-bad_index c = rw (c.in-Input.is, ← c.column_of.ensures, sym c.bad_index-in-Input.ensures ∙ c.if-bad_index.false) c.bad_row.ensures
