use mathlib.Core.Path.{sym, ap}
use Rattle.layout.specs.Words.{encode}
use Rattle.circuit.proofs.place.words_of.Goals as goal

pub returns-in-Base : goal.returns-in-Base
unfolding encode
returns-in-Base c = sym (ap encode c.in-Base.is)

pub returns-in-Extension : goal.returns-in-Extension
unfolding encode
returns-in-Extension c = sym (ap encode c.in-Extension.is)

pub returns-in-Challenge : goal.returns-in-Challenge
unfolding encode
returns-in-Challenge c = sym (ap encode c.in-Challenge.is)

pub returns-in-Operation : goal.returns-in-Operation
unfolding encode
returns-in-Operation c = rw (c.in-Operation.is, c.op_kind.ensures)

pub returns-in-Input : goal.returns-in-Input
unfolding encode
returns-in-Input c = rw (c.in-Input.is, c.column_of.ensures, c.input_kind.ensures)
