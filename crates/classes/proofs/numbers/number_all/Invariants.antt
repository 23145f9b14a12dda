use Rattle.circuit.specs.Rank.{at}
use Rattle.classes.specs.Numbers.{Numbered}
use Rattle.classes.proofs.numbers.number_all.Given as goal

abbrev pub invariant-loop-q : goal.invariant-loop-q
invariant-loop-q l = Numbered l.m (at l.order) l.q l.numbers l.table
