use Rattle.layout.specs.Words.{registered}
use Rattle.classes.specs.Least.{Firsts}
use Rattle.classes.proofs.least.list_registered.Given as goal

abbrev pub invariant-loop-i : goal.invariant-loop-i
invariant-loop-i l = Firsts (registered l.m) l.numbers l.least l.i
