use mathlib.Core.Path.{sym, ap}
use Rattle.classes.specs.Numbers.{over}
use Rattle.classes.proofs.numbers.over_numbers.Goals as goal

pub returns-in-Base : goal.returns-in-Base
returns-in-Base c = sym (ap (over _) c.in-Base.is)

pub returns-in-Extension : goal.returns-in-Extension
returns-in-Extension c = sym (ap (over _) c.in-Extension.is)

pub returns-in-Challenge : goal.returns-in-Challenge
returns-in-Challenge c = sym (ap (over _) c.in-Challenge.is)

pub returns-in-Operation : goal.returns-in-Operation
returns-in-Operation c = rw (c.in-Operation.is, c.entry.ensures, c.entry-in-Operation.ensures)

pub returns-in-Input : goal.returns-in-Input
returns-in-Input c = sym (ap (over _) c.in-Input.is)
