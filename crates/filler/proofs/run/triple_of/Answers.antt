use native.Mathlib.Omega.{arith}
use mathlib.Core.Path.{◌∙◌, ap, ap₂}
use borrow.Author.Tests.{eq-eqb, ne_eqb, lt-ltb, le-ltb}
use Rattle.filler.specs.Running.{both, mixed}
use Rattle.filler.proofs.run.triple_of.Goals as goal

pub entry_at-requires : goal.entry_at-requires
entry_at-requires c = c.requires.0 c.if-x-eq3.true

pub returns-then-x-eq3 : goal.returns-then-x-eq3
returns-then-x-eq3 c = rw (eq-eqb _ 3 c.if-x-eq3.true) c.entry_at.ensures

pub entry_at-requires-then-x-lt6 : goal.entry_at-requires-then-x-lt6
entry_at-requires-then-x-lt6 c = c.requires.1.1.0 c.if-x-eq3.false

pub entry_at-requires-then-x-lt6-2 : goal.entry_at-requires-then-x-lt6-2
entry_at-requires-then-x-lt6-2 c = c.requires.1.1.1 c.if-x-eq3.false

pub returns-then-x-lt6 : goal.returns-then-x-lt6
returns-then-x-lt6 c = rw (ne_eqb _ 3 c.if-x-eq3.false, lt-ltb _ 6 c.if-x-lt6.true) (c.both.ensures ∙ ap₂ (both c.args.x.op) c.entry_at-then-x-lt6.ensures c.entry_at-then-x-lt6-2.ensures)

pub offset_bounds-words-left : goal.offset_bounds-words-left
offset_bounds-words-left c = let h = c.requires.1.0 c.if-x-eq3.false in omega arith

pub bounds-words-left : goal.bounds-words-left
bounds-words-left c = c.requires.1.0 c.if-x-eq3.false

pub returns-then-x-eq8 : goal.returns-then-x-eq8
returns-then-x-eq8 c = rw (ne_eqb _ 3 c.if-x-eq3.false, le-ltb _ 6 c.if-x-lt6.false, eq-eqb _ 8 c.if-x-eq8.true) c.lift.ensures

pub offset_bounds-words-left-2 : goal.offset_bounds-words-left-2
offset_bounds-words-left-2 c = let h = c.requires.1.0 c.if-x-eq3.false in omega arith

pub bounds-words-left-2 : goal.bounds-words-left-2
bounds-words-left-2 c = c.requires.1.0 c.if-x-eq3.false

pub entry_at-requires-2 : goal.entry_at-requires-2
entry_at-requires-2 c = c.requires.1.1.1 c.if-x-eq3.false

pub returns : goal.returns
returns c = rw (ne_eqb _ 3 c.if-x-eq3.false, le-ltb _ 6 c.if-x-lt6.false, ne_eqb _ 8 c.if-x-eq8.false) (c.mixed.ensures ∙ ap (mixed c.args.x.op _) c.entry_at-2.ensures)
