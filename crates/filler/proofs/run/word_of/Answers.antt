use native.Mathlib.Omega.{arith}
use borrow.Author.Tests.{eq-eqb, ne_eqb}
use Rattle.filler.proofs.run.word_of.Goals as goal

pub offset_bounds-main-left : goal.offset_bounds-main-left
offset_bounds-main-left c = let h = c.requires.0 c.if-x-eq0.true in omega arith

pub bounds-main-left : goal.bounds-main-left
bounds-main-left c = c.requires.0 c.if-x-eq0.true

pub returns-then-x-eq0 : goal.returns-then-x-eq0
returns-then-x-eq0 c = rw (eq-eqb _ 0 c.if-x-eq0.true)

pub offset_bounds-words-left : goal.offset_bounds-words-left
offset_bounds-words-left c = let h = c.requires.1.0 c.if-x-eq0.false in omega arith

pub bounds-words-left : goal.bounds-words-left
bounds-words-left c = c.requires.1.0 c.if-x-eq0.false

pub offset_bounds-words-right : goal.offset_bounds-words-right
offset_bounds-words-right c = let h = c.requires.1.1 c.if-x-eq0.false in omega arith

pub bounds-words-right : goal.bounds-words-right
bounds-words-right c = c.requires.1.1 c.if-x-eq0.false

pub returns-then-x-eq1 : goal.returns-then-x-eq1
returns-then-x-eq1 c = rw (ne_eqb _ 0 c.if-x-eq0.false, eq-eqb _ 1 c.if-x-eq1.true) c.add.ensures

pub offset_bounds-words-left-2 : goal.offset_bounds-words-left-2
offset_bounds-words-left-2 c = let h = c.requires.1.0 c.if-x-eq0.false in omega arith

pub bounds-words-left-2 : goal.bounds-words-left-2
bounds-words-left-2 c = c.requires.1.0 c.if-x-eq0.false

pub offset_bounds-words-right-2 : goal.offset_bounds-words-right-2
offset_bounds-words-right-2 c = let h = c.requires.1.1 c.if-x-eq0.false in omega arith

pub bounds-words-right-2 : goal.bounds-words-right-2
bounds-words-right-2 c = c.requires.1.1 c.if-x-eq0.false

pub returns : goal.returns
returns c = rw (ne_eqb _ 0 c.if-x-eq0.false, ne_eqb _ 1 c.if-x-eq1.false) c.multiply.ensures
