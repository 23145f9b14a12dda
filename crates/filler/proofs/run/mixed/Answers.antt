use borrow.Author.Tests.{eq-eqb, ne_eqb}
use mathlib.Core.Path.{◌∙◌, ap}
use Rattle.arithmetic.specs.declared.Triple.{Triple}
use Rattle.arithmetic.specs.Extension.{plus}
use Rattle.filler.proofs.run.mixed.Goals as goal

pub returns-then-op-eq6 : goal.returns-then-op-eq6
returns-then-op-eq6 c = rw (eq-eqb _ 6 c.if-op-eq6.true) (c.add.ensures ∙ ap (λ (x : Triple). plus x c.args.b) c.lift.ensures)

pub returns : goal.returns
returns c = rw (ne_eqb _ 6 c.if-op-eq6.false) c.scale.ensures
