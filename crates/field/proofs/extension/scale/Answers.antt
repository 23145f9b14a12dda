-- `field::extension::scale` meets its contract: a lifted number times a triple is that number times each word. Assumes nothing.
use Rattle.arithmetic.proofs.Algebra.{lift_by}
use Rattle.field.proofs.extension.scale.Goals as goal

pub returns : goal.returns
returns c = rw (lift_by c.args.b c.args.a) cc
