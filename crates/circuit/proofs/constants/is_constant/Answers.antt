use Rattle.layout.specs.Words.{is_constant}
use Rattle.circuit.proofs.constants.is_constant.Goals as goal

pub returns : goal.returns
unfolding is_constant
returns c = rw (← c.expression_at.ensures) c.constant_is.ensures
