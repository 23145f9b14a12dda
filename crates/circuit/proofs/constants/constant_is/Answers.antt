use Rattle.circuit.proofs.constants.constant_is.Goals as goal

pub returns-in-Base : goal.returns-in-Base
returns-in-Base c = rw c.in-Base.is
