use Rattle.build.proofs.constants.constant_of.Goals as goal

pub returns-in-Base : goal.returns-in-Base
returns-in-Base c = rw c.in-Base.is (rw c.lift.ensures)

pub returns-in-Extension : goal.returns-in-Extension
returns-in-Extension c = rw c.in-Extension.is
