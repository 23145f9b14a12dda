use Rattle.read.proofs.Values.{second_half}
use Rattle.reading.specs.Calls.{assigned}
use Rattle.read.proofs.value.input_value.Goals as goal

pub returns-in-Main : goal.returns-in-Main
unfolding assigned
returns-in-Main c = rw c.in-Main.is c.main_at.ensures

pub returns-in-Aux : goal.returns-in-Aux
unfolding assigned
returns-in-Aux c = rw c.in-Aux.is c.aux_at.ensures

pub returns-in-NextMain : goal.returns-in-NextMain
unfolding assigned
returns-in-NextMain c = rw c.in-NextMain.is (rw second_half at c.main_at-in-NextMain.ensures)

pub returns-in-NextAux : goal.returns-in-NextAux
unfolding assigned
returns-in-NextAux c = rw c.in-NextAux.is (rw second_half at c.aux_at-in-NextAux.ensures)
