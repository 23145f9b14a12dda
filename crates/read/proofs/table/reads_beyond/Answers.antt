use Rattle.read.proofs.table.reads_beyond.Goals as goal

pub returns-in-Challenge : goal.returns-in-Challenge
returns-in-Challenge c = rw c.in-Challenge.is

pub returns-in-Main : goal.returns-in-Main
returns-in-Main c = rw (c.in-Input.is, c.in-Main.is)

pub returns-in-Aux : goal.returns-in-Aux
returns-in-Aux c = rw (c.in-Input.is, c.in-Aux.is)

pub returns-in-NextMain : goal.returns-in-NextMain
returns-in-NextMain c = rw (c.in-Input.is, c.in-NextMain.is)

pub returns-in-NextAux : goal.returns-in-NextAux
returns-in-NextAux c = rw (c.in-Input.is, c.in-NextAux.is)
