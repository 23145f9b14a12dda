use mathlib.Core.Path.{sym, ap}
use Rattle.lowering.specs.Refusals.{at_or_above}
use Rattle.lower.proofs.tests.at_or_above.Goals as goal

pub returns-in-Main : goal.returns-in-Main
returns-in-Main c = sym (ap (at_or_above c.args.main_count c.args.aux_count) c.in-Main.is)

pub returns-in-Aux : goal.returns-in-Aux
returns-in-Aux c = sym (ap (at_or_above c.args.main_count c.args.aux_count) c.in-Aux.is)

pub returns-in-NextMain : goal.returns-in-NextMain
returns-in-NextMain c = sym (ap (at_or_above c.args.main_count c.args.aux_count) c.in-NextMain.is)

pub returns-in-NextAux : goal.returns-in-NextAux
returns-in-NextAux c = sym (ap (at_or_above c.args.main_count c.args.aux_count) c.in-NextAux.is)
