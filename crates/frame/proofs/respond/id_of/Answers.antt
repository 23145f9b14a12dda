use mathlib.Core.Path.{sym, ap}
use Rattle.framing.specs.Answers.{id_reply}
use Rattle.frame.proofs.respond.id_of.Goals as goal

pub returns-in-Ok : goal.returns-in-Ok
returns-in-Ok c = sym (ap id_reply c.in-Ok.is)

pub returns-in-Err : goal.returns-in-Err
returns-in-Err c = rw c.number_of.ensures (sym (ap id_reply c.in-Err.is))
