use mathlib.Core.Path.{sym, ap}
use Rattle.framing.specs.Answers.{counts_reply}
use Rattle.frame.proofs.respond.counts_of.Goals as goal

pub returns-in-Ok : goal.returns-in-Ok
returns-in-Ok c = sym (ap counts_reply c.in-Ok.is)

pub returns-in-Err : goal.returns-in-Err
returns-in-Err c = rw c.number_of.ensures (sym (ap counts_reply c.in-Err.is))
