use Rattle.frame.proofs.Responding.{start_cleared, start_refused}
use Rattle.frame.proofs.respond.start.Goals as goal

pub returns-in-Ok : goal.returns-in-Ok
returns-in-Ok c = λ main aux. start_cleared _ _ main aux _ _ _ c.start-started.ensures _ _ c.in-Ok.is c.clear.ensures

pub returns-in-Err : goal.returns-in-Err
returns-in-Err c = rw c.number_of.ensures (λ main aux. start_refused _ _ main aux _ _ _ c.start-started.ensures _ c.in-Err.is)
