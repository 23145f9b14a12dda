use mathlib.Core.Path.{refl, ◌∙◌}
use Rattle.abi.proofs.answers.number.Goals as goal

pub returns-in-Ok : goal.returns-in-Ok
returns-in-Ok c = rw c.in-Ok.is (record { number = c.give.ensures.0; out = c.give.ensures.1; kept = refl })

pub returns-in-Err : goal.returns-in-Err
returns-in-Err c = rw c.in-Err.is (record { number = c.give-in-Err.ensures.0 ∙ c.number_of.ensures; out = c.give-in-Err.ensures.1; kept = refl })
