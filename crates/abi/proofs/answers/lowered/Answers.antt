use mathlib.Core.Path.{refl, ◌∙◌}
use Rattle.abi.proofs.answers.lowered.Goals as goal

pub returns-in-Ok : goal.returns-in-Ok
returns-in-Ok c = rw c.in-Ok.is (λ lent. record { number = c.give_two.ensures.0; out = c.give_two.ensures.1; kept = refl })

pub returns-in-Err : goal.returns-in-Err
returns-in-Err c = rw c.in-Err.is (λ lent. record { number = c.give_two-in-Err.ensures.0 ∙ c.number_of.ensures; out = c.give_two-in-Err.ensures.1; kept = refl })
