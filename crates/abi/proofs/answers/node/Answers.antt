use Rattle.layout.specs.Words.{encode}
use mathlib.Core.Path.{refl, ◌∙◌}
use Rattle.abi.proofs.answers.node.Goals as goal

pub returns-in-Ok : goal.returns-in-Ok
returns-in-Ok c = rw c.in-Ok.is (record { number = c.give_node.ensures.0; out = c.give_node.ensures.1; kept = refl })

pub returns-in-Err : goal.returns-in-Err
unfolding encode
returns-in-Err c = rw c.in-Err.is (record { number = c.give_six.ensures.0 ∙ c.number_of.ensures; out = c.give_six.ensures.1; kept = refl })
