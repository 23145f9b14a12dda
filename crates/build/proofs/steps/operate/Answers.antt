use Rattle.layout.proofs.Valid.{valid_fits}
use Rattle.build.proofs.Stepping.{simple_here, simple_none, step_of_lem}
use Rattle.build.proofs.steps.operate.Goals as goal

pub simplified-requires : goal.simplified-requires
simplified-requires c = (valid_fits _ c.requires.buildable.circuit _ c.requires.left, valid_fits _ c.requires.buildable.circuit _ c.requires.right)

pub returns-in-Some : goal.returns-in-Some
returns-in-Some c = simple_here _ _ _ _ _ _ _ c.requires _ c.simplified.ensures _ c.in-Some.is

pub returns : goal.returns
returns c = step_of_lem (simple_none _ _ _ _ _ _ _ c.requires _ c.simplified.ensures c.in_default.is) c.folding.ensures
