use Rattle.build.proofs.Stepping.{findable, found_here, found_none, step_of_lem}
use Rattle.build.proofs.steps.find_or_make.Goals as goal

pub find-requires : goal.find-requires
find-requires c = findable _ _ _ _ _ c.requires

pub returns-in-Some : goal.returns-in-Some
returns-in-Some c = found_here _ _ _ _ _ c.requires _ c.find.ensures _ c.in-Some.is

pub returns : goal.returns
returns c = step_of_lem (found_none _ _ _ _ _ c.requires _ c.find.ensures c.in_default.is) c.make_node.ensures
