use Rattle.build.proofs.Stepping.{operation_makable, swapped_findable, swapped_here, swapped_none, step_of_lem}
use Rattle.build.proofs.steps.either_order.Goals as goal

pub find-requires : goal.find-requires
find-requires c = swapped_findable _ _ _ _ _ _ _ c.requires

pub find_or_make-requires : goal.find_or_make-requires
find_or_make-requires c = operation_makable _ _ _ _ _ _ _ c.requires

pub returns-in-Some : goal.returns-in-Some
returns-in-Some c = swapped_here _ _ _ _ _ _ _ c.requires _ c.find.ensures _ c.in-Some.is

pub returns : goal.returns
returns c = step_of_lem (swapped_none _ _ _ _ _ _ _ c.requires _ c.find.ensures c.in_default.is) c.find_or_make.ensures
