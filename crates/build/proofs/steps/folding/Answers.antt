use Rattle.layout.proofs.Valid.{valid_fits}
use Rattle.build.proofs.Stepping.{constant_read, fold_makable, fold_two, fold_left, fold_right, step_of_lem}
use Rattle.build.proofs.steps.folding.Goals as goal

pub expression_at-requires : goal.expression_at-requires
expression_at-requires c = valid_fits _ c.requires.buildable.circuit _ c.requires.left

pub expression_at-requires-2 : goal.expression_at-requires-2
expression_at-requires-2 c = valid_fits _ c.requires.buildable.circuit _ c.requires.right

pub find_or_make-requires : goal.find_or_make-requires
find_or_make-requires c = fold_makable _ _ _ _ c.args.o _ _ c.requires c.in-Some.x c.in-Some-right.y _ _ c.apply.ensures c.constant.ensures

pub returns-in-Some-right : goal.returns-in-Some-right
returns-in-Some-right c = step_of_lem (fold_two _ _ _ _ c.args.o _ _ c.requires c.in-Some.x c.in-Some-right.y _ _ c.apply.ensures c.constant.ensures (constant_read _ _ _ _ c.expression_at.ensures c.constant_of-left.ensures c.in-Some.is) (constant_read _ _ _ _ c.expression_at-2.ensures c.constant_of-right.ensures c.in-Some-right.is)) c.find_or_make.ensures

pub returns-in-None-right : goal.returns-in-None-right
returns-in-None-right c = step_of_lem (fold_right _ _ _ _ _ (constant_read _ _ _ _ c.expression_at.ensures c.constant_of-left.ensures c.in-Some.is) (constant_read _ _ _ _ c.expression_at-2.ensures c.constant_of-right.ensures c.in-None-right.is)) c.either_order.ensures

pub returns-in-None : goal.returns-in-None
returns-in-None c = step_of_lem (fold_left _ _ _ _ (constant_read _ _ _ _ c.expression_at.ensures c.constant_of-left.ensures c.in-None.is)) c.either_order-in-None.ensures
