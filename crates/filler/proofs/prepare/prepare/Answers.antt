use native.Mathlib.Omega.{arith}
use Rattle.paths.proofs.Counts.{valid_top}
use Rattle.filler.proofs.Targeting.{passed_targeted}
use Rattle.filler.proofs.Prepares.{prepared}
use Rattle.filler.proofs.prepare.prepare.Goals as goal

pub order_targets-done-requires : goal.order_targets-done-requires
order_targets-done-requires c = let f = c.requires.passed.found.few in let i = c.requires.passed.is_items in let t = c.requires.targets_room in record { targeted = passed_targeted _ _ _ _ _ _ c.requires.passed; items_few = omega arith; targets_room = omega arith; order_room = omega arith; rank_room = omega arith }

pub make_plan-many-requires : goal.make_plan-many-requires
make_plan-many-requires c = let f = c.requires.passed.found.few in let i = c.requires.passed.is_items in let t = c.requires.targets_room in let b = c.requires.bases_room in let p = c.requires.plan_room in let u = valid_top _ c.requires.passed.valid in (record { valid = c.requires.passed.valid; small = c.requires.passed.small; bases_room = omega arith; base_bits = c.requires.base_bits; targets_room = omega arith; order_room = omega arith; staged = c.order_targets-done.ensures }, (omega arith, omega arith))

pub resolve-requires : goal.resolve-requires
resolve-requires c = let f = c.requires.passed.found.few in let i = c.requires.passed.is_items in let t = c.requires.targets_room in let u = valid_top _ c.requires.passed.valid in (omega arith, λ k l. let e = c.order_targets-done.ensures.target_below k l in omega arith)

pub returns : goal.returns
returns c = prepared _ _ _ _ _ _ _ _ c.requires _ _ _ _ _ _ c.order_targets-done.ensures c.make_plan-many.ensures _ c.resolve.ensures c.make_plan-many.auto.plan
