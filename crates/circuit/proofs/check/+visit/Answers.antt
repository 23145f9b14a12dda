use native.Mathlib.Omega.{arith}
use mathlib.Core.Path.{refl, sym, ap, ◌∙◌}
use Rattle.circuit.specs.Walk.{step_of}
use Rattle.circuit.proofs.Visits.{visit_room, none_below, visit_known, visit_fails, out_of_levels, finish_small, finish_visit, stay_ready, visit_left, visit_right, goes_left, goes_right, two_small, finish_two}
use Rattle.circuit.proofs.check.+visit.Goals as goal

pub bounds-m-1 : goal.bounds-m-1
bounds-m-1 t c = let r = visit_room _ _ _ _ c.requires in omega arith

pub offset_bounds-rank-node : goal.offset_bounds-rank-node
offset_bounds-rank-node t c = let r = visit_room _ _ _ _ c.requires in omega arith

pub bounds-rank-node : goal.bounds-rank-node
bounds-rank-node t c = let r = visit_room _ _ _ _ c.requires in omega arith

pub returns-then-rank-node : goal.returns-then-rank-node
returns-then-rank-node t c = visit_known _ _ _ _ _ c.requires c.if-rank-node.true

pub returns-then-levels-eq0 : goal.returns-then-levels-eq0
returns-then-levels-eq0 t c = visit_fails _ _ _ _ _ (out_of_levels _ _ _ c.if-levels-eq0.true)

pub expression_at-requires : goal.expression_at-requires
expression_at-requires t c = (visit_room _ _ _ _ c.requires).fits

pub overflow_add-result : goal.overflow_add-result
overflow_add-result t c = let f = finish_small _ _ _ _ c.requires c.if-rank-node.false in omega arith

pub visit-requires : goal.visit-requires
visit-requires t c = (omega arith, visit_left _ _ _ _ c.requires _ _ (ap step_of (sym c.expression_at.ensures) ∙ sym c.step_of-s.ensures ∙ c.in-Some.is))

pub returns-in_err-left-in-Some : goal.returns-in_err-left-in-Some
returns-in_err-left-in-Some t c = rw c.from_residual.ensures (visit_fails _ _ _ _ _ (goes_left _ _ _ _ c.requires _ _ (ap step_of (sym c.expression_at.ensures) ∙ sym c.step_of-s.ensures ∙ c.in-Some.is) _ c.if-levels-eq0.false (c.visit.ensures.goes_on c.in_err-left-in-Some.was)))

pub visit-requires-in-Some : goal.visit-requires-in-Some
visit-requires-in-Some t c = (omega arith, visit_right _ _ _ _ c.requires _ _ (ap step_of (sym c.expression_at.ensures) ∙ sym c.step_of-s.ensures ∙ c.in-Some.is) _ _ c.visit.auto.rank (c.visit.ensures.further _ c.in_ok-left-in-Some.was))

pub returns-in_err-both-in-Some : goal.returns-in_err-both-in-Some
returns-in_err-both-in-Some t c = rw c.from_residual-in_err-both-in-Some.ensures (visit_fails _ _ _ _ _ (goes_right _ _ _ _ c.requires _ _ (ap step_of (sym c.expression_at.ensures) ∙ sym c.step_of-s.ensures ∙ c.in-Some.is) _ c.if-levels-eq0.false (c.visit-in-Some.ensures.goes_on c.in_err-both-in-Some.was)))

pub overflow_add-result-in-Some : goal.overflow_add-result-in-Some
overflow_add-result-in-Some t c = let f = two_small _ _ _ _ c.requires _ _ (ap step_of (sym c.expression_at.ensures) ∙ sym c.step_of-s.ensures ∙ c.in-Some.is) _ _ c.visit.auto.rank (c.visit.ensures.further _ c.in_ok-left-in-Some.was) _ _ c.visit-in-Some.auto.rank (c.visit-in-Some.ensures.further _ c.in_ok-both-in-Some.was) c.if-rank-node.false in omega arith

pub returns-in-None : goal.returns-in-None
returns-in-None t c = finish_visit _ _ _ _ c.requires c.if-rank-node.false _ _ (λ j h. refl) (none_below _ c.args.rank.now _) (stay_ready _ c.args.rank.now _ (ap step_of (sym c.expression_at.ensures) ∙ sym c.step_of-s.ensures ∙ c.in-None.is))

pub returns-in_ok-both-in-Some : goal.returns-in_ok-both-in-Some
returns-in_ok-both-in-Some t c = finish_two _ _ _ _ c.requires _ _ (ap step_of (sym c.expression_at.ensures) ∙ sym c.step_of-s.ensures ∙ c.in-Some.is) _ _ c.visit.auto.rank (c.visit.ensures.further _ c.in_ok-left-in-Some.was) _ _ c.visit-in-Some.auto.rank (c.visit-in-Some.ensures.further _ c.in_ok-both-in-Some.was) _ c.if-rank-node.false
