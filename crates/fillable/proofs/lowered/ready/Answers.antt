use Rattle.fillable.proofs.Ready.{expression_below, reads_main, reads_aux, reads_ready}
use Rattle.fillable.specs.Targets.{unless}
use Rattle.filling.specs.Constraints.{reads_unfilled}
use Rattle.paths.proofs.Counts.{valid_top}
use mathlib.Core.Path.{sym, ap, ◌∙◌}
use native.Mathlib.Omega.{arith}
use Rattle.fillable.proofs.lowered.ready.Goals as goal

pub returns-in_err-e : goal.returns-in_err-e
unfolding unless
returns-in_err-e c = rw c.from_residual.ensures (ap (unless (reads_unfilled c.args.a c.args.b c.args.m.now)) (sym c.in_err-e.was ∙ c.expression_of.ensures))

pub offset_bounds-main_reach-node : goal.offset_bounds-main_reach-node
offset_bounds-main_reach-node c = let v = c.requires.0 in
    let t = valid_top _ v.valid in
    let b = expression_below v 0 0 _ _ c.requires.1 _ (sym c.expression_of.ensures ∙ c.in_ok-e.was) in
    omega arith

pub bounds-main_reach-node : goal.bounds-main_reach-node
bounds-main_reach-node c = let v = c.requires.0 in
    let r = v.main_room in
    let b = expression_below v 0 0 _ _ c.requires.1 _ (sym c.expression_of.ensures ∙ c.in_ok-e.was) in
    omega arith

pub returns-then-a-main_reach : goal.returns-then-a-main_reach
returns-then-a-main_reach c = reads_main c.requires.0 _ _ _ _ c.requires.1 _ (sym c.expression_of.ensures ∙ c.in_ok-e.was) c.if-a-main_reach.true

pub offset_bounds-aux_reach-node : goal.offset_bounds-aux_reach-node
offset_bounds-aux_reach-node c = let v = c.requires.0 in
    let t = valid_top _ v.valid in
    let b = expression_below v 0 0 _ _ c.requires.1 _ (sym c.expression_of.ensures ∙ c.in_ok-e.was) in
    omega arith

pub bounds-aux_reach-node : goal.bounds-aux_reach-node
bounds-aux_reach-node c = let v = c.requires.0 in
    let r = v.aux_room in
    let b = expression_below v 0 0 _ _ c.requires.1 _ (sym c.expression_of.ensures ∙ c.in_ok-e.was) in
    omega arith

pub returns-then-b-aux_reach : goal.returns-then-b-aux_reach
returns-then-b-aux_reach c = reads_aux c.requires.0 _ _ _ _ c.requires.1 _ (sym c.expression_of.ensures ∙ c.in_ok-e.was) c.if-b-aux_reach.true

pub returns : goal.returns
returns c = reads_ready c.requires.0 _ _ _ _ c.requires.1 _ (sym c.expression_of.ensures ∙ c.in_ok-e.was) c.if-a-main_reach.false c.if-b-aux_reach.false
