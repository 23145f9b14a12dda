use Rattle.fillable.proofs.Ready.{unless_some, unless_more, expression_below, base_fails, base_passes}
use Rattle.layout.specs.Tree.{tree}
use Rattle.reading.specs.Readings.{is_base}
use Rattle.filling.specs.Constraints.{reads_unfilled}
use Rattle.paths.proofs.Counts.{valid_top}
use mathlib.Core.Bool.{not}
use mathlib.Core.Path.{sym, ◌∙◌}
use native.Mathlib.Omega.{arith}
use Rattle.fillable.proofs.lowered.ready_main.Goals as goal

pub returns-in_err-e : goal.returns-in_err-e
returns-in_err-e c = rw c.from_residual.ensures (unless_more (reads_unfilled c.args.a c.args.b c.args.m.now) (λ e. not (is_base (tree c.args.m.now e))) _ (sym c.in_err-e.was ∙ c.ready.ensures))

pub offset_bounds-bases-node : goal.offset_bounds-bases-node
offset_bounds-bases-node c = let (v, w, h) = c.requires in
    let t = valid_top _ v.valid in
    let b = expression_below v 0 0 _ _ h _ (unless_some _ _ _ (sym c.in_ok-e.was ∙ c.ready.ensures)).0 in
    omega arith

pub bounds-bases-node : goal.bounds-bases-node
bounds-bases-node c = let (v, w, h) = c.requires in
    let r = w.room in
    let b = expression_below v 0 0 _ _ h _ (unless_some _ _ _ (sym c.in_ok-e.was ∙ c.ready.ensures)).0 in
    omega arith

pub returns-then-bases-node-ne1 : goal.returns-then-bases-node-ne1
returns-then-bases-node-ne1 c = let (v, w, h) = c.requires in
    let i = unless_some _ _ _ (sym c.in_ok-e.was ∙ c.ready.ensures) in
    base_fails v _ _ _ _ h _ i.0 w c.if-bases-node-ne1.true

pub returns : goal.returns
returns c = let (v, w, h) = c.requires in
    let i = unless_some _ _ _ (sym c.in_ok-e.was ∙ c.ready.ensures) in
    base_passes v _ _ _ _ h _ i.0 w i.1 c.if-bases-node-ne1.false
