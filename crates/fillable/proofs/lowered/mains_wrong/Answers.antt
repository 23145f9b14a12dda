use Rattle.fillable.proofs.Listings.{main_test, mains_itemwise, main_own, going_room, going_next, going_wrong, going_done}
use Rattle.paths.proofs.Walks.{roots_below}
use Rattle.layout.specs.declared.node.Position.TheVariants.{Main}
use mathlib.Core.Path.{sym, ◌∙◌}
use native.Mathlib.Omega.{arith}
use Rattle.fillable.proofs.lowered.mains_wrong.Goals as goal

pub ready_main-requires : goal.ready_main-requires
ready_main-requires c = let (v, w) = c.requires in (v.reached, w, roots_below _ _ v.ids _ c.loop-k-test.true)

pub returns-in_default : goal.returns-in_default
returns-in_default c = going_wrong (main_test _ _) Main main_own _ 0 _ _ _ _ _ c.requires.0 _ _ c.loop-k.invariant (mains_itemwise _ _) c.loop-k-test.true (sym c.in_default.is ∙ c.ready_main.ensures)

pub bounds-targets-k : goal.bounds-targets-k
bounds-targets-k c = let r = going_room (main_test _ _) Main main_own _ 0 _ _ _ _ _ c.requires.0 _ _ c.loop-k.invariant c.loop-k-test.true _ (sym c.in-Some.is ∙ c.ready_main.ensures) in
    omega arith

pub loop-k-preserved : goal.loop-k-preserved
loop-k-preserved c = going_next (main_test _ _) Main main_own _ 0 _ _ _ _ _ c.requires.0 _ _ c.loop-k.invariant c.loop-k-test.true _ (sym c.in-Some.is ∙ c.ready_main.ensures) _ (omega arith)

pub returns : goal.returns
returns c = going_done (main_test _ _) Main main_own _ 0 _ _ _ _ _ c.requires.0 _ _ c.loop-k.invariant (mains_itemwise _ _) c.loop-k.auto.k-end c.loop-k-test.false
