use mathlib.Core.Path.{refl, sym, ◌∙◌}
use Rattle.fillable.proofs.Listings.{aux_test, auxs_itemwise, aux_own, going_room, going_next, going_wrong, going_done}
use Rattle.paths.proofs.Walks.{roots_below}
use Rattle.layout.specs.declared.node.Position.TheVariants.{Aux}
use Rattle.fillable.proofs.lowered.auxs_wrong.Goals as goal

pub ready-requires : goal.ready-requires
ready-requires c = let v = c.requires in (v.reached, roots_below _ _ v.ids _ c.loop-k-test.true)

pub returns-in_default : goal.returns-in_default
returns-in_default c = going_wrong (aux_test _ _) Aux aux_own _ _ _ _ _ _ _ c.requires _ _ c.loop-k.invariant (auxs_itemwise _ _) c.loop-k-test.true (sym c.in_default.is ∙ c.ready.ensures)

pub bounds-targets-first : goal.bounds-targets-first
bounds-targets-first c = going_room (aux_test _ _) Aux aux_own _ _ _ _ _ _ _ c.requires _ _ c.loop-k.invariant c.loop-k-test.true _ (sym c.in-Some.is ∙ c.ready.ensures)

pub loop-k-preserved : goal.loop-k-preserved
loop-k-preserved c = going_next (aux_test _ _) Aux aux_own _ _ _ _ _ _ _ c.requires _ _ c.loop-k.invariant c.loop-k-test.true _ (sym c.in-Some.is ∙ c.ready.ensures) _ refl

pub returns : goal.returns
returns c = going_done (aux_test _ _) Aux aux_own _ _ _ _ _ _ _ c.requires _ _ c.loop-k.invariant (auxs_itemwise _ _) c.loop-k.auto.k-end c.loop-k-test.false
