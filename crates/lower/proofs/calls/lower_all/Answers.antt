use mathlib.Core.Path.{refl, ◌∙◌}
use Rattle.lower.proofs.Turns.{turning_start, turning_ready, turning_next, turning_end}
use Rattle.lower.proofs.calls.lower_all.Goals as goal

pub loop-next-init : goal.loop-next-init
loop-next-init c = (turning_start _ _ _ _ c.requires, (refl, (refl, (refl, refl))))

pub one_more-requires : goal.one_more-requires
one_more-requires c = turning_ready _ _ _ _ c.requires _ _ c.loop-next.invariant.0

pub loop-next-smaller : goal.loop-next-smaller
loop-next-smaller c = (turning_next _ _ _ _ c.requires _ _ c.loop-next.invariant.0 _ _ (rw c.in-Some.is at c.one_more.ensures)).1

pub loop-next-preserved : goal.loop-next-preserved
loop-next-preserved c = let k = c.loop-next.invariant.1 in
    ((turning_next _ _ _ _ c.requires _ _ c.loop-next.invariant.0 _ _ (rw c.in-Some.is at c.one_more.ensures)).0, (c.one_more.auto.m ∙ k.0, (c.one_more.auto.roots ∙ k.1.0, (c.one_more.auto.main ∙ k.1.1.0, c.one_more.auto.aux ∙ k.1.1.1))))

pub returns : goal.returns
returns c = turning_end _ _ _ _ c.requires _ _ c.loop-next.invariant.0 _ (rw c.in_default.is at c.one_more.ensures)
