use mathlib.Core.Path.{sym, ◌∙◌}
use native.Mathlib.Omega.{arith}
use Rattle.lower.proofs.Selects.{listing_start, listing_yes, listing_no}
use Rattle.lower.proofs.choose.high_nodes.Goals as goal
use Rattle.lower.proofs.choose.high_nodes.Goals.{then-is_high, else-is_high}

pub loop-i-init : goal.loop-i-init
loop-i-init c = listing_start _ _ _ _

pub loop-i-preserved : goal.loop-i-preserved
loop-i-preserved c = elim c.if-is_high.branch [ then-is_high w ↦ listing_yes _ _ _ _ _ _ c.loop-i.invariant _ _ (omega (arith, c.requires, c.loop-i.auto.high, c.loop-i-test.true)) (sym c.is_high.ensures ∙ w.if-is_high.true) w.high-is w.many-is | else-is_high w ↦ listing_no _ _ _ _ _ _ c.loop-i.invariant _ _ (sym c.is_high.ensures ∙ w.if-is_high.false) w.high-is w.many-is ]
