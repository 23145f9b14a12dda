use Rattle.fillable.proofs.BothLists.{lowerable_ordered, lowerable_based, lowerable_reached, main_listable, main_refuses, aux_listable, both_tested}
use native.Mathlib.Omega.{arith}
use Rattle.fillable.proofs.lowered.not_lowered.Goals as goal

pub reaches-requires : goal.reaches-requires
reaches-requires c = lowerable_ordered c.requires _ (omega arith)

pub reaches-requires-2 : goal.reaches-requires-2
reaches-requires-2 c = lowerable_ordered c.requires _ (omega arith)

pub mains_wrong-requires : goal.mains_wrong-requires
mains_wrong-requires c = let v = c.requires in (main_listable v (lowerable_reached v _ _ (omega (arith, c.reaches.auto.table)) (omega (arith, c.reaches-2.auto.table)) c.reaches.ensures c.reaches-2.ensures), lowerable_based v)

pub returns-then-mains_wrong : goal.returns-then-mains_wrong
returns-then-mains_wrong c = main_refuses c.requires _ c.mains_wrong.ensures c.if-mains_wrong.true

pub auxs_wrong-requires : goal.auxs_wrong-requires
auxs_wrong-requires c = let v = c.requires in
    aux_listable v _ c.mains_wrong.ensures c.if-mains_wrong.false (lowerable_reached v _ _ (omega (arith, c.reaches.auto.table)) (omega (arith, c.reaches-2.auto.table)) c.reaches.ensures c.reaches-2.ensures) c.mains_wrong.auto.targets

pub returns : goal.returns
returns c = both_tested c.requires _ c.mains_wrong.ensures c.if-mains_wrong.false _ _ c.auxs_wrong.ensures
