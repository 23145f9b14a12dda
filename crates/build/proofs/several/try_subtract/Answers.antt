use Rattle.build.proofs.Stepping.{told_at, told_full}
use Rattle.build.proofs.Runs.{subtract_operable, subtract_then, subtract_stops}
use Rattle.build.proofs.several.try_subtract.Goals as goal

pub operate-requires : goal.operate-requires
operate-requires c = subtract_operable _ _ _ _ _ _ _ _ (told_at c.try_negate.ensures _ c.in_ok-minus.was) c.requires.left

pub returns : goal.returns
returns c = subtract_then _ _ _ _ _ _ _ _ (told_at c.try_negate.ensures _ c.in_ok-minus.was) _ _ _ _ _ c.operate.ensures

pub returns-in_err-minus : goal.returns-in_err-minus
returns-in_err-minus c = rw c.from_residual.ensures (subtract_stops _ _ _ _ _ _ _ (told_full c.try_negate.ensures c.in_err-minus.was))
