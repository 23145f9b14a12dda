use Rattle.layout.proofs.Valid.{valid_room}
use Rattle.build.proofs.Stepping.{told_at, told_full}
use Rattle.build.proofs.Runs.{minus_makable, negate_operable, negate_then, negate_stops}
use Rattle.build.proofs.several.try_negate.Goals as goal

pub find_or_make-requires : goal.find_or_make-requires
find_or_make-requires c = minus_makable _ _ _ _ c.requires.buildable

pub operate-requires : goal.operate-requires
operate-requires c = negate_operable _ _ _ _ _ _ _ (told_at c.find_or_make.ensures _ c.in_ok-minus.was) c.requires.left

pub returns : goal.returns
returns c = negate_then _ _ _ _ _ _ _ (told_at c.find_or_make.ensures _ c.in_ok-minus.was) _ _ _ _ _ c.operate.ensures

pub returns-in_err-minus : goal.returns-in_err-minus
returns-in_err-minus c = rw c.from_residual.ensures (negate_stops _ _ _ _ _ _ (valid_room _ c.requires.buildable.circuit) (told_full c.find_or_make.ensures c.in_err-minus.was))
