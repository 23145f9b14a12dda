use Rattle.desk_line.proofs.Widths.{wide_main, wide_aux}
use Rattle.desk_line.proofs.row.too_wide.Goals as goal

pub returns-then-too_many : goal.returns-then-too_many
returns-then-too_many c = wide_main _ _ c.too_many.ensures c.if-too_many.true

pub returns : goal.returns
returns c = wide_aux _ _ c.too_many.ensures c.if-too_many.false _ c.too_many-2.ensures
