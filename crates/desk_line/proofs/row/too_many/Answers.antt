use Rattle.desk_line.proofs.Widths.{many_old, many_new}
use Rattle.desk_line.proofs.row.too_many.Goals as goal

pub returns-then-old-gt-MOST : goal.returns-then-old-gt-MOST
returns-then-old-gt-MOST c = many_old _ _ c.if-old-gt-MOST.true

pub returns : goal.returns
returns c = many_new _ _ c.if-old-gt-MOST.false
