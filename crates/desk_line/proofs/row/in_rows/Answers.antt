use Rattle.desk_line.proofs.Widths.{two_of, one_of}
use Rattle.desk_line.proofs.row.in_rows.Goals as goal

pub returns-then-rows-eq2 : goal.returns-then-rows-eq2
returns-then-rows-eq2 c = two_of _ _ c.if-rows-eq2.true

pub returns : goal.returns
returns c = one_of _ _ c.requires.0 c.if-rows-eq2.false
