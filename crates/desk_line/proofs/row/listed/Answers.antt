use native.Mathlib.Omega.{arith}
use Rattle.desk_line.proofs.Widths.{whole_list}
use Rattle.desk_line.proofs.row.listed.Goals as goal

pub returns : goal.returns
returns c = (omega arith, whole_list _ _ c.if-n-list.false)
