use native.Mathlib.Omega.{arith}
use Rattle.frame.proofs.Writing.{two_behind}
use Rattle.desk_line.proofs.Texts.{four_put}
use Rattle.desk_line.proofs.words.put_four.Goals as goal

pub put_two-requires : goal.put_two-requires
put_two-requires c = omega (arith, two_behind _ c.put_two-next.ensures)

pub returns : goal.returns
returns c = four_put _ c.put_two-next.ensures c.put_two.ensures
