use native.Mathlib.Omega.{arith}
use Rattle.desk_line.proofs.Texts.{four_behind, eight_put}
use Rattle.desk_line.proofs.words.put_eight.Goals as goal

pub put_four-requires : goal.put_four-requires
put_four-requires c = omega (arith, four_behind _ c.put_four-next.ensures)

pub returns : goal.returns
returns c = eight_put _ c.put_four-next.ensures c.put_four.ensures
