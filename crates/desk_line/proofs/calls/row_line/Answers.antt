use native.Mathlib.Omega.{arith}
use Rattle.framing.specs.States.{lent}
use Rattle.desk.specs.Desks.{desk}
use Rattle.desk_line.proofs.Fills.{row_behind}
use Rattle.desk_line.proofs.Lines.{row_line_answered}
use Rattle.desk_line.proofs.calls.row_line.Goals as goal

pub put-requires : goal.put-requires
put-requires c = omega (arith, row_behind _ _ (c.put_answer-next.ensures c.args.m.now))

pub returns : goal.returns
returns c = λ roots. row_line_answered (desk (lent c.args.m.now roots c.args.main.now c.args.aux.now) c.args.latest c.args.challenges.now) _ _ _ _ _ _ (c.put_answer-next.ensures roots) c.put.ensures
