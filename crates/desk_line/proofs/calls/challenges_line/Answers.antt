use native.Mathlib.Omega.{arith}
use lib.ListN.{take}
use Rattle.frame.proofs.Writing.{byte_behind}
use Rattle.desk.specs.Desks.{desk}
use Rattle.desk_line.proofs.Lines.{challenges_answered}
use Rattle.desk_line.proofs.calls.challenges_line.Goals as goal

pub put-written-requires : goal.put-written-requires
put-written-requires c = omega (arith, byte_behind _ c.put_byte-next.ensures)

pub returns : goal.returns
returns c = (λ s l. challenges_answered (desk s l (take c.args.given c.args.challenges.now)) (desk s l (take c.give-g.result.words c.give-g.new.challenges)) _ _ _ _ _ _ _ (c.give-g.ensures.0 s l) (rw c.number.ensures at c.put_byte-next.ensures) c.put-written.ensures, c.give-g.ensures.1)
