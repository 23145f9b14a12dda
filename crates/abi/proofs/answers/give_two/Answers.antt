use Rattle.abi.proofs.Passing.{put_two}
use mathlib.Core.Path.{refl}
use Rattle.abi.proofs.answers.give_two.Goals as goal

pub returns : goal.returns
returns c = (refl, put_two c.args.out.now c.args.v c.args.w _ _ c.put.ensures c.put-2.ensures)
