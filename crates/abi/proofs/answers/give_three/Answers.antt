use Rattle.abi.proofs.Passing.{put_three}
use mathlib.Core.Path.{refl}
use Rattle.abi.proofs.answers.give_three.Goals as goal

pub returns : goal.returns
returns c = (refl, put_three c.args.out.now c.args.u c.args.v c.args.w _ _ _ c.put.ensures c.put-2.ensures c.put-3.ensures)
