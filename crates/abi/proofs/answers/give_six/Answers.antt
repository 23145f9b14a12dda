use Rattle.abi.proofs.Passing.{put_six}
use mathlib.Core.Path.{refl}
use Rattle.abi.proofs.answers.give_six.Goals as goal

pub returns : goal.returns
returns c = (refl, put_six c.args.out.now c.args.w.kind c.args.w.first c.args.w.second c.args.w.third c.args.mark c.args.references _ _ _ _ _ _ c.put.ensures c.put-2.ensures c.put-3.ensures c.put-4.ensures c.put-5.ensures c.put-6.ensures)
