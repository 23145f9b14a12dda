use native.Mathlib.Omega.{arith}
use Rattle.frame.proofs.Writing.{put_then, reply_most}
use Rattle.frame.proofs.reply.write.Goals as goal

pub put-requires : goal.put-requires
put-requires c = omega (arith, reply_most _ _ _ c.put_reply-at.ensures, c.well_formed)

pub returns : goal.returns
returns c = put_then c.put_reply-at.ensures c.put.ensures
