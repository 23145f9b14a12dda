use Rattle.desk_line.proofs.Lines.{frame_answered}
use Rattle.desk_line.proofs.calls.frame_line.Goals as goal

pub returns : goal.returns
returns c = (frame_answered _ c.args.latest _ _ _ c.read-request.result c.respond-reply.result _ c.latest_after-after.result _ _ _ _ c.read-request.ensures c.respond-reply.ensures.0 c.latest_after-after.ensures c.write-written.ensures, c.respond-reply.ensures.1)
