use Rattle.frame.proofs.Responding.{framed_by}
use Rattle.frame.proofs.calls.frame.Goals as goal

pub returns : goal.returns
returns c = framed_by _ _ _ _ _ _ _ _ _ _ _ c.read.ensures c.respond-reply.ensures c.write.ensures
