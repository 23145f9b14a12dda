use Rattle.frame.proofs.Writing.{put_out}
use Rattle.frame.proofs.reply.put.Goals as goal

pub returns-then-answer-at : goal.returns-then-answer-at
returns-then-answer-at c = put_out _ _ _ c.if-answer-at.true
