use Rattle.frame.proofs.Writing.{put_then}
use Rattle.framing.specs.Digits.{hexadecimal}
use Rattle.frame.proofs.reply.put_byte.Goals as goal

pub returns : goal.returns
unfolding hexadecimal
returns c = rw (c.character-2.ensures, c.character.ensures) at (put_then c.put-next.ensures c.put.ensures)
