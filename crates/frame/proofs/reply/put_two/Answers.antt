use native.Mathlib.Omega.{arith}
use Rattle.frame.proofs.Writing.{put_then}
use Rattle.framing.specs.Digits.{hexadecimal, two}
use Rattle.frame.proofs.reply.put_two.Goals as goal

pub put_byte-requires : goal.put_byte-requires
unfolding hexadecimal
put_byte-requires c = omega arith

pub returns : goal.returns
unfolding hexadecimal two
returns c = put_then c.put_byte-next.ensures c.put_byte.ensures
