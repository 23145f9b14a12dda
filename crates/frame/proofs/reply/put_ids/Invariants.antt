use lib.ListN.{take}
use Rattle.frame.specs.Puts.{Put}
use Rattle.frame.proofs.Writing.{ids_text}
use Rattle.frame.proofs.reply.put_ids.Given as goal

abbrev pub invariant-loop-i : goal.invariant-loop-i
invariant-loop-i l = Put l.initial.answer l.at (ids_text (take l.i-index l.listed)) l.answer l.next
