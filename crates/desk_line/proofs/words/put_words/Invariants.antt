use lib.ListN.{take}
use Rattle.frame.specs.Puts.{Put}
use Rattle.desk_line.proofs.Texts.{words_text}
use Rattle.desk_line.proofs.words.put_words.Given as goal

abbrev pub invariant-loop-w : goal.invariant-loop-w
invariant-loop-w l = Put l.initial.answer l.at (words_text (take l.w-index l.words)) l.answer l.next
