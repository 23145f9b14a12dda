use Rattle.framing.specs.Digits.{bytes_of}
use Rattle.desk.specs.Words.{words_at}
use Rattle.desk_line.specs.Reading.{Stored}
use Rattle.desk_line.proofs.words.read_words.Given as goal

abbrev pub invariant-loop-k : goal.invariant-loop-k
invariant-loop-k l = Stored l.initial.table l.at l.k (words_at l.k l.after (bytes_of l.line)) l.table
