-- Document 01's frame program as a program on lines. Assumes nothing.
use Rattle.std.specs.Prelude.{ℕ, ◌+◌, ◌*◌, List, [], length}
use Rattle.framing.specs.States.{State, fresh}
use Rattle.framing.specs.Frames.{line_answer, answer_line}
use Rattle.stream.specs.Stream.{Program, Stream, stream}

-- a frame has at most 50 characters
abbrev pub frames_program : Program State
frames_program = record { most = 51; next = λ s l. (line_answer s l).state; says = λ s l. answer_line (line_answer s l) }

-- before the first byte
unfoldable pub start : Stream State
start = stream fresh []

-- how many places an answer may take
abbrev pub room : List ℕ → List ℕ → ℕ
room main aux = 11 + 4 * (length main + length aux)
