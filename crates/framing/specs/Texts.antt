-- How the examples write frames, and what they look at afterwards. Assumes nothing.
use Rattle.std.specs.Prelude.{ℕ, ◌*◌, List, [], ◌∷◌, take, drop}
use Prim.Native.Char.{code}
use Prim.Native.String.{String, [] as end, ◌∷◌ as next}
use Rattle.layout.specs.Words.{used, offset}
use Rattle.reading.specs.Calls.{degree_call}
use Rattle.reading.specs.Examples.{integer, words}
use Rattle.framing.specs.States.{State, roots_of, fresh}
use Rattle.framing.specs.Frames.{line_answer, lines, frames}
use Rattle.framing.specs.Computing.{frame_computes}

-- the bytes of a text
unfoldable pub bytes : String → List ℕ
bytes end = []
bytes (next c s) = code c ∷ bytes s

-- what the program answers to a text
unfoldable pub program : String → List ℕ
program text = frames (bytes text)

-- the state after these lines
unfoldable pub after : State → List (List ℕ) → State
after s [] = s
after s (l ∷ ls) = after (line_answer s l).state ls

unfoldable pub circuit_after : String → List ℕ
circuit_after text = (after fresh (lines (bytes text))).circuit

unfoldable pub roots_after : String → List ℕ
roots_after text = roots_of (after fresh (lines (bytes text))).roots

-- the used count, and the words of n nodes from node i on, after this input
unfoldable pub nodes : ℕ → ℕ → String → List ℕ
nodes i n text = let m = circuit_after text in used m ∷ take (6 * n) (drop (offset i) m)

-- the refusal's number, and the degree of node i after this input
unfoldable pub degree_after : ℕ → String → List ℕ
degree_after i text = let o = degree_call (circuit_after text) i in o.number ∷ integer o.values

unfoldable pub texts_compute : Unit {0}
unfolding frame_computes bytes program after circuit_after roots_after nodes integer degree_after words
texts_compute = tt
