-- The program `fill`: a line in and a line out, and from standard input to standard output, as lists of bytes. Assumes nothing.
use Rattle.std.specs.Prelude.{ℕ, List, [], ◌∷◌, ◌++◌, length}
use Rattle.std.proofs.lemmas.List.Edits.{sets}
use Rattle.framing.specs.Digits.{hexadecimal}
use Rattle.framing.specs.Frames.{lines}
use Rattle.desk.specs.Desks.{Desk, fresh_desk}
use Rattle.desk.specs.Lines.{Told, line_told}

-- the answer as a line of digits
unfoldable pub told_line : Told → List ℕ
told_line t = hexadecimal t.bytes ++ (10 ∷ [])

-- one line in, one line out: its length, what is kept, and the places lent for the answer, as many of it as there are
pub record Desked : Type 0 where
  pub written : ℕ
  pub desk : Desk
  pub answer : List ℕ

abbrev pub desked : ℕ → Desk → List ℕ → Desked
desked written desk answer = record { written = written; desk = desk; answer = answer }

abbrev pub desked_by : Told → List ℕ → Desked
desked_by t answer = desked (length (told_line t)) t.desk (sets answer 0 (told_line t))

unfoldable pub desk_call : Desk → List ℕ → List ℕ → Desked
desk_call d line answer = let t = line_told d line in desked_by t answer

-- each line gets one
unfoldable pub lines_told : Desk → List (List ℕ) → List ℕ
lines_told d [] = []
lines_told d (l ∷ ls) = let t = line_told d l in told_line t ++ lines_told t.desk ls

-- the whole program, from input bytes to output bytes
unfoldable pub fill : List ℕ → List ℕ
fill bytes = lines_told fresh_desk (lines bytes)
