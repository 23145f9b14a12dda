-- A line that opens neither 0b nor 0c is answered as document 01's frame program answers it, and leaves its state. Assumes nothing.
use Rattle.std.specs.Prelude.{if◌then◌else◌}
use Prim.Native.Nat.{ℕ}
use mathlib.Core.Path.{◌≡◌, refl, ap, ◌∙◌}
use mathlib.Core.Bool.{Bool, true, false}
use mathlib.Core.List.{List, [], ◌∷◌, ◌++◌}
use lib.Dec.{eqb}
use Rattle.layout.specs.Words.{row_kind}
use Rattle.framing.specs.Frames.{line_answer, answer_line, lines, answers, frames}
use Rattle.desk.specs.Desks.{Desk, fresh_desk}
use Rattle.desk.specs.Lines.{Told, frame_told, opens, line_told}
use Rattle.desk.specs.Program.{told_line, lines_told, fill}

-- neither 0b nor 0c
pub record Plain (line : List ℕ) : Type 0 where
  pub challenges : opens 48 98 line ≡ false
  pub row : opens 48 99 line ≡ false

pub plain_told : (d : Desk) (line : List ℕ) → Plain line → line_told d line ≡ frame_told d line
unfolding line_told
plain_told d line p = rw (p.challenges, p.row) (go (eqb (row_kind d.state.circuit) 0))
  where
    go : (b : Bool) → (if b then frame_told d line else frame_told d line) ≡ frame_told d line
    go true = refl
    go false = refl

frame_line_lem : (d : Desk) (line : List ℕ) → told_line (frame_told d line) ≡ answer_line (line_answer d.state line)
unfolding told_line frame_told answer_line line_answer
frame_line_lem d line = refl

frame_state : (d : Desk) (line : List ℕ) → (frame_told d line).desk.state ≡ (line_answer d.state line).state
unfolding frame_told line_answer
frame_state d line = refl

-- all of these lines
abbrev pub AllPlain : List (List ℕ) → Type 0
AllPlain [] = Unit {0}
AllPlain (l ∷ ls) = Plain l × AllPlain ls

pub plain_lines : (ls : List (List ℕ)) (d : Desk) → AllPlain ls → lines_told d ls ≡ answers d.state ls
unfolding lines_told answers
plain_lines [] d p = refl
plain_lines (l ∷ ls) d p =
    let e : line_told d l ≡ frame_told d l = plain_told d l p.0 in
    ap (λ (t : Told). told_line t ++ lines_told t.desk ls) e
    ∙ ap (λ (t : List ℕ). t ++ lines_told (frame_told d l).desk ls) (frame_line_lem d l)
    ∙ ap (λ (t : List ℕ). answer_line (line_answer d.state l) ++ t) (plain_lines ls (frame_told d l).desk p.1 ∙ ap (λ (s : _). answers s ls) (frame_state d l))

-- so an input of document 01's frames is answered as document 01 says
pub frames_alike : (input : List ℕ) → AllPlain (lines input) → fill input ≡ frames input
unfolding fill frames
frames_alike input p = plain_lines (lines input) fresh_desk p
