-- The frame program on its input is document 01's. Assumes nothing.
use Prim.Native.Nat.{ℕ, ◌≤◌}
use mathlib.Core.Path.{◌≡◌, refl, sym, ap, ◌∙◌}
use mathlib.Core.List.{List, [], ◌∷◌, ◌++◌}
use native.Mathlib.Omega.{arith}
use lib.ListN.{length, length-append}
use lib.Seq.{sets}
use Rattle.framing.specs.Digits.{hexadecimal}
use Rattle.framing.specs.Requests.{request_of}
use Rattle.framing.specs.States.{State, fresh}
use Rattle.framing.specs.Answers.{replied, reply_bytes}
use Rattle.framing.specs.Frames.{Answered, Framed, line_answer, answer_line, framed, frame_call, lines, answers, frames}
use Rattle.frame.proofs.Writing.{length_hexadecimal, reply_short}
use Rattle.stream.specs.Stream.{answered, whole}
use Rattle.stream.specs.Frames.{frames_program, start, room}
use Rattle.stream.proofs.Streaming.{Enough, lines_answered}
use Rattle.stream.proofs.Long.{first_51}

enough : Enough frames_program
enough = record { some = omega arith; nexts = λ s l. ap (λ (a : Answered). a.state) (first_51 s l); same = λ s l. ap answer_line (first_51 s l) }

lines_said : (s : State) (ls : List (List ℕ)) → answered frames_program s ls ≡ answers s ls
unfolding answered answers
lines_said s [] = refl
lines_said s (l ∷ ls) = ap (λ (t : List ℕ). answer_line (line_answer s l) ++ t) (lines_said (line_answer s l).state ls)

-- fed from the start, the whole input is answered as document 01's frame program answers it
pub frames_fed : (input : List ℕ) → whole frames_program start input ≡ frames input
unfolding start frames
frames_fed input = lines_answered frames_program enough fresh input ∙ lines_said fresh (lines input)

-- an answer's line is no longer than the lists allow
answer_short : (s : State) (line : List ℕ) → length (answer_line (line_answer s line)) ≤ room (line_answer s line).state.main (line_answer s line).state.aux
unfolding line_answer answer_line
answer_short s line =
    let r = replied s (request_of line) in
    let bs = reply_bytes r.reply r.state.main r.state.aux in
    omega (arith, length-append (hexadecimal bs) (10 ∷ []), length_hexadecimal bs, reply_short r.reply r.state.main r.state.aux)

-- what a call says of a line
module _ (s s' : State) (line part ys : List ℕ) (n : ℕ) (call : framed n s' ys ≡ frame_call s line part) where
  pub state-is : s' ≡ frames_program.next s line
  unfolding frame_call
  state-is = ap (λ (f : Framed). f.state) call

  pub written_is : n ≡ length (frames_program.says s line)
  unfolding frame_call
  written_is = ap (λ (f : Framed). f.written) call

  pub places_are : ys ≡ sets part 0 (frames_program.says s line)
  unfolding frame_call
  places_are = ap (λ (f : Framed). f.answer) call

  pub few_written : length s'.main ≡ length s.main → length s'.aux ≡ length s.aux → n ≤ room s.main s.aux
  few_written mains auxs =
      let a : length (line_answer s line).state.main ≡ length s.main = ap (λ (q : State). length q.main) (sym state-is) ∙ mains in
      let b : length (line_answer s line).state.aux ≡ length s.aux = ap (λ (q : State). length q.aux) (sym state-is) ∙ auxs in
      omega (arith, written_is, a, b, answer_short s line)
