-- Laws of feeding the program `fill`. Assumes nothing.
use Prim.Native.Nat.{ℕ, ◌+◌, ◌≤◌}
use mathlib.Core.Path.{◌≡◌, refl, sym, ap, ◌∙◌}
use mathlib.Core.List.{List, [], ◌∷◌, ◌++◌}
use native.Mathlib.Omega.{arith}
use lib.ListN.{length}
use lib.Seq.{sets}
use Rattle.framing.specs.Frames.{lines}
use Rattle.kept.specs.Keeps.{Keeps}
use Rattle.stream.specs.Stream.{stream, answered, whole}
use Rattle.stream.proofs.Streaming.{lines_answered}
use Rattle.stream.proofs.Feeding.{Lengths}
use Rattle.desk.specs.Desks.{Desk, fresh_desk}
use Rattle.desk.specs.Lines.{line_told}
use Rattle.desk.specs.Program.{told_line, Desked, desked, desk_call, lines_told, fill}
use Rattle.desk_line.specs.Feeds.{fill_program, Deskable}
use Rattle.desk_line.proofs.Longest.{enough, few_told}

lines_said : (d : Desk) (ls : List (List ℕ)) → answered fill_program d ls ≡ lines_told d ls
unfolding answered lines_told
lines_said d [] = refl
lines_said d (l ∷ ls) = ap (λ (t : List ℕ). told_line (line_told d l) ++ t) (lines_said (line_told d l).desk ls)

-- fed from the start, the whole input is answered as the definition says
pub fill_fed : (input : List ℕ) → whole fill_program (stream fresh_desk []) input ≡ fill input
unfolding fill
fill_fed input = lines_answered fill_program enough fresh_desk input ∙ lines_said fresh_desk (lines input)

-- what a call says of a line
module _ (d d' : Desk) (line part ys : List ℕ) (n : ℕ) (call : desked n d' ys ≡ desk_call d line part) where
  pub desk_is : d' ≡ fill_program.next d line
  unfolding desk_call
  desk_is = ap (λ (f : Desked). f.desk) call

  pub written_is : n ≡ length (fill_program.says d line)
  unfolding desk_call
  written_is = ap (λ (f : Desked). f.written) call

  pub places_are : ys ≡ sets part 0 (fill_program.says d line)
  unfolding desk_call
  places_are = ap (λ (f : Desked). f.answer) call

  pub few_written : length d'.state.main + length d'.state.aux ≤ 1024 → n ≤ 65539
  few_written h =
      let e : length (line_told d line).desk.state.main + length (line_told d line).desk.state.aux ≡ length d'.state.main + length d'.state.aux =
      ap (λ (q : Desk). length q.state.main + length q.state.aux) (sym desk_is) in
      omega (arith, written_is, few_told d line (omega (arith, e, h)))

-- what is lent keeps its length
pub record DeskLengths (m₀ roots₀ main₀ aux₀ numbers₀ table₀ least₀ challenges₀ row_main₀ row_aux₀ line₀ out₀ m roots main aux numbers table least challenges row_main row_aux line out : List ℕ) : Type 0 where
  pub frames : Lengths m₀ roots₀ main₀ aux₀ numbers₀ table₀ least₀ line₀ out₀ m roots main aux numbers table least line out
  pub challenges_kept : length challenges ≡ length challenges₀
  pub row_main_kept : length row_main ≡ length row_main₀
  pub row_aux_kept : length row_aux ≡ length row_aux₀

-- and so what is kept stays
pub deskable_after : {m₀ numbers₀ table₀ least₀ main₀ aux₀ challenges₀ row_main₀ row_aux₀ : List ℕ} {given₀ : ℕ} → Deskable m₀ numbers₀ table₀ least₀ main₀ aux₀ challenges₀ given₀ row_main₀ row_aux₀
    → {m numbers table least main aux challenges row_main row_aux : List ℕ} {given : ℕ} → Keeps m numbers table least → given ≤ 3072
    → length main ≡ length main₀ → length aux ≡ length aux₀ → length challenges ≡ length challenges₀ → length row_main ≡ length row_main₀ → length row_aux ≡ length row_aux₀
    → Deskable m numbers table least main aux challenges given row_main row_aux
deskable_after d keeps few a b c x y =
    record {
      keeps = keeps;
      desking = record { room = omega (arith, c, d.desking.room); few = few; places = record { mains = omega (arith, x, d.desking.places.mains); auxs = omega (arith, y, d.desking.places.auxs) } };
      lists = omega (arith, a, b, d.lists);
    }
