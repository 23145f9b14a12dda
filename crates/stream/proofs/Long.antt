-- A line longer than any frame asks for nothing, so that its first 51 characters say all of it. Assumes nothing.
use Rattle.std.specs.Prelude.{if◌then◌else◌}
use Prim.Native.Nat.{ℕ, ◌*◌, ◌≤◌, ◌<◌}
use mathlib.Core.Path.{◌≡◌, refl, sym, ap, ◌∙◌}
use mathlib.Core.Bool.{Bool, true, false, ◌&&◌}
use mathlib.Core.List.{List}
use native.Mathlib.Decide.{dec_lt}
use native.Mathlib.Omega.{arith}
use lib.ListN.{length, take}
use lib.Seq.{take_all, length-take-le}
use lib.Dec.{eqb}
use borrow.Author.Tests.{ne_eqb}
use Rattle.layout.specs.declared.node.Op.TheVariants.{Add, Multiply}
use Rattle.layout.specs.Lists.{all}
use Rattle.framing.specs.declared.Request.{Request}
use Rattle.framing.specs.declared.Request.TheVariants.{Start, Input, Challenge, Base, Extension, Operation, Subtract, Negate, Root, Lower, Nothing}
use Rattle.framing.specs.Digits.{is_digit, bytes_of, number_at}
use Rattle.framing.specs.Requests.{form, triple_at, form_by, form_of, request_of}
use Rattle.framing.specs.States.{State}
use Rattle.framing.specs.Frames.{line_answer}

-- no frame has more than 25 bytes
lengths : (b0 b1 b2 b3 b4 b5 b6 b7 b8 b9 b10 : Bool) (q0 q1 q2 q3 q4 q5 q6 q7 q8 q9 q10 : Request) → (if b0 then form 2 q0 else if b1 then form 4 q1 else if b2 then form 3 q2 else if b3 then form 9 q3 else if b4 then form 25 q4 else if b5 then form 5 q5 else if b6 then form 5 q6 else if b7 then form 5 q7 else if b8 then form 3 q8 else if b9 then form 3 q9 else if b10 then form 7 q10 else form 0 Nothing).0 ≤ 25
lengths true b1 b2 b3 b4 b5 b6 b7 b8 b9 b10 q0 q1 q2 q3 q4 q5 q6 q7 q8 q9 q10 = omega arith
lengths false true b2 b3 b4 b5 b6 b7 b8 b9 b10 q0 q1 q2 q3 q4 q5 q6 q7 q8 q9 q10 = omega arith
lengths false false true b3 b4 b5 b6 b7 b8 b9 b10 q0 q1 q2 q3 q4 q5 q6 q7 q8 q9 q10 = omega arith
lengths false false false true b4 b5 b6 b7 b8 b9 b10 q0 q1 q2 q3 q4 q5 q6 q7 q8 q9 q10 = omega arith
lengths false false false false true b5 b6 b7 b8 b9 b10 q0 q1 q2 q3 q4 q5 q6 q7 q8 q9 q10 = omega arith
lengths false false false false false true b6 b7 b8 b9 b10 q0 q1 q2 q3 q4 q5 q6 q7 q8 q9 q10 = omega arith
lengths false false false false false false true b7 b8 b9 b10 q0 q1 q2 q3 q4 q5 q6 q7 q8 q9 q10 = omega arith
lengths false false false false false false false true b8 b9 b10 q0 q1 q2 q3 q4 q5 q6 q7 q8 q9 q10 = omega arith
lengths false false false false false false false false true b9 b10 q0 q1 q2 q3 q4 q5 q6 q7 q8 q9 q10 = omega arith
lengths false false false false false false false false false true b10 q0 q1 q2 q3 q4 q5 q6 q7 q8 q9 q10 = omega arith
lengths false false false false false false false false false false true q0 q1 q2 q3 q4 q5 q6 q7 q8 q9 q10 = omega arith
lengths false false false false false false false false false false false q0 q1 q2 q3 q4 q5 q6 q7 q8 q9 q10 = omega arith

form_small : (o : ℕ) (bs : List ℕ) → (form_by o bs).0 ≤ 25
unfolding form_by
form_small o bs =
    lengths (eqb o 0) (eqb o 1) (eqb o 2) (eqb o 3) (eqb o 4) (eqb o 5) (eqb o 6) (eqb o 7) (eqb o 8) (eqb o 9) (eqb o 10)
    (Start (number_at 1 1 bs)) (Input (number_at 1 1 bs) (number_at 2 2 bs)) (Challenge (number_at 2 1 bs)) (Base (number_at 8 1 bs)) (Extension (triple_at bs)) (Operation Add (number_at 2 1 bs) (number_at 2 3 bs)) (Operation Multiply (number_at 2 1 bs) (number_at 2 3 bs)) (Subtract (number_at 2 1 bs) (number_at 2 3 bs)) (Negate (number_at 2 1 bs)) (Root (number_at 2 1 bs)) (Lower (number_at 2 1 bs) (number_at 2 3 bs) (number_at 2 5 bs))

pub long_line : (line : List ℕ) → 50 < length line → request_of line ≡ Nothing
unfolding request_of form_of
long_line line h = rw (ne_eqb (length line) (2 * (form_of (bytes_of line)).0) (λ e. let k = form_small (number_at 1 0 (bytes_of line)) (bytes_of line) in omega arith)) (go (all is_digit line))
  where
    go : (b : Bool) → (if b && false then (form_of (bytes_of line)).1 else Nothing) ≡ Nothing
    go true = refl
    go false = refl

pub first_51 : (s : State) (line : List ℕ) → line_answer s (take 51 line) ≡ line_answer s line
unfolding line_answer
first_51 s line = go (dec_lt 50 (length line))
  where
    go : Dec (50 < length line) → line_answer s (take 51 line) ≡ line_answer s line
    go (no h) = ap (line_answer s) (take_all 51 line (omega arith))
    go (yes h) = rw (long_line (take 51 line) (omega (arith, length-take-le 51 line (omega arith))) ∙ sym (long_line line h))
