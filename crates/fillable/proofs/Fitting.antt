-- What may not fit a word, said by what does: three times a number of rows, and a count with new columns. Assumes nothing.
use Prim.Native.Nat.{ℕ, ◌+◌, ◌-◌, ◌*◌, ◌/◌, ◌%◌, ◌≤◌}
use mathlib.Core.Path.{◌≡◌, sym, ap, ◌∙◌}
use mathlib.Core.Logic.{⊎_elim}
use native.Mathlib.Nat.{div-add-mod, div-div-eq-div-mul}
use native.Mathlib.Omega.{arith}
use lib.Dec.{ltb}
use borrow.Author.Tests.{lt-ltb, le-ltb}
use Rattle.layout.proofs.Tests.{below_or}

-- the remainder of a division by three times r, by three first
pub thirds_rest : (x r : ℕ) → x % (3 * r) ≡ 3 * (x / 3 % r) + x % 3
thirds_rest x r =
    let whole : (3 * r) * (x / 3 / r) + x % (3 * r) ≡ x = ap (λ (q : ℕ). (3 * r) * q + x % (3 * r)) (div-div-eq-div-mul x 3 r) ∙ div-add-mod x (3 * r) in
    let first : 3 * (x / 3) + x % 3 ≡ x = div-add-mod x 3 in
    let then : r * (x / 3 / r) + x / 3 % r ≡ x / 3 = div-add-mod (x / 3) r in
    omega arith

-- what is left of a width has no room for n
pub left_narrow : (width count n : ℕ) → count ≤ width → ltb (width - count) n ≡ ltb width (count + n)
left_narrow width count n h =
    ⊎_elim
    (λ l. lt-ltb (width - count) n l ∙ sym (lt-ltb width (count + n) (omega arith)))
    (λ l. le-ltb (width - count) n l ∙ sym (le-ltb width (count + n) (omega arith)))
    (below_or (width - count) n)
