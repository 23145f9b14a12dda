-- The fold of five coefficients in the code is the definition's. Assumes nothing.
use Rattle.std.proofs.Common.{◌≡◌, ℕ, ◌<◌, List, get_or, ap, ◌∙◌, arith}
use Rattle.arithmetic.specs.Base.{p, add, multiply, subtract}
use Rattle.arithmetic.specs.Extension.{triple, coefficients, folded}
use Rattle.field.specs.Words.{Difference}
use Rattle.arithmetic.specs.declared.Triple.{Triple}
use Rattle.field.proofs.Words.{differs}

-- five remainders
pub record Below (d : List ℕ) : Type 0 where
  pub at0 : get_or d 0 0 < p
  pub at1 : get_or d 1 0 < p
  pub at2 : get_or d 2 0 < p
  pub at3 : get_or d 3 0 < p
  pub at4 : get_or d 4 0 < p

coefficients_below : (x y : Triple) → Below (coefficients x y)
unfolding coefficients add multiply
coefficients_below x y = record { at0 = omega arith; at1 = omega arith; at2 = omega arith; at3 = omega arith; at4 = omega arith }

pub below : (d : List ℕ) (x y : Triple) → d ≡ coefficients x y → Below d
below d x y e = rw e (coefficients_below x y)

pub folds : {d : List ℕ} {a b s c : ℕ} → Below d → Difference (get_or d 0 0) (get_or d 3 0) a → s ≡ add (get_or d 1 0) (get_or d 3 0) → Difference s (get_or d 4 0) b → c ≡ add (get_or d 2 0) (get_or d 4 0) → triple a b c ≡ folded d
unfolding folded add
folds {d} {a} {b} {s} {c} h e f g k =
    let s' : s < p = omega arith in
    λ i. triple (differs _ _ _ h.at0 h.at3 e i) ((differs _ _ _ s' h.at4 g ∙ ap (λ (n : ℕ). subtract n (get_or d 4 0)) f) i) (k i)
