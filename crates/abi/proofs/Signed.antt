-- A degree as a word: what the machine reads back from a number's bits is the number. Assumes nothing.
use mathlib.Core.Path.{◌≡◌, refl, sym, subst, ap, ◌∙◌}
use mathlib.Core.Bool.{true, false}
use native.Mathlib.Nat.{lt_of_le_of_lt}
use native.Mathlib.Omega.{arith}
use borrow.Author.Tests.{ltb-true}
use lib.IntN.{ℤ, pos, negsuc, nat_abs}
use lib.Dec.{T, lit<}
use lib.Signed.{lt_z, non_neg, nat_abs-le}
use mir.Syntax.{w64}
use mir.Val.{Fits, SFits, to_z, of_z}
use mir.ValLaws.{to_z-of_z}
use Rattle.abi.specs.Answers.{signed_word}

negative : (z : ℤ) → lt_z z (pos 0) ≡ true → 18446744073709551615 ≡ signed_word z
negative (pos n) h = let l = ltb-true n 0 h in omega (arith, l)
negative (negsuc n) h = refl

natural : (z : ℤ) → lt_z z (pos 0) ≡ false → T (non_neg z) × (nat_abs z ≡ signed_word z)
natural (pos n) h = (tt, refl)
natural (negsuc n) h = absurd (subst T h tt)

module _ (d : ℤ) (fits : SFits w64 d) where
  pub below-zero : lt_z (to_z w64 (of_z w64 d)) (pos 0) ≡ true → 18446744073709551615 ≡ signed_word d
  below-zero h = negative d (ap (λ (z : ℤ). lt_z z (pos 0)) (sym (to_z-of_z w64 d fits)) ∙ h)

  pub cast_fits : lt_z (to_z w64 (of_z w64 d)) (pos 0) ≡ false → T (non_neg (to_z w64 (of_z w64 d))) × Fits w64 (nat_abs (to_z w64 (of_z w64 d)))
  cast_fits h = ((natural (to_z w64 (of_z w64 d)) h).0, subst (λ (z : ℤ). Fits w64 (nat_abs z)) (sym (to_z-of_z w64 d fits)) (record { fits = lt_of_le_of_lt (nat_abs-le d fits.sfits) (lit< tt) }))

  pub from_zero : lt_z (to_z w64 (of_z w64 d)) (pos 0) ≡ false → nat_abs (to_z w64 (of_z w64 d)) ≡ signed_word d
  from_zero h = (natural (to_z w64 (of_z w64 d)) h).1 ∙ ap signed_word (to_z-of_z w64 d fits)
