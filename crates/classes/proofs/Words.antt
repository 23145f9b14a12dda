-- Lists of words that are the same, read as a test. Assumes nothing.
use Prim.Native.Nat.{ℕ}
use mathlib.Core.Path.{◌≡◌, refl, ap₂}
use mathlib.Core.Bool.{true, false}
use mathlib.Core.List.{List, [], ◌∷◌}
use lib.Dec.{eqb}
use borrow.Author.Tests.{eq-eqb, eqb-true}
use Rattle.layout.specs.Lists.{same_words}
use Rattle.layout.proofs.Lists.{clash, and-true, and_both}

pub words_refl : (xs : List ℕ) → same_words xs xs ≡ true
unfolding same_words
words_refl [] = refl
words_refl (x ∷ xs) = and_both (eqb x x) (same_words xs xs) (eq-eqb x x refl) (words_refl xs)

pub words_equal : (xs ys : List ℕ) → same_words xs ys ≡ true → xs ≡ ys
unfolding same_words
words_equal [] [] h = refl
words_equal [] (y ∷ ys) h = clash false h refl
words_equal (x ∷ xs) [] h = clash false h refl
words_equal (x ∷ xs) (y ∷ ys) h = let (a, b) = and-true (eqb x y) (same_words xs ys) h in ap₂ ◌∷◌ (eqb-true x y a) (words_equal xs ys b)
