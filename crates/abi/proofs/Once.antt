-- An exported call's contract can be met in one way only: it determines the number, every word of `out`, and all else that was lent to be changed.
-- Assumes nothing.
use Prim.Native.Nat.{ℕ}
use mathlib.Core.Path.{◌≡◌, sym, ◌∙◌}
use mathlib.Core.List.{List}
use Rattle.layout.specs.Outcomes.{Outcome}
use Rattle.abi.specs.Answers.{Answered, Done}

pub answered_once : {A L : Type 0} (words : A → List ℕ) (o : Outcome A L) (before : List ℕ) (r s : ℕ) (x y : List ℕ) (k l : L) → Answered words o r before x k → Answered words o s before y l
    → (r ≡ s) × ((x ≡ y) × (k ≡ l))
answered_once words o before r s x y k l a b = (a.number ∙ sym b.number, (a.out ∙ sym b.out, a.kept ∙ sym b.kept))

pub done_once : {L : Type 0} (o : Outcome (Unit {0}) L) (r s : ℕ) (k l : L) → Done o r k → Done o s l → (r ≡ s) × (k ≡ l)
done_once o r s k l a b = (a.number ∙ sym b.number, a.kept ∙ sym b.kept)
