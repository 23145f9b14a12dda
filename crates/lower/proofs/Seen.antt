-- A test by other numbers. Assumes nothing.
use Prim.Native.Nat.{ℕ, ◌<◌}
use mathlib.Core.Path.{◌≡◌}
use lib.Dec.{ltb}
use borrow.Author.Tests.{lt-ltb, ltb-true}
use Rattle.layout.proofs.Lists.{same_test}

-- two tests of an order that follow from each other are one
pub ltb_same : (a b c d : ℕ) → (a < b → c < d) → (c < d → a < b) → ltb a b ≡ ltb c d
ltb_same a b c d f g = same_test (ltb a b) (ltb c d) (λ h. lt-ltb c d (f (ltb-true a b h))) (λ h. lt-ltb a b (g (ltb-true c d h)))
