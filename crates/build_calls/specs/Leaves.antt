-- Leaves: their words are all that equality by structure looks at. Assumes nothing.
use Rattle.std.specs.Prelude.{ℕ, ◌≡◌, Bool, true, false, ◌&&◌, List}
use Rattle.layout.specs.declared.node.Expression.{Expression}
use Rattle.layout.specs.declared.node.Expression.TheVariants.{Base, Extension, Challenge, Operation, Input}
use Rattle.layout.specs.Lists.{same_words}
use Rattle.layout.specs.Words.{expression_at, registered, encode}
use Rattle.layout.specs.NotCircuit.{not_circuit}

-- no operation
abbrev pub is_leaf : Expression → Bool
is_leaf (Base w) = true
is_leaf (Extension x) = true
is_leaf (Challenge k) = true
is_leaf (Operation o l r) = false
is_leaf (Input q) = true

-- node i is registered and has these words
abbrev pub has_words : List ℕ → List ℕ → ℕ → Bool
has_words m ws i = registered m i && same_words (encode (expression_at m i)) ws

-- a circuit, and a leaf to be found in it
pub record Leafy (m : List ℕ) (e : Expression) : Type 0 where
  pub circuit : not_circuit m ≡ false
  pub leaf : is_leaf e ≡ true
