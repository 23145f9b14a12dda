-- Base tests as bits. Assumes nothing.
use Prim.Native.Nat.{ℕ, min}
use mathlib.Core.Path.{◌≡◌, refl}
use mathlib.Core.Bool.{Bool, true, false, ◌&&◌}
use mathlib.Core.List.{List}
use lib.Dec.{eqb}
use Rattle.layout.specs.Lists.{bit}
use Rattle.layout.specs.Words.{used}
use Rattle.layout.specs.Tree.{tree}
use Rattle.layout.specs.NotCircuit.{not_circuit}
use Rattle.reading.specs.Readings.{leaf_is_base, is_base}
use Rattle.read.specs.Tables.{unknown, Filled, Right, itself}
use Rattle.read.specs.Bases.{base_bit, base_entry, base_start, base_join}
use Rattle.read.proofs.Tables.{Folds, Joined, answer_two, leaves_right}

both_bits : (a b : Bool) → bit (a && b) ≡ min (bit a) (bit b)
both_bits true true = refl
both_bits true false = refl
both_bits false true = refl
both_bits false false = refl

base_folds : Folds (λ t. bit (is_base t)) (λ a. bit (leaf_is_base a)) base_join
unfolding is_base
base_folds = record { at_leaf = λ i a. refl; at_branch = λ i o l r. both_bits (is_base l) (is_base r) }

module _ (m : List ℕ) (valid : not_circuit m ≡ false) where
  pub base_two : Joined m base_join (base_bit m)
  unfolding base_bit
  base_two i h o l r e = answer_two (λ t. bit (is_base t)) (λ a. bit (leaf_is_base a)) base_join base_folds m valid i h o l r e

  pub base_leaves : (entry : ℕ → ℕ) → Filled (used m) entry (base_start m) → Right itself m entry (base_bit m)
  unfolding base_bit base_entry
  base_leaves entry q = leaves_right itself (λ t. bit (is_base t)) (λ a. bit (leaf_is_base a)) base_join base_folds m valid unknown refl entry q

-- the test back from its bit
pub bit_test : (m : List ℕ) (i r : ℕ) → r ≡ base_bit m i → eqb r 1 ≡ is_base (tree m i)
unfolding base_bit
bit_test m i r e = rw e (go (is_base (tree m i)))
  where
    go : (b : Bool) → eqb (bit b) 1 ≡ b
    go true = refl
    go false = refl
