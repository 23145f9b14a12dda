-- Degrees under the cap: what is not told apart does not matter to a sum or a product. Assumes nothing.
use Rattle.std.specs.Prelude.{if◌then◌else◌, None}
use Prim.Native.Nat.{ℕ, zero, suc, ◌+◌, ◌-◌, ◌<◌, ◌≤◌, min}
use mathlib.Core.Path.{◌≡◌, refl, sym, ap, ◌∙◌}
use mathlib.Core.Logic.{◌≢◌}
use mathlib.Core.Bool.{Bool, true, false}
use mathlib.Core.List.{List}
use native.Mathlib.Omega.{arith}
use lib.IntN.{pos}
use lib.Dec.{eqb}
use Rattle.layout.specs.declared.node.Op.{Op}
use Rattle.layout.specs.declared.node.Op.TheVariants.{Add, Multiply}
use Rattle.layout.specs.NotCircuit.{not_circuit}
use Rattle.layout.specs.Words.{used, expression_at}
use Rattle.layout.specs.Tree.{Leaf, base_leaf, extension_leaf, challenge_leaf, input_leaf, Tree, branch}
use Rattle.reading.specs.Readings.{leaf_degree⁺, product_degree⁺, degree⁺, signed}
use Rattle.read.specs.Tables.{unknown, operands_of, Filled, Right, itself}
use Rattle.read.specs.Degrees.{top, degree_to, degree_entry, degree_over, degree_join}
use Rattle.read.proofs.Tables.{Folds, Joined, answer_two, answer_leaf, leaves_right}

pub product_left : (a b : ℕ) → a ≡ 0 → product_degree⁺ a b ≡ 0
product_left a b e = rw e

pub product_right : (a b : ℕ) → b ≡ 0 → product_degree⁺ a b ≡ 0
product_right zero b e = refl
product_right (suc a) b e = rw e

pub product_both : (a b : ℕ) → a ≢ 0 → b ≢ 0 → product_degree⁺ a b ≡ a - 1 + b
product_both zero b p q = absurd (p refl)
product_both (suc a) zero p q = absurd (q refl)
product_both (suc a) (suc b) p q = omega arith

-- a sum in which neither side counts for more than what is told apart
capped_sum : (a b : ℕ) → 1 ≤ a → 1 ≤ b → min top (a - 1 + b) ≡ min top (min top a - 1 + min top b)
capped_sum a b p q = omega arith

pub capped_product : (a b : ℕ) → a ≢ 0 → b ≢ 0 → min top (min top a - 1 + min top b) ≡ min top (product_degree⁺ a b)
capped_product a b p q = sym (capped_sum a b (omega arith) (omega arith)) ∙ ap (min top) (sym (product_both a b p q))

capped_zero : (a : ℕ) → a ≢ 0 → min top a ≢ 0
capped_zero a p = omega arith

degree_branch : (i : ℕ) (o : Op) (l r : Tree) → degree⁺ (branch i o l r) ≡ degree_over o (degree⁺ l) (degree⁺ r)
unfolding degree⁺
degree_branch i Add l r = refl
degree_branch i Multiply l r = refl

-- document 01's degree, as far as it is told apart
pub degree_folds : Folds (λ t. min top (degree⁺ t)) leaf_degree⁺ degree_join
unfolding degree⁺
degree_folds = record { at_leaf = λ i a. small (leaf_degree⁺ a) (own a); at_branch = λ i o l r. ap (min top) (degree_branch i o l r) ∙ over o (degree⁺ l) (degree⁺ r) }
  where
    small : (d : ℕ) → d ≤ 2 → min top d ≡ d
    small d h = omega arith

    zero_or_one : (b : Bool) → (if b then 0 else 1) ≤ 2
    zero_or_one true = omega arith
    zero_or_one false = omega arith

    own : (a : Leaf) → leaf_degree⁺ a ≤ 2
    own (base_leaf w) = zero_or_one (eqb w 0)
    own (extension_leaf x) = omega arith
    own (challenge_leaf k) = omega arith
    own (input_leaf q) = omega arith

    product : (a b : ℕ) → min top (product_degree⁺ a b) ≡ min top (product_degree⁺ (min top a) (min top b))
    product zero b = refl
    product (suc a) zero = rw (product_right (min top (suc a)) 0 refl)
    product (suc a) (suc b) =
        let p = capped_zero (suc a) (omega arith) in
        let q = capped_zero (suc b) (omega arith) in
        sym (capped_product (suc a) (suc b) (omega arith) (omega arith)) ∙ ap (min top) (sym (product_both (min top (suc a)) (min top (suc b)) p q))

    over : (o : Op) (a b : ℕ) → degree_join o a b ≡ degree_join o (min top a) (min top b)
    over Add a b = omega arith
    over Multiply a b = product a b

module _ (m : List ℕ) (valid : not_circuit m ≡ false) where
  pub degree_two : Joined m degree_join (degree_to m)
  unfolding degree_to
  degree_two i h o l r e = answer_two (λ t. min top (degree⁺ t)) leaf_degree⁺ degree_join degree_folds m valid i h o l r e

  pub degree_leaf : (i : ℕ) → i < used m → operands_of (expression_at m i) ≡ None → degree_entry (expression_at m i) ≡ degree_to m i
  unfolding degree_to degree_entry
  degree_leaf i h s = answer_leaf (λ t. min top (degree⁺ t)) leaf_degree⁺ degree_join degree_folds m valid i h unknown s

  pub degree_leaves : (entry : ℕ → ℕ) → Filled (used m) entry (λ j. degree_entry (expression_at m j)) → Right itself m entry (degree_to m)
  unfolding degree_to degree_entry
  degree_leaves entry q = leaves_right itself (λ t. min top (degree⁺ t)) leaf_degree⁺ degree_join degree_folds m valid unknown refl entry q

-- a degree that isn't -1
pub signed_some : (d : ℕ) → d ≢ 0 → pos (d - 1) ≡ signed d
signed_some zero h = absurd (h refl)
signed_some (suc d) h = ap pos (omega arith)
