-- The value of an expression depends on the columns that it uses alone; that of a base expression on main columns alone. Assumes nothing.
use Prim.Native.Nat.{ℕ, ◌<◌}
use mathlib.Core.Path.{◌≡◌, refl, ap, ap₂}
use mathlib.Core.Logic.{inl, inr}
use mathlib.Core.Bool.{true, false}
use mathlib.Core.List.{List, ◌∷◌}
use native.Mathlib.Omega.{arith}
use Rattle.arithmetic.specs.Extension.{lift}
use Rattle.layout.specs.declared.node.Position.TheVariants.{Main, Aux, NextMain, NextAux}
use Rattle.layout.specs.declared.node.Expression.TheVariants.{Input}
use Rattle.layout.specs.Lists.{In}
use Rattle.layout.specs.Words.{used, expression_at, apply}
use Rattle.layout.specs.Tree.{base_leaf, extension_leaf, challenge_leaf, input_leaf, Tree, leaf, branch, tree}
use Rattle.layout.specs.NotCircuit.{not_circuit}
use Rattle.layout.proofs.Lists.{and-true}
use Rattle.walking.specs.Paths.{walk}
use Rattle.reading.specs.Readings.{Assignment, value, is_base}
use Rattle.lowering.proofs.ListLaws.{in_left, in_right}
use Rattle.lowering.proofs.Words.{look, says, Tru, tree_true, valid_sound}
use Rattle.grown.specs.Order.{Uses}

-- two assignments that agree on main columns below a, auxiliary ones below b, the next row and the challenges
pub record Agree (a b : ℕ) (s t : Assignment) : Type 0 where
  pub main : (c : ℕ) → c < a → s.main c ≡ t.main c
  pub aux : (c : ℕ) → c < b → s.aux c ≡ t.aux c
  pub next_main : (c : ℕ) → s.next_main c ≡ t.next_main c
  pub next_aux : (c : ℕ) → s.next_aux c ≡ t.next_aux c
  pub challenges : (k : ℕ) → s.challenges k ≡ t.challenges k

module _ (m : List ℕ) (s t : Assignment) where
  module _ (a b : ℕ) (agree : Agree a b s t) where
    value_along : (x : Tree) (e : ℕ) → Tru (look m) x e → ((i c : ℕ) → In i (walk x) → expression_at m i ≡ Input (Main c) → c < a) → ((i c : ℕ) → In i (walk x) → expression_at m i ≡ Input (Aux c) → c < b) → value s x ≡ value t x
    unfolding value walk
    value_along (leaf j (base_leaf w)) e (f, p) g h = refl
    value_along (leaf j (extension_leaf w)) e (f, p) g h = refl
    value_along (leaf j (challenge_leaf k)) e (f, p) g h = agree.challenges k
    value_along (leaf j (input_leaf (Main c))) e (f, p) g h = ap lift (agree.main c (g j c (inl refl) (rw f (says m e (Input (Main c)) p))))
    value_along (leaf j (input_leaf (Aux c))) e (f, p) g h = agree.aux c (h j c (inl refl) (rw f (says m e (Input (Aux c)) p)))
    value_along (leaf j (input_leaf (NextMain c))) e (f, p) g h = ap lift (agree.next_main c)
    value_along (leaf j (input_leaf (NextAux c))) e (f, p) g h = agree.next_aux c
    value_along (branch j o x y) e (f, l, r, p, v, w) g h =
        ap₂ (apply o) (value_along x l v (λ i c k. g i c (in_left i (walk x) (j ∷ walk y) k)) (λ i c k. h i c (in_left i (walk x) (j ∷ walk y) k)))
        (value_along y r w (λ i c k. g i c (in_right i (walk x) (j ∷ walk y) (inr k))) (λ i c k. h i c (in_right i (walk x) (j ∷ walk y) (inr k))))

    pub uses_value : (e : ℕ) → not_circuit m ≡ false → e < used m → {c d : ℕ} → Uses m e a b c d → value s (tree m e) ≡ value t (tree m e)
    uses_value e valid l u = value_along (tree m e) e (tree_true m (valid_sound m valid) e l) u.main u.aux

  -- neither auxiliary cells nor challenges where the base test says yes
  base_along : (a : ℕ) → ((c : ℕ) → c < a → s.main c ≡ t.main c) → ((c : ℕ) → s.next_main c ≡ t.next_main c) → (x : Tree) (e : ℕ) → Tru (look m) x e → is_base x ≡ true → ((i c : ℕ) → In i (walk x) → expression_at m i ≡ Input (Main c) → c < a) → value s x ≡ value t x
  unfolding value walk is_base
  base_along a f f' (leaf j (base_leaf w)) e (d, p) h g = refl
  base_along a f f' (leaf j (extension_leaf w)) e (d, p) h g = absurd (let z : ◌≡◌ {A = ℕ} 0 1 = cc in omega arith)
  base_along a f f' (leaf j (challenge_leaf k)) e (d, p) h g = absurd (let z : ◌≡◌ {A = ℕ} 0 1 = cc in omega arith)
  base_along a f f' (leaf j (input_leaf (Main c))) e (d, p) h g = ap lift (f c (g j c (inl refl) (rw d (says m e (Input (Main c)) p))))
  base_along a f f' (leaf j (input_leaf (Aux c))) e (d, p) h g = absurd (let z : ◌≡◌ {A = ℕ} 0 1 = cc in omega arith)
  base_along a f f' (leaf j (input_leaf (NextMain c))) e (d, p) h g = ap lift (f' c)
  base_along a f f' (leaf j (input_leaf (NextAux c))) e (d, p) h g = absurd (let z : ◌≡◌ {A = ℕ} 0 1 = cc in omega arith)
  base_along a f f' (branch j o x y) e (d, l, r, p, v, w) h g =
      let (hx, hy) = and-true (is_base x) (is_base y) h in
      ap₂ (apply o) (base_along a f f' x l v hx (λ i c k. g i c (in_left i (walk x) (j ∷ walk y) k))) (base_along a f f' y r w hy (λ i c k. g i c (in_right i (walk x) (j ∷ walk y) (inr k))))

  pub base_uses_value : (a b : ℕ) → ((c : ℕ) → c < a → s.main c ≡ t.main c) → ((c : ℕ) → s.next_main c ≡ t.next_main c) → (e : ℕ) → not_circuit m ≡ false → e < used m → {c d : ℕ} → Uses m e a b c d → is_base (tree m e) ≡ true → value s (tree m e) ≡ value t (tree m e)
  base_uses_value a b f f' e valid l u h = base_along a f f' (tree m e) e (tree_true m (valid_sound m valid) e l) h u.main
