-- A node's value hangs on the cells that the circuit reads alone. Assumes nothing.
use Rattle.std.specs.Prelude.{Some}
use Prim.Native.Nat.{ℕ, ◌<◌}
use mathlib.Core.Path.{◌≡◌, refl, sym, ap₂, ◌∙◌}
use mathlib.Core.List.{List}
use Rattle.layout.specs.declared.node.Position.{Position}
use Rattle.layout.specs.Words.{used, apply}
use Rattle.layout.specs.Tree.{base_leaf, extension_leaf, challenge_leaf, input_leaf, tree}
use Rattle.reading.specs.Readings.{Assignment, input_value, value}
use Rattle.lowering.proofs.Shape.{leaf_e, Shape, lf, op, Look, Unf, val}
use Rattle.lowering.proofs.Words.{look, Sound}
use Rattle.lowering.proofs.Assignments.{value-is}

-- two assignments agree where a node of c reads
pub record Agree (c : Look) (a b : Assignment) : Type 0 where
  pub inputs : (i : ℕ) (q : Position) → c i ≡ Some (leaf_e (input_leaf q)) → input_value a q ≡ input_value b q
  pub challenges : (k : ℕ) → a.challenges k ≡ b.challenges k

same_value : (c : Look) (a b : Assignment) → Agree c a b → (t : Shape) (i : ℕ) → Unf c t i → val a.challenges (input_value a) t ≡ val b.challenges (input_value b) t
same_value c a b h (lf (base_leaf w)) i p = refl
same_value c a b h (lf (extension_leaf x)) i p = refl
same_value c a b h (lf (challenge_leaf k)) i p = h.challenges k
same_value c a b h (lf (input_leaf q)) i p = h.inputs i q p
same_value c a b h (op o s t) i (l, r, p, v, w) = ap₂ (apply o) (same_value c a b h s l v) (same_value c a b h t r w)

pub value_agrees : (m : List ℕ) → Sound m → (a b : Assignment) → Agree (look m) a b → (i : ℕ) → i < used m → value a (tree m i) ≡ value b (tree m i)
value_agrees m s a b h i l = let (t, w) = s.whole i l in value-is a m t i w ∙ same_value (look m) a b h t i w ∙ sym (value-is b m t i w)
