-- Counting references writes count words alone: a circuit stays one, and every node keeps its tree and its mark. Assumes nothing.
use Rattle.std.specs.Prelude.{if◌then◌else◌}
use Prim.Native.Nat.{ℕ, zero, suc, ◌+◌, ◌<◌}
use mathlib.Core.Path.{◌≡◌, refl, sym, ap, ap₂, ◌∙◌}
use mathlib.Core.Logic.{◌≢◌}
use mathlib.Core.Bool.{Bool, true, false, ◌||◌}
use mathlib.Core.List.{List, [], ◌∷◌}
use native.Mathlib.Omega.{arith}
use lib.ListN.{length, get_or, set, length-set}
use lib.Seq.{get_or-set_other}
use lib.Dec.{ltb, eqb}
use Rattle.layout.specs.declared.node.Expression.{Expression}
use Rattle.layout.specs.declared.node.Expression.TheVariants.{Base, Extension, Challenge, Operation, Input}
use Rattle.layout.specs.Lists.{up_to, any, each}
use Rattle.layout.specs.Words.{row_kind, used, limit, offset, word, node_at, expression_at, registered}
use Rattle.layout.specs.NotCircuit.{bad_row, bad_expression, bad_node, either_operand, goes_on, cyclic, bad_header, not_circuit}
use Rattle.layout.specs.Tree.{tree_over, unfolded, tree}
use Rattle.walking.specs.Paths.{paths}
use Rattle.walking.specs.Calls.{counted}
use Rattle.grown.specs.Results.{alike, Unique}

-- the same words but for the reference counts
pub record Recounted (m m' : List ℕ) : Type 0 where
  pub lengths : length m' ≡ length m
  pub words : (j : ℕ) → ((i : ℕ) → j ≢ offset i + 5) → get_or m' j 0 ≡ get_or m j 0

one_counted : (m : List ℕ) (i v : ℕ) (b : Bool) → Recounted m (if b then set m (offset i + 5) v else m)
one_counted m i v true = record { lengths = length-set m (offset i + 5) v; words = λ j h. get_or-set_other m (offset i + 5) j v 0 (h i) }
one_counted m i v false = record { lengths = refl; words = λ j h. refl }

then_counted : (m m' m'' : List ℕ) → Recounted m m' → Recounted m' m'' → Recounted m m''
then_counted m m' m'' a b = record { lengths = b.lengths ∙ a.lengths; words = λ j h. b.words j h ∙ a.words j h }

pub all_counted : (m roots : List ℕ) → Recounted m (counted m roots)
unfolding counted each
all_counted m roots = go (up_to (used m)) m
  where
    go : (is x : List ℕ) → Recounted x (each (λ x i. if ltb 0 (paths m roots i) then set x (offset i + 5) (paths m roots i) else x) x is)
    go [] x = record { lengths = refl; words = λ j h. refl }
    go (i ∷ is) x =
        let x₁ : List ℕ = if ltb 0 (paths m roots i) then set x (offset i + 5) (paths m roots i) else x in
        then_counted x x₁ _ (one_counted x i (paths m roots i) (ltb 0 (paths m roots i))) (go is x₁)

module _ (m m' : List ℕ) (r : Recounted m m') where
  same_row : row_kind m' ≡ row_kind m
  same_row = r.words 0 (λ i e. omega arith)

  pub same_used : used m' ≡ used m
  same_used = r.words 1 (λ i e. omega arith)

  same_word : (i k : ℕ) → k < 5 → word m' i k ≡ word m i k
  same_word i k l = r.words (offset i + k) (λ j e. omega arith)

  pub same_expression : (i : ℕ) → expression_at m' i ≡ expression_at m i
  unfolding node_at
  same_expression i = rw (same_word i 0 (omega arith), same_word i 1 (omega arith), same_word i 2 (omega arith), same_word i 3 (omega arith))

  pub same_mark : (i : ℕ) → registered m' i ≡ registered m i
  unfolding node_at
  same_mark i = ap (λ (w : ℕ). eqb w 1) (same_word i 4 (omega arith))

  same_bad : (e : Expression) → bad_expression m' e ≡ bad_expression m e
  unfolding bad_expression bad_row
  same_bad (Base w) = refl
  same_bad (Extension x) = refl
  same_bad (Challenge k) = refl
  same_bad (Operation o a b) = rw same_used
  same_bad (Input q) = rw same_row

  same_node : (i : ℕ) → bad_node m' i ≡ bad_node m i
  unfolding bad_node
  same_node i = rw (same_word i 0 (omega arith), same_word i 4 (omega arith), same_bad (expression_at m' i), same_expression i)

  same_going : (k i : ℕ) → goes_on m' k i ≡ goes_on m k i
  unfolding goes_on
  same_going zero i = refl
  same_going (suc k) i = ap (either_operand (goes_on m' k)) (same_expression i) ∙ ap (λ (f : ℕ → Bool). either_operand f (expression_at m i)) (λ t j. same_going k j t)

  same_header : bad_header m' ≡ bad_header m
  unfolding bad_header limit
  same_header = rw (r.lengths, same_row, same_used)

  pub same_circuit : not_circuit m' ≡ not_circuit m
  unfolding not_circuit cyclic
  same_circuit =
      ap₂ ◌||◌ same_header
      (ap₂ ◌||◌ (ap₂ (λ (f : ℕ → Bool) (n : ℕ). any f (up_to n)) (λ t i. same_node i t) same_used) (ap₂ (λ (f : ℕ → ℕ → Bool) (n : ℕ). any (f n) (up_to n)) (λ t k i. same_going k i t) same_used))

  same_unfolded : (k i : ℕ) → unfolded m' k i ≡ unfolded m k i
  unfolding unfolded
  same_unfolded zero i = refl
  same_unfolded (suc k) i = ap (λ (e : Expression). tree_over i e (unfolded m' k)) (same_expression i) ∙ ap (tree_over i (expression_at m i)) (λ t j. same_unfolded k j t)

  pub same_tree : (i : ℕ) → tree m' i ≡ tree m i
  same_tree i = ap (λ (n : ℕ). unfolded m' n i) same_used ∙ same_unfolded (used m) i

  pub same_unique : Unique m → Unique m'
  same_unique v = record {
    apart = λ i j a b p q.
        ap₂ alike (same_tree i) (same_tree j) ∙ v.apart i j a (omega (arith, same_used)) (sym (same_mark i) ∙ p) (sym (same_mark j) ∙ q);
  }
