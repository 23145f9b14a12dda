-- How far a node reads tells whether its expression reads an unfilled column. Assumes nothing.
use Rattle.std.specs.Prelude.{None}
use Prim.Native.Nat.{ℕ, zero, suc, ◌<◌, max}
use mathlib.Core.Path.{◌≡◌, refl, sym, ap, ap₂, ◌∙◌}
use mathlib.Core.Logic.{⊎_elim}
use mathlib.Core.Bool.{Bool, true, false, ◌||◌}
use mathlib.Core.List.{List, [], ◌∷◌, ◌++◌}
use native.Mathlib.Omega.{arith}
use lib.Dec.{ltb, leb, leb-suc-suc}
use borrow.Author.Tests.{lt-ltb, le-ltb, ltb-false}
use Rattle.layout.specs.declared.node.Position.TheVariants.{Main, Aux, NextMain, NextAux}
use Rattle.layout.specs.declared.node.Op.{Op}
use Rattle.layout.specs.declared.node.Expression.{Expression}
use Rattle.layout.specs.declared.node.Expression.TheVariants.{Base, Extension, Challenge, Operation, Input}
use Rattle.layout.specs.Lists.{any}
use Rattle.layout.specs.Words.{used, word, expression_at, column}
use Rattle.layout.specs.NotCircuit.{not_circuit, bad_index, bad_row, bad_expression, bad_node, goes_on}
use Rattle.layout.specs.Tree.{tree_over, unfolded}
use Rattle.layout.proofs.Tests.{neither, or-false, or_right, below_or}
use Rattle.layout.proofs.Lists.{clash, or_left}
use Rattle.layout.proofs.Valid.{valid_node, valid_ends}
use Rattle.walking.specs.Paths.{walk}
use Rattle.read.specs.Tables.{operands_of}
use Rattle.read.proofs.Lists.{any_append}
use Rattle.read.proofs.Tables.{Folds, Joined, answer_two, answer_leaf}
use Rattle.filling.specs.Constraints.{unfilled, reads_unfilled}
use Rattle.fillable.specs.Reaching.{leaf_reach, reach, reach_to, reach_entry, reach_join, Columned}

reach_folds : (b : Bool) → Folds (reach b) (leaf_reach b) reach_join
unfolding reach
reach_folds b = record { at_leaf = λ i a. refl; at_branch = λ i o l r. refl }

module _ (b : Bool) (m : List ℕ) (valid : not_circuit m ≡ false) where
  pub reach_two : Joined m reach_join (reach_to b m)
  unfolding reach_to
  reach_two i h o l r e = answer_two (reach b) (leaf_reach b) reach_join (reach_folds b) m valid i h o l r e

  pub reach_leaf : (i : ℕ) → i < used m → operands_of (expression_at m i) ≡ None → reach_entry b (expression_at m i) ≡ reach_to b m i
  unfolding reach_to reach_entry
  reach_leaf i h s = answer_leaf (reach b) (leaf_reach b) reach_join (reach_folds b) m valid i h 0 s

-- columns are within the bound
pub columned : (m : List ℕ) → not_circuit m ≡ false → (i : ℕ) → i < used m → Columned (expression_at m i)
unfolding bad_node bad_expression
columned m valid i h =
    record {
      small = λ q e.
          let x = (neither (ltb 1 (word m i 4)) _ (neither (ltb 8 (word m i 0)) _ (valid_node m valid i h)).1).1 in
          ltb-false 65535 (column q) (neither (bad_index (column q)) (bad_row m q) (sym (ap (bad_expression m) e) ∙ x)).0;
    }

-- a test of the larger of two
either_larger : (a x y : ℕ) → ltb a (max x y) ≡ (ltb a x || ltb a y)
either_larger a x y =
    ⊎_elim
    (λ l. lt-ltb a (max x y) (omega arith) ∙ sym (or_left (ltb a x) (ltb a y) (lt-ltb a x l)))
    (λ l.
    ⊎_elim
    (λ k. lt-ltb a (max x y) (omega arith) ∙ sym (or_right (ltb a x) (ltb a y) (lt-ltb a y k)))
    (λ k. le-ltb a (max x y) (omega arith) ∙ sym (or-false (ltb a x) (ltb a y) (le-ltb a x l) (le-ltb a y k)))
    (below_or a y))
    (below_or a x)

or-none : (t : Bool) → (t || false) ≡ t
or-none true = refl
or-none false = refl

regroup : (p q r s : Bool) → ((p || q) || (r || s)) ≡ ((p || r) || (q || s))
regroup true q r s = refl
regroup false true true s = refl
regroup false true false s = refl
regroup false false r s = refl

module _ (a b : ℕ) where
  -- beyond either bound
  abbrev farther : ℕ → ℕ → Bool
  farther x y = ltb a x || ltb b y

  none_read : false ≡ farther 0 0
  none_read = sym (or-false (ltb a 0) (ltb b 0) (le-ltb a 0 (omega arith)) (le-ltb b 0 (omega arith)))

  main_read : (c : ℕ) → leb a c ≡ farther (suc c) 0
  main_read c = sym (leb-suc-suc a c) ∙ sym (ap (λ (t : Bool). ltb a (suc c) || t) (le-ltb b 0 (omega arith)) ∙ or-none (ltb a (suc c)))

  aux_read : (c : ℕ) → leb b c ≡ farther 0 (suc c)
  aux_read c = sym (leb-suc-suc b c) ∙ sym (ap (λ (t : Bool). t || ltb b (suc c)) (le-ltb a 0 (omega arith)))

  farther_larger : (x y z w : ℕ) → (farther x y || farther z w) ≡ farther (max x z) (max y w)
  farther_larger x y z w = regroup (ltb a x) (ltb b y) (ltb a z) (ltb b w) ∙ sym (ap₂ ◌||◌ (either_larger a x z) (either_larger b y w))

  module _ (m : List ℕ) where
    unfilled_at : ℕ → Bool
    unfilled_at i = unfilled a b (expression_at m i)

    alone : (i : ℕ) (e : Expression) → expression_at m i ≡ e → any unfilled_at (i ∷ []) ≡ unfilled a b e
    unfolding any unfilled_at
    alone i e p = or-none (unfilled_at i) ∙ ap (unfilled a b) p

    joined : (i : ℕ) (o : Op) (l r : ℕ) → expression_at m i ≡ Operation o l r → (xs ys : List ℕ) → any unfilled_at (xs ++ (i ∷ ys)) ≡ (any unfilled_at xs || any unfilled_at ys)
    unfolding any unfilled_at
    joined i o l r p xs ys = any_append unfilled_at xs (i ∷ ys) ∙ ap (λ (t : Bool). any unfilled_at xs || (t || any unfilled_at ys)) (ap (unfilled a b) p)

    levels_read : (n i : ℕ) → goes_on m n i ≡ false → any unfilled_at (walk (unfolded m n i)) ≡ farther (reach true (unfolded m n i)) (reach false (unfolded m n i))
    unfolding goes_on unfolded walk reach
    levels_read zero i g = clash true refl g
    levels_read (suc n) i g = go (expression_at m i) refl (levels_read n)
      where
        go : (e : Expression) → expression_at m i ≡ e → ((j : ℕ) → goes_on m n j ≡ false → any unfilled_at (walk (unfolded m n j)) ≡ farther (reach true (unfolded m n j)) (reach false (unfolded m n j))) → any unfilled_at (walk (tree_over i e (unfolded m n))) ≡ farther (reach true (tree_over i e (unfolded m n))) (reach false (tree_over i e (unfolded m n)))
        go (Base w) p rest = alone i _ p ∙ none_read
        go (Extension x) p rest = alone i _ p ∙ none_read
        go (Challenge k) p rest = alone i _ p ∙ none_read
        go (Input (Main c)) p rest = alone i _ p ∙ main_read c
        go (Input (Aux c)) p rest = alone i _ p ∙ aux_read c
        go (Input (NextMain c)) p rest = alone i _ p ∙ none_read
        go (Input (NextAux c)) p rest = alone i _ p ∙ none_read
        go (Operation o l r) p rest =
            let h : (goes_on m n l || goes_on m n r) ≡ false = rw p at g in
            let (x, y) = neither (goes_on m n l) (goes_on m n r) h in
            joined i o l r p (walk (unfolded m n l)) (walk (unfolded m n r))
            ∙ ap₂ ◌||◌ (rest l x) (rest r y)
            ∙ farther_larger (reach true (unfolded m n l)) (reach false (unfolded m n l)) (reach true (unfolded m n r)) (reach false (unfolded m n r))

    pub reads_told : not_circuit m ≡ false → (e : ℕ) → e < used m → reads_unfilled a b m e ≡ (ltb a (reach_to true m e) || ltb b (reach_to false m e))
    unfolding reads_unfilled reach_to unfilled_at
    reads_told valid e h = levels_read (used m) e (valid_ends m valid e h)
