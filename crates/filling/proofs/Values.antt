-- A value depends on the cells that are read only; it is an element of its field where those cells are. Assumes nothing.
use Prim.Native.Nat.{ℕ, zero, suc, ◌<◌}
use mathlib.Core.Path.{◌≡◌, refl, sym, ◌∙◌, ap, ap₂}
use mathlib.Core.Bool.{Bool, true, false, ◌&&◌, not}
use mathlib.Core.List.{List, [], ◌∷◌, ◌++◌}
use native.Mathlib.Omega.{arith}
use lib.Dec.{ltb, eqb}
use borrow.Author.Tests.{leb-false, eqb-true, not-false}
use Rattle.arithmetic.specs.declared.Triple.{Triple}
use Rattle.arithmetic.specs.Base.{p, add, multiply}
use Rattle.arithmetic.specs.Extension.{Canonical, lift, unlifts, plus, times}
use Rattle.arithmetic.proofs.Algebra.{canonical_plus, canonical_times, lift_plus, lift_times}
use Rattle.layout.specs.declared.node.Position.{Position}
use Rattle.layout.specs.declared.node.Position.TheVariants.{Main, Aux, NextMain, NextAux}
use Rattle.layout.specs.declared.node.Op.{Op}
use Rattle.layout.specs.declared.node.Op.TheVariants.{Add, Multiply}
use Rattle.layout.specs.declared.node.Expression.{Expression}
use Rattle.layout.specs.declared.node.Expression.TheVariants.{Base, Extension, Challenge, Operation, Input}
use Rattle.layout.specs.Lists.{any}
use Rattle.layout.specs.Words.{row_kind, used, word, expression_at, is_next, column, apply}
use Rattle.layout.specs.Tree.{base_leaf, extension_leaf, challenge_leaf, input_leaf, Tree, leaf, branch, tree_over, unfolded, tree}
use Rattle.layout.specs.NotCircuit.{bad_index, bad_row, bad_word, bad_words, bad_expression, bad_node, not_circuit}
use Rattle.layout.proofs.Tests.{neither}
use Rattle.layout.proofs.Lists.{clash, and-true}
use Rattle.layout.proofs.Valid.{valid_node, valid_operands}
use Rattle.layout.proofs.Trees.{tree_fixed}
use Rattle.walking.specs.Paths.{walk}
use Rattle.reading.specs.Readings.{Assignment, is_base, input_value, value}
use Rattle.filling.specs.Constraints.{unfilled, reads_unfilled}

-- none passes in two lists that stand one after the other
pub any-split : (t : ℕ → Bool) (xs ys : List ℕ) → any t (xs ++ ys) ≡ false → (any t xs ≡ false) × (any t ys ≡ false)
unfolding any
any-split t [] ys h = (refl, h)
any-split t (x ∷ xs) ys h =
    let (a, b) = neither (t x) (any t (xs ++ ys)) h in
    let (c, d) = any-split t xs ys b in
    (rw a c, d)

-- two assignments agree in the challenges, in main columns below a and auxiliary ones below b, and in the next row, if there is one
pub record Agree (m : List ℕ) (a b : ℕ) (s t : Assignment) : Type 0 where
  pub main : (c : ℕ) → c < a → s.main c ≡ t.main c
  pub aux : (c : ℕ) → c < b → s.aux c ≡ t.aux c
  pub next_main : row_kind m ≡ 2 → (c : ℕ) → s.next_main c ≡ t.next_main c
  pub next_aux : row_kind m ≡ 2 → (c : ℕ) → s.next_aux c ≡ t.next_aux c
  pub challenges : (k : ℕ) → s.challenges k ≡ t.challenges k

-- elements of the fields in these cells
pub record Good (m : List ℕ) (a b : ℕ) (s : Assignment) : Type 0 where
  pub main : (c : ℕ) → c < a → s.main c < p
  pub aux : (c : ℕ) → c < b → Canonical (s.aux c)
  pub next_main : row_kind m ≡ 2 → (c : ℕ) → s.next_main c < p
  pub next_aux : row_kind m ≡ 2 → (c : ℕ) → Canonical (s.next_aux c)
  pub challenges : (k : ℕ) → Canonical (s.challenges k)

module _ (m : List ℕ) (valid : not_circuit m ≡ false) where
  -- an expression of the circuit is without fault
  pub fair : (i : ℕ) → i < used m → (e : Expression) → expression_at m i ≡ e → bad_expression m e ≡ false
  unfolding bad_node
  fair i here e q = sym (ap (bad_expression m) q) ∙ (neither (ltb 1 (word m i 4)) _ (neither (ltb 8 (word m i 0)) _ (valid_node m valid i here)).1).1

  -- a next-row input stands in a dual-row circuit only
  pub dual : (q : Position) → is_next q ≡ true → bad_expression m (Input q) ≡ false → row_kind m ≡ 2
  unfolding bad_expression bad_row
  dual q n h = eqb-true (row_kind m) 2 (not-false (eqb (row_kind m) 2) (go (is_next q) n (neither (bad_index (column q)) (is_next q && not (eqb (row_kind m) 2)) h).1))
    where
      go : (b : Bool) → b ≡ true → (b && not (eqb (row_kind m) 2)) ≡ false → not (eqb (row_kind m) 2) ≡ false
      go true e k = k
      go false e k = clash false e refl

  module _ (a b : ℕ) (s t : Assignment) (agree : Agree m a b s t) where
    input_same : (i : ℕ) → i < used m → (q : Position) → expression_at m i ≡ Input q → unfilled a b (Input q) ≡ false → input_value s q ≡ input_value t q
    input_same i here (Main c) e u = ap lift (agree.main c (leb-false a c u))
    input_same i here (Aux c) e u = agree.aux c (leb-false b c u)
    input_same i here (NextMain c) e u = ap lift (agree.next_main (dual (NextMain c) refl (fair i here (Input (NextMain c)) e)) c)
    input_same i here (NextAux c) e u = agree.next_aux (dual (NextAux c) refl (fair i here (Input (NextAux c)) e)) c

    -- of a tree of so many levels
    levels_same : (levels i : ℕ) → i < used m → any (λ j. unfilled a b (expression_at m j)) (walk (unfolded m levels i)) ≡ false → value s (unfolded m levels i) ≡ value t (unfolded m levels i)
    unfolding unfolded value walk any
    levels_same zero i here u = refl
    levels_same (suc levels) i here u = over (λ j h k. levels_same levels j h k) (expression_at m i) refl u
      where
        only_one : any (λ j. unfilled a b (expression_at m j)) (i ∷ []) ≡ false → unfilled a b (expression_at m i) ≡ false
        only_one h = (neither (unfilled a b (expression_at m i)) false h).0

        over : ((j : ℕ) → j < used m → any (λ k. unfilled a b (expression_at m k)) (walk (unfolded m levels j)) ≡ false → value s (unfolded m levels j) ≡ value t (unfolded m levels j))
            → (e : Expression) → expression_at m i ≡ e → any (λ j. unfilled a b (expression_at m j)) (walk (tree_over i e (unfolded m levels))) ≡ false
            → value s (tree_over i e (unfolded m levels)) ≡ value t (tree_over i e (unfolded m levels))
        over below (Base w) e h = refl
        over below (Extension x) e h = refl
        over below (Challenge k) e h = agree.challenges k
        over below (Input q) e h = input_same i here q e (sym (ap (unfilled a b) e) ∙ only_one h)
        over below (Operation o l r) e h =
            let (x, y) = any-split _ (walk (unfolded m levels l)) (i ∷ walk (unfolded m levels r)) h in
            let (g, k) = valid_operands m valid i here o l r e in
            ap₂ (apply o) (below l g x) (below r k (neither (unfilled a b (expression_at m i)) _ y).1)

    -- an expression that reads none but filled columns has one value
    pub value_same : (i : ℕ) → i < used m → reads_unfilled a b m i ≡ false → value s (tree m i) ≡ value t (tree m i)
    unfolding reads_unfilled
    value_same i here u = levels_same (used m) i here u

  -- and it is an element of its field
  module _ (a b : ℕ) (s : Assignment) (good : Good m a b s) where
    input_good : (i : ℕ) → i < used m → (q : Position) → expression_at m i ≡ Input q → unfilled a b (Input q) ≡ false → Canonical (input_value s q)
    input_good i here (Main c) e u = record { below0 = good.main c (leb-false a c u); below1 = omega arith; below2 = omega arith }
    input_good i here (Aux c) e u = good.aux c (leb-false b c u)
    input_good i here (NextMain c) e u = record { below0 = good.next_main (dual (NextMain c) refl (fair i here (Input (NextMain c)) e)) c; below1 = omega arith; below2 = omega arith }
    input_good i here (NextAux c) e u = good.next_aux (dual (NextAux c) refl (fair i here (Input (NextAux c)) e)) c

    pub value_good : (i : ℕ) → i < used m → reads_unfilled a b m i ≡ false → Canonical (value s (tree m i))
    unfolding reads_unfilled walk value any bad_expression bad_words
    value_good i here u = rw (tree_fixed m valid i here) (over (expression_at m i) refl (rw (tree_fixed m valid i here) at u))
      where
        words_good : (x : Triple) → bad_words x ≡ false → Canonical x
        words_good x h =
            let (k, l) = neither (bad_word x.c0) _ h in
            let (n, o) = neither (bad_word x.c1) _ l in
            record { below0 = leb-false p x.c0 k; below1 = leb-false p x.c1 n; below2 = leb-false p x.c2 o }

        over : (e : Expression) → expression_at m i ≡ e → any (λ j. unfilled a b (expression_at m j)) (walk (tree_over i e (tree m))) ≡ false → Canonical (value s (tree_over i e (tree m)))
        over (Base w) e h = record { below0 = leb-false p w (fair i here (Base w) e); below1 = omega arith; below2 = omega arith }
        over (Extension x) e h = words_good x (neither (bad_words x) (unlifts x) (fair i here (Extension x) e)).0
        over (Challenge k) e h = good.challenges k
        over (Input q) e h = input_good i here q e (sym (ap (unfilled a b) e) ∙ (neither (unfilled a b (expression_at m i)) false h).0)
        over (Operation Add l r) e h = canonical_plus (value s (tree m l)) (value s (tree m r))
        over (Operation Multiply l r) e h = canonical_times (value s (tree m l)) (value s (tree m r))

-- where the base test says yes, the value is lifted
pub base_lifted : (s : Assignment) (t : Tree) → is_base t ≡ true → value s t ≡ lift (value s t).c0
unfolding value is_base
base_lifted s (leaf i (base_leaf w)) h = refl
base_lifted s (leaf i (extension_leaf x)) h = clash false h refl
base_lifted s (leaf i (challenge_leaf k)) h = clash false h refl
base_lifted s (leaf i (input_leaf (Main c))) h = refl
base_lifted s (leaf i (input_leaf (Aux c))) h = clash false h refl
base_lifted s (leaf i (input_leaf (NextMain c))) h = refl
base_lifted s (leaf i (input_leaf (NextAux c))) h = clash false h refl
base_lifted s (branch i o l r) h =
    let (x, y) = and-true (is_base l) (is_base r) h in
    go o (value s l) (value s r) (base_lifted s l x) (base_lifted s r y)
  where
    go : (o : Op) (x y : Triple) → x ≡ lift x.c0 → y ≡ lift y.c0 → apply o x y ≡ lift (apply o x y).c0
    go Add x y f g = let z : plus x y ≡ lift (add x.c0 y.c0) = ap₂ plus f g ∙ lift_plus x.c0 y.c0 in z ∙ ap (λ (v : Triple). lift v.c0) (sym z)
    go Multiply x y f g = let z : times x y ≡ lift (multiply x.c0 y.c0) = ap₂ times f g ∙ lift_times x.c0 y.c0 in z ∙ ap (λ (v : Triple). lift v.c0) (sym z)
