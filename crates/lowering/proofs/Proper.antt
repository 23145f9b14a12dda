-- What NOT_CIRCUIT asks beside soundness, as facts; and what keeps it. Assumes nothing.
use Rattle.std.specs.Prelude.{Some}
use Prim.Native.Nat.{ℕ, zero, suc, ◌+◌, ◌*◌, ◌≤◌, ◌<◌}
use mathlib.Core.Path.{◌≡◌, refl, sym}
use mathlib.Core.Logic.{inl, inr, ⊎_elim}
use mathlib.Core.Bool.{Bool, true, false, ◌&&◌, ◌||◌, not}
use mathlib.Core.List.{List, [], ◌∷◌}
use native.Mathlib.Decide.{ℕ_discrete}
use native.Mathlib.Omega.{arith}
use lib.ListN.{length, get_or}
use lib.Dec.{eqb, ltb}
use borrow.Author.Tests.{ltb-false, le-ltb, lt-leb}
use Rattle.arithmetic.specs.Extension.{unlifts}
use Rattle.layout.specs.Lists.{up_to, any, In}
use Rattle.layout.specs.declared.node.Op.{Op}
use Rattle.layout.specs.declared.node.Expression.{Expression}
use Rattle.layout.specs.declared.node.Expression.TheVariants.{Base, Extension, Challenge, Operation, Input}
use Rattle.layout.specs.Words.{used, limit, word, expression_at, column, made, is_next}
use Rattle.layout.specs.Tree.{Leaf, base_leaf, extension_leaf, challenge_leaf, input_leaf}
use Rattle.layout.specs.NotCircuit.{bad_row, bad_index, bad_word, bad_words, bad_expression, bad_node, either_operand, goes_on, cyclic, bad_header, not_circuit}
use Rattle.lowering.specs.Lowering.{redirected}
use Rattle.lowering.proofs.Shape.{leaf_e, op_e, expr_of, Shape, lf, op, Unf, depth}
use Rattle.lowering.proofs.ListLaws.{or-false, in_up_to}
use Rattle.lowering.proofs.Count.{unf_some}
use Rattle.lowering.proofs.Words.{look, look_in, look_lt, look_is, Sound, parts, depth_bound}
use Rattle.lowering.proofs.Made.{made_used, made_row, made_kind, made_mark_word, made_old_word, look_made_back}
use Rattle.lowering.proofs.Redirects.{redirected_used, redirected_row, redirected_kind, redirected_mark_word, redirected_leaf}

-- a leaf that a circuit of this row kind may have
abbrev pub good_leaf : ℕ → Leaf → Type 0
good_leaf row (base_leaf w) = bad_word w ≡ false
good_leaf row (extension_leaf x) = (bad_words x || unlifts x) ≡ false
good_leaf row (challenge_leaf k) = bad_index k ≡ false
good_leaf row (input_leaf q) = (bad_index (column q) || (is_next q && not (eqb row 2))) ≡ false

pub record Proper (m : List ℕ) : Type 0 where
  pub row : (eqb (get_or m 0 0) 1 || eqb (get_or m 0 0) 2) ≡ true
  pub kinds : (i : ℕ) → i < used m → word m i 0 ≤ 8
  pub marks : (i : ℕ) → i < used m → word m i 4 ≤ 1
  pub leaves : (i : ℕ) (x : Leaf) → look m i ≡ Some (leaf_e x) → good_leaf (get_or m 0 0) x

pub made_proper : (m : List ℕ) → 2 + 6 * used m ≤ length m → (e : Expression) → ((x : Leaf) → expr_of e ≡ leaf_e x → good_leaf (get_or m 0 0) x) → Proper m → Proper (made m e)
made_proper m room e good h =
    record {
      row = rw (made_row m e room) h.row;
      kinds = λ i k. kind i (omega (arith, made_used m e room)) (ℕ_discrete i (used m));
      marks = λ i k. mark i (omega (arith, made_used m e room)) (ℕ_discrete i (used m));
      leaves = λ i x k. rw (made_row m e room) (⊎_elim (λ z. h.leaves i x z) (λ z. good x (sym z.1)) (look_made_back m e room i (leaf_e x) k));
    }
  where
    kind : (i : ℕ) → i < suc (used m) → Dec (i ≡ used m) → word (made m e) i 0 ≤ 8
    kind i k (yes p) = rw p (made_kind m e room)
    kind i k (no p) = rw (made_old_word m e room i 0 (omega arith) (omega arith)) (h.kinds i (omega arith))

    mark : (i : ℕ) → i < suc (used m) → Dec (i ≡ used m) → word (made m e) i 4 ≤ 1
    mark i k (yes p) = rw p (omega (arith, made_mark_word m e room))
    mark i k (no p) = rw (made_old_word m e room i 4 (omega arith) (omega arith)) (h.marks i (omega arith))

pub redirected_proper : (s n : ℕ) (m : List ℕ) → 2 + 6 * used m ≤ length m → s < used m → Proper m → Proper (redirected m s n)
redirected_proper s n m room hs h =
    record {
      row = rw (redirected_row s n m room hs) h.row;
      kinds = λ i k. rw (redirected_kind s n m room hs i) (h.kinds i (omega (arith, redirected_used s n m room hs)));
      marks = λ i k. redirected_mark_word s n m room hs i (h.marks i (omega (arith, redirected_used s n m room hs)));
      leaves = λ i x k. rw (redirected_row s n m room hs) (h.leaves i x (redirected_leaf s n m room hs i x k));
    }

-- from the test to the facts
pub proper_of : (m : List ℕ) → not_circuit m ≡ false → Proper m
unfolding bad_node bad_expression bad_row
proper_of m h =
    let q = parts m h in
    let good : (i : ℕ) → i < used m → (word m i 0 ≤ 8) × (word m i 4 ≤ 1) × (bad_expression m (expression_at m i) ≡ false) =
    λ i k.
    let z = q.nodes i k in
    let (z₁, z₂) = or-false (ltb 8 (word m i 0)) (ltb 1 (word m i 4) || bad_expression m (expression_at m i)) z in
    let (z₃, z₄) = or-false (ltb 1 (word m i 4)) (bad_expression m (expression_at m i)) z₂ in
    (ltb-false 8 (word m i 0) z₁, ltb-false 1 (word m i 4) z₃, z₄) in
    record {
      row = q.row;
      kinds = λ i k. (good i k).0;
      marks = λ i k. (good i k).1;
      leaves = λ i x k. leaf_of_lem (expression_at m i) x (look_is m i (leaf_e x) k) (good i (look_lt m i (leaf_e x) k)).2;
    }
  where
    leaf_of_lem : (e : Expression) (x : Leaf) → expr_of e ≡ leaf_e x → bad_expression m e ≡ false → good_leaf (get_or m 0 0) x
    leaf_of_lem (Base w) x p q = let z : base_leaf w ≡ x = cc in rw (← z) q
    leaf_of_lem (Extension w) x p q = let z : extension_leaf w ≡ x = cc in rw (← z) q
    leaf_of_lem (Challenge w) x p q = let z : challenge_leaf w ≡ x = cc in rw (← z) q
    leaf_of_lem (Operation o l r) x p q = absurd (let z : ◌≡◌ {A = ℕ} 0 1 = cc in omega arith)
    leaf_of_lem (Input w) x p q = let z : input_leaf w ≡ x = cc in rw (← z) q

pub none_false : {A : Type 0} (p : A → Bool) (xs : List A) → ((x : A) → In x xs → p x ≡ false) → any p xs ≡ false
unfolding any
none_false p [] f = refl
none_false p (x ∷ xs) f = rw (f x (inl refl)) (none_false p xs (λ y h. f y (inr h)))

stops : (m : List ℕ) (k : ℕ) (t : Shape) (i : ℕ) → depth t ≤ k → Unf (look m) t i → goes_on m k i ≡ false
unfolding goes_on
stops m zero (lf x) i d w = absurd (omega arith)
stops m zero (op o a b) i d w = absurd (omega arith)
stops m (suc k) (lf x) i d w = go (expression_at m i) (look_is m i (leaf_e x) w)
  where
    go : (e : Expression) → expr_of e ≡ leaf_e x → either_operand (goes_on m k) e ≡ false
    go (Base v) p = refl
    go (Extension v) p = refl
    go (Challenge v) p = refl
    go (Operation o l r) p = absurd (let z : ◌≡◌ {A = ℕ} 0 1 = cc in omega arith)
    go (Input v) p = refl
stops m (suc k) (op o a b) i d (l, r, p, v, w) = go (expression_at m i) (look_is m i (op_e o l r) p) (stops m k a l (omega arith) v) (stops m k b r (omega arith) w)
  where
    go : (e : Expression) → expr_of e ≡ op_e o l r → goes_on m k l ≡ false → goes_on m k r ≡ false → either_operand (goes_on m k) e ≡ false
    go (Base v) p x y = refl
    go (Extension v) p x y = refl
    go (Challenge v) p x y = refl
    go (Operation o' l' r') p x y =
        let el : l' ≡ l = cc in
        let er : r' ≡ r = cc in
        rw (el, er, x) y
    go (Input v) p x y = refl

-- and back
pub circuit_of : (m : List ℕ) → Sound m → Proper m → used m ≤ limit m → not_circuit m ≡ false
unfolding not_circuit bad_header cyclic bad_node bad_expression bad_row
circuit_of m s h u =
    rw (le-ltb (length m) 2 (omega (arith, s.room)), h.row, le-ltb (limit m) (used m) u, none_false (bad_node m) (up_to (used m)) good)
    (none_false (goes_on m (used m)) (up_to (used m)) (λ i k. let (t, w) = s.whole i (in_up_to (used m) i k) in stops m (used m) t i (depth_bound (look m) (used m) (look_lt m) t i w) w))
  where
    operands : (i : ℕ) (o : Op) (l r : ℕ) (t : Shape) → Unf (look m) t i → look m i ≡ Some (op_e o l r) → (l < used m) × (r < used m)
    operands i o l r (lf x) w p = absurd (let z : ◌≡◌ {A = ℕ} 0 1 = cc in omega arith)
    operands i o l r (op o' a b) (l', r', p', v, w) p =
        let el : l' ≡ l = cc in
        let er : r' ≡ r = cc in
        let (e, q) = unf_some (look m) a l' v in
        let (e', q') = unf_some (look m) b r' w in
        (rw el at (look_lt m l' e q), rw er at (look_lt m r' e' q'))

    expression_good : (i : ℕ) → i < used m → (e : Expression) → look m i ≡ Some (expr_of e) → bad_expression m e ≡ false
    expression_good i k (Base w) p = h.leaves i (base_leaf w) p
    expression_good i k (Extension w) p = h.leaves i (extension_leaf w) p
    expression_good i k (Challenge w) p = h.leaves i (challenge_leaf w) p
    expression_good i k (Operation o l r) p =
        let (t, w) = s.whole i k in
        let (a, b) = operands i o l r t w p in
        rw (lt-leb (used m) l a) (lt-leb (used m) r b)
    expression_good i k (Input w) p = h.leaves i (input_leaf w) p

    good : (i : ℕ) → In i (up_to (used m)) → bad_node m i ≡ false
    good i k =
        let j : i < used m = in_up_to (used m) i k in
        rw (le-ltb 8 (word m i 0) (h.kinds i j), le-ltb 1 (word m i 4) (h.marks i j)) (expression_good i j (expression_at m i) (look_in m i j))
