-- While a root is too high there is a node to choose; and after the step an id of degree above 1 is left below the roots. Assumes nothing.
use Rattle.std.specs.Prelude.{Some}
use Prim.Native.Nat.{ℕ, zero, suc, ◌≤◌}
use mathlib.Core.Path.{◌≡◌, refl, ◌∙◌, ap}
use mathlib.Core.Logic.{◌≢◌, ◌⊎◌, inl, inr}
use mathlib.Core.Bool.{Bool}
use mathlib.Core.List.{List, map}
use native.Mathlib.Decide.{dec_le}
use native.Mathlib.Omega.{arith}
use Rattle.layout.specs.declared.node.Position.{Position}
use Rattle.layout.specs.declared.node.Op.{Op}
use Rattle.layout.specs.declared.node.Op.TheVariants.{Add, Multiply}
use Rattle.reading.specs.Readings.{product_degree⁺}
use Rattle.lowering.proofs.Shape.{op_e, Shape, lf, op, Look, Unf, sub, deg_op, deg}
use Rattle.lowering.proofs.Steps.{Below, root, left, right, Regs, Heavy, TooHigh, Choice, redir_id, Stepped}
use Rattle.lowering.proofs.Unfold.{one_tree, leaf_low, deg_low}
use Rattle.lowering.proofs.OneStep.{tree_after}
use Rattle.lowering.proofs.Count.{redir_cases, map_in}

factors : (T a b : ℕ) → 2 ≤ T → a ≤ suc T → b ≤ suc T → suc (suc T) ≤ product_degree⁺ a b → (2 ≤ a) × (2 ≤ b)
factors T zero b h p q d = absurd (omega arith)
factors T (suc a) zero h p q d = absurd (omega arith)
factors T (suc a) (suc b) h p q d = (omega arith, omega arith)

one_large : (T a b : ℕ) → 2 ≤ T → a ≤ suc T → b ≤ suc T → suc (suc T) ≤ product_degree⁺ a b → ¬ (3 ≤ a) → 3 ≤ b
one_large T zero b h p q d n = absurd (omega arith)
one_large T (suc a) zero h p q d n = absurd (omega arith)
one_large T (suc a) (suc b) h p q d n = omega arith

three : (a b : ℕ) → 2 ≤ a → 2 ≤ b → 3 ≤ product_degree⁺ a b
three zero b p q = absurd (omega arith)
three (suc a) zero p q = absurd (omega arith)
three (suc a) (suc b) p q = omega arith

-- the degree of one operand is too high, or it is a product of two that are not
data Top (T : ℕ) (o : Op) (a b : ℕ) : Type 0 where
  at_left : suc (suc T) ≤ a → Top T o a b
  at_right : suc (suc T) ≤ b → Top T o a b
  here : o ≡ Multiply → a ≤ suc T → b ≤ suc T → Top T o a b

top : (T : ℕ) (o : Op) (a b : ℕ) → suc (suc T) ≤ deg_op o a b → Top T o a b
top T o a b d = go (dec_le (suc (suc T)) a) (dec_le (suc (suc T)) b) o d
  where
    go : Dec (suc (suc T) ≤ a) → Dec (suc (suc T) ≤ b) → (o : Op) → suc (suc T) ≤ deg_op o a b → Top T o a b
    go (yes p) e o d = at_left p
    go (no p) (yes q) o d = at_right q
    go (no p) (no q) Add d = absurd (omega arith)
    go (no p) (no q) Multiply d = here refl (omega arith) (omega arith)

module _ (T : ℕ) (two : 2 ≤ T) (c : Look) (rs : List ℕ) where
  abbrev Candidate : Type 0
  Candidate = (s : ℕ) × (u : Shape) × Choice T c rs s u

  -- a node to choose, at or below any node that is too high
  pub candidate_from : (t : Shape) (i : ℕ) → Unf c t i → Below c rs i → suc (suc T) ≤ deg t → Candidate
  candidate_from (lf x) i w b d = absurd (omega (arith, leaf_low x))
  candidate_from (op o a a') i (l, r, p, v, w) b d =
      go (λ h. candidate_from a l v (left b p) h) (λ h. candidate_from a' r w (right b p) h) (top T o (deg a) (deg a') d)
    where
      pick_one : o ≡ Multiply → deg a ≤ suc T → deg a' ≤ suc T → Dec (3 ≤ deg a) → Candidate
      pick_one e h h' (yes k) = (l, a, record { below = left b p; tree = v; low = k; high = h })
      pick_one e h h' (no k) =
          let d' : suc (suc T) ≤ product_degree⁺ (deg a) (deg a') = rw e at d in
          (r, a', record { below = right b p; tree = w; low = one_large T (deg a) (deg a') two h h' d' k; high = h' })

      go : (suc (suc T) ≤ deg a → Candidate) → (suc (suc T) ≤ deg a' → Candidate) → Top T o (deg a) (deg a') → Candidate
      go f g (at_left h) = f h
      go f g (at_right h) = g h
      go f g (here e h h') = pick_one e h h' (dec_le 3 (deg a))

module _ (T : ℕ) (two : 2 ≤ T) {c c' : Look} {g g' : ℕ → Bool} {s n q : ℕ} {y : Position} {u : Shape} (st : Stepped c c' g g' s n y q u) (rs : List ℕ) (regs : Regs c g rs)
    (high : deg u ≤ suc T) where
  abbrev after : List ℕ
  after = map (redir_id s n) rs

  -- an operand that is too high is not the chosen node, and stays
  other : (a : Shape) (l : ℕ) → Unf c a l → suc (suc T) ≤ deg a → l ≢ s
  other a l v h p =
      let e : u ≡ a = one_tree c u a s st.step.move.chosen (rw p at v) in
      omega (arith, ap deg e)

  stays : (a : Shape) (l : ℕ) → Unf c a l → suc (suc T) ≤ deg a → redir_id s n l ≡ l
  stays a l v h = go (redir_cases s n l)
    where
      go : ((l ≡ s) × (redir_id s n l ≡ n)) ⊎ ((l ≢ s) × (redir_id s n l ≡ l)) → redir_id s n l ≡ l
      go (inl (p, k)) = absurd (other a l v h p)
      go (inr (p, k)) = k

  -- a product of two operands of degree 1 or more is one after the step
  product_stays : (a b : Shape) (i l r : ℕ) → c' i ≡ Some (op_e Multiply l r) → 2 ≤ deg a → 2 ≤ deg b → (t' : Shape) → Unf c' t' i → sub y u t' ≡ op Multiply a b → 3 ≤ deg t'
  product_stays a b i l r p ha hb (lf x) w e = absurd (let z : ◌≡◌ {A = ℕ} 0 1 = cc in omega arith)
  product_stays a b i l r p ha hb (op o a' b') w e =
      let eo : o ≡ Multiply = cc in
      let ea : sub y u a' ≡ a = cc in
      let eb : sub y u b' ≡ b = cc in
      rw eo (three (deg a') (deg b') (keeps a a' ha ea) (keeps b b' hb eb))
    where
      keeps : (a a' : Shape) → 2 ≤ deg a → sub y u a' ≡ a → 2 ≤ deg a'
      keeps a a' h e = go (dec_le 2 (deg a'))
        where
          go : Dec (2 ≤ deg a') → 2 ≤ deg a'
          go (yes k) = k
          go (no k) = absurd (omega (arith, (deg_low y u a').1 (omega arith), ap deg e))

  remains_from : (t : Shape) (i : ℕ) → Unf c t i → Below c rs i → Below c' after i → suc (suc T) ≤ deg t → (h : ℕ) × Heavy c' after h
  remains_from (lf x) i w b b' d = absurd (omega (arith, leaf_low x))
  remains_from (op o a a') i (l, r, p, v, w) b b' d =
      go (λ k h. remains_from a l v (left b p) k h) (λ k h. remains_from a' r w (right b p) k h) (top T o (deg a) (deg a') d)
    where
      found : c' i ≡ Some (op_e o (redir_id s n l) (redir_id s n r))
      found = st.turned i (op_e o l r) (regs i b) (other (op o a a') i (l, r, p, v, w) d) p

      go : (Below c' after l → suc (suc T) ≤ deg a → (h : ℕ) × Heavy c' after h) → (Below c' after r → suc (suc T) ≤ deg a' → (h : ℕ) × Heavy c' after h)
          → Top T o (deg a) (deg a') → (h : ℕ) × Heavy c' after h
      go f g (at_left h) = f (rw (stays a l v h) at (left b' found)) h
      go f g (at_right h) = g (rw (stays a' r w h) at (right b' found)) h
      go f g (here e h h') =
          let (t', w', k) = tree_after st.step.move (op o a a') i (l, r, p, v, w) in
          let (da, db) = factors T (deg a) (deg a') two h h' (rw e at d) in
          (i, (b', (t', w', product_stays a a' i (redir_id s n l) (redir_id s n r) (rw e at found) da db t' w' (k ∙ ap (λ x. op x a a') e))))

  -- after a step that was made while a root was too high, an id of degree above 1 is left
  pub remains : TooHigh T c rs → (h : ℕ) × Heavy c' after h
  remains (r, h, (t, w, d)) =
      let b : Below c' after (redir_id s n r) = root (map_in (redir_id s n) r rs h) in
      remains_from t r w (root h) (rw (stays t r w d) at b) d
