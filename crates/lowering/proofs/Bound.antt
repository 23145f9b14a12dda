-- A lowering is a run; it has fewer steps than there are ids of degree above 1 below the roots; no degree rises; each constraint's degree is at most the target. Assumes nothing.
use Rattle.std.specs.Prelude.{Some}
use Prim.Native.Nat.{ℕ, zero, suc, ◌≤◌, ◌<◌}
use mathlib.Core.Path.{◌≡◌, refl, sym, ◌∙◌, ap}
use mathlib.Core.Logic.{◌≢◌, ◌⊎◌, inl, inr, ⊎_elim}
use mathlib.Core.Bool.{Bool}
use mathlib.Core.List.{List, [], ◌∷◌, map}
use native.Mathlib.Omega.{arith}
use lib.ListN.{length}
use Rattle.arithmetic.specs.Base.{minus_one}
use Rattle.layout.specs.declared.node.Position.{Position}
use Rattle.layout.specs.declared.node.Op.TheVariants.{Add, Multiply}
use Rattle.layout.specs.Tree.{Leaf, base_leaf, input_leaf}
use Rattle.layout.specs.Lists.{In}
use Rattle.reading.specs.Readings.{product_degree⁺}
use Rattle.lowering.proofs.Shape.{leaf_e, op_e, Shape, lf, op, Look, Unf, deg}
use Rattle.lowering.proofs.Steps.{Moved, Minus, Gap, sum, swapped, Move, Step, Run, done, more, Standing, Led, NotIn, Distinct, Regs, Rooted, AtMost, Heavy, redir_id, Lowered, stop, step}
use Rattle.lowering.proofs.Unfold.{leaf_low, deg_sub}
use Rattle.lowering.proofs.OneStep.{tree_after}
use Rattle.lowering.proofs.Count.{moved, rooted_after, regs_after, heavy_after}
use Rattle.lowering.proofs.Remains.{remains}
use Rattle.lowering.proofs.Exactly.{led_self}

-- a list without the element at a place
without : (s : ℕ) (xs : List ℕ) → In s xs → List ℕ
without s [] h = []
without s (x ∷ xs) (inl p) = xs
without s (x ∷ xs) (inr h) = x ∷ without s xs h

without_length : (s : ℕ) (xs : List ℕ) (h : In s xs) → suc (length (without s xs h)) ≡ length xs
unfolding without
without_length s [] h = absurd h
without_length s (x ∷ xs) (inl p) = refl
without_length s (x ∷ xs) (inr h) = ap suc (without_length s xs h)

without_in : (s : ℕ) (xs : List ℕ) (h : In s xs) (z : ℕ) → z ≢ s → In z xs → In z (without s xs h)
unfolding without
without_in s [] h z n k = absurd k
without_in s (x ∷ xs) (inl p) z n (inl e) = absurd (n (e ∙ sym p))
without_in s (x ∷ xs) (inl p) z n (inr k) = k
without_in s (x ∷ xs) (inr h) z n (inl e) = inl e
without_in s (x ∷ xs) (inr h) z n (inr k) = inr (without_in s xs h z n k)

not_in : (s z : ℕ) (xs : List ℕ) → NotIn s xs → In z xs → z ≢ s
not_in s z [] n h = absurd h
not_in s z (x ∷ xs) (n, ns) (inl p) = λ e. n (sym e ∙ p)
not_in s z (x ∷ xs) (n, ns) (inr h) = not_in s z xs ns h

-- distinct elements of a list are no more than it has
pub no_more : (ss xs : List ℕ) → Distinct ss → ((z : ℕ) → In z ss → In z xs) → length ss ≤ length xs
no_more [] xs d f = omega arith
no_more (s ∷ ss) xs (n, d) f =
    let h : In s xs = f s (inl refl) in
    let k : length ss ≤ length (without s xs h) = no_more ss (without s xs h) d (λ z g. without_in s xs h z (not_in s z ss n g) (f z (inr g))) in
    omega (arith, without_length s xs h)

-- the nodes chosen are distinct ids of degree above 1 below the roots of the first circuit, and so is every one that is left
pub record Chosen (c : Look) (rs : List ℕ) (c' : Look) (rs' ss : List ℕ) : Type 0 where
  pub distinct : Distinct ss
  pub heavy : (z : ℕ) → In z ss → Heavy c rs z
  pub left_over : (z : ℕ) → Heavy c' rs' z → Heavy c rs z × NotIn z ss

pub notin_of : (s : ℕ) (ss : List ℕ) → ((z : ℕ) → In z ss → z ≢ s) → NotIn s ss
notin_of s [] f = tt
notin_of s (x ∷ xs) f = (λ e. f x (inl refl) (sym e), notin_of s xs (λ z h. f z (inr h)))

module _ {T : ℕ} where
  pub chosen : {c c' : Look} {g g' : ℕ → Bool} {rs rs' qs ss : List ℕ} {ys : List Position} → Lowered T c g rs c' g' rs' ys qs ss → Rooted c rs → Regs c g rs → Chosen c rs c' rs' ss
  chosen stop rooted regs = record { distinct = tt; heavy = λ z h. absurd h; left_over = λ z h. (h, tt) }
  chosen (step {c = c} {rs = rs} {ss = ss} {s = s} {u = u} hi ch st rest) rooted regs =
      let ih = chosen rest (rooted_after st rs rooted) (regs_after st rs regs rooted) in
      let back = heavy_after st rs regs rooted in
      record {
        distinct = (notin_of s ss (λ z h. (back z (ih.heavy z h)).1), ih.distinct);
        heavy = λ z h. ⊎_elim (λ e. rw e (ch.below, (u, ch.tree, ch.low))) (λ k. (back z (ih.heavy z k)).0) h;
        left_over = λ z h.
            let (hz, nz) = ih.left_over z h in
            let (h₀, n₀) = back z hz in
            (h₀, (n₀, nz));
      }

  -- one is left at the end, if there was one at the start
  pub one_left : 2 ≤ T → {c c' : Look} {g g' : ℕ → Bool} {rs rs' qs ss : List ℕ} {ys : List Position} → Lowered T c g rs c' g' rs' ys qs ss → Rooted c rs → Regs c g rs → (h : ℕ) × Heavy c rs h → (h : ℕ) × Heavy c' rs' h
  one_left two stop rooted regs h = h
  one_left two (step {rs = rs} hi ch st rest) rooted regs h =
      one_left two rest (rooted_after st rs rooted) (regs_after st rs regs rooted) (remains T two st rs regs ch.high hi)

  -- fewer steps than ids of degree above 1 below the roots
  pub fewer : 2 ≤ T → {c c' : Look} {g g' : ℕ → Bool} {rs rs' qs ss : List ℕ} {ys : List Position} → Lowered T c g rs c' g' rs' ys qs ss → Rooted c rs → Regs c g rs → (h : ℕ) × Heavy c rs h
      → (xs : List ℕ) → ((z : ℕ) → Heavy c rs z → In z xs) → length ss < length xs
  fewer two {c} {c'} {rs = rs} {rs' = rs'} {ss = ss} low rooted regs h xs all =
      let ch = chosen low rooted regs in
      let (z, hz) = one_left two low rooted regs h in
      let (h₀, n) = ch.left_over z hz in
      no_more (z ∷ ss) xs (n, ch.distinct) (λ w k. all w (⊎_elim (λ e. rw e h₀) (λ g. ch.heavy w g) k))

-- pairs of two lists, place by place
abbrev pub Pairs : (ℕ → ℕ → Type 0) → List ℕ → List ℕ → Type 0
Pairs R [] [] = Unit {0}
Pairs R [] (y ∷ ys) = ⊥
Pairs R (x ∷ xs) [] = ⊥
Pairs R (x ∷ xs) (y ∷ ys) = R x y × Pairs R xs ys

pairs_self : (R : ℕ → ℕ → Type 0) → ((x : ℕ) → R x x) → (xs : List ℕ) → Pairs R xs xs
pairs_self R f [] = tt
pairs_self R f (x ∷ xs) = (f x, pairs_self R f xs)

pairs_map : (R S : ℕ → ℕ → Type 0) (g : ℕ → ℕ) → ((x y : ℕ) → R (g x) y → S x y) → (xs ys : List ℕ) → Pairs R (map g xs) ys → Pairs S xs ys
pairs_map R S g f [] [] p = tt
pairs_map R S g f [] (y ∷ ys) p = p
pairs_map R S g f (x ∷ xs) [] p = p
pairs_map R S g f (x ∷ xs) (y ∷ ys) (p, ps) = (f x y p, pairs_map R S g f xs ys ps)

-- what holds of both lists' elements may be used
pub pairs_in : (R S : ℕ → ℕ → Type 0) (xs ys : List ℕ) → ((x y : ℕ) → In x xs → In y ys → R x y → S x y) → Pairs R xs ys → Pairs S xs ys
pairs_in R S [] [] f p = tt
pairs_in R S [] (y ∷ ys) f p = p
pairs_in R S (x ∷ xs) [] f p = p
pairs_in R S (x ∷ xs) (y ∷ ys) f (p, ps) = (f x y (inl refl) (inl refl) p, pairs_in R S xs ys (λ a b h k. f a b (inr h) (inr k)) ps)

-- a lowering is a run, which leads each root to its place
pub as_run : {T : ℕ} {c c' : Look} {g g' : ℕ → Bool} {rs rs' qs ss : List ℕ} {ys : List Position} → Lowered T c g rs c' g' rs' ys qs ss → (run : Run c c' ys qs) × Pairs (λ r r'. Led run r r') rs rs'
as_run (stop {rs = rs}) = (done, pairs_self (λ r r'. r' ≡ r) (λ x. refl) rs)
as_run (step {rs = rs} {rs' = rs'} {s = s} {n = n} hi ch st rest) =
    let (run, led) = as_run rest in (
      more st.step run,
      pairs_map (λ r r'. Led run r r') (λ r r'. Led (more st.step run) r r') (redir_id s n) (λ r r' h. (redir_id s n r, moved s n r, h)) rs rs' led,
    )

-- a product with -1 has no higher degree than the other factor
mul_const : (b : ℕ) → product_degree⁺ 1 b ≤ b
mul_const zero = omega arith
mul_const (suc b) = omega arith

const_mul : (b : ℕ) → product_degree⁺ b 1 ≤ b
const_mul zero = omega arith
const_mul (suc b) = omega arith

step_degree : {c c' : Look} {s n : ℕ} {y : Position} {u : Shape} (d i : ℕ) → Move c c' s n y u → 2 ≤ deg u → AtMost c d i → AtMost c' d i
step_degree {y = y} {u = u} d i move low (t, w, h) =
    let (t', w', e) = tree_after move t i w in
    (t', w', omega (arith, deg_sub y u t' low, ap deg e))

minus_degree : (c : Look) (u : Shape) (p d : ℕ) → deg u ≤ d → Minus c u p → AtMost c d p
minus_degree c u p d h (inl g) = (op Multiply (lf (base_leaf minus_one)) u, g, omega (arith, mul_const (deg u)))
minus_degree c u p d h (inr g) = (op Multiply u (lf (base_leaf minus_one)), g, omega (arith, const_mul (deg u)))

gap_degree : (c : Look) (y : Position) (u : Shape) (q d : ℕ) → 2 ≤ d → deg u ≤ d → Gap c y u q → AtMost c d q
gap_degree c y u q d two h (sum n p hn hp hq) =
    let (t, w, k) = minus_degree c u p d h hp in
    (op Add (lf (input_leaf y)) t, (n, p, hq, hn, w), omega arith)
gap_degree c y u q d two h (swapped n p hn hp hq) =
    let (t, w, k) = minus_degree c u p d h hp in
    (op Add t (lf (input_leaf y)), (p, n, hq, w, hn), omega arith)

module _ {T : ℕ} where
  pub no_degree_rises : {c c' : Look} {g g' : ℕ → Bool} {rs rs' qs ss : List ℕ} {ys : List Position} → Lowered T c g rs c' g' rs' ys qs ss → (d i : ℕ) → AtMost c d i → AtMost c' d i
  no_degree_rises stop d i h = h
  no_degree_rises (step {u = u} hi ch st rest) d i h =
      let low : 3 ≤ deg u = ch.low in
      no_degree_rises rest d i (step_degree d i st.step.move (omega arith) h)

  pub constraint_degrees : 1 ≤ T → {c c' : Look} {g g' : ℕ → Bool} {rs rs' qs ss : List ℕ} {ys : List Position} → Lowered T c g rs c' g' rs' ys qs ss → (q : ℕ) → In q qs → AtMost c' (suc T) q
  constraint_degrees one stop q h = absurd h
  constraint_degrees one (step {c₁ = c₁} {q = q₁} {y = y} {u = u} hi ch st rest) q (inl p) =
      rw p (no_degree_rises rest (suc T) q₁ (gap_degree c₁ y u q₁ (suc T) (omega arith) ch.high st.step.gap))
  constraint_degrees one (step hi ch st rest) q (inr h) = constraint_degrees one rest q h

-- a leaf stays in a run
leaf_stays : {c c' : Look} {ys : List Position} {qs : List ℕ} (run : Run c c' ys qs) (n : ℕ) (x : Leaf) → c n ≡ Some (leaf_e x) → c' n ≡ Some (leaf_e x)
leaf_stays done n x h = h
leaf_stays (more st run) n x h = let (e, p, k) = st.move.old n (leaf_e x) h in leaf_stays run n x (p ∙ ap Some k)

-- each new column stands, at the end, where a chosen node was led
pub column_at : {T : ℕ} {c c' : Look} {g g' : ℕ → Bool} {rs rs' qs ss : List ℕ} {ys : List Position} (low : Lowered T c g rs c' g' rs' ys qs ss) (y : Position) → In y ys
    → (s : ℕ) × (n : ℕ) × In s ss × Led (as_run low).0 s n × (c' n ≡ Some (leaf_e (input_leaf y)))
unfolding as_run
column_at stop y h = absurd h
column_at (step {s = s} {n = n} {y = y₁} hi ch st rest) y (inl e) =
    (s, n, inl refl, (n, inr (refl, refl), led_self (as_run rest).0 n), leaf_stays (as_run rest).0 n (input_leaf y) (rw e st.step.move.new))
column_at (step {s = s₁} hi ch st rest) y (inr h) =
    let (s, n, k, l, p) = column_at rest y h in
    (s, n, inr k, (s, inl refl, l), p)

-- a constraint is a sum with its column, and stays one: no step chooses a leaf

gap_standing : (c : Look) (y : Position) (u : Shape) (q : ℕ) → Gap c y u q → Standing c y q
gap_standing c y u q (sum n p hn hp hq) = (n, p, hn, inl hq)
gap_standing c y u q (swapped n p hn hp hq) = (n, p, hn, inr hq)

leaf_unchosen : (c : Look) (u : Shape) (s n : ℕ) (x : Leaf) → 3 ≤ deg u → Unf c u s → c n ≡ Some (leaf_e x) → n ≢ s
leaf_unchosen c (lf z) s n x h w k e = omega (arith, leaf_low z)
leaf_unchosen c (op o a b) s n x h (l, r, p, v, w) k e =
    let z : ◌≡◌ {A = ℕ} 0 1 = let k' : c s ≡ Some (leaf_e x) = rw e at k in cc in
    omega arith

stays_named : (s n' n l' : ℕ) → n ≢ s → Moved s n' n l' → l' ≡ n
stays_named s n' n l' h (inl e) = e
stays_named s n' n l' h (inr (e, k)) = absurd (h e)

step_standing : {c c' : Look} {s n' q' : ℕ} {y' : Position} {u : Shape} → Step c c' s n' y' q' u → (y : Position) (q : ℕ) → Standing c y q → Standing c' y q
step_standing {c} {c'} {s} {n'} {u = u} st y q (n, p, hn, hq) =
    let free : n ≢ s = leaf_unchosen c u s n (input_leaf y) st.large st.move.chosen hn in
    let (e, k, stays) = st.move.old n (leaf_e (input_leaf y)) hn in
    let there : c' n ≡ Some (leaf_e (input_leaf y)) = k ∙ ap Some stays in
    go free there hq
  where
    go : n ≢ s → c' n ≡ Some (leaf_e (input_leaf y)) → (c q ≡ Some (op_e Add n p)) ⊎ (c q ≡ Some (op_e Add p n)) → Standing c' y q
    go free there (inl h) =
        let (e, k, (l', r', same, left, right)) = st.move.old q (op_e Add n p) h in
        (n, r', there, inl (k ∙ ap Some (same ∙ ap (λ (i : ℕ). op_e Add i r') (stays_named s n' n l' free left))))
    go free there (inr h) =
        let (e, k, (l', r', same, left, right)) = st.move.old q (op_e Add p n) h in
        (n, l', there, inr (k ∙ ap Some (same ∙ ap (λ (i : ℕ). op_e Add l' i) (stays_named s n' n r' free right))))

run_standing : {c c' : Look} {ys : List Position} {qs : List ℕ} → Run c c' ys qs → (y : Position) (q : ℕ) → Standing c y q → Standing c' y q
run_standing done y q h = h
run_standing (more st run) y q h = run_standing run y q (step_standing st y q h)

-- the constraint of a step, at the end of the lowering after it
pub constraint_standing : {T : ℕ} {c c₁ c' : Look} {g g' : ℕ → Bool} {rs rs' qs ss : List ℕ} {ys : List Position} {s n q : ℕ} {y : Position} {u : Shape}
    → Step c c₁ s n y q u → Lowered T c₁ g rs c' g' rs' ys qs ss → Standing c' y q
constraint_standing {c₁ = c₁} {q = q} {y = y} {u = u} st rest = run_standing (as_run rest).0 y q (gap_standing c₁ y u q st.gap)
