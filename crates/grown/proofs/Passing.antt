-- Paths: what stands below a node is met at least as often as the node; and what a substitution takes away. Assumes nothing.
use Rattle.std.specs.Prelude.{if◌then◌else◌}
use Prim.Native.Nat.{ℕ, suc, ◌+◌, ◌≤◌, ◌<◌}
use mathlib.Core.Path.{◌≡◌, sym, ◌∙◌, ap}
use mathlib.Core.Logic.{◌≢◌, ◌⊎◌, inl, inr}
use mathlib.Core.Bool.{Bool}
use mathlib.Core.List.{List, ◌∷◌}
use native.Mathlib.Decide.{ℕ_discrete}
use native.Mathlib.Omega.{arith}
use lib.Dec.{eqb}
use borrow.Author.Tests.{eq-eqb, ne_eqb}
use Rattle.layout.specs.declared.node.Position.{Position}
use Rattle.layout.specs.declared.node.Op.{Op}
use Rattle.layout.specs.Lists.{In, count}
use Rattle.layout.specs.Tree.{Tree, leaf, branch}
use Rattle.walking.specs.Paths.{walk}
use Rattle.paths.proofs.Walks.{count-append}
use Rattle.lowering.proofs.Shape.{leaf_e, op_e, Shape, shape, Look, size}
use Rattle.lowering.proofs.Steps.{Below, left, right, Regs, redir_id, Stepped}
use Rattle.lowering.proofs.ListLaws.{in_cases, count_in, in_count}
use Rattle.lowering.proofs.Count.{redir_cases}
use Rattle.lowering.proofs.Words.{Tru}
use Rattle.lower.proofs.Falls.{leaf_walk}

-- how often z is met in an operation's walk: below the left, here, below the right
pub count_branch : (z j : ℕ) (o : Op) (a b : Tree) → count z (walk (branch j o a b)) ≡ count z (walk a) + ((if eqb z j then 1 else 0) + count z (walk b))
unfolding walk count
count_branch z j o a b = count-append z (walk a) (j ∷ walk b)

-- a node has one tree, with its ids
pub one_true : (c : Look) (t t' : Tree) (i : ℕ) → Tru c t i → Tru c t' i → t ≡ t'
one_true c (leaf j a) (leaf k b) i (e, p) (f, q) =
    let g : j ≡ k = e ∙ sym f in
    let h : a ≡ b = cc in
    cc
one_true c (leaf j a) (branch k o x y) i (e, p) (f, l, r, q, v, w) = absurd (let z : ◌≡◌ {A = ℕ} 0 1 = cc in omega arith)
one_true c (branch k o x y) (leaf j a) i (f, l, r, q, v, w) (e, p) = absurd (let z : ◌≡◌ {A = ℕ} 0 1 = cc in omega arith)
one_true c (branch j o a b) (branch k o' a' b') i (e, l, r, p, v, w) (e', l', r', p', v', w') =
    let el : l ≡ l' = cc in
    let er : r ≡ r' = cc in
    let eo : o ≡ o' = cc in
    let ej : j ≡ k = e ∙ sym e' in
    let ea : a ≡ a' = one_true c a a' l v (rw (← el) at v') in
    let eb : b ≡ b' = one_true c b b' r w (rw (← er) at w') in
    cc

-- what a walk meets is its top, or has a smaller tree
pub walk-smaller : (c : Look) (t t₁ : Tree) (i z : ℕ) → Tru c t i → Tru c t₁ z → In z (walk t) → (z ≡ i) ⊎ (size (shape t₁) < size (shape t))
unfolding walk
walk-smaller c (leaf j a) t₁ i z (e, p) k (inl h) = inl (h ∙ e)
walk-smaller c (leaf j a) t₁ i z (e, p) k (inr h) = absurd h
walk-smaller c (branch j o a b) t₁ i z (e, l, r, p, v, w) k h =
    go (λ g. walk-smaller c a t₁ l z v k g) (λ g. walk-smaller c b t₁ r z w k g) (in_cases z (walk a) (j ∷ walk b) h)
  where
    same : (y : ℕ) (x : Tree) → Tru c x y → z ≡ y → size (shape t₁) ≡ size (shape x)
    same y x v e = ap (λ (t : Tree). size (shape t)) (one_true c t₁ x y (rw e at k) v)

    go : (In z (walk a) → (z ≡ l) ⊎ (size (shape t₁) < size (shape a))) → (In z (walk b) → (z ≡ r) ⊎ (size (shape t₁) < size (shape b))) → In z (walk a) ⊎ In z (j ∷ walk b)
        → (z ≡ i) ⊎ (size (shape t₁) < suc (size (shape a) + size (shape b)))
    go f g (inl h) = less (f h)
      where
        less : (z ≡ l) ⊎ (size (shape t₁) < size (shape a)) → (z ≡ i) ⊎ (size (shape t₁) < suc (size (shape a) + size (shape b)))
        less (inl e) = inr (omega (arith, same l a v e))
        less (inr k) = inr (omega arith)
    go f g (inr (inl h)) = inl (h ∙ e)
    go f g (inr (inr h)) = less (g h)
      where
        less : (z ≡ r) ⊎ (size (shape t₁) < size (shape b)) → (z ≡ i) ⊎ (size (shape t₁) < suc (size (shape a) + size (shape b)))
        less (inl e) = inr (omega (arith, same r b w e))
        less (inr k) = inr (omega arith)

-- no node stands in a smaller tree than its own
pub not-below : (c : Look) (t a : Tree) (i l : ℕ) → Tru c t i → Tru c a l → size (shape a) < size (shape t) → count i (walk a) ≡ 0
not-below c t a i l v w less = go (ℕ_discrete (count i (walk a)) 0)
  where
    clashes : (i ≡ l) ⊎ (size (shape t) < size (shape a)) → ⊥
    clashes (inl e) = omega (arith, ap (λ (x : Tree). size (shape x)) (one_true c t a l (rw e at v) w))
    clashes (inr k) = omega arith

    go : Dec (count i (walk a) ≡ 0) → count i (walk a) ≡ 0
    go (yes e) = e
    go (no h) = absurd (clashes (walk-smaller c a t l i w v (in_count i (walk a) (omega arith))))

-- A: THROUGH. What stands at or below s is met at least as often as s
pub through : (c : Look) (t tₛ : Tree) (i s z : ℕ) → Tru c t i → Tru c tₛ s → In z (walk tₛ) → count s (walk t) ≤ count z (walk t)
unfolding walk count
through c (leaf j a) tₛ i s z (e, p) v h = go (ℕ_discrete s j)
  where
    go : Dec (s ≡ j) → count s (walk (leaf j a)) ≤ count z (walk (leaf j a))
    go (yes q) =
        let g : s ≡ i = q ∙ e in
        let k : tₛ ≡ leaf j a = one_true c tₛ (leaf j a) i (rw g at v) (e, p) in
        rw (eq-eqb s j q) (omega (arith, count_in z (walk (leaf j a)) (rw k at h)))
    go (no q) = rw (ne_eqb s j q) (omega arith)
through c (branch j o a b) tₛ i s z (e, l, r, p, v, w) k h = go (ℕ_discrete s j) (through c a tₛ l s z v k h) (through c b tₛ r s z w k h)
  where
    go : Dec (s ≡ j) → count s (walk a) ≤ count z (walk a) → count s (walk b) ≤ count z (walk b) → count s (walk (branch j o a b)) ≤ count z (walk (branch j o a b))
    go (yes q) f g =
        let d : s ≡ i = q ∙ e in
        let t : Tru c (branch j o a b) i = (e, l, r, p, v, w) in
        let x : tₛ ≡ branch j o a b = one_true c tₛ (branch j o a b) i (rw d at k) t in
        let y : 0 < count z (walk (branch j o a b)) = count_in z (walk (branch j o a b)) (rw x at h) in
        let x₁ : count s (walk a) ≡ 0 = rw d (not-below c (branch j o a b) a i l t v (omega arith)) in
        let x₂ : count s (walk b) ≡ 0 = rw d (not-below c (branch j o a b) b i r t w (omega arith)) in
        let x₃ = count_branch s j o a b in
        rw (x₃, x₁, x₂, eq-eqb s j q) (omega arith)
    go (no q) f g =
        let x₀ = count_branch s j o a b in
        let x₁ = count_branch z j o a b in
        rw (x₀, x₁, ne_eqb s j q) (omega arith)

-- B: WHAT A SUBSTITUTION TAKES. From a node below the roots that is not the chosen one, as many paths to z are gone as led to the chosen node
module _ {c c' : Look} {g g' : ℕ → Bool} {s n q : ℕ} {y : Position} {u : Shape} (st : Stepped c c' g g' s n y q u) (rs : List ℕ) (regs : Regs c g rs) (tₛ : Tree) (at-s : Tru c tₛ s)
    (z : ℕ) (in-s : In z (walk tₛ)) (other : z ≢ n) where
  part : (l l' : ℕ) (a a' : Tree) → l' ≡ redir_id s n l → Tru c a l → Tru c' a' l' → (l ≢ s → Tru c' a' l → count z (walk a') + count s (walk a) ≤ count z (walk a)) → count z (walk a') + count s (walk a) ≤ count z (walk a)
  part l l' a a' e v v' rest = go (redir_cases s n l)
    where
      go : ((l ≡ s) × (redir_id s n l ≡ n)) ⊎ ((l ≢ s) × (redir_id s n l ≡ l)) → count z (walk a') + count s (walk a) ≤ count z (walk a)
      go (inl (h, k)) =
          let e' : l' ≡ n = e ∙ k in
          omega (arith, leaf_walk c' a' n z y (rw e' at v') st.step.move.new other, through c a tₛ l s z v at-s in-s)
      go (inr (h, k)) = let e' : l' ≡ l = e ∙ k in rest h (rw e' at v')

  pub passes : (t t' : Tree) (i : ℕ) → Below c rs i → i ≢ s → Tru c t i → Tru c' t' i → count z (walk t') + count s (walk t) ≤ count z (walk t)
  unfolding walk count
  passes (leaf j a) (leaf k b) i below h (e, p) (f, q) =
      let ek : k ≡ j = f ∙ sym e in
      rw (ek, ne_eqb s j (λ d. h (sym (d ∙ e)))) (omega arith)
  passes (leaf j a) (branch k o x x') i below h (e, p) (f, l, r, q, v, w) =
      let p' = st.turned i (leaf_e a) (regs i below) h p in
      absurd (let x : ◌≡◌ {A = ℕ} 0 1 = cc in omega arith)
  passes (branch j o a b) (leaf k x) i below h (e, l, r, p, v, w) (f, q) =
      let p' = st.turned i (op_e o l r) (regs i below) h p in
      absurd (let x : ◌≡◌ {A = ℕ} 0 1 = cc in omega arith)
  passes (branch j o a b) (branch k o' a' b') i below h (e, l, r, p, v, w) (f, l', r', q, v', w') =
      let p' = st.turned i (op_e o l r) (regs i below) h p in
      let el : l' ≡ redir_id s n l = cc in
      let er : r' ≡ redir_id s n r = cc in
      let ek : k ≡ j = f ∙ sym e in
      let fl = part l l' a a' el v v' (λ d w₀. passes a a' l (left below p) d v w₀) in
      let fr = part r r' b b' er w w' (λ d w₀. passes b b' r (right below p) d w w₀) in
      let x₀ = count_branch z j o a b in
      let x₁ = count_branch z k o' a' b' in
      let x₂ = count_branch s j o a b in
      rw (x₀, x₁, x₂, ek, ne_eqb s j (λ d. h (sym (d ∙ e)))) (omega arith)
