-- The shape of a node is one shape; substitution and values; substitution and degrees. Assumes nothing.
use Rattle.std.specs.Prelude.{if◌then◌else◌}
use Prim.Native.Nat.{ℕ, zero, suc, ◌≤◌, max}
use mathlib.Core.Path.{◌≡◌, refl, ◌∙◌, ap, ap₂}
use mathlib.Core.Logic.{◌≢◌}
use mathlib.Core.Bool.{Bool, true, false, ◌&&◌}
use native.Mathlib.Omega.{arith}
use lib.Dec.{eqb}
use Rattle.arithmetic.specs.declared.Triple.{Triple}
use Rattle.arithmetic.specs.Base.{add, multiply}
use Rattle.arithmetic.specs.Extension.{Canonical, lift, plus, times}
use Rattle.arithmetic.proofs.Algebra.{canonical_plus, canonical_times, lift_plus, lift_times}
use Rattle.layout.specs.declared.node.Position.{Position}
use Rattle.layout.specs.declared.node.Op.{Op}
use Rattle.layout.specs.declared.node.Op.TheVariants.{Add, Multiply}
use Rattle.layout.specs.Tree.{Leaf, base_leaf, extension_leaf, challenge_leaf, input_leaf}
use Rattle.layout.specs.Words.{apply}
use Rattle.reading.specs.Readings.{leaf_degree⁺, product_degree⁺}
use Rattle.lowering.proofs.Shape.{Shape, lf, op, Look, Unf, pick, position_discrete, sub, deg_op, deg, base_s, val, upd}
use Rattle.lowering.proofs.Steps.{Fits}

pub one_tree : (c : Look) (t u : Shape) (i : ℕ) → Unf c t i → Unf c u i → t ≡ u
one_tree c (lf x) (lf y) i p q = cc
one_tree c (lf x) (op o a b) i p (l, r, q, u, v) = cc
one_tree c (op o a b) (lf x) i (l, r, q, u, v) p = cc
one_tree c (op o a b) (op o' a' b') i (l, r, p, u, v) (l', r', q, u', v') =
    let el : l ≡ l' = cc in
    let er : r ≡ r' = cc in
    let ea : a ≡ a' = one_tree c a a' l u (rw (← el) at u') in
    let eb : b ≡ b' = one_tree c b b' r v (rw (← er) at v') in
    cc

-- at the column itself, and at any other
pub upd_same : (e : Position → Triple) (y : Position) (v : Triple) → upd e y v y ≡ v
upd_same e y v = go (position_discrete y y)
  where
    go : (d : Dec (y ≡ y)) → pick d v (e y) ≡ v
    go (yes p) = refl
    go (no h) = absurd (h refl)

pub upd_other : (e : Position → Triple) (y : Position) (v : Triple) (x : Position) → x ≢ y → upd e y v x ≡ e x
upd_other e y v x h = go (position_discrete x y)
  where
    go : (d : Dec (x ≡ y)) → pick d v (e x) ≡ e x
    go (yes p) = absurd (h p)
    go (no g) = refl

pub sub_same : (y : Position) (u : Shape) → sub y u (lf (input_leaf y)) ≡ u
sub_same y u = go (position_discrete y y)
  where
    go : (d : Dec (y ≡ y)) → pick d u (lf (input_leaf y)) ≡ u
    go (yes p) = refl
    go (no h) = absurd (h refl)

-- a leaf that is not the column y stays
pub sub_leaf : (y : Position) (u : Shape) (x : Leaf) → x ≢ input_leaf y → sub y u (lf x) ≡ lf x
sub_leaf y u (base_leaf w) h = refl
sub_leaf y u (extension_leaf x) h = refl
sub_leaf y u (challenge_leaf k) h = refl
sub_leaf y u (input_leaf x) h = go (position_discrete x y)
  where
    go : (d : Dec (x ≡ y)) → pick d u (lf (input_leaf x)) ≡ lf (input_leaf x)
    go (yes p) = absurd (h (ap input_leaf p))
    go (no g) = refl

-- values commute with substitution
pub val_sub : (ch : ℕ → Triple) (e : Position → Triple) (y : Position) (u t : Shape) → val ch e (sub y u t) ≡ val ch (upd e y (val ch e u)) t
val_sub ch e y u (lf (base_leaf w)) = refl
val_sub ch e y u (lf (extension_leaf x)) = refl
val_sub ch e y u (lf (challenge_leaf k)) = refl
val_sub ch e y u (lf (input_leaf x)) = go (position_discrete x y)
  where
    go : (d : Dec (x ≡ y)) → val ch e (pick d u (lf (input_leaf x))) ≡ pick d (val ch e u) (e x)
    go (yes p) = refl
    go (no h) = refl
val_sub ch e y u (op o a b) = ap₂ (apply o) (val_sub ch e y u a) (val_sub ch e y u b)

max_mono : {a b a' b' : ℕ} → a ≤ a' → b ≤ b' → max a b ≤ max a' b'
max_mono p q = omega arith

deg_mul_mono : (a b a' b' : ℕ) → a ≤ a' → b ≤ b' → product_degree⁺ a b ≤ product_degree⁺ a' b'
deg_mul_mono zero b a' b' p q = omega arith
deg_mul_mono (suc a) zero a' b' p q = omega arith
deg_mul_mono (suc a) (suc b) zero b' p q = absurd (omega arith)
deg_mul_mono (suc a) (suc b) (suc a') zero p q = absurd (omega arith)
deg_mul_mono (suc a) (suc b) (suc a') (suc b') p q = omega arith

deg_op_mono : (o : Op) {a b a' b' : ℕ} → a ≤ a' → b ≤ b' → deg_op o a b ≤ deg_op o a' b'
deg_op_mono Add p q = max_mono p q
deg_op_mono Multiply {a} {b} {a'} {b'} p q = deg_mul_mono a b a' b' p q

zero_or_one : (b : Bool) → (if b then 0 else 1) ≤ 1
zero_or_one true = omega arith
zero_or_one false = omega arith

pub leaf_low : (x : Leaf) → leaf_degree⁺ x ≤ 2
leaf_low (base_leaf w) = omega (arith, zero_or_one (eqb w 0))
leaf_low (extension_leaf x) = omega arith
leaf_low (challenge_leaf k) = omega arith
leaf_low (input_leaf x) = omega arith

-- a shape of degree above 1 is an operation, and its value is an element of the field
pub canon_value : (ch : ℕ → Triple) (e : Position → Triple) (u : Shape) → 3 ≤ deg u → Canonical (val ch e u)
canon_value ch e (lf x) h = absurd (omega (arith, leaf_low x))
canon_value ch e (op Add a b) h = canonical_plus (val ch e a) (val ch e b)
canon_value ch e (op Multiply a b) h = canonical_times (val ch e a) (val ch e b)

both : (a b : Bool) → (a && b) ≡ true → (a ≡ true) × (b ≡ true)
both true true h = (refl, refl)
both true false h = absurd (let z : ◌≡◌ {A = ℕ} 0 1 = cc in omega arith)
both false b h = absurd (let z : ◌≡◌ {A = ℕ} 0 1 = cc in omega arith)

-- where the base test says yes, the value is lifted
pub lifted_value : (ch : ℕ → Triple) (e : Position → Triple) → Fits e → (u : Shape) → base_s u ≡ true → (w : ℕ) × (val ch e u ≡ lift w)
lifted_value ch e f (lf (base_leaf w)) h = (w, refl)
lifted_value ch e f (lf (extension_leaf x)) h = absurd (let z : ◌≡◌ {A = ℕ} 0 1 = cc in omega arith)
lifted_value ch e f (lf (challenge_leaf k)) h = absurd (let z : ◌≡◌ {A = ℕ} 0 1 = cc in omega arith)
lifted_value ch e f (lf (input_leaf x)) h = (f x).lifted h
lifted_value ch e f (op o a b) h =
    let (ha, hb) = both (base_s a) (base_s b) h in
    let (v, p) = lifted_value ch e f a ha in
    let (w, q) = lifted_value ch e f b hb in
    go o v w p q
  where
    go : (o : Op) (v w : ℕ) → val ch e a ≡ lift v → val ch e b ≡ lift w → (z : ℕ) × (apply o (val ch e a) (val ch e b) ≡ lift z)
    go Add v w p q = (add v w, ap₂ plus p q ∙ lift_plus v w)
    go Multiply v w p q = (multiply v w, ap₂ times p q ∙ lift_times v w)

-- an input in the place of a shape of degree 1 or more raises no degree
pub deg_sub : (y : Position) (u t : Shape) → 2 ≤ deg u → deg t ≤ deg (sub y u t)
deg_sub y u (lf (base_leaf w)) h = omega arith
deg_sub y u (lf (extension_leaf x)) h = omega arith
deg_sub y u (lf (challenge_leaf k)) h = omega arith
deg_sub y u (lf (input_leaf x)) h = go (position_discrete x y)
  where
    go : (d : Dec (x ≡ y)) → 2 ≤ deg (pick d u (lf (input_leaf x)))
    go (yes p) = h
    go (no g) = omega arith
deg_sub y u (op o a b) h = deg_op_mono o (deg_sub y u a h) (deg_sub y u b h)

-- a number below 2 stays below 2, and 0 stays 0
abbrev pub Low : ℕ → ℕ → Type 0
Low a a' = (a ≡ 0 → a' ≡ 0) × (a ≤ 1 → a' ≤ 1)

low_max : (a b a' b' : ℕ) → Low a a' → Low b b' → Low (max a b) (max a' b')
low_max a b a' b' p q = (
  λ h.
      let x : a' ≡ 0 = p.0 (omega arith) in
      let y : b' ≡ 0 = q.0 (omega arith) in
      omega arith,
  λ h.
      let x : a' ≤ 1 = p.1 (omega arith) in
      let y : b' ≤ 1 = q.1 (omega arith) in
      omega arith,
)

deg_mul_zero : (a : ℕ) → product_degree⁺ a 0 ≡ 0
deg_mul_zero zero = refl
deg_mul_zero (suc a) = refl

low_mul : (a b a' b' : ℕ) → Low a a' → Low b b' → Low (product_degree⁺ a b) (product_degree⁺ a' b')
low_mul zero b a' b' p q = rw (p.0 refl) (λ h. refl, λ h. omega arith)
low_mul (suc a) zero a' b' p q = rw (q.0 refl, deg_mul_zero a') (λ h. refl, λ h. omega arith)
low_mul (suc a) (suc b) a' b' p q = (λ h. absurd (omega arith), λ h. le a' b' (p.1 (omega arith)) (q.1 (omega arith)))
  where
    le : (m n : ℕ) → m ≤ 1 → n ≤ 1 → product_degree⁺ m n ≤ 1
    le zero n h g = omega arith
    le (suc m) zero h g = omega arith
    le (suc m) (suc n) h g = omega arith

-- what has no degree, or is constant, stays so: a shape of degree 1 or more keeps degree 1 or more when an input stands for a part of it
pub deg_low : (y : Position) (u t : Shape) → Low (deg t) (deg (sub y u t))
deg_low y u (lf (base_leaf w)) = (λ h. h, λ h. h)
deg_low y u (lf (extension_leaf x)) = (λ h. h, λ h. h)
deg_low y u (lf (challenge_leaf k)) = (λ h. h, λ h. h)
deg_low y u (lf (input_leaf x)) = (λ h. absurd (omega arith), λ h. absurd (omega arith))
deg_low y u (op Add a b) = low_max (deg a) (deg b) (deg (sub y u a)) (deg (sub y u b)) (deg_low y u a) (deg_low y u b)
deg_low y u (op Multiply a b) = low_mul (deg a) (deg b) (deg (sub y u a)) (deg (sub y u b)) (deg_low y u a) (deg_low y u b)
