-- Circuits as lookups of nodes by id; the shape (a tree without ids) that a node unfolds to; what is read off a shape: size, value, degree, substitution.
use Rattle.std.specs.Prelude.{Option, Some}
use Prim.Native.Nat.{ℕ, suc, ◌+◌, ◌<◌, max}
use mathlib.Core.Path.{◌≡◌, ap}
use mathlib.Core.Bool.{Bool, ◌&&◌}
use native.Mathlib.Decide.{ℕ_discrete}
use native.Mathlib.Omega.{arith}
use Rattle.arithmetic.specs.declared.Triple.{Triple}
use Rattle.arithmetic.specs.Extension.{lift}
use Rattle.layout.specs.declared.node.Position.{Position}
use Rattle.layout.specs.declared.node.Position.TheVariants.{Main, Aux, NextMain, NextAux}
use Rattle.layout.specs.declared.node.Op.{Op}
use Rattle.layout.specs.declared.node.Op.TheVariants.{Add, Multiply}
use Rattle.layout.specs.declared.node.Expression.{Expression}
use Rattle.layout.specs.declared.node.Expression.TheVariants.{Base, Extension, Challenge, Operation, Input}
use Rattle.layout.specs.Words.{input_kind, column, apply}
use Rattle.layout.specs.Tree.{Leaf, base_leaf, extension_leaf, challenge_leaf, input_leaf, Tree, leaf, branch}
use Rattle.reading.specs.Readings.{leaf_degree⁺, product_degree⁺, leaf_is_base}

-- what a node says: a leaf, or an operation on two ids
pub data Expr : Type 0 where
  leaf_e : Leaf → Expr
  op_e : Op → ℕ → ℕ → Expr

abbrev pub expr_of : Expression → Expr
expr_of (Base w) = leaf_e (base_leaf w)
expr_of (Extension x) = leaf_e (extension_leaf x)
expr_of (Challenge k) = leaf_e (challenge_leaf k)
expr_of (Operation o l r) = op_e o l r
expr_of (Input q) = leaf_e (input_leaf q)

-- a tree that has forgotten its ids
pub data Shape : Type 0 where
  lf : Leaf → Shape
  op : Op → Shape → Shape → Shape

abbrev pub shape : Tree → Shape
shape (leaf i a) = lf a
shape (branch i o l r) = op o (shape l) (shape r)

abbrev pub Look : Type 0
Look = ℕ → Option Expr

-- node i of c unfolds to the shape: no fuel and no rank, by recursion on the shape
abbrev pub Unf : Look → Shape → ℕ → Type 0
Unf c (lf x) i = c i ≡ Some (leaf_e x)
Unf c (op o a b) i = (l : ℕ) × (r : ℕ) × (c i ≡ Some (op_e o l r)) × Unf c a l × Unf c b r

-- every id below n has a tree: no operand is missing, and there is no cycle
abbrev pub Whole : Look → ℕ → Type 0
Whole c n = (i : ℕ) → i < n → (t : Shape) × Unf c t i

abbrev pub size : Shape → ℕ
size (lf x) = 1
size (op o a b) = suc (size a + size b)

abbrev pub depth : Shape → ℕ
depth (lf x) = 1
depth (op o a b) = suc (max (depth a) (depth b))

-- choose by a decision
abbrev pub pick {ℓ κ} : {P : Type ℓ} {A : Type κ} → Dec P → A → A → A
pick (yes p) a b = a
pick (no h) a b = b

-- equality of positions is decided
decided : (K : ℕ → Position) (c d : ℕ) → (K c ≡ K d → c ≡ d) → Dec (c ≡ d) → Dec (K c ≡ K d)
decided K c d f (yes e) = yes (ap K e)
decided K c d f (no h) = no (λ e. h (f e))

pub position_discrete : (x y : Position) → Dec (x ≡ y)
position_discrete (Main c) (Main d) = decided Main c d (λ e. ap column e) (ℕ_discrete c d)
position_discrete (Main c) (Aux d) = no (λ e. omega (arith, ap input_kind e))
position_discrete (Main c) (NextMain d) = no (λ e. omega (arith, ap input_kind e))
position_discrete (Main c) (NextAux d) = no (λ e. omega (arith, ap input_kind e))
position_discrete (Aux c) (Main d) = no (λ e. omega (arith, ap input_kind e))
position_discrete (Aux c) (Aux d) = decided Aux c d (λ e. ap column e) (ℕ_discrete c d)
position_discrete (Aux c) (NextMain d) = no (λ e. omega (arith, ap input_kind e))
position_discrete (Aux c) (NextAux d) = no (λ e. omega (arith, ap input_kind e))
position_discrete (NextMain c) (Main d) = no (λ e. omega (arith, ap input_kind e))
position_discrete (NextMain c) (Aux d) = no (λ e. omega (arith, ap input_kind e))
position_discrete (NextMain c) (NextMain d) = decided NextMain c d (λ e. ap column e) (ℕ_discrete c d)
position_discrete (NextMain c) (NextAux d) = no (λ e. omega (arith, ap input_kind e))
position_discrete (NextAux c) (Main d) = no (λ e. omega (arith, ap input_kind e))
position_discrete (NextAux c) (Aux d) = no (λ e. omega (arith, ap input_kind e))
position_discrete (NextAux c) (NextMain d) = no (λ e. omega (arith, ap input_kind e))
position_discrete (NextAux c) (NextAux d) = decided NextAux c d (λ e. ap column e) (ℕ_discrete c d)

-- the shape u put for the input q
abbrev pub sub_l : Position → Shape → Leaf → Shape
sub_l y u (base_leaf w) = lf (base_leaf w)
sub_l y u (extension_leaf x) = lf (extension_leaf x)
sub_l y u (challenge_leaf k) = lf (challenge_leaf k)
sub_l y u (input_leaf x) = pick (position_discrete x y) u (lf (input_leaf x))

abbrev pub sub : Position → Shape → Shape → Shape
sub y u (lf x) = sub_l y u x
sub y u (op o a b) = op o (sub y u a) (sub y u b)

-- the degree plus one
abbrev pub deg_op : Op → ℕ → ℕ → ℕ
deg_op Add a b = max a b
deg_op Multiply a b = product_degree⁺ a b

abbrev pub deg : Shape → ℕ
deg (lf x) = leaf_degree⁺ x
deg (op o a b) = deg_op o (deg a) (deg b)

-- the base test
abbrev pub base_s : Shape → Bool
base_s (lf x) = leaf_is_base x
base_s (op o a b) = base_s a && base_s b

abbrev pub val_l : (ℕ → Triple) → (Position → Triple) → Leaf → Triple
val_l ch e (base_leaf w) = lift w
val_l ch e (extension_leaf x) = x
val_l ch e (challenge_leaf k) = ch k
val_l ch e (input_leaf x) = e x

abbrev pub val : (ℕ → Triple) → (Position → Triple) → Shape → Triple
val ch e (lf x) = val_l ch e x
val ch e (op o a b) = apply o (val ch e a) (val ch e b)

abbrev pub upd : (Position → Triple) → Position → Triple → Position → Triple
upd e y v x = pick (position_discrete x y) v (e x)
