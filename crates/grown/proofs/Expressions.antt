-- What a constraint's expression reads: the shape of the node that its column stands for, and the columns in it. Assumes nothing.
use Rattle.std.specs.Prelude.{Some}
use Prim.Native.Nat.{ℕ, ◌≤◌, ◌<◌}
use mathlib.Core.Path.{◌≡◌, refl, ◌∙◌, ap, subst}
use mathlib.Core.Logic.{◌⊎◌, inl, inr}
use mathlib.Core.Bool.{true}
use mathlib.Core.List.{List, ◌∷◌}
use native.Mathlib.Omega.{arith}
use Rattle.arithmetic.specs.Base.{minus_one}
use Rattle.layout.specs.declared.node.Position.{Position}
use Rattle.layout.specs.declared.node.Position.TheVariants.{Main, Aux, NextMain, NextAux}
use Rattle.layout.specs.declared.node.Op.TheVariants.{Add, Multiply}
use Rattle.layout.specs.declared.node.Expression.{Expression}
use Rattle.layout.specs.declared.node.Expression.TheVariants.{Base, Operation, Input}
use Rattle.layout.specs.Lists.{In}
use Rattle.layout.specs.Words.{used, expression_at, is_main, is_next}
use Rattle.layout.specs.Tree.{Leaf, base_leaf, extension_leaf, challenge_leaf, input_leaf, Tree, leaf, branch, tree}
use Rattle.layout.proofs.Lists.{and-true}
use Rattle.walking.specs.Paths.{walk}
use Rattle.reading.specs.Readings.{is_base}
use Rattle.lowering.proofs.Shape.{leaf_e, op_e, expr_of, Shape, lf, op, shape, Look, Unf, deg, base_s}
use Rattle.lowering.proofs.Steps.{Gap, sum, swapped}
use Rattle.lowering.proofs.ListLaws.{in_cases}
use Rattle.lowering.proofs.Words.{look, look_in, look_lt, look_is, has_used, Sound, Tru, tree_of, tree_shape, shape_is}
use Rattle.lowering.proofs.Constraints.{operation_at}
use Rattle.lowering.proofs.Substitutes.{base_shape}
use Rattle.lowering.proofs.OneMore.{Taken, taken_more}
use Rattle.grown.specs.Promise.{Difference}
use Rattle.grown.specs.Order.{Uses}
use Rattle.grown.proofs.Twins.{mirror}

-- the current-row columns in a shape: main ones below a, auxiliary ones below b
abbrev pub Reads : ℕ → ℕ → Shape → Type 0
Reads a b (lf (base_leaf w)) = Unit {0}
Reads a b (lf (extension_leaf w)) = Unit {0}
Reads a b (lf (challenge_leaf k)) = Unit {0}
Reads a b (lf (input_leaf q)) = Taken a b q
Reads a b (op o s t) = Reads a b s × Reads a b t

pub reads_of : (c : Look) (a b : ℕ) → ((i : ℕ) (q : Position) → c i ≡ Some (leaf_e (input_leaf q)) → Taken a b q) → (t : Shape) (i : ℕ) → Unf c t i → Reads a b t
reads_of c a b h (lf (base_leaf w)) i p = tt
reads_of c a b h (lf (extension_leaf w)) i p = tt
reads_of c a b h (lf (challenge_leaf k)) i p = tt
reads_of c a b h (lf (input_leaf q)) i p = h i q p
reads_of c a b h (op o s t) i (l, r, p, v, w) = (reads_of c a b h s l v, reads_of c a b h t r w)

pub reads_more : (a b a' b' : ℕ) → a ≤ a' → b ≤ b' → (t : Shape) → Reads a b t → Reads a' b' t
reads_more a b a' b' h k (lf (base_leaf w)) r = tt
reads_more a b a' b' h k (lf (extension_leaf w)) r = tt
reads_more a b a' b' h k (lf (challenge_leaf w)) r = tt
reads_more a b a' b' h k (lf (input_leaf q)) r = taken_more a b a' b' h k q r
reads_more a b a' b' h k (op o s t) (r, r') = (reads_more a b a' b' h k s r, reads_more a b a' b' h k t r')

-- what passes the base test reads no auxiliary column
pub reads_base : (a b b' : ℕ) (t : Shape) → base_s t ≡ true → Reads a b t → Reads a b' t
reads_base a b b' (lf (base_leaf w)) h r = tt
reads_base a b b' (lf (extension_leaf w)) h r = tt
reads_base a b b' (lf (challenge_leaf k)) h r = tt
reads_base a b b' (lf (input_leaf (Main c))) h r = r
reads_base a b b' (lf (input_leaf (Aux c))) h r = absurd (let z : ◌≡◌ {A = ℕ} 0 1 = cc in omega arith)
reads_base a b b' (lf (input_leaf (NextMain c))) h r = r
reads_base a b b' (lf (input_leaf (NextAux c))) h r = absurd (let z : ◌≡◌ {A = ℕ} 0 1 = cc in omega arith)
reads_base a b b' (op o s t) h (r, r') = let (f, g) = and-true (base_s s) (base_s t) h in (reads_base a b b' s f r, reads_base a b b' t g r')

-- p is the product of -1 and u, in either order
abbrev Product : Shape → Shape → Type 0
Product u p = (p ≡ op Multiply (lf (base_leaf minus_one)) u) ⊎ (p ≡ op Multiply u (lf (base_leaf minus_one)))

-- t is the input at y less u, sum and product in either order
pub record Form (y : Position) (u t : Shape) : Type 0 where
  pub product : Shape
  pub is_product : Product u product
  pub is_sum : (t ≡ op Add (lf (input_leaf y)) product) ⊎ (t ≡ op Add product (lf (input_leaf y)))

pub gap_form : (m : List ℕ) (y : Position) (u : Shape) (q : ℕ) → Gap (look m) y u q → Form y u (shape (tree m q))
gap_form m y u q (sum n p hn (inl hp) hq) =
    record { product = op Multiply (lf (base_leaf minus_one)) u; is_product = inl refl; is_sum = inl (shape_is m (op Add (lf (input_leaf y)) (op Multiply (lf (base_leaf minus_one)) u)) q (n, p, hq, hn, hp)) }
gap_form m y u q (sum n p hn (inr hp) hq) =
    record { product = op Multiply u (lf (base_leaf minus_one)); is_product = inr refl; is_sum = inl (shape_is m (op Add (lf (input_leaf y)) (op Multiply u (lf (base_leaf minus_one)))) q (n, p, hq, hn, hp)) }
gap_form m y u q (swapped n p hn (inl hp) hq) =
    record { product = op Multiply (lf (base_leaf minus_one)) u; is_product = inl refl; is_sum = inr (shape_is m (op Add (op Multiply (lf (base_leaf minus_one)) u) (lf (input_leaf y))) q (p, n, hq, hp, hn)) }
gap_form m y u q (swapped n p hn (inr hp) hq) =
    record { product = op Multiply u (lf (base_leaf minus_one)); is_product = inr refl; is_sum = inr (shape_is m (op Add (op Multiply u (lf (base_leaf minus_one))) (lf (input_leaf y))) q (p, n, hq, hp, hn)) }

-- constraint q is that of the column y, and its expression reads main columns below a and auxiliary ones below b
pub record Column (m : List ℕ) (y : Position) (a b q : ℕ) : Type 0 where
  pub u : Shape
  pub form : Form y u (shape (tree m q))
  pub large : 3 ≤ deg u
  pub reads : Reads a b u
  pub base : is_main y ≡ true → base_s u ≡ true

pub column_kept : (m m' : List ℕ) (y : Position) (a b q : ℕ) → tree m' q ≡ tree m q → Column m y a b q → Column m' y a b q
column_kept m m' y a b q e c = record { u = c.u; form = rw e c.form; large = c.large; reads = c.reads; base = c.base }

pub column-more : (m : List ℕ) (y : Position) (a b a' b' q : ℕ) → a ≤ a' → b ≤ b' → Column m y a b q → Column m y a' b' q
column-more m y a b a' b' q h k c = record { u = c.u; form = c.form; large = c.large; reads = reads_more a b a' b' h k c.u c.reads; base = c.base }

module _ (m : List ℕ) where
  looks : (i : ℕ) (e : Expression) → i < used m → expression_at m i ≡ e → look m i ≡ Some (expr_of e)
  looks i e h k = look_in m i h ∙ ap (λ (x : Expression). Some (expr_of x)) k

  -- the factor beside -1
  factor : (u p : Shape) (d v i : ℕ) → Unf (look m) p d → Product u p → 3 ≤ deg u → expression_at m v ≡ Base minus_one → (expression_at m d ≡ Operation Multiply v i) ⊎ (expression_at m d ≡ Operation Multiply i v) → Unf (look m) u i
  factor u p d v i w (inl e) large hv h =
      let (l, r, q, wl, wr) = subst (λ (t : Shape). Unf (look m) t d) e w in
      go l r q wl wr h
    where
      go : (l r : ℕ) → look m d ≡ Some (op_e Multiply l r) → look m l ≡ Some (leaf_e (base_leaf minus_one)) → Unf (look m) u r → (expression_at m d ≡ Operation Multiply v i) ⊎ (expression_at m d ≡ Operation Multiply i v) → Unf (look m) u i
      go l r q wl wr (inl k) = let k' = looks d (Operation Multiply v i) (look_lt m d (op_e Multiply l r) q) k in let e : r ≡ i = cc in rw e at wr
      go l r q wl wr (inr k) =
          let k' = looks d (Operation Multiply i v) (look_lt m d (op_e Multiply l r) q) k in
          let e : r ≡ v = cc in
          let wv : Unf (look m) u v = rw e at wr in
          let (o, l', r', z) = operation_at (look m) u v large wv in
          let z' = looks v (Base minus_one) (has_used m u v wv) hv in
          absurd (let n : ◌≡◌ {A = ℕ} 0 1 = cc in omega arith)
  factor u p d v i w (inr e) large hv h =
      let (l, r, q, wl, wr) = subst (λ (t : Shape). Unf (look m) t d) e w in
      go l r q wl wr h
    where
      go : (l r : ℕ) → look m d ≡ Some (op_e Multiply l r) → Unf (look m) u l → look m r ≡ Some (leaf_e (base_leaf minus_one)) → (expression_at m d ≡ Operation Multiply v i) ⊎ (expression_at m d ≡ Operation Multiply i v) → Unf (look m) u i
      go l r q wl wr (inr k) = let k' = looks d (Operation Multiply i v) (look_lt m d (op_e Multiply l r) q) k in let e : l ≡ i = cc in rw e at wl
      go l r q wl wr (inl k) =
          let k' = looks d (Operation Multiply v i) (look_lt m d (op_e Multiply l r) q) k in
          let e : l ≡ v = cc in
          let wv : Unf (look m) u v = rw e at wl in
          let (o, l', r', z) = operation_at (look m) u v large wv in
          let z' = looks v (Base minus_one) (has_used m u v wv) hv in
          absurd (let n : ◌≡◌ {A = ℕ} 0 1 = cc in omega arith)

  -- a product is an operation
  product_op : (u p : Shape) (d : ℕ) → Product u p → Unf (look m) p d → (l : ℕ) × (r : ℕ) × (look m d ≡ Some (op_e Multiply l r))
  product_op u p d (inl e) w = let (l, r, q, wl, wr) = subst (λ (t : Shape). Unf (look m) t d) e w in (l, r, q)
  product_op u p d (inr e) w = let (l, r, q, wl, wr) = subst (λ (t : Shape). Unf (look m) t d) e w in (l, r, q)

  -- the node that a difference takes away has the column's shape
  pub difference_shape : (y : Position) (a b q : ℕ) → Sound m → q < used m → (c : Column m y a b q) (d : Difference m y q) → Unf (look m) c.u d.chosen
  difference_shape y a b q sound here c d =
      factor c.u c.form.product d.product d.minus d.chosen (at_product c.form.is_sum d.is_sum) c.form.is_product c.large d.is_minus d.is_product
    where
      whole : Unf (look m) (shape (tree m q)) q
      whole = tree_shape m sound q here

      -- the input is no operation
      no_op : (i : ℕ) → (l : ℕ) × (r : ℕ) × (look m i ≡ Some (op_e Multiply l r)) → expression_at m i ≡ Input y → ⊥
      no_op i (l, r, p) h = let k = looks i (Input y) (look_lt m i (op_e Multiply l r) p) h in let n : ◌≡◌ {A = ℕ} 0 1 = cc in omega arith

      at_product : (shape (tree m q) ≡ op Add (lf (input_leaf y)) c.form.product) ⊎ (shape (tree m q) ≡ op Add c.form.product (lf (input_leaf y)))
          → (expression_at m q ≡ Operation Add d.input d.product) ⊎ (expression_at m q ≡ Operation Add d.product d.input) → Unf (look m) c.form.product d.product
      at_product (inl e) h = let (l, r, p, v, w) = subst (λ (t : Shape). Unf (look m) t q) e whole in go l r p v w h
        where
          go : (l r : ℕ) → look m q ≡ Some (op_e Add l r) → look m l ≡ Some (leaf_e (input_leaf y)) → Unf (look m) c.form.product r → (expression_at m q ≡ Operation Add d.input d.product) ⊎ (expression_at m q ≡ Operation Add d.product d.input)
              → Unf (look m) c.form.product d.product
          go l r p v w (inl k) = let k' = looks q (Operation Add d.input d.product) here k in let e : r ≡ d.product = cc in rw e at w
          go l r p v w (inr k) =
              let k' = looks q (Operation Add d.product d.input) here k in
              let e : r ≡ d.input = cc in
              absurd (no_op d.input (product_op c.u c.form.product d.input c.form.is_product (rw e at w)) d.is_input)
      at_product (inr e) h = let (l, r, p, v, w) = subst (λ (t : Shape). Unf (look m) t q) e whole in go l r p v w h
        where
          go : (l r : ℕ) → look m q ≡ Some (op_e Add l r) → Unf (look m) c.form.product l → look m r ≡ Some (leaf_e (input_leaf y)) → (expression_at m q ≡ Operation Add d.input d.product) ⊎ (expression_at m q ≡ Operation Add d.product d.input)
              → Unf (look m) c.form.product d.product
          go l r p v w (inr k) = let k' = looks q (Operation Add d.product d.input) here k in let e : l ≡ d.product = cc in rw e at v
          go l r p v w (inl k) =
              let k' = looks q (Operation Add d.input d.product) here k in
              let e : l ≡ d.input = cc in
              absurd (no_op d.input (product_op c.u c.form.product d.input c.form.is_product (rw e at v)) d.is_input)

  -- an input met on the walk is one of the shape
  reads_at : (a b : ℕ) (t : Tree) (e : ℕ) → Tru (look m) t e → Reads a b (shape t) → (i : ℕ) → In i (walk t) → (q : Position) → expression_at m i ≡ Input q → Taken a b q
  unfolding walk
  reads_at a b (leaf j x) e (f, p) r i (inr h) q k = absurd h
  reads_at a b (leaf j x) e (f, p) r i (inl h) q k =
      let d : i ≡ e = h ∙ f in
      let g : expr_of (expression_at m e) ≡ leaf_e x = look_is m e (leaf_e x) p in
      let k' : expression_at m e ≡ Input q = rw d at k in
      let z : x ≡ input_leaf q = cc in
      subst (λ (l : Leaf). Reads a b (lf l)) z r
  reads_at a b (branch j o s t) e (f, l, r, p, v, w) (x, y) i h q k = go (λ d. reads_at a b s l v x i d q k) (λ d. reads_at a b t r w y i d q k) (in_cases i (walk s) (j ∷ walk t) h)
    where
      go : (In i (walk s) → Taken a b q) → (In i (walk t) → Taken a b q) → In i (walk s) ⊎ In i (j ∷ walk t) → Taken a b q
      go g g' (inl d) = g d
      go g g' (inr (inr d)) = g' d
      go g g' (inr (inl d)) =
          let d' : i ≡ e = d ∙ f in
          let n : expr_of (expression_at m e) ≡ op_e o l r = look_is m e (op_e o l r) p in
          let k' : expression_at m e ≡ Input q = rw d' at k in
          absurd (let z : ◌≡◌ {A = ℕ} 0 1 = cc in omega arith)

  -- where every next-row input of the circuit is below c and d
  pub next_at : (c d : ℕ) → ((i : ℕ) (q : Position) → is_next q ≡ true → look m i ≡ Some (leaf_e (input_leaf q)) → Taken c d q) → (t : Tree) (e : ℕ) → Tru (look m) t e → (i : ℕ) → In i (walk t) → (q : Position) → is_next q ≡ true → expression_at m i ≡ Input q → Taken c d q
  next_at c d h t e v i k q n f =
      let p = mirror (look m) (look m) t t e e v v refl i k in
      h i q n (looks i (Input q) (has_used m p.form i p.was) f)

  -- USES
  pub uses : (a b c d : ℕ) (u : Shape) (e : ℕ) → ((i : ℕ) (q : Position) → is_next q ≡ true → look m i ≡ Some (leaf_e (input_leaf q)) → Taken c d q) → Unf (look m) u e → Reads a b u → Uses m e a b c d
  uses a b c d u e n w r =
      let t : Tru (look m) (tree m e) e = tree_of m u e w in
      let r' : Reads a b (shape (tree m e)) = rw (shape_is m u e w) r in
      record {
        main = λ i j h k. reads_at a b (tree m e) e t r' i h (Main j) k;
        aux = λ i j h k. reads_at a b (tree m e) e t r' i h (Aux j) k;
        next_main = λ i j h k. next_at c d n (tree m e) e t i h (NextMain j) refl k;
        next_aux = λ i j h k. next_at c d n (tree m e) e t i h (NextAux j) refl k;
      }

  pub base_at : (u : Shape) (e : ℕ) → Unf (look m) u e → base_s u ≡ true → is_base (tree m e) ≡ true
  base_at u e w h = base_shape (tree m e) ∙ ap base_s (shape_is m u e w) ∙ h
