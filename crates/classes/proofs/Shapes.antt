-- Equality by structure is equality of shapes, and so an equivalence. Assumes nothing.
use Prim.Native.Nat.{ℕ}
use mathlib.Core.Path.{◌≡◌, refl, sym, ap, ◌∙◌}
use mathlib.Core.Bool.{true, false, ◌&&◌}
use mathlib.Core.List.{List}
use lib.Dec.{eqb}
use lib.ListN.{get_or}
use borrow.Author.Tests.{eq-eqb}
use Rattle.layout.specs.declared.node.Op.{Op}
use Rattle.layout.specs.declared.node.Op.TheVariants.{Add, Multiply}
use Rattle.layout.specs.declared.node.Expression.{Expression}
use Rattle.layout.specs.declared.node.Expression.TheVariants.{Base, Extension, Challenge, Operation, Input}
use Rattle.layout.specs.Words.{op_kind, decode, encode}
use Rattle.layout.specs.Tree.{Leaf, base_leaf, extension_leaf, challenge_leaf, input_leaf, Tree, leaf, branch, plain, same}
use Rattle.circuit.proofs.Places.{decode-encode}
use Rattle.layout.proofs.Lists.{clash, and-true, and_both, same_test}
use Rattle.classes.proofs.Words.{words_refl, words_equal}

-- a tree without its ids
unfoldable pub shape : Tree → Tree
shape (leaf i a) = leaf 0 a
shape (branch i o l r) = branch 0 o (shape l) (shape r)

-- what is encoded alike is one expression
pub encode_one : (e f : Expression) → encode e ≡ encode f → e ≡ f
encode_one e f h =
    sym (decode-encode e)
    ∙ ap (λ (w : List ℕ). decode (get_or w 0 0) (get_or w 1 0) (get_or w 2 0) (get_or w 3 0)) h
    ∙ decode-encode f

-- the leaf that an expression is
abbrev leaf_of : Expression → Leaf
leaf_of (Base w) = base_leaf w
leaf_of (Extension x) = extension_leaf x
leaf_of (Challenge k) = challenge_leaf k
leaf_of (Operation o l r) = base_leaf 0
leaf_of (Input q) = input_leaf q

leaf_plain : (a : Leaf) → leaf_of (plain a) ≡ a
leaf_plain (base_leaf w) = refl
leaf_plain (extension_leaf x) = refl
leaf_plain (challenge_leaf k) = refl
leaf_plain (input_leaf q) = refl

pub plain_one : (a b : Leaf) → plain a ≡ plain b → a ≡ b
plain_one a b h = sym (leaf_plain a) ∙ ap leaf_of h ∙ leaf_plain b

same_op : (o q : Op) → eqb (op_kind o) (op_kind q) ≡ true → o ≡ q
same_op Add Add h = refl
same_op Add Multiply h = clash false h refl
same_op Multiply Add h = clash false h refl
same_op Multiply Multiply h = refl

pub same_shape : (s t : Tree) → same s t ≡ true → shape s ≡ shape t
unfolding same shape
same_shape (leaf i a) (leaf j b) h = ap (leaf 0) (plain_one a b (encode_one (plain a) (plain b) (words_equal (encode (plain a)) (encode (plain b)) h)))
same_shape (leaf i a) (branch j q u v) h = clash false h refl
same_shape (branch i o l r) (leaf j b) h = clash false h refl
same_shape (branch i o l r) (branch j q u v) h =
    let (a, b) = and-true (eqb (op_kind o) (op_kind q)) (same l u && same r v) h in
    let (c, d) = and-true (same l u) (same r v) b in
    rw (same_op o q a, same_shape l u c, same_shape r v d)

pub shape_same : (s t : Tree) → shape s ≡ shape t → same s t ≡ true
unfolding same shape
shape_same (leaf i a) (leaf j b) h = let e : a ≡ b = cc in rw e (words_refl (encode (plain b)))
shape_same (leaf i a) (branch j q u v) h = cc
shape_same (branch i o l r) (leaf j b) h = cc
shape_same (branch i o l r) (branch j q u v) h =
    let a : o ≡ q = cc in
    let b : shape l ≡ shape u = cc in
    let c : shape r ≡ shape v = cc in
    and_both (eqb (op_kind o) (op_kind q)) (same l u && same r v) (eq-eqb (op_kind o) (op_kind q) (ap op_kind a)) (and_both (same l u) (same r v) (shape_same l u b) (shape_same r v c))

-- an equivalence

pub same_refl : (t : Tree) → same t t ≡ true
same_refl t = shape_same t t refl

pub same_sym : (s t : Tree) → same s t ≡ true → same t s ≡ true
same_sym s t h = shape_same t s (sym (same_shape s t h))

pub same_trans : (s t u : Tree) → same s t ≡ true → same t u ≡ true → same s u ≡ true
same_trans s t u h g = shape_same s u (same_shape s t h ∙ same_shape t u g)

-- it does not tell equal trees apart
pub same_right : (s t u : Tree) → same t u ≡ true → same s t ≡ same s u
same_right s t u h = same_test (same s t) (same s u) (λ g. same_trans s t u g h) (λ g. same_trans s u t g (same_sym t u h))
