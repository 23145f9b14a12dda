-- A leaf and the nodes that have its words. Assumes nothing.
use Rattle.std.specs.Prelude.{if◌then◌else◌, Some, Option, None}
use Prim.Native.Nat.{ℕ, ◌<◌, ◌≤◌}
use mathlib.Core.Path.{◌≡◌, refl, sym, ap, ◌∙◌}
use mathlib.Core.Bool.{Bool, true, false, ◌&&◌}
use mathlib.Core.List.{List}
use native.Mathlib.Omega.{arith}
use borrow.Author.Tests.{le-ltb, lt-ltb}
use Rattle.arithmetic.specs.declared.Triple.{Triple}
use Rattle.arithmetic.specs.Extension.{unlifts}
use Rattle.layout.specs.declared.node.Position.TheVariants.{Main, Aux, NextMain, NextAux}
use Rattle.layout.specs.declared.node.Op.TheVariants.{Add, Multiply}
use Rattle.layout.specs.declared.node.Expression.{Expression}
use Rattle.layout.specs.declared.node.Expression.TheVariants.{Base, Extension, Challenge, Operation, Input}
use Rattle.layout.specs.Lists.{same_words, up_to, first}
use Rattle.layout.specs.Words.{used, limit, expression_at, registered, encode, constant, made}
use Rattle.layout.specs.Tree.{Tree, tree_over, tree, tree_of, same}
use Rattle.layout.proofs.Lists.{Found, first-is, first-same, clash}
use Rattle.layout.proofs.Refusals.{refusal_none, refusal_here, refusal_next, outcome_refused, outcome_accepted}
use Rattle.layout.proofs.Trees.{tree_fixed}
use Rattle.layout.proofs.Valid.{valid_room}
use Rattle.layout.specs.Answers.{accepted, refused}
use Rattle.building.specs.Building.{find, find_or_make, full}
use Rattle.build.proofs.Making.{made_one}
use Rattle.build_calls.specs.Answers.{ending}
use Rattle.build_calls.specs.Leaves.{is_leaf, has_words, Leafy}

-- an expression and a leaf are equal by structure exactly where their words are
over_leaf : (i j : ℕ) (f e : Expression) (below : ℕ → Tree) → is_leaf e ≡ true → same (tree_over i f below) (tree_over j e below) ≡ same_words (encode f) (encode e)
unfolding same same_words encode
over_leaf i j (Base v) (Base w) below h = refl
over_leaf i j (Base v) (Extension x) below h = refl
over_leaf i j (Base v) (Challenge k) below h = refl
over_leaf i j (Base v) (Input q) below h = refl
over_leaf i j (Extension v) (Base w) below h = refl
over_leaf i j (Extension v) (Extension x) below h = refl
over_leaf i j (Extension v) (Challenge k) below h = refl
over_leaf i j (Extension v) (Input q) below h = refl
over_leaf i j (Challenge v) (Base w) below h = refl
over_leaf i j (Challenge v) (Extension x) below h = refl
over_leaf i j (Challenge v) (Challenge k) below h = refl
over_leaf i j (Challenge v) (Input q) below h = refl
over_leaf i j (Input v) (Base w) below h = refl
over_leaf i j (Input v) (Extension x) below h = refl
over_leaf i j (Input v) (Challenge k) below h = refl
over_leaf i j (Input v) (Input q) below h = refl
over_leaf i j (Operation Add l r) (Base w) below h = refl
over_leaf i j (Operation Add l r) (Extension x) below h = refl
over_leaf i j (Operation Add l r) (Challenge k) below h = refl
over_leaf i j (Operation Add l r) (Input (Main c)) below h = refl
over_leaf i j (Operation Add l r) (Input (Aux c)) below h = refl
over_leaf i j (Operation Add l r) (Input (NextMain c)) below h = refl
over_leaf i j (Operation Add l r) (Input (NextAux c)) below h = refl
over_leaf i j (Operation Multiply l r) (Base w) below h = refl
over_leaf i j (Operation Multiply l r) (Extension x) below h = refl
over_leaf i j (Operation Multiply l r) (Challenge k) below h = refl
over_leaf i j (Operation Multiply l r) (Input (Main c)) below h = refl
over_leaf i j (Operation Multiply l r) (Input (Aux c)) below h = refl
over_leaf i j (Operation Multiply l r) (Input (NextMain c)) below h = refl
over_leaf i j (Operation Multiply l r) (Input (NextAux c)) below h = refl
over_leaf i j f (Operation o l r) below h = clash false h refl

pub constant_leaf : (x : Triple) → is_leaf (constant x) ≡ true
unfolding constant
constant_leaf x = go (unlifts x)
  where
    go : (b : Bool) → is_leaf (if b then Base x.c0 else Extension x) ≡ true
    go true = refl
    go false = refl

-- the loop over the nodes: None before the i-th has the words
abbrev pub NoneBefore : List ℕ → List ℕ → ℕ → Type 0
NoneBefore m ws i = (j : ℕ) → j < i → has_words m ws j ≡ false

module _ (m : List ℕ) (e : Expression) (k : Leafy m e) where
  -- so the search by words is the search by structure
  words_find : find m e ≡ first (has_words m (encode e)) (up_to (used m))
  unfolding find
  words_find = first-same _ _ (used m) (λ i l. ap (λ (t : Tree). registered m i && same t (tree_of m e)) (tree_fixed m k.circuit i l) ∙ ap (λ (b : Bool). registered m i && b) (over_leaf i (used m) (expression_at m i) e (tree m) k.leaf))

  pub leaf_found : (ws : List ℕ) (r : Option ℕ) → ws ≡ encode e → Found (has_words m ws) (used m) r → r ≡ find m e
  leaf_found ws r w f = sym (words_find ∙ ap (λ (v : List ℕ). first (has_words m v) (up_to (used m))) (sym w) ∙ first-is (has_words m ws) (used m) r f)

  -- what the loop finds: the i-th, or None
  pub leaf_here : (ws : List ℕ) (i : ℕ) → ws ≡ encode e → i < used m → NoneBefore m ws i → has_words m ws i ≡ true → Some i ≡ find m e
  leaf_here ws i w l h p = leaf_found ws (Some i) w (record { below = l; passes = p; before = h })

  pub leaf_nowhere : (ws : List ℕ) (i : ℕ) → ws ≡ encode e → used m ≤ i → NoneBefore m ws i → None ≡ find m e
  leaf_nowhere ws i w l h = leaf_found ws None w (λ j k. h j (omega arith))

  -- the endings of the call

  module _ (f : Option ℕ) (p : f ≡ find m e) where
    pub leaf_at : (i : ℕ) → f ≡ Some i → accepted i m ≡ ending m (find_or_make m e)
    unfolding ending find_or_make full
    leaf_at i h = rw (sym p ∙ h) (sym (outcome_accepted _ i m 0 m (refusal_next 6 _ _ (le-ltb (limit m) (used m) (valid_room m k.circuit)) ∙ refusal_none)))

    pub leaf_full : f ≡ None → limit m ≤ used m → refused 6 0 m ≡ ending m (find_or_make m e)
    unfolding ending find_or_make full
    leaf_full h l = rw (sym p ∙ h) (sym (outcome_refused _ (used m) (made m e) 0 m 5 (refusal_here 6 _ _ (lt-ltb (limit m) (used (made m e)) (let u = made_one m e in omega arith)))))

    pub leaf_made : f ≡ None → used m < limit m → (m' : List ℕ) → m' ≡ made m e → accepted (used m) m' ≡ ending m (find_or_make m e)
    unfolding ending find_or_make full
    leaf_made h l m' g = rw (sym p ∙ h, g) (sym (outcome_accepted _ (used m) (made m e) 0 m (refusal_next 6 _ _ (le-ltb (limit m) (used (made m e)) (let u = made_one m e in omega arith)) ∙ refusal_none)))
