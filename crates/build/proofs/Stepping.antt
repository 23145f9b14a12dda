-- The laws of one step: a node that is found or made, in a circuit whose tables fit. Assumes nothing.
use Rattle.std.specs.Prelude.{if◌then◌else◌, None, Option, Some}
use Prim.Native.Nat.{ℕ, ◌+◌, ◌<◌}
use mathlib.Core.Path.{◌≡◌, refl, sym, ap, ◌∙◌}
use mathlib.Core.Bool.{Bool, true, false, ◌&&◌}
use mathlib.Core.List.{List}
use native.Mathlib.Omega.{arith}
use lib.Dec.{leb}
use borrow.Author.Tests.{lt-ltb, le-ltb, lt-leb}
use Rattle.arithmetic.specs.declared.Triple.{Triple}
use Rattle.arithmetic.specs.Base.{p}
use Rattle.arithmetic.specs.Extension.{Canonical, unlifts}
use Rattle.arithmetic.proofs.Algebra.{canonical_plus, canonical_times}
use Rattle.layout.specs.declared.node.Op.{Op}
use Rattle.layout.specs.declared.node.Op.TheVariants.{Add, Multiply}
use Rattle.layout.specs.declared.node.Expression.{Expression}
use Rattle.layout.specs.declared.node.Expression.TheVariants.{Base, Extension, Challenge, Operation, Input}
use Rattle.layout.specs.Words.{used, limit, expression_at, registered, made, constant_of, constant, is_constant, apply}
use Rattle.layout.specs.NotCircuit.{bad_words, bad_expression, not_circuit, either_operand}
use Rattle.layout.specs.Tree.{tree, tree_of, same}
use Rattle.layout.proofs.Tests.{or-false}
use Rattle.layout.proofs.Lists.{Found, first_found}
use Rattle.layout.proofs.Valid.{valid_room}
use Rattle.classes.specs.Find.{least_equal, Classed, Findable, Joinable}
use Rattle.classes.proofs.Finding.{made_joinable}
use Rattle.building.specs.Building.{Built, built, find, or_else, find_or_make, either_order, folding, operate, full}
use Rattle.build.specs.Inner.{simplified, Buildable, Makable, Operable, Taken, Stopped, Step, Stepped}
use Rattle.build.proofs.Making.{made_one, made_circuit}
use Rattle.build.proofs.Growing.{operate_is}

-- an answer by its cases
pub told_at : {rest : Type 0} {m : List ℕ} {b : Built} {r : Option ℕ} {m' num t least : List ℕ} → Step rest m b r m' num t least → (i : ℕ) → r ≡ Some i → Taken m b i m' num t least
told_at s i e = rw e at s.told

pub told_full : {rest : Type 0} {m : List ℕ} {b : Built} {r : Option ℕ} {m' num t least : List ℕ} → Step rest m b r m' num t least → r ≡ None → Stopped rest m b
told_full s e = rw e at s.told

-- the same step by another definition
pub step_of_lem : {rest : Type 0} {m : List ℕ} {b b' : Built} {r : Option ℕ} {m' num t least : List ℕ} → b ≡ b' → Step rest m b r m' num t least → Step rest m b' r m' num t least
step_of_lem e s = rw e at s

-- nothing is made
pub stays : (m num t least : List ℕ) (b : Built) (i : ℕ) → Buildable m num t least → i < used m → b ≡ built m i → Stepped m b (Some i) m num t least
unfolding full
stays m num t least b i h l e = record {
  told = record {
    room = rw e (le-ltb (limit m) (used m) (valid_room m h.circuit));
    id = rw e refl;
    below = l;
    after = rw e refl;
    buildable = h;
  };
}

-- an operand of a good expression is a node
pub operands_good : (m : List ℕ) (e : Expression) → bad_expression m e ≡ false → either_operand (leb (used m)) e ≡ false
unfolding bad_expression
operands_good m (Base w) h = refl
operands_good m (Extension x) h = refl
operands_good m (Challenge k) h = refl
operands_good m (Operation o l r) h = h
operands_good m (Input q) h = refl

-- a node made

module _ (m num t least : List ℕ) (e : Expression) (k : Makable m num t least e) where
  pub no_place : limit m < used m + 1 → Stepped m (built (made m e) (used m)) None m num t least
  unfolding full
  no_place h = record {
    told = record {
      over = lt-ltb (limit m) (used (made m e)) (let u = made_one m e in omega arith);
      left = record { same = refl; buildable = k.buildable };
    };
  }

  module _ (room : used m < limit m) (m' : List ℕ) (is : m' ≡ made m e) where
    made_valid : not_circuit (made m e) ≡ false
    made_valid = made_circuit m e k.buildable.circuit k.good room

    pub joins : Joinable m' num t least
    joins = rw is (made_joinable m e num t least k.buildable.circuit room (operands_good m e k.good) made_valid k.buildable.classed)

    pub made_step : (num' t' least' : List ℕ) → Classed m' (used m') num' t' least' → Stepped m (built (made m e) (used m)) (Some (used m)) m' num' t' least'
    unfolding full
    made_step num' t' least' c = record {
      told = record {
        room = le-ltb (limit m) (used (made m e)) (let u = made_one m e in omega arith);
        id = refl;
        below = rw is (let u = made_one m e in omega arith);
        after = is;
        buildable = record { circuit = rw is made_valid; classed = c };
      };
    }

-- a search

or_else_at : (f : Option ℕ) (x : Option ℕ) (m : List ℕ) (b : Built) (i : ℕ) → f ≡ x → f ≡ Some i → or_else x m b ≡ built m i
or_else_at f x m b i p e = rw (sym p ∙ e)

or_else_next : (f : Option ℕ) (x : Option ℕ) (m : List ℕ) (b : Built) → f ≡ x → f ≡ None → or_else x m b ≡ b
or_else_next f x m b p e = rw (sym p ∙ e)

find_same : (m : List ℕ) (e : Expression) → least_equal m e ≡ find m e
unfolding least_equal find
find_same m e = refl

-- what is found is a node
pub find_below_lem : (m : List ℕ) (e : Expression) (i : ℕ) → find m e ≡ Some i → i < used m
unfolding find
find_below_lem m e i h = go (find m e) h (first_found (λ j. registered m j && same (tree m j) (tree_of m e)) (used m))
  where
    go : (f : Option ℕ) → f ≡ Some i → Found (λ j. registered m j && same (tree m j) (tree_of m e)) (used m) f → i < used m
    go None p g = absurd (let z : ◌≡◌ {A = ℕ} 0 1 = cc in omega arith)
    go (Some j) p g = let q : j ≡ i = cc in rw q at g.below

module _ (m num t least : List ℕ) (e : Expression) (k : Makable m num t least e) where
  pub findable : Findable m num t least e
  findable = record { circuit = k.buildable.circuit; classed = k.buildable.classed; operands = operands_good m e k.good }

  module _ (f : Option ℕ) (g : f ≡ least_equal m e) where
    pub found_here : (i : ℕ) → f ≡ Some i → Stepped m (find_or_make m e) (Some i) m num t least
    unfolding find_or_make
    found_here i q =
        stays m num t least (find_or_make m e) i k.buildable
        (find_below_lem m e i (sym (g ∙ find_same m e) ∙ q))
        (or_else_at f (find m e) m (built (made m e) (used m)) i (g ∙ find_same m e) q)

    pub found_none : f ≡ None → built (made m e) (used m) ≡ find_or_make m e
    unfolding find_or_make
    found_none q = sym (or_else_next f (find m e) m (built (made m e) (used m)) (g ∙ find_same m e) q)

-- an operation

-- a test that gives an operand gives a node
one_of : (n i : ℕ) (b : Bool) (j : ℕ) (x : Option ℕ) → j < n → (x ≡ Some i → i < n) → (if b then Some j else x) ≡ Some i → i < n
one_of n i true j x l f h = let q : j ≡ i = cc in rw q at l
one_of n i false j x l f h = f h

pub simple_below : (m : List ℕ) (o : Op) (l r : ℕ) → l < used m → r < used m → (i : ℕ) → simplified m o l r ≡ Some i → i < used m
unfolding simplified
simple_below m Add l r a b i h =
    one_of (used m) i (is_constant 0 m r) l _ a (one_of (used m) i (is_constant 0 m l) r None b (λ p. absurd (let z : ◌≡◌ {A = ℕ} 0 1 = cc in omega arith))) h
simple_below m Multiply l r a b i h =
    one_of (used m) i (is_constant 1 m r) l _ a
    (one_of (used m) i (is_constant 1 m l) r _ b
    (one_of (used m) i (is_constant 0 m r) r _ b
    (one_of (used m) i (is_constant 0 m l) l None a (λ p. absurd (let z : ◌≡◌ {A = ℕ} 0 1 = cc in omega arith)))))
    h

pub good_operation : (m : List ℕ) (o : Op) (l r : ℕ) → l < used m → r < used m → bad_expression m (Operation o l r) ≡ false
unfolding bad_expression
good_operation m o l r a b = or-false (leb (used m) l) (leb (used m) r) (lt-leb (used m) l a) (lt-leb (used m) r b)

module _ (m num t least : List ℕ) (o : Op) (l r : ℕ) (k : Operable m num t least l r) where
  pub operation_makable : Makable m num t least (Operation o l r)
  operation_makable = record { buildable = k.buildable; good = good_operation m o l r k.left k.right }

  pub swapped_findable : Findable m num t least (Operation o r l)
  swapped_findable = findable m num t least (Operation o r l) (record { buildable = k.buildable; good = good_operation m o r l k.right k.left })

  module _ (f : Option ℕ) (g : f ≡ least_equal m (Operation o r l)) where
    pub swapped_here : (i : ℕ) → f ≡ Some i → Stepped m (either_order m o l r) (Some i) m num t least
    unfolding either_order
    swapped_here i q =
        stays m num t least (either_order m o l r) i k.buildable
        (find_below_lem m (Operation o r l) i (sym (g ∙ find_same m (Operation o r l)) ∙ q))
        (or_else_at f (find m (Operation o r l)) m (find_or_make m (Operation o l r)) i (g ∙ find_same m (Operation o r l)) q)

    pub swapped_none : f ≡ None → find_or_make m (Operation o l r) ≡ either_order m o l r
    unfolding either_order
    swapped_none q = sym (or_else_next f (find m (Operation o r l)) m (find_or_make m (Operation o l r)) (g ∙ find_same m (Operation o r l)) q)

  -- the tests before

  module _ (f : Option ℕ) (g : f ≡ simplified m o l r) where
    pub simple_here : (i : ℕ) → f ≡ Some i → Stepped m (operate m o l r) (Some i) m num t least
    simple_here i q =
        stays m num t least (operate m o l r) i k.buildable
        (simple_below m o l r k.left k.right i (sym g ∙ q))
        (operate_is m o l r ∙ or_else_at f (simplified m o l r) m (folding m o l r) i g q)

    pub simple_none : f ≡ None → folding m o l r ≡ operate m o l r
    simple_none q = sym (operate_is m o l r ∙ or_else_next f (simplified m o l r) m (folding m o l r) g q)

-- a fold

-- a constant of three words below p can be a node
pub constant_good : (m : List ℕ) (x : Triple) → Canonical x → bad_expression m (constant x) ≡ false
unfolding constant bad_expression bad_words
constant_good m x c = go (unlifts x) refl
  where
    go : (b : Bool) → unlifts x ≡ b → bad_expression m (if b then Base x.c0 else Extension x) ≡ false
    go true e = lt-leb p x.c0 c.below0
    go false e = rw (lt-leb p x.c0 c.below0, lt-leb p x.c1 c.below1, lt-leb p x.c2 c.below2, e)

pub apply_canonical : (o : Op) (x y : Triple) → Canonical (apply o x y)
apply_canonical Add x y = canonical_plus x y
apply_canonical Multiply x y = canonical_times x y

-- what a node's constant is, as it was read
pub constant_read : (v w : Option Triple) (e e₁ : Expression) → e₁ ≡ e → v ≡ constant_of e₁ → v ≡ w → constant_of e ≡ w
constant_read v w e e₁ p q h = ap constant_of (sym p) ∙ sym q ∙ h

module _ (m num t least : List ℕ) (o : Op) (l r : ℕ) (k : Operable m num t least l r) (x y z : Triple) (e : Expression) (folds : z ≡ apply o x y) (is : e ≡ constant z) where
  pub fold_makable : Makable m num t least e
  fold_makable = record { buildable = k.buildable; good = rw (is, folds) (constant_good m (apply o x y) (apply_canonical o x y)) }

  pub fold_two : constant_of (expression_at m l) ≡ Some x → constant_of (expression_at m r) ≡ Some y → find_or_make m e ≡ folding m o l r
  unfolding folding
  fold_two p q = rw (is, folds, p, q)

module _ (m : List ℕ) (o : Op) (l r : ℕ) where
  pub fold_left : constant_of (expression_at m l) ≡ None → either_order m o l r ≡ folding m o l r
  unfolding folding
  fold_left p = rw p

  pub fold_right : (x : Triple) → constant_of (expression_at m l) ≡ Some x → constant_of (expression_at m r) ≡ None → either_order m o l r ≡ folding m o l r
  unfolding folding
  fold_right x p q = rw (p, q)
