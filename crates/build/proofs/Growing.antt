-- What building makes of a circuit is that circuit with nodes made, one after the other: its used count never falls, and while there is room,
-- no other word changes. Assumes nothing.
use Rattle.std.specs.Prelude.{if◌then◌else◌, Option, None, Some}
use Prim.Native.Nat.{ℕ, ◌+◌, ◌<◌, ◌≤◌}
use mathlib.Core.Path.{◌≡◌, refl, ◌∙◌}
use mathlib.Core.Logic.{inl, inr, ⊎_elim}
use mathlib.Core.Bool.{Bool, true, false}
use mathlib.Core.List.{List, [], ◌∷◌}
use native.Mathlib.Omega.{arith}
use lib.ListN.{length}
use Rattle.arithmetic.specs.declared.Triple.{Triple}
use Rattle.arithmetic.specs.Base.{minus_one}
use Rattle.layout.specs.declared.node.Op.{Op}
use Rattle.layout.specs.declared.node.Op.TheVariants.{Add, Multiply}
use Rattle.layout.specs.declared.node.Expression.{Expression}
use Rattle.layout.specs.declared.node.Expression.TheVariants.{Base, Operation}
use Rattle.layout.specs.Words.{used, limit, expression_at, made, constant_of, constant, is_constant, apply}
use Rattle.circuit.proofs.Places.{made_length, made_limit}
use Rattle.building.specs.Building.{Built, built, find, or_else, find_or_make, either_order, folded_or, folding, operate, negated, subtracted, summed_from}
use Rattle.build.specs.Inner.{simplified, Kept}
use Rattle.build.proofs.Making.{made_one, made_word}

-- m with nodes made
pub data Grown (m : List ℕ) : List ℕ → Type 0 where
  still : Grown m m
  more : {m' : List ℕ} (e : Expression) → Grown m m' → Grown m (made m' e)

pub grown_used : {m m' : List ℕ} → Grown m m' → used m ≤ used m'
grown_used still = omega arith
grown_used (more {m' = m'} e g) = let h = grown_used g in let p = made_one m' e in omega arith

pub grown_then : {m m' m'' : List ℕ} → Grown m m' → Grown m' m'' → Grown m m''
grown_then g still = g
grown_then g (more e h) = more e (grown_then g h)

-- while there is room, the lent words are as many, and only the new places' words and the used count change
pub grown_kept : {m m' : List ℕ} → Grown m m' → used m' ≤ limit m → (most : ℕ) → used m' ≤ used m + most → Kept most m m' × (limit m' ≡ limit m)
grown_kept {m = m} still r most f = (record { lengths = refl; grows = omega arith; few = f; inside = r; words = λ j p h. refl }, refl)
grown_kept {m = m} (more {m' = m'} e g) r most f =
    let u = made_one m' e in
    let (k, l) = grown_kept g (omega arith) most (omega arith) in
    let s : used m' < limit m' = omega arith in
    let v = k.grows in (
      record {
        lengths = made_length m' e s ∙ k.lengths;
        grows = omega arith;
        few = f;
        inside = r;
        words = λ j p h. made_word m' e s j p (⊎_elim (λ x. inl (omega arith)) (λ x. inr (omega arith)) h) ∙ k.words j p (⊎_elim inl (λ x. inr (omega arith)) h);
      },
      made_limit m' e s ∙ l,
    )

-- with so many at most
pub record Grows (most : ℕ) (m m' : List ℕ) : Type 0 where
  pub grown : Grown m m'
  pub few : used m' ≤ used m + most

pub grows_not : (most : ℕ) (m : List ℕ) → Grows most m m
grows_not most m = record { grown = still; few = omega arith }

pub grows_then : {m m' m'' : List ℕ} (a b : ℕ) → Grows a m m' → Grows b m' m'' → Grows (a + b) m m''
grows_then a b g h = let x = g.few in let y = h.few in record { grown = grown_then g.grown h.grown; few = omega arith }

-- the definitions

pub find_grows : (m : List ℕ) (e : Expression) → Grows 1 m (find_or_make m e).circuit
unfolding find_or_make
find_grows m e = go (find m e)
  where
    go : (f : Option ℕ) → Grows 1 m (or_else f m (built (made m e) (used m))).circuit
    go None = let u = made_one m e in record { grown = more e still; few = omega arith }
    go (Some i) = grows_not 1 m

either_grows : (m : List ℕ) (o : Op) (l r : ℕ) → Grows 1 m (either_order m o l r).circuit
unfolding either_order
either_grows m o l r = go (find m (Operation o r l))
  where
    go : (f : Option ℕ) → Grows 1 m (or_else f m (find_or_make m (Operation o l r))).circuit
    go None = find_grows m (Operation o l r)
    go (Some i) = grows_not 1 m

folding_grows : (m : List ℕ) (o : Op) (l r : ℕ) → Grows 1 m (folding m o l r).circuit
unfolding folding
folding_grows m o l r = go (constant_of (expression_at m l)) (constant_of (expression_at m r))
  where
    go : (x y : Option Triple) → Grows 1 m (folded_or x y m o l r).circuit
    go (Some x) (Some y) = find_grows m (constant (apply o x y))
    go (Some x) None = either_grows m o l r
    go None y = either_grows m o l r

-- the tests of `operate`, apart from what is left after them
pub operate_is : (m : List ℕ) (o : Op) (l r : ℕ) → operate m o l r ≡ or_else (simplified m o l r) m (folding m o l r)
unfolding operate simplified
operate_is m Add l r = go (is_constant 0 m r) (is_constant 0 m l)
  where
    go : (a b : Bool) → (if a then built m l else if b then built m r else folding m Add l r) ≡ or_else (if a then Some l else if b then Some r else None) m (folding m Add l r)
    go true b = refl
    go false true = refl
    go false false = refl
operate_is m Multiply l r = go (is_constant 1 m r) (is_constant 1 m l) (is_constant 0 m r) (is_constant 0 m l)
  where
    go : (a b c d : Bool) → (if a then built m l else if b then built m r else if c then built m r else if d then built m l else folding m Multiply l r) ≡ or_else (if a then Some l else if b then Some r else if c then Some r else if d then Some l else None) m (folding m Multiply l r)
    go true b c d = refl
    go false true c d = refl
    go false false true d = refl
    go false false false true = refl
    go false false false false = refl

pub operate_grows : (m : List ℕ) (o : Op) (l r : ℕ) → Grows 1 m (operate m o l r).circuit
operate_grows m o l r = rw (operate_is m o l r) (go (simplified m o l r))
  where
    go : (f : Option ℕ) → Grows 1 m (or_else f m (folding m o l r)).circuit
    go None = folding_grows m o l r
    go (Some i) = grows_not 1 m

pub negate_grows : (m : List ℕ) (a : ℕ) → Grows 2 m (negated m a).circuit
unfolding negated
negate_grows m a =
    let b : Built = find_or_make m (Base minus_one) in
    grows_then 1 1 (find_grows m (Base minus_one)) (operate_grows b.circuit Multiply b.id a)

pub subtract_grows : (m : List ℕ) (a b : ℕ) → Grows 3 m (subtracted m a b).circuit
unfolding subtracted
subtract_grows m a b =
    let n : Built = negated m b in
    grows_then 2 1 (negate_grows m b) (operate_grows n.circuit Add a n.id)

pub sum_grows : (m : List ℕ) (i : ℕ) (js : List ℕ) → Grows (length js) m (summed_from m i js).circuit
unfolding summed_from
sum_grows m i [] = grows_not 0 m
sum_grows m i (j ∷ js) =
    let b : Built = operate m Add i j in
    let g = grows_then 1 (length js) (operate_grows m Add i j) (sum_grows b.circuit b.id js) in
    let f = g.few in
    record { grown = g.grown; few = omega arith }
