-- A node's walk from its operands' walks, and how often a node stands in it. Assumes nothing.
use Rattle.std.specs.Prelude.{if◌then◌else◌, Option, Some, None}
use Rattle.std.specs.List.{list_any}
use Prim.Native.Nat.{ℕ, zero, suc, ◌+◌, ◌<◌, ◌≤◌}
use mathlib.Core.Path.{◌≡◌, refl, sym, ap, ◌∙◌, ap₂}
use mathlib.Core.Logic.{◌≢◌}
use mathlib.Core.Bool.{Bool, true, false, ◌||◌}
use mathlib.Core.List.{List, [], ◌∷◌, ◌++◌}
use native.Mathlib.Omega.{arith}
use lib.Dec.{eqb, leb}
use lib.ListN.{length, take}
use lib.Seq.{take-suc}
use borrow.Author.Tests.{eq-eqb, ne_eqb, leb-false}
use Rattle.layout.specs.declared.node.Op.{Op}
use Rattle.layout.specs.declared.node.Expression.{Expression}
use Rattle.layout.specs.declared.node.Expression.TheVariants.{Base, Extension, Challenge, Operation, Input}
use Rattle.layout.specs.Lists.{up_to, count, any}
use Rattle.layout.specs.Words.{used, expression_at}
use Rattle.layout.specs.NotCircuit.{not_circuit, bad_id}
use Rattle.layout.specs.Tree.{Tree, tree_over, tree}
use Rattle.std.proofs.lemmas.Option.{some_pair_parts}
use Rattle.circuit.specs.Walk.{step_of}
use Rattle.circuit.specs.Rank.{at}
use Rattle.layout.proofs.Trees.{tree_fixed}
use Rattle.layout.proofs.Valid.{valid_operands}
use Rattle.layout.proofs.Tests.{neither, any-more, any_start}
use Rattle.walking.specs.Paths.{walk, walks, paths}

-- v if j is x
abbrev pub hit : ℕ → ℕ → ℕ → ℕ
hit x j v = if eqb x j then v else 0

pub hit_same : (x j v : ℕ) → x ≡ j → hit x j v ≡ v
hit_same x j v e = rw (eq-eqb x j e)

pub hit_other : (x j v : ℕ) → x ≢ j → hit x j v ≡ 0
hit_other x j v n = rw (ne_eqb x j n)

-- the sum over both operands
abbrev pub both : Option (ℕ × ℕ) → (ℕ → ℕ) → ℕ
both None f = 0
both (Some (l, r)) f = f l + f r

pub count-append : (x : ℕ) (xs ys : List ℕ) → count x (xs ++ ys) ≡ count x xs + count x ys
unfolding count
count-append x [] ys = omega arith
count-append x (y ∷ xs) ys = rw (count-append x xs ys) (omega arith)

-- what a node does at its place, and its operation
pub step_two : (e : Expression) (l r : ℕ) → step_of e ≡ Some (l, r) → (o : Op) × (e ≡ Operation o l r)
step_two (Base w) l r h = let z : ◌≡◌ {A = ℕ} 0 1 = cc in absurd (omega arith)
step_two (Extension w) l r h = let z : ◌≡◌ {A = ℕ} 0 1 = cc in absurd (omega arith)
step_two (Challenge w) l r h = let z : ◌≡◌ {A = ℕ} 0 1 = cc in absurd (omega arith)
step_two (Operation o a b) l r h = let p = some_pair_parts _ _ _ _ h in (o, ap₂ (Operation o) p.0 p.1)
step_two (Input w) l r h = let z : ◌≡◌ {A = ℕ} 0 1 = cc in absurd (omega arith)

-- a node's walk, from its operands'
abbrev pub walk_over : ℕ → Option (ℕ × ℕ) → (ℕ → List ℕ) → List ℕ
walk_over i None f = i ∷ []
walk_over i (Some (l, r)) f = f l ++ (i ∷ f r)

over_walk : (i : ℕ) (e : Expression) (f : ℕ → Tree) → walk (tree_over i e f) ≡ walk_over i (step_of e) (λ j. walk (f j))
unfolding walk
over_walk i (Base w) f = refl
over_walk i (Extension w) f = refl
over_walk i (Challenge w) f = refl
over_walk i (Operation o l r) f = refl
over_walk i (Input w) f = refl

walk_count : (i : ℕ) (s : Option (ℕ × ℕ)) (f : ℕ → List ℕ) (x : ℕ) → count x (walk_over i s f) ≡ hit x i 1 + both s (λ j. count x (f j))
unfolding count
walk_count i None f x = refl
walk_count i (Some (l, r)) f x = rw (count-append x (f l) (i ∷ f r)) (omega arith)

-- the paths from node p to node x
abbrev pub from : List ℕ → ℕ → ℕ → ℕ
from m p x = count x (walk (tree m p))

-- what node p does
abbrev pub step : List ℕ → ℕ → Option (ℕ × ℕ)
step m p = step_of (expression_at m p)

-- the paths from some roots are those from the first and those from the others
pub paths_none : (m : List ℕ) (x : ℕ) → paths m [] x ≡ 0
unfolding paths walks count
paths_none m x = refl

pub paths_more : (m : List ℕ) (r : ℕ) (roots : List ℕ) (x : ℕ) → paths m (r ∷ roots) x ≡ from m r x + paths m roots x
unfolding paths walks
paths_more m r roots x = count-append x (walk (tree m r)) (walks m roots)

pub paths_append : (m xs ys : List ℕ) (x : ℕ) → paths m (xs ++ ys) x ≡ paths m xs x + paths m ys x
paths_append m [] ys x = rw (paths_none m x) (omega arith)
paths_append m (r ∷ xs) ys x = rw (paths_more m r (xs ++ ys) x, paths_more m r xs x, paths_append m xs ys x) (omega arith)

-- roots below the used count
pub roots_first : (m : List ℕ) (r : ℕ) (roots : List ℕ) → bad_id m (r ∷ roots) ≡ false → (r < used m) × (bad_id m roots ≡ false)
unfolding bad_id any
roots_first m r roots h = let (a, b) = neither (leb (used m) r) _ h in (leb-false (used m) r a, b)

pub roots_below : (m roots : List ℕ) → bad_id m roots ≡ false → (k : ℕ) → k < length roots → at roots k < used m
roots_below m [] h k l = absurd (omega arith)
roots_below m (r ∷ roots) h zero l = (roots_first m r roots h).0
roots_below m (r ∷ roots) h (suc k) l = roots_below m roots (roots_first m r roots h).1 k (omega arith)

-- a test over a list, as the library says it
pub any_listed : (f : ℕ → Bool) (xs : List ℕ) → list_any f xs ≡ any f xs
unfolding any
any_listed f [] = refl
any_listed f (x ∷ xs) = ap (λ (b : Bool). f x || b) (any_listed f xs)

any_last : (f : ℕ → Bool) (xs : List ℕ) (x : ℕ) → any f (xs ++ (x ∷ [])) ≡ (any f xs || f x)
unfolding any
any_last f [] x = neutral (f x)
  where
    neutral : (b : Bool) → (b || false) ≡ b
    neutral true = refl
    neutral false = refl
any_last f (y ∷ ys) x = rw (any_last f ys x) (grouped (f y) (any f ys) (f x))
  where
    grouped : (a b c : Bool) → (a || (b || c)) ≡ ((a || b) || c)
    grouped true b c = refl
    grouped false b c = refl

-- over the first n places
pub any_places : (f : ℕ → Bool) (xs : List ℕ) (n : ℕ) → n ≤ length xs → any f (take n xs) ≡ any (λ i. f (at xs i)) (up_to n)
unfolding any
any_places f xs zero l = sym (any_start (λ i. f (at xs i)))
any_places f xs (suc n) l =
    rw (take-suc xs n 0 (omega arith)) (any_last f (take n xs) (at xs n))
    ∙ ap (λ (b : Bool). b || f (at xs n)) (any_places f xs n (omega arith))
    ∙ sym (any-more (λ i. f (at xs i)) n)

module _ (m : List ℕ) (valid : not_circuit m ≡ false) where
  pub walk_step : (p : ℕ) → p < used m → walk (tree m p) ≡ walk_over p (step m p) (λ j. walk (tree m j))
  walk_step p l = ap walk (tree_fixed m valid p l) ∙ over_walk p (expression_at m p) (tree m)

  -- the paths from a node: itself, and those from its operands
  pub from_step : (p : ℕ) → p < used m → (x : ℕ) → from m p x ≡ hit x p 1 + both (step m p) (λ j. from m j x)
  from_step p l x = ap (count x) (walk_step p l) ∙ walk_count p (step m p) (λ j. walk (tree m j)) x

  -- operands are nodes
  pub step_below : (p : ℕ) → p < used m → (l r : ℕ) → step m p ≡ Some (l, r) → (l < used m) × (r < used m)
  step_below p h l r e = let (o, q) = step_two (expression_at m p) l r e in valid_operands m valid p h o l r q
