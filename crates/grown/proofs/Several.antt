-- Several steps, one after the other: negate, subtract and sum. Assumes nothing.
use Prim.Native.Nat.{ℕ, ◌<◌, ◌≤◌}
use mathlib.Core.Path.{◌≡◌, refl, ap, ap₂}
use mathlib.Core.Bool.{true, false}
use mathlib.Core.List.{List, [], ◌∷◌, map}
use native.Mathlib.Omega.{arith}
use lib.Dec.{leb}
use borrow.Author.Tests.{lt-leb, leb-false}
use Rattle.arithmetic.specs.Base.{p, minus_one}
use Rattle.layout.specs.declared.node.Op.{Op}
use Rattle.layout.specs.declared.node.Op.TheVariants.{Add, Multiply}
use Rattle.layout.specs.declared.node.Expression.TheVariants.{Base}
use Rattle.layout.specs.Lists.{any}
use Rattle.layout.specs.Words.{used}
use Rattle.layout.specs.NotCircuit.{bad_expression, not_circuit, bad_id}
use Rattle.layout.specs.Tree.{Leaf, Tree, leaf, branch, base_leaf, tree, same}
use Rattle.layout.proofs.Tests.{neither, or-false}
use Rattle.classes.proofs.Shapes.{shape, same_shape}
use Rattle.building.specs.Building.{Built, find_or_make, operate, negated, subtracted, summed_from, full}
use Rattle.grown.specs.Results as results
use Rattle.grown.specs.Results.{Operated, Negated, Subtracted, Summed}
use Rattle.build.proofs.Growing.{Grown, grown_used, grown_kept, find_grows, operate_grows, negate_grows, sum_grows}
use Rattle.build.proofs.Runs.{full_not, not_full}
use Rattle.grown.proofs.Built.{Builds, builds_none, builds_then}
use Rattle.grown.proofs.Found.{leaf_builds}
use Rattle.grown.proofs.Operates.{operate_operates}

-- room for all of them is room for the first, and then for the rest
room_then : (m : List ℕ) (b c : Built) → Grown m b.circuit → Grown b.circuit c.circuit → full m c ≡ false → (full m b ≡ false) × (full b.circuit c ≡ false)
room_then m b c g h f =
    let x = full_not m c f in
    let y = grown_used h in
    let k = grown_kept g (omega arith) (used b.circuit) (omega arith) in
    let l = k.1 in
    (not_full m b (omega arith), not_full b.circuit c (omega arith))

-- a tree that is equal to a leaf is that leaf
pub record IsTree (t : Tree) (a : Leaf) : Type 0 where
  pub id : ℕ
  pub is : t ≡ leaf id a

pub leaf_is : (t : Tree) (i : ℕ) (a : Leaf) → same t (leaf i a) ≡ true → IsTree t a
unfolding shape
leaf_is (leaf j b) i a h = let e = same_shape (leaf j b) (leaf i a) h in let q : b ≡ a = cc in record { id = j; is = ap (leaf j) q }
leaf_is (branch j o l r) i a h = let e = same_shape (branch j o l r) (leaf i a) h in let z : ◌≡◌ {A = ℕ} 0 1 = cc in absurd (omega arith)

pub record Negates (m : List ℕ) (b : Built) (s : Tree) : Type 0 where
  pub builds : Builds m b
  pub result : Negated s (tree b.circuit b.id)

pub negate_negates : (m : List ℕ) (a : ℕ) → not_circuit m ≡ false → a < used m → full m (negated m a) ≡ false → Negates m (negated m a) (tree m a)
unfolding negated bad_expression
negate_negates m a valid l h =
    let b : Built = find_or_make m (Base minus_one) in
    let f = room_then m b (negated m a) (find_grows m (Base minus_one)).grown (operate_grows b.circuit Multiply b.id a).grown h in
    let w = leaf_builds m (Base minus_one) valid (lt-leb p minus_one (omega arith)) tt f.0 in
    let x = w.builds in
    let y = x.more in
    let v = operate_operates b.circuit b.id a x.circuit x.below (omega arith) Multiply f.1 in
    let n = leaf_is (tree b.circuit b.id) (used m) (base_leaf minus_one) w.equal in
    record {
      builds = builds_then m b (negated m a) x v.builds;
      result = record { minus = n.id; product = moved n.is (x.trees a l) v.result };
    }
  where
    moved : {o : Op} {s s' t t' u : Tree} → s ≡ s' → t ≡ t' → Operated o s t u → Operated o s' t' u
    moved p q h = rw (p, q) at h

pub record Subtracts (m : List ℕ) (b : Built) (s t : Tree) : Type 0 where
  pub builds : Builds m b
  pub result : Subtracted s t (tree b.circuit b.id)

pub subtract_subtracts : (m : List ℕ) (a c : ℕ) → not_circuit m ≡ false → a < used m → c < used m → full m (subtracted m a c) ≡ false → Subtracts m (subtracted m a c) (tree m a) (tree m c)
unfolding subtracted
subtract_subtracts m a c valid l k h =
    let b : Built = negated m c in
    let f = room_then m b (subtracted m a c) (negate_grows m c).grown (operate_grows b.circuit Add a b.id).grown h in
    let w = negate_negates m c valid k f.0 in
    let x = w.builds in
    let y = x.more in
    let v = operate_operates b.circuit a b.id x.circuit (omega arith) x.below Add f.1 in
    record {
      builds = builds_then m b (subtracted m a c) x v.builds;
      result = record { negative = tree b.circuit b.id; negates = w.result; sum = moved (x.trees a l) v.result };
    }
  where
    moved : {o : Op} {s s' t u : Tree} → s ≡ s' → Operated o s t u → Operated o s' t u
    moved p h = rw p at h

pub record Sums (m : List ℕ) (b : Built) (s : Tree) (ts : List Tree) : Type 0 where
  pub builds : Builds m b
  pub result : Summed s ts (tree b.circuit b.id)

pub sum_sums : (m : List ℕ) (i : ℕ) (js : List ℕ) → not_circuit m ≡ false → i < used m → bad_id m js ≡ false → full m (summed_from m i js) ≡ false → Sums m (summed_from m i js) (tree m i) (map (tree m) js)
unfolding summed_from bad_id any
sum_sums m i [] valid l k h = record { builds = builds_none m i valid l; result = results.ends }
sum_sums m i (j ∷ js) valid l k h =
    let b : Built = operate m Add i j in
    let (z, zs) = neither (leb (used m) j) (any (leb (used m)) js) k in
    let g = leb-false (used m) j z in
    let f = room_then m b (summed_from b.circuit b.id js) (operate_grows m Add i j).grown (sum_grows b.circuit b.id js).grown h in
    let w = operate_operates m i j valid l g Add f.0 in
    let x = w.builds in
    let v = sum_sums b.circuit b.id js x.circuit x.below (still_good m b.circuit js x.more zs) f.1 in
    record {
      builds = builds_then m b (summed_from b.circuit b.id js) x v.builds;
      result = results.adds w.result (moved (same_trees m b.circuit js x.trees zs) v.result);
    }
  where
    still_good : (m m' js : List ℕ) → used m ≤ used m' → any (leb (used m)) js ≡ false → any (leb (used m')) js ≡ false
    still_good m m' [] q h = refl
    still_good m m' (j ∷ js) q h =
        let (z, zs) = neither (leb (used m) j) (any (leb (used m)) js) h in
        let g = leb-false (used m) j z in
        or-false (leb (used m') j) (any (leb (used m')) js) (lt-leb (used m') j (omega arith)) (still_good m m' js q zs)

    same_trees : (m m' js : List ℕ) → ((j : ℕ) → j < used m → tree m' j ≡ tree m j) → any (leb (used m)) js ≡ false → map (tree m') js ≡ map (tree m) js
    same_trees m m' [] f h = refl
    same_trees m m' (j ∷ js) f h =
        let (z, zs) = neither (leb (used m) j) (any (leb (used m)) js) h in
        ap₂ ◌∷◌ (f j (leb-false (used m) j z)) (same_trees m m' js f zs)

    moved : {s u : Tree} {ts ts' : List Tree} → ts ≡ ts' → Summed s ts u → Summed s ts' u
    moved p h = rw p at h
