-- A node found, or else made: what it is equal to, and that no two registered nodes come to be alike. Leaves. Assumes nothing.
use Rattle.std.specs.Prelude.{Option, None, Some}
use Prim.Native.Nat.{ℕ, ◌<◌}
use mathlib.Core.Path.{◌≡◌, refl}
use mathlib.Core.Bool.{Bool, true, false, ◌&&◌}
use mathlib.Core.List.{List}
use native.Mathlib.Omega.{arith}
use Rattle.layout.specs.declared.node.Expression.{Expression}
use Rattle.layout.specs.declared.node.Expression.TheVariants.{Base, Extension, Challenge, Operation, Input}
use Rattle.layout.specs.Words.{used, limit, registered, made}
use Rattle.layout.specs.NotCircuit.{bad_expression, not_circuit}
use Rattle.layout.specs.Tree.{Tree, leaf, base_leaf, tree_over, tree, tree_of, same}
use Rattle.layout.proofs.Tests.{or-false}
use Rattle.layout.proofs.Lists.{clash, and-true, Found, first_found}
use Rattle.classes.proofs.Shapes.{same_refl}
use Rattle.building.specs.Building.{Built, built, find, or_else, find_or_make, full}
use Rattle.grown.specs.Results.{leaf_tree, alike}
use Rattle.build.proofs.Making.{made_one}
use Rattle.build.proofs.Stepping.{find_below_lem}
use Rattle.build.proofs.Runs.{full_not}
use Rattle.grown.proofs.Built.{new_tree, Builds, builds_none, builds_one}

-- a registered node that is equal
pub found_same : (m : List ℕ) (e : Expression) (i : ℕ) → find m e ≡ Some i → same (tree m i) (tree_of m e) ≡ true
unfolding find
found_same m e i h = go (find m e) h (first_found (λ j. registered m j && same (tree m j) (tree_of m e)) (used m))
  where
    go : (f : Option ℕ) → f ≡ Some i → Found (λ j. registered m j && same (tree m j) (tree_of m e)) (used m) f → same (tree m i) (tree_of m e) ≡ true
    go None q g = absurd (let z : ◌≡◌ {A = ℕ} 0 1 = cc in omega arith)
    go (Some j) q g = let z : j ≡ i = cc in rw z at (and-true (registered m j) (same (tree m j) (tree_of m e)) g.passes).1

-- or none
pub found_other : (m : List ℕ) (e : Expression) → find m e ≡ None → (j : ℕ) → j < used m → registered m j ≡ true → same (tree m j) (tree_of m e) ≡ false
unfolding find
found_other m e h = go (find m e) h (first_found (λ j. registered m j && same (tree m j) (tree_of m e)) (used m))
  where
    and-false : (a b : Bool) → (a && b) ≡ false → a ≡ true → b ≡ false
    and-false true b q r = q
    and-false false b q r = clash false r refl

    go : (f : Option ℕ) → f ≡ None → Found (λ j. registered m j && same (tree m j) (tree_of m e)) (used m) f → (j : ℕ) → j < used m → registered m j ≡ true → same (tree m j) (tree_of m e) ≡ false
    go None q g j l r = and-false (registered m j) (same (tree m j) (tree_of m e)) (g j l) r
    go (Some i) q g j l r = absurd (let z : ◌≡◌ {A = ℕ} 0 1 = cc in omega arith)

-- what was built, and a tree that it is equal to
pub record BuildsTree (m : List ℕ) (b : Built) (t : Tree) : Type 0 where
  pub builds : Builds m b
  pub equal : same (tree b.circuit b.id) t ≡ true

-- room for one more
one_room : (m : List ℕ) (e : Expression) → full m (built (made m e) (used m)) ≡ false → used m < limit m
one_room m e h = let f = full_not m (built (made m e) (used m)) h in let c = made_one m e in omega arith

-- found or made, where nothing that is not equal is alike
pub find_builds : (m : List ℕ) (e : Expression) → not_circuit m ≡ false → bad_expression m e ≡ false → full m (find_or_make m e) ≡ false → ((j : ℕ) → j < used m → registered m j ≡ true → same (tree m j) (tree_of m e) ≡ false → alike (tree m j) (tree_of m e) ≡ false) → BuildsTree m (find_or_make m e) (tree_of m e)
unfolding find_or_make
find_builds m e valid good = go (find m e) refl
  where
    go : (f : Option ℕ) → find m e ≡ f → full m (or_else f m (built (made m e) (used m))) ≡ false → ((j : ℕ) → j < used m → registered m j ≡ true → same (tree m j) (tree_of m e) ≡ false → alike (tree m j) (tree_of m e) ≡ false) → BuildsTree m (or_else f m (built (made m e) (used m))) (tree_of m e)
    go (Some i) q r h = record { builds = builds_none m i valid (find_below_lem m e i q); equal = found_same m e i q }
    go None q r h =
        let room = one_room m e r in
        record {
          builds = builds_one m e valid good room (λ j l g. h j l g (found_other m e q j l g));
          equal = rw (new_tree m e valid good room) (same_refl (tree_of m e));
        }

-- a leaf

-- no operation
abbrev pub IsLeaf : Expression → Type 0
IsLeaf (Base w) = Unit {0}
IsLeaf (Extension x) = Unit {0}
IsLeaf (Challenge k) = Unit {0}
IsLeaf (Operation o l r) = ⊥
IsLeaf (Input q) = Unit {0}

-- a leaf's operands can't be exchanged
leaf_alike : (m : List ℕ) (e : Expression) (s : Tree) → IsLeaf e → same s (tree_of m e) ≡ false → alike s (tree_of m e) ≡ false
unfolding alike
leaf_alike m (Base w) s h q = or-false (same s (tree_of m (Base w))) (same s (tree_of m (Base w))) q q
leaf_alike m (Extension x) s h q = or-false (same s (tree_of m (Extension x))) (same s (tree_of m (Extension x))) q q
leaf_alike m (Challenge k) s h q = or-false (same s (tree_of m (Challenge k))) (same s (tree_of m (Challenge k))) q q
leaf_alike m (Operation o l r) s h q = absurd h
leaf_alike m (Input x) s h q = or-false (same s (tree_of m (Input x))) (same s (tree_of m (Input x))) q q

leaf_over : (i : ℕ) (e : Expression) (f g : ℕ → Tree) → IsLeaf e → tree_over i e f ≡ tree_over i e g
leaf_over i (Base w) f g h = refl
leaf_over i (Extension x) f g h = refl
leaf_over i (Challenge k) f g h = refl
leaf_over i (Operation o l r) f g h = absurd h
leaf_over i (Input q) f g h = refl

pub leaf_builds : (m : List ℕ) (e : Expression) → not_circuit m ≡ false → bad_expression m e ≡ false → IsLeaf e → full m (find_or_make m e) ≡ false → BuildsTree m (find_or_make m e) (leaf_tree (used m) e)
leaf_builds m e valid good is h =
    rw (leaf_over (used m) e (tree m) (λ j. leaf j (base_leaf 0)) is) at
    (find_builds m e valid good h (λ j l g q. leaf_alike m e (tree m j) is q))
