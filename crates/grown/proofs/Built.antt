-- One node made: an old node unfolds to the tree it unfolded to, the new one to its expression's, and no two registered nodes come to be alike if the
-- new one is like none. And what is built of a circuit, step after step. Assumes nothing.
use Prim.Native.Nat.{ℕ, zero, suc, ◌<◌, ◌≤◌}
use mathlib.Core.Path.{◌≡◌, refl, sym, ap, ◌∙◌}
use mathlib.Core.Logic.{⊎_elim}
use mathlib.Core.Bool.{true, false}
use mathlib.Core.List.{List}
use native.Mathlib.Omega.{arith}
use Rattle.layout.specs.declared.node.Expression.{Expression}
use Rattle.layout.specs.declared.node.Node.{Node}
use Rattle.layout.specs.Words.{used, limit, node_at, expression_at, registered, made}
use Rattle.layout.specs.NotCircuit.{bad_expression, not_circuit}
use Rattle.layout.specs.Tree.{Tree, tree_over, unfolded, tree, tree_of}
use Rattle.layout.proofs.Tests.{last_or}
use Rattle.circuit.proofs.Places.{made_here}
use Rattle.layout.proofs.Valid.{valid_operands, valid_ends}
use Rattle.layout.proofs.Trees.{over_same, levels_enough, tree_fixed}
use Rattle.building.specs.Building.{Built, built}
use Rattle.grown.specs.Results.{alike, Unique}
use Rattle.build.proofs.Making.{made_one, good_operands, old_node, made_circuit}

not_alike : {s s' t t' : Tree} → s ≡ s' → t ≡ t' → alike s' t' ≡ false → alike s t ≡ false
not_alike p q h = rw (p, q) h

module _ (m : List ℕ) (e : Expression) (valid : not_circuit m ≡ false) (good : bad_expression m e ≡ false) (room : used m < limit m) where
  old_unfolded : (n j : ℕ) → j < used m → unfolded (made m e) n j ≡ unfolded m n j
  unfolding unfolded
  old_unfolded zero j l = refl
  old_unfolded (suc n) j l =
      ap (λ (x : Node). tree_over j x.expression (unfolded (made m e) n)) (old_node m e valid good room j l)
      ∙ over_same j (expression_at m j) (unfolded (made m e) n) (unfolded m n)
      (λ o a b q. let (x, y) = valid_operands m valid j l o a b q in (old_unfolded n a x, old_unfolded n b y))

  -- an old node's tree
  pub old_tree : (j : ℕ) → j < used m → tree (made m e) j ≡ tree m j
  old_tree j l =
      let u : used (made m e) ≡ suc (used m) = let q = made_one m e in omega arith in
      ap (λ (n : ℕ). unfolded (made m e) n j) u
      ∙ old_unfolded (suc (used m)) j l
      ∙ sym (levels_enough m (used m) j (valid_ends m valid j l))

  -- the new one's
  pub new_tree : tree (made m e) (used m) ≡ tree_of m e
  new_tree =
      tree_fixed (made m e) (made_circuit m e valid good room) (used m) (let q = made_one m e in omega arith)
      ∙ ap (λ (x : Node). tree_over (used m) x.expression (tree (made m e))) (made_here m e room)
      ∙ over_same (used m) e (tree (made m e)) (tree m)
      (λ o a b q. let (x, y) = good_operands m o a b (rw q at good) in (old_tree a x, old_tree b y))

  old_mark : (j : ℕ) → j < used m → registered (made m e) j ≡ registered m j
  old_mark j l = ap (λ (x : Node). x.registered) (old_node m e valid good room j l)

  -- if no registered node is alike, it stays so that none is
  pub made_unique : ((j : ℕ) → j < used m → registered m j ≡ true → alike (tree m j) (tree_of m e) ≡ false) → Unique m → Unique (made m e)
  made_unique h u = record {
    apart = λ i j a b p q.
        let c = made_one m e in
        let x : i < used m = omega arith in
        let g : registered m i ≡ true = sym (old_mark i x) ∙ p in
        ⊎_elim
        (λ z. not_alike (old_tree i x) (ap (tree (made m e)) z ∙ new_tree) (h i x g))
        (λ z. not_alike (old_tree i x) (old_tree j z) (u.apart i j a z g (sym (old_mark j z) ∙ q)))
        (last_or j (used m) (omega arith));
  }

-- what is built of m
pub record Builds (m : List ℕ) (b : Built) : Type 0 where
  pub circuit : not_circuit b.circuit ≡ false
  pub below : b.id < used b.circuit
  pub more : used m ≤ used b.circuit
  pub nodes : (j : ℕ) → j < used m → node_at b.circuit j ≡ node_at m j
  pub trees : (j : ℕ) → j < used m → tree b.circuit j ≡ tree m j
  pub unique : Unique m → Unique b.circuit

-- nothing is made
pub builds_none : (m : List ℕ) (i : ℕ) → not_circuit m ≡ false → i < used m → Builds m (built m i)
builds_none m i valid l = record { circuit = valid; below = l; more = omega arith; nodes = λ j k. refl; trees = λ j k. refl; unique = λ u. u }

-- one node is
pub builds_one : (m : List ℕ) (e : Expression) → not_circuit m ≡ false → bad_expression m e ≡ false → used m < limit m → ((j : ℕ) → j < used m → registered m j ≡ true → alike (tree m j) (tree_of m e) ≡ false) → Builds m (built (made m e) (used m))
builds_one m e valid good room h =
    let c = made_one m e in
    record {
      circuit = made_circuit m e valid good room;
      below = omega arith;
      more = omega arith;
      nodes = old_node m e valid good room;
      trees = old_tree m e valid good room;
      unique = made_unique m e valid good room h;
    }

-- one after the other
pub builds_then : (m : List ℕ) (b c : Built) → Builds m b → Builds b.circuit c → Builds m c
builds_then m b c f g =
    let x = f.more in
    let y = g.more in
    record {
      circuit = g.circuit;
      below = g.below;
      more = omega arith;
      nodes = λ j l. g.nodes j (omega arith) ∙ f.nodes j l;
      trees = λ j l. g.trees j (omega arith) ∙ f.trees j l;
      unique = λ u. g.unique (f.unique u);
    }
