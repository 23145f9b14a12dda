-- The laws of the search, of a node that joins the tables, and of the least ids as classes. Assumes nothing.
use Rattle.std.specs.Prelude.{Option, None, Some}
use Prim.Native.Nat.{ℕ, ◌+◌, ◌<◌, ◌≤◌}
use mathlib.Core.Path.{◌≡◌, refl, sym, ap, ◌∙◌}
use mathlib.Core.Logic.{⊎_elim}
use mathlib.Core.Bool.{Bool, true, false, ◌&&◌, ◌||◌}
use mathlib.Core.List.{List}
use native.Mathlib.Omega.{arith}
use lib.Dec.{eqb, leb}
use lib.ListN.{length}
use lib.Seq.{get_or-set_other}
use borrow.Author.Tests.{eq-eqb, eqb-true, le-leb, lt-leb, leb-false}
use Rattle.layout.specs.declared.node.Expression.{Expression}
use Rattle.layout.specs.declared.node.Expression.TheVariants.{Base, Extension, Challenge, Operation, Input}
use Rattle.layout.specs.declared.node.Node.{Node}
use Rattle.layout.specs.Lists.{up_to, first}
use Rattle.layout.specs.Words.{used, limit, node_at, expression_at, registered, made}
use Rattle.layout.specs.NotCircuit.{not_circuit, either_operand}
use Rattle.layout.specs.Tree.{tree, tree_of, same}
use Rattle.circuit.specs.Rank.{at}
use Rattle.layout.proofs.Tests.{neither, or-false, is_false, last_or}
use Rattle.layout.proofs.Lists.{clash, and-true, same_test, first_found, first-is, first-same, Found, Least}
use Rattle.circuit.proofs.Places.{made_used, made_here, made_other}
use Rattle.layout.proofs.Valid.{valid_operands, valid_fits, valid_room, limit_top}
use Rattle.layout.proofs.Trees.{tree_fixed}
use Rattle.layout.proofs.Cycle.{either_map}
use Rattle.classes.specs.Classes.{or_itself, class_of}
use Rattle.classes.specs.Table.{entry, Named, Sought}
use Rattle.classes.specs.Numbers.{key_of, Numbered, itself, Enterable, Entered}
use Rattle.classes.specs.Least.{slot, least_with, any_id, Firsts, noted, Inside, Lowered}
use Rattle.classes.specs.Find.{Classed, Fillable, Sorting, least_equal, Findable, last, Joinable}
use Rattle.classes.proofs.Shapes.{shape, same_shape, shape_same, same_refl, same_sym, same_trans}
use Rattle.classes.proofs.Agree.{Iff, key_shape, agree}
use Rattle.classes.proofs.Numbering.{one_more}
use Rattle.classes.proofs.Firsts.{firsts_more}

-- the definition of classes: the least id of equal structure

module _ (m : List ℕ) where
  pub class_least : (i : ℕ) → i < used m → Least (λ j. same (tree m j) (tree m i)) (used m) (class_of m i)
  unfolding class_of
  class_least i l = go (first (λ j. same (tree m j) (tree m i)) (up_to (used m))) (first_found (λ j. same (tree m j) (tree m i)) (used m))
    where
      go : (r : Option ℕ) → Found (λ j. same (tree m j) (tree m i)) (used m) r → Least (λ j. same (tree m j) (tree m i)) (used m) (or_itself i r)
      go None f = clash (same (tree m i) (tree m i)) (same_refl (tree m i)) (f i l)
      go (Some j) f = f

  -- two nodes have one class exactly when they are equal by structure
  pub class_law : (i j : ℕ) → i < used m → j < used m → Iff (class_of m i ≡ class_of m j) (same (tree m i) (tree m j) ≡ true)
  class_law i j a b = record { there = sound; back = whole }
    where
      sound : class_of m i ≡ class_of m j → same (tree m i) (tree m j) ≡ true
      sound h =
          let x = (class_least i a).passes in
          let y = (class_least j b).passes in
          same_trans (tree m i) (tree m (class_of m i)) (tree m j) (same_sym (tree m (class_of m i)) (tree m i) x) (ap (λ (k : ℕ). same (tree m k) (tree m j)) h ∙ y)

      least : (i j : ℕ) → i < used m → j < used m → same (tree m i) (tree m j) ≡ true → class_of m i < class_of m j → ⊥
      least i j a b h l =
          clash (same (tree m (class_of m i)) (tree m j))
          (same_trans (tree m (class_of m i)) (tree m i) (tree m j) (class_least i a).passes h)
          ((class_least j b).before (class_of m i) l)

      whole : same (tree m i) (tree m j) ≡ true → class_of m i ≡ class_of m j
      whole h =
          let p = least i j a b h in
          let q = least j i b a (same_sym (tree m i) (tree m j) h) in
          omega arith

-- numbers tell what is equal by structure
module _ (m num t : List ℕ) (v : not_circuit m ≡ false) (n : Numbered m itself (used m) num t) where
  pub number_same : (i j : ℕ) → i < used m → j < used m → eqb (at num i) (at num j) ≡ same (tree m i) (tree m j)
  number_same i j a b =
      let g = agree m num t v n i j a b in
      same_test (eqb (at num i) (at num j)) (same (tree m i) (tree m j))
      (λ h. shape_same (tree m i) (tree m j) (g.there (eqb-true (at num i) (at num j) h)))
      (λ h. eq-eqb (at num i) (at num j) (g.back (same_shape (tree m i) (tree m j) h)))

  -- there is room for the least ids of the numbers
  pub numbers_inside : (order rank num₀ t₀ least : List ℕ) → Fillable m order rank num₀ t₀ least → length num ≡ length num₀ → Inside num least (used m)
  numbers_inside order rank num₀ t₀ least f z =
      let a = valid_room m v in
      let b = limit_top m in
      let c = f.orderly.sized.numbers in
      let d = f.leasts in
      let e = n.few in
      record {
        few = omega arith;
        numbers = omega arith;
        inside = λ i l. let h = (n.filed i l).high in omega arith;
      }

  pub lowered_class : (class : List ℕ) → Lowered num class (used m) → Sorting m class
  unfolding class_of least_with
  lowered_class class g = record {
    least = λ i l.
        ap (or_itself i)
        (g.each i l ∙ first-same (λ j. any_id j && eqb (at num j) (at num i)) (λ j. same (tree m j) (tree m i)) (used m) (λ j k. number_same j i k l));
  }

-- a search

module _ (m num t least : List ℕ) (e : Expression) (f : Findable m num t least e) where
  key_same : (j : ℕ) → j < used m → Iff (key_of num (expression_at m j) ≡ key_of num e) (same (tree m j) (tree_of m e) ≡ true)
  key_same j l =
      let s = key_shape num (tree m) j (used m) (expression_at m j) e
      (λ o a b p q c d z.
      let (x, y) = valid_operands m f.circuit j l o a b p in
      let h : (leb (used m) c || leb (used m) d) ≡ false = rw z at f.operands in
      let (u, w) = neither (leb (used m) c) (leb (used m) d) h in
      (agree m num t f.circuit f.classed.numbered a c x (leb-false (used m) c u), agree m num t f.circuit f.classed.numbered b d y (leb-false (used m) d w))) in
      record {
        there = λ h. shape_same (tree m j) (tree_of m e) (ap shape (tree_fixed m f.circuit j l) ∙ s.there h);
        back = λ h. s.back (sym (ap shape (tree_fixed m f.circuit j l)) ∙ same_shape (tree m j) (tree_of m e) h);
      }

  pub find_none : Sought t (key_of num e) None → None ≡ least_equal m e
  unfolding least_equal
  find_none s =
      sym
      (first-is (λ i. registered m i && same (tree m i) (tree_of m e)) (used m) None
      (λ j l. is_false (registered m j && same (tree m j) (tree_of m e))
      (λ h.
      let o = f.classed.numbered.filed j l in
      s.miss refl (at num j) o.low o.high (o.entered ∙ (key_same j l).back (and-true (registered m j) (same (tree m j) (tree_of m e)) h).1))))

  pub find_slot : (v : ℕ) → Named t (key_of num e) v → slot (at least v) ≡ least_equal m e
  unfolding least_equal least_with
  find_slot v h =
      f.classed.firsts.each v
      ∙ first-same (λ i. registered m i && eqb (at num i) v) (λ i. registered m i && same (tree m i) (tree_of m e)) (used m)
      (λ j l.
      let o = f.classed.numbered.filed j l in
      ap (λ (b : Bool). registered m j && b)
      (same_test (eqb (at num j) v) (same (tree m j) (tree_of m e))
      (λ q. (key_same j l).there (sym o.entered ∙ ap (entry t) (eqb-true (at num j) v q) ∙ h.entered))
      (λ q. eq-eqb (at num j) v (f.classed.numbered.tabled.distinct (at num j) v o.low o.high h.low h.high (o.entered ∙ (key_same j l).back q ∙ sym h.entered)))))

  -- the number has a place in the list of least ids
  pub find_inside : (v : ℕ) → Named t (key_of num e) v → v < length least
  find_inside v h =
      let a = h.high in
      let b = f.classed.numbered.few in
      let c = f.classed.leasts in
      let d = valid_room m f.circuit in
      let g = limit_top m in
      omega arith

-- a node that joins the tables

-- numbers that stay where they are looked at
firsts_keep : (p q : ℕ → Bool) (num num' least : List ℕ) (n : ℕ) → ((i : ℕ) → i < n → p i ≡ q i) → ((i : ℕ) → i < n → at num i ≡ at num' i) → Firsts p num least n → Firsts q num' least n
unfolding least_with
firsts_keep p q num num' least n h g f = record {
  each = λ v. f.each v ∙ first-same (λ i. p i && eqb (at num i) v) (λ i. q i && eqb (at num' i) v) n (λ i l. rw (h i l, g i l));
}

module _ (m num t least : List ℕ) (j : Joinable m num t least) where
  before : last m + 1 ≡ used m
  before = let a = j.some in omega arith

  few : used m ≤ 4096
  few = let a = valid_room m j.circuit in let b = limit_top m in omega arith

  pub join_enterable : Enterable m num t (last m)
  join_enterable =
      let a = j.classed.sized.numbers in
      let b = j.classed.sized.keys in
      let c = j.classed.numbered.few in
      let d = before in
      let e = few in
      record {
        here = valid_fits m j.circuit (last m) (omega arith);
        number = omega arith;
        roomy = record { tabled = j.classed.numbered.tabled; more = omega arith };
      }

  module _ (num' t' : List ℕ) (g : Entered m num t num' t' (last m)) where
    joined : Numbered m itself (used m) num' t'
    joined =
        rw before at
        (one_more m itself (last m) num t num' t' j.classed.numbered g join_enterable.number (λ p l. j.apart p (let d = before in omega arith)) (λ p l. omega arith))

    pub join_inside : (at num' (last m) < length least) × (last m < 4096)
    join_inside =
        let d = before in
        let e = few in
        let h = (joined.filed (last m) (omega arith)).high in
        let c = joined.few in
        let k = j.classed.leasts in
        (omega arith, omega arith)

    pub join_all : (v : ℕ) (least' : List ℕ) → v ≡ at num' (last m) → least' ≡ noted least v (last m) → length num' ≡ length num → length t' ≡ length t → length least' ≡ length least → Classed m (used m) num' t' least'
    join_all v least' a b x y z =
        let f = firsts_keep (registered m) (registered m) num num' least (last m) (λ i l. refl) (λ i l. sym (ap (λ (k : List ℕ). at k i) g.put ∙ get_or-set_other num (last m) i g.number 0 (omega arith))) j.classed.firsts in
        let h : Firsts (registered m) num' least' (last m + 1) = rw (b, a) (firsts_more (registered m) num' least (last m) f j.new join_inside.0) in
        record {
          numbered = joined;
          firsts = rw before at h;
          sized = record { numbers = rw x j.classed.sized.numbers; keys = rw y j.classed.sized.keys };
          leasts = rw z j.classed.leasts;
        }

-- tables that fit the first nodes of some words fit those of other words that have these nodes too
pub classed_other : (m m' : List ℕ) (n : ℕ) (num t least : List ℕ) → ((i : ℕ) → i < n → node_at m' i ≡ node_at m i) → Classed m n num t least → Classed m' n num t least
classed_other m m' n num t least h c = record {
  numbered = record {
    tabled = c.numbered.tabled;
    few = c.numbered.few;
    filed = λ i l. let o = c.numbered.filed i l in record {
      low = o.low;
      high = o.high;
      entered = o.entered ∙ ap (λ (x : Node). key_of num x.expression) (sym (h i l));
    };
  };
  firsts = firsts_keep (registered m) (registered m') num num least n (λ i l. ap (λ (x : Node). x.registered) (sym (h i l))) (λ i l. refl) c.firsts;
  sized = c.sized;
  leasts = c.leasts;
}

-- an expression with no operand at n or after it has no operand n
no_operand : (n : ℕ) (e : Expression) → either_operand (leb n) e ≡ false → either_operand (eqb n) e ≡ false
no_operand n e h = is_false (either_operand (eqb n) e) (λ g. clash (either_operand (leb n) e) (either_map (eqb n) (leb n) e (λ k q. le-leb n k (let z = eqb-true n k q in omega arith)) g) h)

-- no node of a circuit has an operand that is none of its nodes
pub operands_inside : (m : List ℕ) → not_circuit m ≡ false → (i : ℕ) → i < used m → either_operand (leb (used m)) (expression_at m i) ≡ false
operands_inside m v i l = go (expression_at m i) refl
  where
    go : (e : Expression) → expression_at m i ≡ e → either_operand (leb (used m)) e ≡ false
    go (Base w) q = refl
    go (Extension x) q = refl
    go (Challenge k) q = refl
    go (Operation o a b) q = let (x, y) = valid_operands m v i l o a b q in or-false (leb (used m) a) (leb (used m) b) (lt-leb (used m) a x) (lt-leb (used m) b y)
    go (Input p) q = refl

-- a node made can join the tables
pub made_joinable : (m : List ℕ) (e : Expression) (num t least : List ℕ) → not_circuit m ≡ false → used m < limit m → either_operand (leb (used m)) e ≡ false → not_circuit (made m e) ≡ false → Classed m (used m) num t least → Joinable (made m e) num t least
made_joinable m e num t least v r o w c =
    let u : last (made m e) ≡ used m = let a = made_used m e r in omega arith in
    record {
      circuit = w;
      some = let a = made_used m e r in omega arith;
      new = rw u (ap (λ (x : Node). x.registered) (made_here m e r));
      apart = rw u (λ i l. ⊎_elim
          (λ q. rw q (rw (ap (λ (x : Node). x.expression) (made_here m e r)) (no_operand (used m) e o)))
          (λ k. rw (ap (λ (x : Node). x.expression) (made_other m e r i (omega arith))) (no_operand (used m) (expression_at m i) (operands_inside m v i k)))
          (last_or i (used m) (let a = made_used m e r in omega arith)));
      classed = rw u (classed_other m (made m e) (used m) num t least (λ i l. made_other m e r i (omega arith)) c);
    }
