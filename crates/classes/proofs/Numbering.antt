-- The laws of the class numbers: none at first, and one more. Assumes nothing.
use Prim.Native.Nat.{ℕ, ◌+◌, ◌<◌, ◌≤◌}
use mathlib.Core.Path.{◌≡◌, refl, sym, ap, ◌∙◌}
use mathlib.Core.Logic.{⊎_elim, ◌≢◌}
use mathlib.Core.Bool.{Bool, true, false, not}
use mathlib.Core.List.{List}
use native.Mathlib.Omega.{arith}
use lib.Dec.{eqb}
use lib.ListN.{length, set}
use lib.Seq.{get_or-set_same, get_or-set_other}
use borrow.Author.Tests.{eqb-true, eqb-false, not-false}
use Rattle.layout.specs.declared.node.Expression.{Expression}
use Rattle.layout.specs.declared.node.Expression.TheVariants.{Base, Extension, Challenge, Operation, Input}
use Rattle.layout.specs.Words.{used, expression_at, encode}
use Rattle.layout.specs.NotCircuit.{not_circuit, either_operand}
use Rattle.circuit.specs.Rank.{at, Sorted, Checked}
use Rattle.layout.proofs.Tests.{neither, either, is_false, last_or}
use Rattle.layout.proofs.Lists.{clash}
use Rattle.layout.proofs.Refusals.{accepts}
use Rattle.layout.proofs.Valid.{valid_fits, valid_room, limit_top}
use Rattle.classes.specs.Table.{entry}
use Rattle.classes.specs.Numbers.{over, key_of, Filed, Numbered, itself, Sized, Enterable, Entered, Orderly}

-- a number put elsewhere than at an operand
over_keeps : (num : List ℕ) (i v : ℕ) (e : Expression) → either_operand (eqb i) e ≡ false → over (set num i v) e ≡ over num e
over_keeps num i v (Base w) h = refl
over_keeps num i v (Extension x) h = refl
over_keeps num i v (Challenge k) h = refl
over_keeps num i v (Operation o l r) h =
    let (a, b) = neither (eqb i l) (eqb i r) h in
    rw (get_or-set_other num i l v 0 (λ e. eqb-false i l a (sym e)), get_or-set_other num i r v 0 (λ e. eqb-false i r b (sym e)))
over_keeps num i v (Input q) h = refl

pub key_keeps : (num : List ℕ) (i v : ℕ) (e : Expression) → either_operand (eqb i) e ≡ false → key_of (set num i v) e ≡ key_of num e
unfolding key_of
key_keeps num i v e h = ap encode (over_keeps num i v e h)

-- one more, which is no operand of itself and of those before it, nor one of them
module _ (m : List ℕ) (f : ℕ → ℕ) (q : ℕ) (num t num' t' : List ℕ) (n : Numbered m f q num t) (g : Entered m num t num' t' (f q)) (here : f q < length num) (apart : (p : ℕ) → p ≤ q → either_operand (eqb (f q)) (expression_at m (f p)) ≡ false) (other : (p : ℕ) → p < q → f p ≢ f q) where
  abbrev now : List ℕ
  now = set num (f q) g.number

  key_now : (p : ℕ) → p ≤ q → key_of now (expression_at m (f p)) ≡ key_of num (expression_at m (f p))
  key_now p l = key_keeps num (f q) g.number (expression_at m (f p)) (apart p l)

  file_new : Filed m now t' (f q)
  file_new =
      let e : at now (f q) ≡ g.number = get_or-set_same num (f q) g.number 0 here in
      record {
        low = rw e g.interned.low;
        high = rw e g.interned.high;
        entered = ap (entry t') e ∙ g.interned.entered ∙ sym (key_now q (omega arith));
      }

  file_old : (p : ℕ) → p < q → Filed m now t' (f p)
  file_old p l =
      let e : at now (f p) ≡ at num (f p) = get_or-set_other num (f q) (f p) g.number 0 (other p l) in
      let o = n.filed p l in
      let a = o.high in
      let b = g.interned.grows in
      record {
        low = rw e o.low;
        high = rw e (omega arith);
        entered = ap (entry t') e ∙ g.interned.keeps (at num (f p)) o.low o.high ∙ o.entered ∙ sym (key_now p (omega arith));
      }

  pub one_more : Numbered m f (q + 1) num' t'
  one_more =
      rw g.put
      (record {
        tabled = g.interned.tabled;
        few = let a = g.interned.little in let b = n.few in omega arith;
        filed = λ p l. ⊎_elim (λ e. rw e file_new) (λ k. file_old p k) (last_or p q (omega arith));
      })

-- in the order of the rank
module _ (m order rank : List ℕ) (s : Sorted m order rank) where
  -- a node comes before the nodes that it is an operand of
  ranked : (i j : ℕ) → j < used m → either_operand (eqb i) (expression_at m j) ≡ true → at rank i < at rank j
  ranked i j k = go (expression_at m j) refl
    where
      go : (e : Expression) → expression_at m j ≡ e → either_operand (eqb i) e ≡ true → at rank i < at rank j
      go (Base w) q h = clash false h refl
      go (Extension x) q h = clash false h refl
      go (Challenge c) q h = clash false h refl
      go (Operation o l r) q h =
          ⊎_elim
          (λ e. rw (eqb-true i l e) (s.left_first j o l r k q))
          (λ e. rw (eqb-true i r e) (s.right_first j o l r k q))
          (either (eqb i l) (eqb i r) h)
      go (Input x) q h = clash false h refl

  order_apart : (q : ℕ) → q < used m → (p : ℕ) → p ≤ q → either_operand (eqb (at order q)) (expression_at m (at order p)) ≡ false
  order_apart q l p k = is_false (either_operand (eqb (at order q)) (expression_at m (at order p)))
      (λ h.
      let d : p < used m = omega arith in
      let a = ranked (at order q) (at order p) (s.order_below p d) h in
      let b = s.rank_order q l in
      let c = s.rank_order p d in
      omega arith)

  order_other : (q : ℕ) → q < used m → (p : ℕ) → p < q → at order p ≢ at order q
  order_other q l p k e =
      let a : at rank (at order p) ≡ at rank (at order q) = ap (at rank) e in
      let b = s.rank_order q l in
      let c = s.rank_order p (omega arith) in
      omega arith

  pub order_more : (q : ℕ) (num t num' t' : List ℕ) → q < used m → used m ≤ length num → Numbered m (at order) q num t → Entered m num t num' t' (at order q) → Numbered m (at order) (q + 1) num' t'
  order_more q num t num' t' l w n g = one_more m (at order) q num t num' t' n g (let b = s.order_below q l in omega arith) (order_apart q l) (order_other q l)

  pub order_all : (q : ℕ) (num t : List ℕ) → used m ≤ q → q ≤ used m → Numbered m (at order) q num t → Numbered m itself (used m) num t
  order_all q num t a b n = record {
    tabled = n.tabled;
    few = let c = n.few in omega arith;
    filed = λ i l. rw (s.order_rank i l) at (n.filed (at rank i) (let c = s.rank_below i l in omega arith));
  }

  pub order_enterable : (q : ℕ) (num t : List ℕ) → not_circuit m ≡ false → q < used m → Sized num t → Numbered m (at order) q num t → Enterable m num t (at order q)
  order_enterable q num t v l z n =
      let a = s.order_below q l in
      let b = z.numbers in
      let c = z.keys in
      let d = n.few in
      let e = valid_room m v in
      let f = limit_top m in
      record {
        here = valid_fits m v (at order q) a;
        number = omega arith;
        roomy = record { tabled = n.tabled; more = omega arith };
      }

-- what a check that accepts hands on
pub checked_orderly : (m order rank num t : List ℕ) (answer : Bool) → Checked m order rank answer → not answer ≡ false → 4096 ≤ length order → Sized num t → Orderly m order rank num t
checked_orderly m order rank num t answer k e l z =
    let v = accepts m answer k.told e in
    let a = valid_room m v in
    let b = limit_top m in
    record { circuit = v; sorted = k.sorted (not-false answer e); ids = omega arith; sized = z }
