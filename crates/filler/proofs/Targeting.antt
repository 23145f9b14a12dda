-- Lists that have passed the tests: their expressions are nodes that can be worked out in the order of the items, in rows of this shape. Assumes nothing.
use Rattle.std.specs.Prelude.{Some}
use Prim.Native.Nat.{ℕ, ◌+◌, ◌-◌, ◌*◌, ◌/◌, ◌<◌, ◌≤◌}
use mathlib.Core.Path.{◌≡◌, sym, ◌∙◌}
use mathlib.Core.Logic.{⊎_elim}
use mathlib.Core.Bool.{Bool, false}
use mathlib.Core.List.{List, ◌++◌}
use native.Mathlib.Omega.{arith}
use lib.Dec.{leb}
use lib.ListN.{length}
use borrow.Author.Tests.{leb-false}
use Rattle.layout.specs.declared.node.Position.TheVariants.{Main, Aux}
use Rattle.layout.specs.Lists.{In, any}
use Rattle.layout.specs.Words.{row_kind, used, expression_at}
use Rattle.layout.specs.Tree.{tree}
use Rattle.layout.specs.NotCircuit.{bad_id}
use Rattle.layout.proofs.Tests.{neither, below_or}
use Rattle.walking.specs.Paths.{walk}
use Rattle.circuit.specs.Rank.{at}
use Rattle.read.proofs.Lists.{in_at}
use Rattle.lowering.proofs.ListLaws.{any_false, in_left, in_right}
use Rattle.filling.specs.Constraints.{expression_of, reads_unfilled}
use Rattle.filling.specs.Refusals.{beyond, mains_wrong, auxs_wrong, not_lowered}
use Rattle.filling.proofs.Items.{Item, item}
use Rattle.filling.proofs.Settled.{Listed, main_right, aux_right}
use Rattle.filling.proofs.Accepts.{kinds, any_walks}
use Rattle.filling.proofs.Holds.{Fitting}
use Rattle.filler.specs.declared.plan.Shape.{Shape}
use Rattle.filler.specs.Ordering.{Targeted}
use Rattle.filler.specs.Preparing.{RightLists}

listed : (m qs : List ℕ) → bad_id m qs ≡ false → Listed m qs
unfolding bad_id
listed m qs h q k = leb-false (used m) q (any_false (leb (used m)) qs h q k)

module _ (s : Shape) (m mains auxs challenges targets : List ℕ) (ok : RightLists s m mains auxs challenges targets) where
  right_lists : (mains_wrong s.aux m s.main mains ≡ false) × (auxs_wrong (s.main + length mains) m s.aux auxs ≡ false)
  unfolding not_lowered
  right_lists = neither (mains_wrong s.aux m s.main mains) (auxs_wrong (s.main + length mains) m s.aux auxs) ok.lowered

  main_item : (k : ℕ) → k < length mains → Item m (Main (s.main + k)) (at mains k) (at targets k)
  main_item k l = item m ok.valid (Main (s.main + k)) (at mains k) (listed m mains ok.main_ids (at mains k) (in_at mains k l)) (at targets k) (ok.found.of_main k l)

  aux_item : (k : ℕ) → k < length auxs → Item m (Aux (s.aux + k)) (at auxs k) (at targets (length mains + k))
  aux_item k l = item m ok.valid (Aux (s.aux + k)) (at auxs k) (listed m auxs ok.aux_ids (at auxs k) (in_at auxs k l)) (at targets (length mains + k)) (ok.found.of_aux k l)

  -- a main item or an auxiliary one
  each : (P : ℕ → Type 0) → ((k : ℕ) → k < length mains → P k) → ((k : ℕ) → k < length auxs → P (length mains + k)) → (k : ℕ) → k < s.items → P k
  each P f g k l =
      let i = ok.is_items in
      ⊎_elim (λ h. f k h) (λ h. let e : length mains + (k - length mains) ≡ k = omega arith in rw e at (g (k - length mains) (omega arith))) (below_or k (length mains))

  inside : (q e : ℕ) → In q (mains ++ auxs) → ((t : ℕ → Bool) → any t (walk (tree m q)) ≡ false → any t (walk (tree m e)) ≡ false) → any (λ i. beyond s.row s.wide (length challenges / 3) (expression_at m i)) (walk (tree m e)) ≡ false
  inside q e k f = f _ (any_walks _ m (mains ++ auxs) ok.reads q k)

  same_main : (k : ℕ) → k < length mains → (e : ℕ) → expression_of m (Main (s.main + k)) (at mains k) ≡ Some e → e ≡ at targets k
  same_main k l e h = let z : Some e ≡ Some (at targets k) = sym h ∙ ok.found.of_main k l in cc

  same_aux : (k : ℕ) → k < length auxs → (e : ℕ) → expression_of m (Aux (s.aux + k)) (at auxs k) ≡ Some e → e ≡ at targets (length mains + k)
  same_aux k l e h = let z : Some e ≡ Some (at targets (length mains + k)) = sym h ∙ ok.found.of_aux k l in cc

  pub passed_targeted : Targeted s (length challenges / 3) m targets
  passed_targeted =
      let f = ok.is_fresh in
      let i = ok.is_items in
      let a = ok.main_fits in
      let b = ok.aux_fits in
      record {
        valid = ok.valid;
        fresh_few = omega arith;
        main_fits = omega arith;
        aux_fits = omega arith;
        below = each (λ k. at targets k < used m) (λ k l. (main_item k l).here) (λ k l. (aux_item k l).here);
        main-reads = λ k l. let r = main_right s.aux m mains s.main right_lists.0 k (omega arith) in rw (same_main k (omega arith) r.e r.is) at r.reads;
        main_base = λ k l. let r = main_right s.aux m mains s.main right_lists.0 k (omega arith) in rw (same_main k (omega arith) r.e r.is) at r.base;
        aux-reads = λ k h l. aux_one k h l;
        inside = each (λ k. any (λ i. beyond s.row s.wide (length challenges / 3) (expression_at m i)) (walk (tree m (at targets k))) ≡ false)
            (λ k l. inside (at mains k) (at targets k) (in_left (at mains k) mains auxs (in_at mains k l)) (main_item k l).reads)
            (λ k l. inside (at auxs k) (at targets (length mains + k)) (in_right (at auxs k) mains auxs (in_at auxs k l)) (aux_item k l).reads);
      }
    where
      aux_one : (k : ℕ) → s.fresh ≤ k → k < s.items → reads_unfilled (s.main + s.fresh) (s.aux + (k - s.fresh)) m (at targets k) ≡ false
      aux_one k h l =
          let f = ok.is_fresh in
          let i = ok.is_items in
          let j : ℕ = k - length mains in
          let r = aux_right (s.main + length mains) m auxs s.aux right_lists.1 j (omega arith) in
          let e : length mains + j ≡ k = omega arith in
          let x : reads_unfilled (s.main + length mains) (s.aux + j) m (at targets (length mains + j)) ≡ false = rw (same_aux j (omega arith) r.e r.is) at r.reads in
          let y : reads_unfilled (s.main + length mains) (s.aux + j) m (at targets k) ≡ false = rw e at x in
          rw f y

  -- a row of these tables has room, and its lists are right
  pub passed_fitting : (main aux : List ℕ) → length main ≡ row_kind m * s.row → length aux ≡ row_kind m * (3 * s.wide) → Fitting s.main s.aux m mains auxs challenges main aux
  passed_fitting main aux p q =
      let a = ok.main_fits in
      let b = ok.aux_fits in
      record {
        valid = ok.valid;
        main_ids = listed m mains ok.main_ids;
        aux_ids = listed m auxs ok.aux_ids;
        mains_right = right_lists.0;
        auxs_right = right_lists.1;
        main_room = ⊎_elim (λ e. let x : length main ≡ 1 * s.row = rw e at p in omega arith) (λ e. let x : length main ≡ 2 * s.row = rw e at p in omega arith) (kinds m ok.valid);
        main_next = λ e. let x : length main ≡ 2 * s.row = rw e at p in omega arith;
        aux_room = ⊎_elim (λ e. let x : length aux ≡ 1 * (3 * s.wide) = rw e at q in omega arith) (λ e. let x : length aux ≡ 2 * (3 * s.wide) = rw e at q in omega arith) (kinds m ok.valid);
        aux_next = λ e. let x : length aux ≡ 2 * (3 * s.wide) = rw e at q in omega arith;
      }
