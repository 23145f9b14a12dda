-- One substitution keeps no two registered nodes alike: the chosen node is loose, the new input is like no other, and the constraint is built by the
-- building steps, which look before they make. Assumes nothing.
use Rattle.std.specs.Prelude.{if◌then◌else◌, Some}
use Prim.Native.Nat.{ℕ, suc, ◌+◌, ◌*◌, ◌≤◌, ◌<◌}
use mathlib.Core.Path.{◌≡◌, sym, ap, ◌∙◌}
use mathlib.Core.Logic.{◌≢◌, ⊎_elim}
use mathlib.Core.Bool.{Bool, true, false}
use mathlib.Core.List.{List}
use native.Mathlib.Omega.{arith}
use lib.ListN.{length}
use Rattle.layout.specs.declared.node.Position.{Position}
use Rattle.layout.specs.declared.node.Position.TheVariants.{Main, Aux}
use Rattle.layout.specs.Words.{used, limit, registered, column, is_main, is_next}
use Rattle.layout.specs.NotCircuit.{not_circuit}
use Rattle.layout.specs.Tree.{input_leaf, tree}
use Rattle.layout.proofs.Lists.{clash}
use Rattle.layout.proofs.Tests.{last_or}
use Rattle.reading.specs.Readings.{is_base}
use Rattle.lowering.specs.Lowering.{Lowering, substituted}
use Rattle.lowering.proofs.Shape.{leaf_e, Shape, lf, shape, Unf, deg, base_s}
use Rattle.lowering.proofs.Words.{look, Sound, tree_shape, shape_is}
use Rattle.lowering.proofs.Proper.{Proper, circuit_of}
use Rattle.lowering.proofs.Substitutes.{two, three, one_length, one_mark, move_two, s_old, three_is, two_length, two_loose, two_more, two_mark, two_proper, one_proper, two_sound, two_used, substituted_is}
use Rattle.build.proofs.Runs.{not_full}
use Rattle.grown.specs.Results.{Unique}
use Rattle.grown.proofs.Alike.{like_alike, unlike, like_before, new_unlike}
use Rattle.grown.proofs.Several.{subtract_subtracts}

pub limit_same : (m m' : List ℕ) → length m' ≡ length m → limit m' ≡ limit m
unfolding limit
limit_same m m' h = rw h

pub limit_room : (m : List ℕ) (k : ℕ) → 2 ≤ length m → k ≤ limit m → 2 + 6 * k ≤ length m
unfolding limit
limit_room m k two h = omega arith

module _ (m : List ℕ) (sound : Sound m) (s : ℕ) (u : Shape) (large : 3 ≤ deg u) (at-s : Unf (look m) u s) (y : Position) (fresh : (i : ℕ) → look m i ≢ Some (leaf_e (input_leaf y)))
    (kind : is_main y ≡ true → base_s u ≡ true) where
  abbrev after : List ℕ
  after = two m sound s u large at-s y fresh kind

  -- a registered node of the circuit after the redirect is the new input or was registered
  was_registered : (i : ℕ) → i < used m → registered after i ≡ true → registered m i ≡ true
  was_registered i l h =
      let other : i ≢ s = λ e. clash (registered after s) (rw e at h) (two_loose m sound s u large at-s y fresh kind) in
      sym (two_mark m sound s u large at-s y fresh kind i other ∙ one_mark m sound s u large at-s y fresh kind i l) ∙ h

  redirect_unique : Unique m → Unique after
  redirect_unique v = record {
    apart = λ i j a b p q.
        let n = two_used m sound s u large at-s y fresh kind in
        let x : i < used m = omega arith in
        let ti : Unf (look m) (shape (tree m i)) i = tree_shape m sound i x in
        let wi : Unf (look after) (shape (tree after i)) i = tree_shape after (two_sound m sound s u large at-s y fresh kind) i (omega arith) in
        let wj : Unf (look after) (shape (tree after j)) j = tree_shape after (two_sound m sound s u large at-s y fresh kind) j b in
        let st = move_two m sound s u large at-s y fresh kind in
        unlike (tree after i) (tree after j) (λ h. ⊎_elim
        (λ (z : j ≡ used m).
        let e : shape (tree after j) ≡ lf (input_leaf y) = shape_is after (lf (input_leaf y)) j (rw z st.new) in
        new_unlike st (shape (tree m i)) i ti (shape (tree after i)) wi (rw e at h))
        (λ (z : j < used m).
        let k = like_before st (shape (tree m i)) (shape (tree m j)) i j ti (tree_shape m sound j z) (shape (tree after i)) (shape (tree after j)) wi wj h in
        let f = v.apart i j a z (was_registered i x p) (was_registered j z q) in
        let g = like_alike (tree m i) (tree m j) k in
        let w : ◌≡◌ {A = ℕ} 0 1 = cc in
        omega arith)
        (last_or j (used m) (omega arith)));
  }

  -- room for the constraint, in as many words
  module _ (room : used (three m sound s u large at-s y fresh kind).circuit ≤ limit m) (bound : column y ≤ 65535) (current : is_next y ≡ false) (proper : Proper m) where
    redirect_length : length after ≡ length m
    redirect_length =
        let g = two_more m sound s u large at-s y fresh kind in
        two_length m sound s u large at-s y fresh kind ∙ one_length m sound s u large at-s y fresh kind (limit_room m (suc (used m)) (omega (arith, sound.room)) (omega (arith, room)))

    redirect_circuit : not_circuit after ≡ false
    redirect_circuit =
        let n = two_used m sound s u large at-s y fresh kind in
        let g = two_more m sound s u large at-s y fresh kind in
        let l = limit_same m after redirect_length in
        circuit_of after (two_sound m sound s u large at-s y fresh kind) (two_proper m sound s u large at-s y fresh kind (one_proper m sound s u large at-s y fresh kind bound current proper)) (omega (arith, room))

    pub three_unique : Unique m → Unique (three m sound s u large at-s y fresh kind).circuit
    three_unique v =
        let n = two_used m sound s u large at-s y fresh kind in
        let g = s_old m sound s u large at-s y fresh kind in
        let e = three_is m sound s u large at-s y fresh kind in
        let l = limit_same m after redirect_length in
        let f = not_full after (three m sound s u large at-s y fresh kind) (omega (arith, room)) in
        rw e ((subtract_subtracts after (used m) s redirect_circuit (omega arith) (omega arith) (rw e at f)).builds.unique (redirect_unique v))

  -- the definition's own substitution
  pub substituted_unique : (mc ac : ℕ) (b : Bool) (x : Lowering) → x.circuit ≡ m → is_base (tree m s) ≡ b → (if b then Main (mc + length x.main) else Aux (ac + length x.aux)) ≡ y
      → used (substituted mc ac x s).circuit ≤ limit m → column y ≤ 65535 → is_next y ≡ false → Proper m → Unique m → Unique (substituted mc ac x s).circuit
  substituted_unique mc ac b x h g e room bound current proper v =
      let is : (substituted mc ac x s).circuit ≡ (three m sound s u large at-s y fresh kind).circuit = ap (λ (z : Lowering). z.circuit) (substituted_is m sound s u large at-s y fresh kind mc ac b x h g e) in
      rw is (three_unique (rw is at room) bound current proper v)
