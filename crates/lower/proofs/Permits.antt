-- What one substitution asks, call by call, where its circuits fit. Assumes nothing.
use Rattle.std.specs.Prelude.{Some}
use Prim.Native.Nat.{ℕ, suc, ◌≤◌, ◌<◌}
use mathlib.Core.Path.{◌≡◌, sym, ◌∙◌, ap}
use mathlib.Core.Logic.{◌≢◌}
use mathlib.Core.Bool.{true, false}
use mathlib.Core.List.{List}
use native.Mathlib.Omega.{arith}
use lib.ListN.{length}
use borrow.Author.Tests.{le-ltb}
use Rattle.layout.specs.declared.node.Position.{Position}
use Rattle.layout.specs.declared.node.Expression.TheVariants.{Input}
use Rattle.layout.specs.Words.{used, limit, column, is_main, is_next}
use Rattle.layout.specs.Tree.{input_leaf, tree}
use Rattle.layout.specs.NotCircuit.{not_circuit}
use Rattle.building.specs.Building.{Built, built, find_or_make, full}
use Rattle.reading.specs.Readings.{is_base}
use Rattle.lower.specs.Substituting.{input_at, Fresh, Differing, new_input, turned, Substitutable}
use Rattle.lowering.proofs.Shape.{leaf_e, Shape, Unf, deg, base_s}
use Rattle.lowering.proofs.Words.{look, look_lt, Sound}
use Rattle.lowering.proofs.Proper.{Proper, circuit_of}
use Rattle.lowering.proofs.Substitutes.{input_made, one, one_is, one_sound, one_used, one_length, one_proper, s_old, two, two_is, two_sound, two_used, two_length, two_proper, three, three_is, stepped}
use Rattle.lower.proofs.Along.{same_limit, inside}

module _ (m : List ℕ) (sound : Sound m) (s : ℕ) (u : Shape) (large : 3 ≤ deg u) (at-s : Unf (look m) u s) (y : Position) (fresh : (i : ℕ) → look m i ≢ Some (leaf_e (input_leaf y)))
    (kind : is_main y ≡ true → base_s u ≡ true) (valid : not_circuit m ≡ false) (proper : Proper m) (small : column y ≤ 65535) (current : is_next y ≡ false)
    (room : used (three m sound s u large at-s y fresh kind).circuit ≤ limit m) where
  abbrev O : List ℕ
  O = one m sound s u large at-s y fresh kind

  abbrev W : List ℕ
  W = two m sound s u large at-s y fresh kind

  abbrev H : Built
  H = three m sound s u large at-s y fresh kind

  new_there : used m < used H.circuit
  new_there = look_lt H.circuit (used m) (leaf_e (input_leaf y)) (stepped m sound s u large at-s y fresh kind).step.move.new

  input_used : used O ≡ suc (used m)
  input_used = one_used m sound s u large at-s y fresh kind

  input_length : length O ≡ length m
  input_length = one_length m sound s u large at-s y fresh kind (inside m (suc (used m)) (omega arith) (omega (arith, new_there, room)))

  turned_length : length W ≡ length m
  turned_length = two_length m sound s u large at-s y fresh kind ∙ input_length

  input_valid : not_circuit O ≡ false
  input_valid =
      circuit_of O (one_sound m sound s u large at-s y fresh kind) (one_proper m sound s u large at-s y fresh kind small current proper)
      (rw (same_limit O m input_length) (omega (arith, new_there, room, input_used)))

  turned_used : used W ≡ suc (used m)
  turned_used = two_used m sound s u large at-s y fresh kind

  turned_valid : not_circuit W ≡ false
  turned_valid =
      circuit_of W (two_sound m sound s u large at-s y fresh kind)
      (two_proper m sound s u large at-s y fresh kind (one_proper m sound s u large at-s y fresh kind small current proper))
      (rw (same_limit W m turned_length) (omega (arith, new_there, room, turned_used)))

  input_is : find_or_make m (Input y) ≡ built O (used m)
  input_is = input_made m sound s u large at-s y fresh kind ∙ ap (λ (l : List ℕ). built l (used m)) (sym (one_is m sound s u large at-s y fresh kind))

  input_fresh : Fresh m (Input y)
  input_fresh = record { valid = valid; new = input_made m sound s u large at-s y fresh kind; room = omega (arith, new_there, room) }

  difference_fits : Differing W (used m) s
  unfolding full
  difference_fits =
      record {
        roomy = record { valid = turned_valid; room = rw (← three_is m sound s u large at-s y fresh kind) (le-ltb (limit W) (used H.circuit) (rw (same_limit W m turned_length) room)) };
        left = omega (arith, turned_used);
        right = omega (arith, turned_used, s_old m sound s u large at-s y fresh kind);
      }

  -- the two columns of which one is y
  pub substitutable : (a b : ℕ) → input_at (is_base (tree m s)) a b ≡ Input y → Substitutable m s a b
  unfolding new_input turned
  substitutable a b e =
      record {
        valid = valid;
        here = s_old m sound s u large at-s y fresh kind;
        input = rw e input_fresh;
        still = rw (e, input_is) (omega (arith, input_used, s_old m sound s u large at-s y fresh kind));
        inside = rw (e, input_is) input_valid;
        constraint = rw (e, input_is, ← two_is m sound s u large at-s y fresh kind) difference_fits;
      }
