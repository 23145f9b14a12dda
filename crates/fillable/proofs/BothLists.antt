-- The test of both lists: the main one, then the auxiliary one. Assumes nothing.
use Rattle.std.specs.Prelude.{Some}
use Prim.Native.Nat.{ℕ, ◌+◌, ◌≤◌}
use mathlib.Core.Path.{◌≡◌, refl, sym, ap, ◌∙◌}
use mathlib.Core.Bool.{Bool, true, false}
use mathlib.Core.List.{List}
use native.Mathlib.Omega.{arith}
use lib.ListN.{length}
use Rattle.layout.specs.declared.node.Position.TheVariants.{Main, Aux}
use Rattle.layout.specs.Words.{used}
use Rattle.layout.proofs.Lists.{clash, or_left}
use Rattle.circuit.specs.Rank.{at}
use Rattle.paths.proofs.Counts.{valid_top}
use Rattle.read.specs.Tables.{Filled}
use Rattle.read.specs.Passes.{Ordered}
use Rattle.read.proofs.Along.{orderly}
use Rattle.filling.specs.Refusals.{mains_wrong, auxs_wrong, not_lowered}
use Rattle.fillable.specs.Reaching.{reach_to}
use Rattle.fillable.specs.Targets.{Lowerable, Tested, Reached, Based, Listable, Answered}

module _ {main_count aux_count : ℕ} {m order rank mains auxs bases targets : List ℕ} (v : Lowerable main_count aux_count m order rank mains auxs bases targets) where
  pub lowerable_ordered : (table : List ℕ) → 4096 ≤ length table → Ordered m order rank table
  lowerable_ordered table room = orderly m order rank table v.listing.valid v.listing.sorted v.listing.order_room room

  pub lowerable_based : Based m bases
  lowerable_based = record { room = v.bases_room; told = v.base_bits }

  pub lowerable_reached : (main_reach aux_reach : List ℕ) → 4096 ≤ length main_reach → 4096 ≤ length aux_reach → Filled (used m) (at main_reach) (reach_to true m) → Filled (used m) (at aux_reach) (reach_to false m) → Reached m main_reach aux_reach
  lowerable_reached main_reach aux_reach k l f g =
      let t = valid_top m v.listing.valid in
      record { valid = v.listing.valid; main_room = omega arith; aux_room = omega arith; main_told = f; aux_told = g }

  pub main_listable : {main_reach aux_reach : List ℕ} → Reached m main_reach aux_reach → Listable m main_reach aux_reach main_count 0 mains targets
  main_listable r = let t = v.targets_room in record { reached = r; ids = v.listing.main_ids; fits = v.main_fits; room = omega arith }

  module _ (targets₁ : List ℕ) {a : Bool} (first : Answered (mains_wrong aux_count m main_count mains) Main main_count 0 m mains targets targets₁ a) where
    pub main_refuses : a ≡ true → Tested main_count aux_count m mains auxs targets₁ true
    unfolding not_lowered
    main_refuses h =
        record {
          told = sym (or_left (mains_wrong aux_count m main_count mains) (auxs_wrong (main_count + length mains) m aux_count auxs) (sym first.told ∙ h));
          found = λ z. clash true refl z;
        }

    module _ (passes : a ≡ false) where
      pub aux_listable : {main_reach aux_reach : List ℕ} → Reached m main_reach aux_reach → length targets₁ ≡ length targets → Listable m main_reach aux_reach aux_count (length mains) auxs targets₁
      aux_listable r same =
          let t = v.targets_room in
          let n = first.few passes in
          record { reached = r; ids = v.listing.aux_ids; fits = v.aux_fits; room = omega arith }

      pub both_tested : (targets₂ : List ℕ) (b : Bool) → Answered (auxs_wrong (main_count + length mains) m aux_count auxs) Aux aux_count (length mains) m auxs targets₁ targets₂ b → Tested main_count aux_count m mains auxs targets₂ b
      unfolding not_lowered
      both_tested targets₂ b then =
          record {
            told = then.told ∙ rw (sym first.told ∙ passes);
            found = λ h.
                let n = first.few passes in
                let k = then.few h in
                record {
                  of_main = λ j l. first.found passes j l ∙ ap Some (ap (at targets₁) (let e : 0 + j ≡ j = omega arith in e) ∙ sym (then.kept j l));
                  of_aux = then.found h;
                  few = omega arith;
                };
          }
