-- A lowering that is accepted and has something to do is on its way. Assumes nothing.
use Prim.Native.Nat.{ℕ}
use mathlib.Core.Path.{◌≡◌, refl}
use mathlib.Core.Bool.{true, false}
use mathlib.Core.List.{List}
use native.Mathlib.Omega.{arith}
use Rattle.reading.specs.Refusals.{over_degree}
use Rattle.lowering.specs.Lowering.{M, too_high, lowered}
use Rattle.lowering.specs.Refusals.{over_occurrences}
use Rattle.lowering.proofs.Words.{valid_sound}
use Rattle.lowering.proofs.Proper.{proper_of}
use Rattle.lowering.proofs.Chooses.{all_registered}
use Rattle.lowering.proofs.OneMore.{State}
use Rattle.lowering.proofs.Fills.{start}
use Rattle.lowering.proofs.Accepts.{First, Then, rooted_start, columns_start}
use Rattle.lowering.proofs.Theorem.{demand_some}
use Rattle.lowering.proofs.Fits.{columns_room, fits_some}
use Rattle.lower.proofs.Along.{Bounded, Going}

module _ (T mc ac : ℕ) (m roots : List ℕ) (first : First T m roots) (then : Then mc ac m roots) (high : too_high T m roots ≡ true) where
  first_state : State mc ac (start m roots)
  first_state =
      let s = valid_sound m first.circuit in
      let r = rooted_start m roots s first.ids in
      record { sound = s; rooted = r; regs = all_registered m roots r then.none_loose; columns = columns_start mc ac m roots then.columns }

  pub bounded : Bounded T mc ac m roots
  bounded =
      let d = fits_some T mc ac m roots first.target first_state high then.room then.columns (proper_of m first.circuit) in
      let (cm, ca) = columns_room mc ac m roots then.columns in
      record { two = first.target; nodes = d.nodes; fewer = (demand_some T mc ac m roots first.target first_state high).fewer high; main_columns = cm; aux_columns = ca }

  pub going_start : over_degree m roots ≡ false → over_occurrences T m roots ≡ false → Going T mc ac m roots (start m roots) (M m roots)
  unfolding lowered
  going_start d o = record { state = first_state; proper = proper_of m first.circuit; same = refl; rest = refl; steps = omega arith; degree = d; few = o }
