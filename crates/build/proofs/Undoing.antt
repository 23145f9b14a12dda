-- A run of steps that finds no room, undone: every word as it was, and tables that fit. Assumes nothing.
use Rattle.std.specs.Prelude.{None, Option, Some}
use Prim.Native.Nat.{ℕ, ◌+◌, ◌*◌, ◌≤◌}
use mathlib.Core.Path.{◌≡◌}
use mathlib.Core.Bool.{false}
use mathlib.Core.List.{List, [], ◌∷◌}
use native.Mathlib.Omega.{arith}
use lib.ListN.{length}
use Rattle.layout.specs.Words.{used, limit}
use Rattle.layout.specs.NotCircuit.{not_circuit}
use Rattle.layout.proofs.Valid.{valid_length, limit_top}
use Rattle.layout.proofs.Lists.{clash}
use Rattle.building.specs.Building.{Built, summed, full}
use Rattle.build.specs.Inner.{Buildable, Summable, Stopped, Step, Stepped, Kept, Tried}
use Rattle.build.specs.Saved.{Saved, Restorable, Restored, Classable}
use Rattle.build.proofs.Growing.{sum_grows}
use Rattle.build.proofs.Runs.{not_full}
use Rattle.build.proofs.Saving.{restorable, restored_is}

-- all lent places at most
pub kept_most : {most : ℕ} {m m' : List ℕ} → Kept most m m' → used m' ≤ used m + 4096
kept_most {m = m} k = let a = k.inside in let b = limit_top m in omega arith

module _ (most n : ℕ) (m m₁ saved : List ℕ) (valid : not_circuit m ≡ false) (k : Kept most m m₁) (few : used m₁ ≤ used m + n) (room : 6 * n ≤ length saved) where
  pub undoable : Restorable m₁ saved (used m)
  undoable = restorable most m m₁ saved (valid_length m valid) k n few room

  pub undone : (m₂ : List ℕ) → Saved m saved → Restored m₁ saved (used m) m₂ → length m₂ ≡ length m₁ → m₂ ≡ m
  undone m₂ s r l = restored_is most m m₁ saved (valid_length m valid) k m₂ s undoable r l

-- the tables can be made anew
pub classable : (m num t least m₂ num₂ t₂ least₂ : List ℕ) → Buildable m num t least → m₂ ≡ m → length num₂ ≡ length num → length t₂ ≡ length t → length least₂ ≡ length least → Classable m₂ num₂ t₂ least₂
classable m num t least m₂ num₂ t₂ least₂ b e x y z = record {
  circuit = rw e b.circuit;
  sized = record { numbers = rw x b.classed.sized.numbers; keys = rw y b.classed.sized.keys };
  leasts = rw z b.classed.leasts;
}

pub back_step : {rest : Type 0} (m : List ℕ) (b : Built) (m₂ num t least : List ℕ) → Stopped rest m b → m₂ ≡ m → Buildable m₂ num t least → Stepped m b None m₂ num t least
back_step m b m₂ num t least s e h = record { told = record { over = s.over; left = record { same = e; buildable = h } } }

-- where there is room for all, what is left where there is none is no matter
never_stops : {rest rest' : Type 0} (m : List ℕ) (b : Built) (r : Option ℕ) (m₂ num t least : List ℕ) → full m b ≡ false → Step rest m b r m₂ num t least → Step rest' m b r m₂ num t least
never_stops m b (Some i) m₂ num t least f s = record { told = s.told }
never_stops m b None m₂ num t least f s = clash (full m b) s.told.over f

pub sum_fits : (m num t least ids : List ℕ) (r : Option ℕ) (m₂ num₂ t₂ least₂ : List ℕ) → Summable m num t least ids → used m + length ids ≤ limit m → Tried (length ids) m (summed m ids) r m₂ num₂ t₂ least₂ → Stepped m (summed m ids) r m₂ num₂ t₂ least₂
unfolding summed
sum_fits m num t least ids r m₂ num₂ t₂ least₂ s h g = never_stops m (summed m ids) r m₂ num₂ t₂ least₂ (not_full m (summed m ids) (few ids h)) g
  where
    few : (ids : List ℕ) → used m + length ids ≤ limit m → used (summed m ids).circuit ≤ limit m
    few [] h = omega arith
    few (i ∷ is) h = let g = (sum_grows m i is).few in omega arith
