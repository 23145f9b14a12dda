-- Demand 3 over the code: whatever `lower` answers, with the lent words after it, its contract says that it tells `lower_call`. So an accepted
-- call fills as it should, and on a grown circuit keeps the whole promise. Assumes nothing.
use Rattle.std.specs.Prelude.{Ok}
use Prim.Native.Nat.{ℕ}
use mathlib.Core.Path.{◌≡◌, sym, ap, subst}
use mathlib.Core.List.{List}
use lib.ListN.{take}
use Rattle.layout.specs.Outcomes.{Outcome}
use Rattle.lowering.specs.Lowering.{Lowering}
use Rattle.lowering.specs.Calls.{lower_call, returned}
use Rattle.lowering.specs.Unread.{Unread}
use Rattle.lowering.proofs.Unread.{unread}
use Rattle.lower.specs.Told.{told_lowering}
use Rattle.grown.specs.Grown.{Grown}
use Rattle.grown.specs.Promise.{Promise}
use Rattle.grown.specs.Order.{LeftToRight}
use Rattle.grown.specs.Evaluated.{Wide, OneFill}
use Rattle.grown.proofs.Promised.{promised}
use Rattle.grown.proofs.Ordered.{left-to-right}
use Rattle.grown.proofs.Filled.{filled}

-- k main and l auxiliary constraints were answered, and x is what is lent afterwards: the lists are its first k and l places
module _ (target main_count aux_count : ℕ) (lent : Lowering) (k l : ℕ) (x : Lowering) (contract : told_lowering (Ok (k, l)) x ≡ lower_call target main_count aux_count lent) where
  abbrev after : Lowering
  after = record { circuit = x.circuit; roots = x.roots; main = take k x.main; aux = take l x.aux }

  is_accepted : (lower_call target main_count aux_count lent).number ≡ 0
  is_accepted = sym (ap (λ (o : Outcome (ℕ × ℕ) Lowering). o.number) contract)

  pub lower_promises : Grown lent.circuit → Promise target main_count aux_count lent.circuit lent.roots after
  lower_promises g = subst (λ (o : Outcome (ℕ × ℕ) Lowering). Promise target main_count aux_count lent.circuit lent.roots (returned o)) (sym contract) (promised target main_count aux_count lent g is_accepted)

  -- the new columns are new in both rows
  pub lower_unread : Unread main_count aux_count lent.circuit after
  lower_unread = subst (λ (o : Outcome (ℕ × ℕ) Lowering). Unread main_count aux_count lent.circuit (returned o)) (sym contract) (unread target main_count aux_count lent is_accepted)

  -- the lists are left to right
  pub lower_orders : Grown lent.circuit → LeftToRight target main_count aux_count lent.circuit lent.roots after
  lower_orders g = subst (λ (o : Outcome (ℕ × ℕ) Lowering). LeftToRight target main_count aux_count lent.circuit lent.roots (returned o)) (sym contract) (left-to-right target main_count aux_count lent g is_accepted)

  pub lower_fills : (main aux challenges : List ℕ) → Wide x.circuit main aux challenges → OneFill main_count aux_count lent.circuit lent.roots after main aux challenges
  lower_fills =
      subst (λ (o : Outcome (ℕ × ℕ) Lowering). (main aux challenges : List ℕ) → Wide (returned o).circuit main aux challenges → OneFill main_count aux_count lent.circuit lent.roots (returned o) main aux challenges) (sym contract)
      (filled target main_count aux_count lent is_accepted)
