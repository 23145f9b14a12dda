-- The promise at document 01's own examples, grown by the calls from a fresh circuit: x⁴, and x²·a². Assumes nothing.
use Prim.Native.Nat.{ℕ}
use mathlib.Core.Path.{◌≡◌, refl, sym, ap, ◌∙◌}
use mathlib.Core.Logic.{inl, inr, ⊎_elim}
use mathlib.Core.List.{[], ◌∷◌}
use native.Mathlib.Omega.{arith}
use lib.ListN.{replicate}
use lib.Seq.{sets}
use Rattle.arithmetic.specs.Extension.{lift}
use Rattle.layout.specs.declared.node.RowKind.TheVariants.{Single}
use Rattle.layout.specs.declared.node.Position.TheVariants.{Main, Aux}
use Rattle.layout.specs.declared.node.Op.TheVariants.{Multiply}
use Rattle.layout.specs.Lists.{In}
use Rattle.layout.specs.Words.{expression_at}
use Rattle.layout.specs.Answers.{accepted}
use Rattle.layout.specs.Calls.{start_call}
use Rattle.building.specs.Calls.{input_call, operation_call}
use Rattle.layout.proofs.Tests.{any_at}
use Rattle.reading.specs.Refusals.{reads_beyond}
use Rattle.reading.specs.Calls.{evaluate_call}
use Rattle.lowering.specs.Calls.{lower_call}
use Rattle.lowering.specs.Computing.{lower_computes}
use Rattle.grown.specs.Grown as grown
use Rattle.grown.specs.Grown.{Grown}
use Rattle.grown.specs.Examples.{x, x², x⁴, x⁴_after, x_a, squares, x²a², x²a²_after}
use Rattle.grown.specs.Promise.{Promise}
use Rattle.grown.specs.Evaluated.{Wide, NewWords, OneFill}
use Rattle.grown.proofs.Promised.{promised}
use Rattle.grown.proofs.Filled.{filled}

-- x⁴

x⁴_grown : Grown x⁴.circuit
unfolding lower_computes
x⁴_grown = grown.operation x² (grown.operation x (grown.input (start_call (replicate 56 0) Single).lent (grown.started (replicate 56 0) Single refl) (Main 0) refl) Multiply 0 0 refl) Multiply 1 1 refl

x⁴_accepted : (lower_call 2 1 0 x⁴).number ≡ 0
unfolding lower_computes
x⁴_accepted = refl

-- one main constraint, node 6
x⁴_lists : (x⁴_after.main ≡ 6 ∷ []) × (x⁴_after.aux ≡ [])
unfolding lower_computes
x⁴_lists = (refl, refl)

pub x⁴_keeps : Promise 2 1 0 x⁴.circuit (2 ∷ []) x⁴_after
x⁴_keeps = promised 2 1 0 x⁴ x⁴_grown x⁴_accepted

-- with 3 in the column x, exactly one word in the new column makes the constraint evaluate to zero, and the root as before: it is 9
x⁴_wide : Wide x⁴_after.circuit (3 ∷ 0 ∷ []) [] []
unfolding lower_computes
x⁴_wide = record { lengths = refl; reads = λ i h. any_at (λ j. reads_beyond x⁴_after.circuit (3 ∷ 0 ∷ []) [] [] (expression_at x⁴_after.circuit j)) 7 i h refl; words = refl }

pub x⁴_fill : OneFill 1 0 x⁴.circuit (2 ∷ []) x⁴_after (3 ∷ 0 ∷ []) [] []
x⁴_fill = filled 2 1 0 x⁴ x⁴_accepted (3 ∷ 0 ∷ []) [] [] x⁴_wide

abbrev nine : NewWords 1 0
nine = record { main = 9 ∷ []; aux = []; main_count = refl; aux_count = refl; main_below = λ w h. ⊎_elim (λ e. omega arith) (λ k. absurd k) h; aux_below = λ w h. absurd h }

constraint_zero : evaluate_call x⁴_after.circuit 6 (sets (3 ∷ 0 ∷ []) 1 (9 ∷ [])) [] [] ≡ accepted (lift 0) tt
unfolding lower_computes
constraint_zero = refl

nine_zero : (q : ℕ) → In q (6 ∷ []) → evaluate_call x⁴_after.circuit q (sets (3 ∷ 0 ∷ []) 1 (9 ∷ [])) [] [] ≡ accepted (lift 0) tt
nine_zero q (inl e) = ap (λ (j : ℕ). evaluate_call x⁴_after.circuit j (sets (3 ∷ 0 ∷ []) 1 (9 ∷ [])) [] []) e ∙ constraint_zero
nine_zero q (inr k) = absurd k

pub x⁴_nine : x⁴_fill.values.main ≡ 9 ∷ []
unfolding lower_computes
x⁴_nine = sym (x⁴_fill.only nine nine_zero).0

-- x²·a²

x_a_grown : Grown x_a
unfolding lower_computes
x_a_grown = grown.input (input_call (start_call (replicate 86 0) Single).lent (Main 0)).lent (grown.input (start_call (replicate 86 0) Single).lent (grown.started (replicate 86 0) Single refl) (Main 0) refl) (Aux 0) refl

pub x²a²_grown : Grown x²a².circuit
unfolding lower_computes
x²a²_grown = grown.operation squares (grown.operation (operation_call x_a Multiply 0 0).lent (grown.operation x_a x_a_grown Multiply 0 0 refl) Multiply 1 1 refl) Multiply 2 3 refl

pub x²a²_accepted : (lower_call 2 1 1 x²a²).number ≡ 0
unfolding lower_computes
x²a²_accepted = refl

-- main list 8, auxiliary list 11
x²a²_lists : (x²a²_after.main ≡ 8 ∷ []) × (x²a²_after.aux ≡ 11 ∷ [])
unfolding lower_computes
x²a²_lists = (refl, refl)

pub x²a²_keeps : Promise 2 1 1 x²a².circuit (4 ∷ []) x²a²_after
x²a²_keeps = promised 2 1 1 x²a² x²a²_grown x²a²_accepted
