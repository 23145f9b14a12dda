-- Worked examples: document 01's x⁴ and x²·a², grown, lowered, and evaluated before and after. Assumes nothing.
use Rattle.std.specs.Prelude.{ℕ, List, [], ◌∷◌, replicate, T}
use Rattle.std.proofs.lemmas.List.Edits.{sets}
use Rattle.arithmetic.specs.declared.Triple.{Triple}
use Rattle.layout.specs.declared.node.RowKind.TheVariants.{Single}
use Rattle.layout.specs.declared.node.Position.TheVariants.{Main, Aux}
use Rattle.layout.specs.declared.node.Op.TheVariants.{Multiply}
use Rattle.layout.specs.Lists.{agree}
use Rattle.layout.specs.Outcomes.{Outcome}
use Rattle.layout.specs.Calls.{start_call}
use Rattle.building.specs.Calls.{input_call, operation_call}
use Rattle.reading.specs.Calls.{evaluate_call}
use Rattle.lowering.specs.Lowering.{Lowering}
use Rattle.lowering.specs.Calls.{lower_call, returned}
use Rattle.lowering.specs.Computing.{lower_computes}

-- x, in nine places; x·x; and (x·x)·(x·x) lent with lists of two places
abbrev pub x : List ℕ
x = (input_call (start_call (replicate 56 0) Single).lent (Main 0)).lent

abbrev pub x² : List ℕ
x² = (operation_call x Multiply 0 0).lent

abbrev pub x⁴ : Lowering
x⁴ = record { circuit = (operation_call x² Multiply 1 1).lent; roots = 2 ∷ []; main = 0 ∷ 0 ∷ []; aux = 0 ∷ 0 ∷ [] }

-- x main 0 and a auxiliary 0, in fourteen places; x·x and a·a; and their product lent with lists of three places
abbrev pub x_a : List ℕ
x_a = (input_call (input_call (start_call (replicate 86 0) Single).lent (Main 0)).lent (Aux 0)).lent

abbrev pub squares : List ℕ
squares = (operation_call (operation_call x_a Multiply 0 0).lent Multiply 1 1).lent

abbrev pub x²a² : Lowering
x²a² = record { circuit = (operation_call squares Multiply 2 3).lent; roots = 4 ∷ []; main = 0 ∷ 0 ∷ 0 ∷ []; aux = 0 ∷ 0 ∷ 0 ∷ [] }

-- what each lowering leaves: for x⁴ the root 2 and one main constraint, 6; for x²·a² the root 4, a main constraint, 8, and an auxiliary one, 11
abbrev pub x⁴_after : Lowering
x⁴_after = returned (lower_call 2 1 0 x⁴)

abbrev pub x²a²_after : Lowering
x²a²_after = returned (lower_call 2 1 1 x²a²)

-- the number and the three words of a value
unfoldable pub shown : Outcome Triple (Unit {0}) → List ℕ
shown o = o.number ∷ o.values.c0 ∷ o.values.c1 ∷ o.values.c2 ∷ []

unfoldable pub table : List (List ℕ × List ℕ)
table =
    -- x is 3: the original's root is 81; with 9 in the new column the constraint is 0 and the root is 81; with 10 the constraint isn't 0
    (shown (evaluate_call x⁴.circuit 2 (3 ∷ 0 ∷ []) [] []), 0 ∷ 81 ∷ 0 ∷ 0 ∷ [])
    ∷ (shown (evaluate_call x⁴_after.circuit 6 (sets (3 ∷ 0 ∷ []) 1 (9 ∷ [])) [] []), 0 ∷ 0 ∷ 0 ∷ 0 ∷ [])
    ∷ (shown (evaluate_call x⁴_after.circuit 2 (sets (3 ∷ 0 ∷ []) 1 (9 ∷ [])) [] []), 0 ∷ 81 ∷ 0 ∷ 0 ∷ [])
    ∷ (shown (evaluate_call x⁴_after.circuit 6 (sets (3 ∷ 0 ∷ []) 1 (10 ∷ [])) [] []), 0 ∷ 1 ∷ 0 ∷ 0 ∷ [])
    -- x is 3 and a is X: the original's root is 9·X²; with 9 and X² in the new columns both constraints are 0 and the root is 9·X²
    ∷ (shown (evaluate_call x²a².circuit 4 (3 ∷ 0 ∷ []) (0 ∷ 1 ∷ 0 ∷ 0 ∷ 0 ∷ 0 ∷ []) []), 0 ∷ 0 ∷ 0 ∷ 9 ∷ [])
    ∷ (shown (evaluate_call x²a²_after.circuit 8 (3 ∷ 9 ∷ []) (0 ∷ 1 ∷ 0 ∷ 0 ∷ 0 ∷ 1 ∷ []) []), 0 ∷ 0 ∷ 0 ∷ 0 ∷ [])
    ∷ (shown (evaluate_call x²a²_after.circuit 11 (3 ∷ 9 ∷ []) (0 ∷ 1 ∷ 0 ∷ 0 ∷ 0 ∷ 1 ∷ []) []), 0 ∷ 0 ∷ 0 ∷ 0 ∷ [])
    ∷ (shown (evaluate_call x²a²_after.circuit 4 (3 ∷ 9 ∷ []) (0 ∷ 1 ∷ 0 ∷ 0 ∷ 0 ∷ 1 ∷ []) []), 0 ∷ 0 ∷ 0 ∷ 9 ∷ [])
    ∷ []

pub examples : T (agree table)
unfolding lower_computes shown table
examples = tt
