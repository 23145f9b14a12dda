-- Row kinds and rows as numbers, as the circuit's words and the frames have them; and what is answered to a number that is none. Assumes nothing.
use Rattle.std.specs.Prelude.{ℕ, true, List, [], ◌∷◌, eqb, ltb, if◌then◌else◌}
use Rattle.layout.specs.declared.node.RowKind.TheVariants.{Single, Dual}
use Rattle.layout.specs.declared.node.Position.{Position}
use Rattle.layout.specs.declared.node.Position.TheVariants.{Main, Aux, NextMain, NextAux}
use Rattle.layout.specs.NotCircuit.{not_circuit}
use Rattle.layout.specs.Outcomes.{Outcome, outcome}
use Rattle.layout.specs.Calls.{start_call}
use Rattle.building.specs.Calls.{input_call}

-- 1 single, 2 dual; any other is document 01's unknown kind, NOT_CIRCUIT
unfoldable pub start_by_number : List ℕ → ℕ → Outcome (Unit {0}) (List ℕ)
start_by_number m kind =
    if eqb kind 1 then start_call m Single
    else if eqb kind 2 then start_call m Dual
    else outcome ((1, true) ∷ []) tt m tt m

-- 0 main, 1 auxiliary, 2 next main, 3 next auxiliary
unfoldable pub positioned : ℕ → ℕ → Position
positioned row column =
    if eqb row 0 then Main column
    else if eqb row 1 then Aux column
    else if eqb row 2 then NextMain column
    else NextAux column

-- a row that is none of the four is BAD_ROW
unfoldable pub input_by_number : List ℕ → ℕ → ℕ → Outcome ℕ (List ℕ)
input_by_number m row column =
    if ltb row 4 then input_call m (positioned row column)
    else outcome ((1, not_circuit m) ∷ (3, true) ∷ []) 0 m 0 m
