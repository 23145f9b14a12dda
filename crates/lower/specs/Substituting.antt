-- One substitution in a circuit that is known to be one, by building's inner calls: what it asks and gives. Assumes nothing.
use Rattle.std.specs.Prelude.{ℕ, ◌<◌, ◌≡◌, Bool, false, List, map, if◌then◌else◌}
use Rattle.layout.specs.declared.node.Position.TheVariants.{Main, Aux}
use Rattle.layout.specs.declared.node.Expression.{Expression}
use Rattle.layout.specs.declared.node.Expression.TheVariants.{Input}
use Rattle.layout.specs.Words.{used, limit, made}
use Rattle.layout.specs.Tree.{tree}
use Rattle.layout.specs.NotCircuit.{not_circuit}
use Rattle.building.specs.Building.{Built, built, find_or_make, subtracted, full}
use Rattle.reading.specs.Readings.{is_base}
use Rattle.lower.specs.declared.substitute.Constraint.{Constraint}
use Rattle.lowering.specs.Lowering.{renamed, redirected}

-- the new input, at one of two columns
abbrev pub input_at : Bool → ℕ → ℕ → Expression
input_at to_main main_column aux_column = Input (if to_main then Main main_column else Aux aux_column)

-- what a step builds, and that there is room for it
pub record Roomy (m : List ℕ) (b : Built) : Type 0 where
  pub valid : not_circuit m ≡ false
  pub room : full m b ≡ false

-- an expression that no node is, and room for it
pub record Fresh (m : List ℕ) (e : Expression) : Type 0 where
  pub valid : not_circuit m ≡ false
  pub new : find_or_make m e ≡ built (made m e) (used m)
  pub room : used m < limit m

-- two nodes, and room for their difference
pub record Differing (m : List ℕ) (n s : ℕ) : Type 0 where
  pub roomy : Roomy m (subtracted m n s)
  pub left : n < used m
  pub right : s < used m

-- the circuit and the id that a step gives
pub record Gives (b : Built) (m : List ℕ) (i : ℕ) : Type 0 where
  pub circuit : m ≡ b.circuit
  pub id : i ≡ b.id

module _ (m : List ℕ) (s main_column aux_column : ℕ) where
  -- s is replaced by an input of its own kind
  unfoldable pub new_input : Built
  new_input = find_or_make m (input_at (is_base (tree m s)) main_column aux_column)

  -- the circuit after the redirect
  unfoldable pub turned : List ℕ
  turned = redirected new_input.circuit s new_input.id

  -- the constraint
  unfoldable pub difference : Built
  difference = subtracted turned new_input.id s

  pub record Substitutable : Type 0 where
    pub valid : not_circuit m ≡ false
    pub here : s < used m
    pub input : Fresh m (input_at (is_base (tree m s)) main_column aux_column)
    pub still : s < used new_input.circuit
    pub inside : not_circuit new_input.circuit ≡ false
    pub constraint : Differing turned new_input.id s

  pub record Replaced (roots m' roots' : List ℕ) (r : Constraint) : Type 0 where
    pub circuit : m' ≡ difference.circuit
    pub all_roots : roots' ≡ map (renamed s new_input.id) roots
    pub id : r.id ≡ difference.id
    pub to_main : r.main ≡ is_base (tree m s)
