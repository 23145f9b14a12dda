-- The inner forms of building: what they ask of a circuit that is known to be one, and what they give. Assumes nothing.
use Rattle.std.specs.Prelude.{ℕ, ◌+◌, ◌<◌, ◌≤◌, ◌≡◌, ◌⊎◌, ◌≢◌, true, false, List, length, get_or, if◌then◌else◌, None, Option, Some}
use Rattle.layout.specs.declared.node.Op.{Op}
use Rattle.layout.specs.declared.node.Op.TheVariants.{Add, Multiply}
use Rattle.layout.specs.declared.node.Expression.{Expression}
use Rattle.layout.specs.Words.{used, limit, offset, is_constant}
use Rattle.layout.specs.NotCircuit.{not_circuit, bad_expression, bad_id}
use Rattle.classes.specs.Find.{Classed}
use Rattle.building.specs.Building.{Built, full}

-- the operand that a test of `operate` gives, where one applies: nothing else is left to do then
unfoldable pub simplified : List ℕ → Op → ℕ → ℕ → Option ℕ
simplified m Add l r =
    if is_constant 0 m r then Some l
    else if is_constant 0 m l then Some r
    else None
simplified m Multiply l r =
    if is_constant 1 m r then Some l
    else if is_constant 1 m l then Some r
    else if is_constant 0 m r then Some r
    else if is_constant 0 m l then Some l
    else None

-- what is asked

-- a circuit, and class tables that fit it
pub record Buildable (m num t least : List ℕ) : Type 0 where
  pub circuit : not_circuit m ≡ false
  pub classed : Classed m (used m) num t least

-- an expression that can be a node
pub record Makable (m num t least : List ℕ) (e : Expression) : Type 0 where
  pub buildable : Buildable m num t least
  pub good : bad_expression m e ≡ false

-- two nodes
pub record Operable (m num t least : List ℕ) (l r : ℕ) : Type 0 where
  pub buildable : Buildable m num t least
  pub left : l < used m
  pub right : r < used m

-- one node or more
pub record Summable (m num t least ids : List ℕ) : Type 0 where
  pub buildable : Buildable m num t least
  pub some : 1 ≤ length ids
  pub below : bad_id m ids ≡ false

-- what is given

-- there was room for what document 01 builds of m: its id, its circuit, and tables that fit that
pub record Taken (m : List ℕ) (b : Built) (i : ℕ) (m' num t least : List ℕ) : Type 0 where
  pub room : full m b ≡ false
  pub id : i ≡ b.id
  pub below : i < used m'
  pub after : m' ≡ b.circuit
  pub buildable : Buildable m' num t least

-- there was none
pub record Stopped (rest : Type 0) (m : List ℕ) (b : Built) : Type 0 where
  pub over : full m b ≡ true
  pub left : rest

abbrev pub Told : Type 0 → List ℕ → Built → Option ℕ → List ℕ → List ℕ → List ℕ → List ℕ → Type 0
Told rest m b (Some i) m' num t least = Taken m b i m' num t least
Told rest m b None m' num t least = Stopped rest m b

-- FULL is exact, and `rest` says what it leaves behind
pub record Step (rest : Type 0) (m : List ℕ) (b : Built) (r : Option ℕ) (m' num t least : List ℕ) : Type 0 where
  pub told : Told rest m b r m' num t least

-- every word as it was, and tables that fit
pub record Unchanged (m m' num t least : List ℕ) : Type 0 where
  pub same : m' ≡ m
  pub buildable : Buildable m' num t least

-- a step that changes nothing where it has no room
abbrev pub Stepped : List ℕ → Built → Option ℕ → List ℕ → List ℕ → List ℕ → List ℕ → Type 0
Stepped m b r m' num t least = Step (Unchanged m m' num t least) m b r m' num t least

-- the words besides the used count and the places that were taken are as they were; so many places at most
pub record Kept (most : ℕ) (m m' : List ℕ) : Type 0 where
  pub lengths : length m' ≡ length m
  pub grows : used m ≤ used m'
  pub few : used m' ≤ used m + most
  pub inside : used m' ≤ limit m
  pub words : (j : ℕ) → j ≢ 1 → ((j < offset (used m)) ⊎ (offset (used m') ≤ j)) → get_or m' j 0 ≡ get_or m j 0

-- a run of steps, which may have taken so many places when it finds that there is no room
abbrev pub Tried : ℕ → List ℕ → Built → Option ℕ → List ℕ → List ℕ → List ℕ → List ℕ → Type 0
Tried most m b r m' num t least = Step (Kept most m m') m b r m' num t least
