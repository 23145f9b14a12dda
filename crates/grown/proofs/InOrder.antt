-- Left to right at document 01's own examples, ((x·x)·x)·x and x²·a², grown by the calls. It is false of a circuit with two registered nodes alike, and of
-- a grown one where nodes are chosen by degree first. Assumes nothing.
use Rattle.std.specs.Prelude.{if◌then◌else◌}
use Prim.Native.Nat.{ℕ, zero, suc, ◌<◌}
use mathlib.Core.Path.{◌≡◌, refl, ap}
use mathlib.Core.Logic.{inl, inr}
use mathlib.Core.Bool.{true, ◌&&◌, ◌||◌}
use mathlib.Core.List.{List, [], ◌∷◌}
use native.Mathlib.Omega.{arith}
use lib.ListN.{replicate, get_or}
use lib.Dec.{ltb, eqb}
use Rattle.arithmetic.specs.Base.{minus_one}
use Rattle.layout.specs.declared.node.RowKind.TheVariants.{Single}
use Rattle.layout.specs.declared.node.Node.{Node}
use Rattle.layout.specs.declared.node.Position.TheVariants.{Main, Aux}
use Rattle.layout.specs.declared.node.Op.TheVariants.{Add, Multiply}
use Rattle.layout.specs.declared.node.Expression.{Expression}
use Rattle.layout.specs.declared.node.Expression.TheVariants.{Base, Extension, Challenge, Operation, Input}
use Rattle.layout.specs.Lists.{In, keep, each}
use Rattle.layout.specs.Words.{used, node_at, expression_at}
use Rattle.layout.specs.Tree.{tree}
use Rattle.layout.specs.Samples.{sample}
use Rattle.layout.specs.Calls.{start_call}
use Rattle.building.specs.Calls.{input_call, operation_call}
use Rattle.walking.specs.Paths.{walk}
use Rattle.reading.specs.Readings.{is_base}
use Rattle.lowering.specs.Lowering.{Candidate, candidates, Lowering, substituted}
use Rattle.lowering.specs.Calls.{lower_call, returned}
use Rattle.lowering.specs.Computing.{lower_computes}
use Rattle.grown.specs.Results.{Unique}
use Rattle.grown.specs.Grown as grown
use Rattle.grown.specs.Grown.{Grown}
use Rattle.grown.specs.Promise.{Difference}
use Rattle.grown.specs.Order.{Uses, Unaltered, first, LeftToRight}
use Rattle.grown.specs.Examples.{x²a², x²a²_after}
use Rattle.grown.proofs.Ordered.{unique_left_to_right, left-to-right}
use Rattle.grown.proofs.Examples.{x²a²_grown, x²a²_accepted}

-- ((x·x)·x)·x, in thirteen places

abbrev x : List ℕ
x = (input_call (start_call (replicate 80 0) Single).lent (Main 0)).lent

abbrev x² : List ℕ
x² = (operation_call x Multiply 0 0).lent

abbrev x³ : List ℕ
x³ = (operation_call x² Multiply 1 0).lent

abbrev pub line : Lowering
line = record { circuit = (operation_call x³ Multiply 2 0).lent; roots = 3 ∷ []; main = 0 ∷ 0 ∷ 0 ∷ []; aux = 0 ∷ 0 ∷ 0 ∷ [] }

abbrev pub line_after : Lowering
line_after = returned (lower_call 2 1 0 line)

line_grown : Grown line.circuit
unfolding lower_computes
line_grown =
    grown.operation x³ (grown.operation x² (grown.operation x (grown.input (start_call (replicate 80 0) Single).lent (grown.started (replicate 80 0) Single refl) (Main 0) refl) Multiply 0 0 refl) Multiply 1 0 refl) Multiply 2 0 refl

line_accepted : (lower_call 2 1 0 line).number ≡ 0
unfolding lower_computes
line_accepted = refl

pub line_ordered : LeftToRight 2 1 0 line.circuit (3 ∷ []) line_after
line_ordered = left-to-right 2 1 0 line line_grown line_accepted

-- two main constraints, 7 and 10; after one substitution there is the first, after two both, and the second added three nodes
line_lists : (line_after.main ≡ 7 ∷ 10 ∷ []) × ((first 2 1 0 line.circuit (3 ∷ []) 1).main ≡ 7 ∷ []) × (used (first 2 1 0 line.circuit (3 ∷ []) 1).circuit ≡ 8) × (used line_after.circuit ≡ 11)
unfolding lower_computes
line_lists = (refl, refl, refl, refl)

-- 10 is the input at the column 2 less node 2
second : Difference line_after.circuit (Main 2) (get_or line_after.main 1 0)
unfolding lower_computes
second = record { input = 8; product = 9; minus = 5; chosen = 2; is_input = refl; is_minus = refl; is_product = inl refl; is_sum = inl refl }

-- whose expression is (the first new column)·x: it reads column 1, and that is below 2; and it is of the base field
pub second_reads : (In 4 (walk (tree line_after.circuit 2)) × (expression_at line_after.circuit 4 ≡ Input (Main 1))) × ((1 < 2) × (is_base (tree line_after.circuit 2) ≡ true))
unfolding lower_computes second
second_reads = ((inl refl, refl), ((line_ordered.main 1 (omega arith) second).0.main 4 1 (inl refl) refl, (line_ordered.main 1 (omega arith) second).1))

-- the second substitution leaves 7 and what stands below it
pub seven_stays : Unaltered (first 2 1 0 line.circuit (3 ∷ []) 1).circuit (first 2 1 0 line.circuit (3 ∷ []) 2).circuit 7
unfolding lower_computes
seven_stays = line_ordered.listed 1 2 (omega arith) 7 (inl refl)

-- x²·a², with both lists

pub x²a²_ordered : LeftToRight 2 1 1 x²a².circuit (4 ∷ []) x²a²_after
x²a²_ordered = left-to-right 2 1 1 x²a² x²a²_grown x²a²_accepted

main_difference : Difference x²a²_after.circuit (Main 1) (get_or x²a²_after.main 0 0)
unfolding lower_computes
main_difference = record { input = 5; product = 7; minus = 6; chosen = 2; is_input = refl; is_minus = refl; is_product = inl refl; is_sum = inl refl }

aux_difference : Difference x²a²_after.circuit (Aux 1) (get_or x²a²_after.aux 0 0)
unfolding lower_computes
aux_difference = record { input = 9; product = 10; minus = 6; chosen = 3; is_input = refl; is_minus = refl; is_product = inl refl; is_sum = inl refl }

-- x² is read off column 0, and a² off the auxiliary column 0
pub x²a²_uses : Uses x²a²_after.circuit 2 1 1 1 1 × Uses x²a²_after.circuit 3 2 1 1 1
unfolding lower_computes main_difference aux_difference
x²a²_uses = ((x²a²_ordered.main 0 (omega arith) main_difference).0, x²a²_ordered.aux 0 (omega arith) aux_difference)

-- x, -1, x², x² again, that times -1, and that times x²: nodes 2 and 3 are registered and alike

abbrev pub alike_nodes : Lowering
alike_nodes = record { circuit = sample 1 12 (Input (Main 0) ∷ Base minus_one ∷ Operation Multiply 0 0 ∷ Operation Multiply 0 0 ∷ Operation Multiply 3 1 ∷ Operation Multiply 4 2 ∷ []); roots = 5 ∷ []; main = replicate 4 0; aux = replicate 4 0 }

pub alike_accepted : (lower_call 2 1 0 alike_nodes).number ≡ 0
unfolding lower_computes
alike_accepted = refl

-- node 4, of the first constraint, is x²·(-1) after one substitution, and (the second new column)·(-1) after two
alike_altered : ((first 2 1 0 alike_nodes.circuit (5 ∷ []) 1).main ≡ 7 ∷ []) × (expression_at (first 2 1 0 alike_nodes.circuit (5 ∷ []) 1).circuit 4 ≡ Operation Multiply 3 1) × (expression_at (first 2 1 0 alike_nodes.circuit (5 ∷ []) 2).circuit 4 ≡ Operation Multiply 8 1)
unfolding lower_computes
alike_altered = (refl, refl, refl)

left_operand : Node → ℕ
left_operand n = go n.expression
  where
    go : Expression → ℕ
    go (Base w) = 0
    go (Extension w) = 0
    go (Challenge w) = 0
    go (Operation o l r) = l
    go (Input w) = 0

-- so that "grown" is needed
pub alike_alters : LeftToRight 2 1 0 alike_nodes.circuit (5 ∷ []) (returned (lower_call 2 1 0 alike_nodes)) → ⊥
unfolding lower_computes left_operand
alike_alters h =
    let e : node_at (first 2 1 0 alike_nodes.circuit (5 ∷ []) 2).circuit 4 ≡ node_at (first 2 1 0 alike_nodes.circuit (5 ∷ []) 1).circuit 4 = (h.listed 1 2 (omega arith) 7 (inl refl)).nodes 4 (inr (inr (inr (inr (inr (inl refl)))))) in
    let k : ◌≡◌ {A = ℕ} 8 3 = ap left_operand e in
    omega arith

pub alike_not_unique : Unique alike_nodes.circuit → ⊥
alike_not_unique v = alike_alters (unique_left_to_right 2 1 0 alike_nodes v alike_accepted)

-- x, y, x², x² + y, (x² + y)·x, (x² + y)·x², x⁴; the last two are the roots, the target is 3
abbrev x_y : List ℕ
x_y = (input_call (input_call (start_call (replicate 140 0) Single).lent (Main 0)).lent (Main 1)).lent

abbrev summed : List ℕ
summed = (operation_call (operation_call x_y Multiply 0 0).lent Add 2 1).lent

abbrev times_x : List ℕ
times_x = (operation_call summed Multiply 3 0).lent

abbrev pub two_roots : Lowering
two_roots = record { circuit = (operation_call (operation_call times_x Multiply 4 0).lent Multiply 2 2).lent; roots = 5 ∷ 6 ∷ []; main = replicate 5 0; aux = replicate 5 0 }

two_roots_grown : Grown two_roots.circuit
unfolding lower_computes
two_roots_grown =
    grown.operation (operation_call times_x Multiply 4 0).lent
    (grown.operation times_x
    (grown.operation summed
    (grown.operation (operation_call x_y Multiply 0 0).lent
    (grown.operation x_y
    (grown.input (input_call (start_call (replicate 140 0) Single).lent (Main 0)).lent (grown.input (start_call (replicate 140 0) Single).lent (grown.started (replicate 140 0) Single refl) (Main 0) refl) (Main 1) refl)
    Multiply 0 0 refl)
    Add 2 1 refl)
    Multiply 3 0 refl)
    Multiply 4 0 refl)
    Multiply 2 2 refl

-- the rule of choice is needed: of those that occur, the highest degree first, then most occurrences, then the least id
abbrev higher : Candidate → Candidate → Candidate
higher a b = if ltb a.degree b.degree || eqb a.degree b.degree && ltb a.occurrences b.occurrences then b else a

abbrev highest : List Candidate → ℕ
highest [] = 0
highest (c ∷ cs) = (each higher c cs).id

-- two-roots after so many substitutions chosen like that
abbrev pub by_degree : ℕ → Lowering
by_degree zero = record { circuit = two_roots.circuit; roots = 5 ∷ 6 ∷ []; main = []; aux = [] }
by_degree (suc k) = let x : Lowering = by_degree k in substituted 2 0 x (highest (keep (λ (c : Candidate). ltb 0 c.occurrences) (candidates 3 x.circuit x.roots)))

-- (x² + y)·x goes first, as constraint 10, over node 3; the second substitution turns node 3, x² + y, into (the second new column) + y
pub by_degree_alters : ((by_degree 1).main ≡ 10 ∷ []) × (In 3 (walk (tree (by_degree 1).circuit 10)) × ((expression_at (by_degree 1).circuit 3 ≡ Operation Add 2 1) × (expression_at (by_degree 2).circuit 3 ≡ Operation Add 11 1)))
unfolding lower_computes
by_degree_alters = (refl, (inr (inr (inr (inr (inr (inr (inr (inl refl))))))), (refl, refl)))

-- document 01's rule chooses x² first, and lists are left to right
pub two_roots_ordered : LeftToRight 3 2 0 two_roots.circuit (5 ∷ 6 ∷ []) (returned (lower_call 3 2 0 two_roots))
unfolding lower_computes
two_roots_ordered = left-to-right 3 2 0 two_roots two_roots_grown refl
