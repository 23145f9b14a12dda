-- The plan: which instruction works out a node, once its operands are. Assumes nothing.
use Rattle.std.specs.Prelude.{ℕ, ◌+◌, ◌-◌, ◌*◌, ◌<◌, ◌≤◌, ◌≡◌, true, false, List, length, set, ltb, eqb, if◌then◌else◌}
use Rattle.arithmetic.specs.declared.Triple.{Triple}
use Rattle.arithmetic.specs.Extension.{lift}
use Rattle.layout.specs.declared.node.Op.{Op}
use Rattle.layout.specs.declared.node.Op.TheVariants.{Add, Multiply}
use Rattle.layout.specs.declared.node.Position.{Position}
use Rattle.layout.specs.declared.node.Position.TheVariants.{Main, Aux, NextMain, NextAux}
use Rattle.layout.specs.declared.node.Expression.{Expression}
use Rattle.layout.specs.declared.node.Expression.TheVariants.{Base, Extension, Challenge, Operation, Input}
use Rattle.layout.specs.Words.{used, row_kind, expression_at, is_main}
use Rattle.layout.specs.Tree.{tree}
use Rattle.layout.specs.NotCircuit.{not_circuit}
use Rattle.circuit.specs.Rank.{at}
use Rattle.reading.specs.Readings.{Assignment, is_base, input_value, value}
use Rattle.reading.specs.Calls.{triple_at}
use Rattle.read.specs.Tables.{Filled}
use Rattle.read.specs.Values.{put_triple}
use Rattle.read.specs.Bases.{base_bit}
use Rattle.filler.specs.declared.run.Instruction.{Instruction}
use Rattle.filler.specs.declared.plan.Shape.{Shape}
use Rattle.filler.specs.declared.plan.Source.{Source}
use Rattle.filler.specs.declared.plan.Source.TheVariants.{Fixed, Word, Wide, Item, Join}
use Rattle.filler.specs.Running.{Values, instruction_at, ran, Sound, Roomy}

-- where a node's value comes from: nowhere, since it is the same in every row; a cell of the row; a new column's expression; two operands
abbrev pub source_of : Shape → Expression → Source
source_of s (Base w) = Fixed
source_of s (Extension x) = Fixed
source_of s (Challenge k) = Fixed
source_of s (Operation o l r) = Join o l r
source_of s (Input (Main c)) = if ltb c s.main then Word c else Item (c - s.main)
source_of s (Input (Aux c)) = if ltb c s.aux then Wide c else Item (s.fresh + (c - s.aux))
source_of s (Input (NextMain c)) = Word (s.row + c)
source_of s (Input (NextAux c)) = Wide (s.wide + c)

abbrev pub op_of : Op → ℕ
op_of Add = 1
op_of Multiply = 2

-- node i from its operands' entries a and b, by their base tests x and y: of a word and a triple the word stands left
abbrev pub joined : ℕ → Op → ℕ → ℕ → ℕ → ℕ → Instruction
joined i o x y a b =
    if eqb x y then (if eqb x 1 then record { op = op_of o; to = i; left = a; right = b } else record { op = op_of o + 3; to = i; left = a; right = b })
    else if eqb x 1 then record { op = op_of o + 5; to = i; left = a; right = b }
    else record { op = op_of o + 5; to = i; left = b; right = a }

-- a node whose value stands in an entry already: no instruction, which is 9
abbrev pub stays : ℕ → Instruction
stays i = record { op = 9; to = i; left = 0; right = 0 }

-- a new column's input i takes the entry of its expression e, but where the column is auxiliary and the expression passes the base test: a word is lifted
abbrev pub item_of : List ℕ → List ℕ → ℕ → ℕ → Instruction
item_of bases alias i e = if eqb (at bases i) (at bases e) then stays (at alias e) else record { op = 8; to = i; left = at alias e; right = 0 }

-- what works out node i, where `alias` says in which entry a node's value stands
abbrev pub planned_of : List ℕ → List ℕ → List ℕ → ℕ → Source → Instruction
planned_of bases targets alias i Fixed = stays i
planned_of bases targets alias i (Word c) = record { op = 0; to = i; left = c; right = 0 }
planned_of bases targets alias i (Wide c) = record { op = 3; to = i; left = c; right = 0 }
planned_of bases targets alias i (Item k) = item_of bases alias i (at targets k)
planned_of bases targets alias i (Join o l r) = joined i o (at bases l) (at bases r) (at alias l) (at alias r)

unfoldable pub planned : Shape → List ℕ → List ℕ → List ℕ → List ℕ → ℕ → Instruction
planned s m bases targets alias i = planned_of bases targets alias i (source_of s (expression_at m i))

-- one more instruction
abbrev pub put_four : List ℕ → ℕ → Instruction → List ℕ
put_four plan q x = set (set (set (set plan (4 * q) x.op) (4 * q + 1) x.to) (4 * q + 2) x.left) (4 * q + 3) x.right

abbrev pub pushed : List ℕ → ℕ → Instruction → List ℕ
pushed plan many x = if eqb x.op 9 then plan else put_four plan many x

abbrev pub pushed_many : ℕ → Instruction → ℕ
pushed_many many x = if eqb x.op 9 then many else many + 1

-- widths that leave room for a column's number
pub record Small (s : Shape) : Type 0 where
  pub main_small : s.row ≤ 1152921504606846976
  pub aux_small : s.wide ≤ 1152921504606846976
  pub new_small : s.fresh ≤ 8192

-- the nodes at or below the listed expressions, in an order in which each stands after its operands, and a new column's input after its expression
pub record Staged (s : Shape) (m targets order rank : List ℕ) (done : ℕ) : Type 0 where
  pub few : done ≤ used m
  pub order_below : (q : ℕ) → q < done → at order q < used m
  pub rank_order : (q : ℕ) → q < done → at rank (at order q) ≡ q
  pub order_rank : (i : ℕ) → i < used m → at rank i < used m → at order (at rank i) ≡ i
  pub rank_done : (i : ℕ) → i < used m → at rank i < used m → at rank i < done
  pub left_first : (i : ℕ) (o : Op) (l r : ℕ) → i < used m → at rank i < used m → expression_at m i ≡ Operation o l r → at rank l < at rank i
  pub right_first : (i : ℕ) (o : Op) (l r : ℕ) → i < used m → at rank i < used m → expression_at m i ≡ Operation o l r → at rank r < at rank i
  pub item_below : (i k : ℕ) → i < used m → at rank i < used m → source_of s (expression_at m i) ≡ Item k → k < s.items
  pub item-first : (i k : ℕ) → i < used m → at rank i < used m → source_of s (expression_at m i) ≡ Item k → at rank (at targets k) < at rank i
  pub item_fresh : (i k : ℕ) → i < used m → at rank i < used m → source_of s (expression_at m i) ≡ Item k → is_base (tree m i) ≡ true → k < s.fresh
  pub item_base : (i k : ℕ) → i < used m → at rank i < used m → source_of s (expression_at m i) ≡ Item k → is_base (tree m i) ≡ true → is_base (tree m (at targets k)) ≡ true
  pub word_in : (i c : ℕ) → i < used m → at rank i < used m → source_of s (expression_at m i) ≡ Word c → c < row_kind m * s.row
  pub wide_in : (i c : ℕ) → i < used m → at rank i < used m → source_of s (expression_at m i) ≡ Wide c → c < row_kind m * s.wide
  pub target_below : (k : ℕ) → k < s.items → at targets k < used m
  pub target_done : (k : ℕ) → k < s.items → at rank (at targets k) < used m

-- node i of a circuit, whose operands or expression have their entries
pub record Deciding (s : Shape) (m bases targets alias : List ℕ) (i : ℕ) : Type 0 where
  pub valid : not_circuit m ≡ false
  pub small : Small s
  pub here : i < used m
  pub bases_room : used m ≤ length bases
  pub alias_room : used m ≤ length alias
  pub item : (k : ℕ) → source_of s (expression_at m i) ≡ Item k → (k < length targets) × (at targets k < used m)

-- the value of node y stands in entry i
pub record Stands (a : Assignment) (m : List ℕ) (v : Values) (i y : ℕ) : Type 0 where
  pub word : is_base (tree m y) ≡ true → at v.0 i ≡ (value a (tree m y)).c0
  pub triple : is_base (tree m y) ≡ false → triple_at v.1 i ≡ value a (tree m y)

-- constants and challenges have their entries
pub record Ready (m challenges : List ℕ) (v : Values) : Type 0 where
  pub rooms : Roomy v.0 v.1
  pub base : (i w : ℕ) → i < used m → expression_at m i ≡ Base w → at v.0 i ≡ w
  pub extension : (i : ℕ) (x : Triple) → i < used m → expression_at m i ≡ Extension x → triple_at v.1 i ≡ x
  pub challenge : (i k : ℕ) → i < used m → expression_at m i ≡ Challenge k → triple_at v.1 i ≡ triple_at challenges k

-- an assignment in which the cells that are read are the row's, and each new column has its expression's value
pub record Says (s : Shape) (m targets challenges main aux : List ℕ) (a : Assignment) : Type 0 where
  pub cell : (i c : ℕ) (y : Position) → i < used m → expression_at m i ≡ Input y → source_of s (Input y) ≡ Word c → input_value a y ≡ lift (at main c)
  pub wide : (i c : ℕ) (y : Position) → i < used m → expression_at m i ≡ Input y → source_of s (Input y) ≡ Wide c → input_value a y ≡ triple_at aux c
  pub item : (i k : ℕ) (y : Position) → i < used m → expression_at m i ≡ Input y → source_of s (Input y) ≡ Item k → k < s.items → (is_main y ≡ true → k < s.fresh) → input_value a y ≡ value a (tree m (at targets k))
  pub given : (k : ℕ) → a.challenges k ≡ triple_at challenges k

-- a circuit with its base tests, its expressions and their order
pub record Plannable (s : Shape) (m bases targets order rank : List ℕ) (done : ℕ) : Type 0 where
  pub valid : not_circuit m ≡ false
  pub small : Small s
  pub bases_room : used m ≤ length bases
  pub base_bits : Filled (used m) (at bases) (base_bit m)
  pub targets_room : s.items ≤ length targets
  pub order_room : 4096 ≤ length order
  pub staged : Staged s m targets order rank done

-- the first q nodes of the order are planned: in any row that says an assignment, each node's value stands in its entry
pub record Planned (s : Shape) (m bases targets challenges order rank alias plan : List ℕ) (q many : ℕ) : Type 0 where
  pub few : many ≤ q
  pub sound : (k : ℕ) → k < many → Sound (row_kind m * s.row) (3 * (row_kind m * s.wide)) (instruction_at plan k)
  pub spares : (k : ℕ) → k < many → source_of s (expression_at m (instruction_at plan k).to) ≡ Fixed → ⊥
  pub entry_below : (j : ℕ) → j < q → at alias (at order j) < used m
  pub entry_rank : (j : ℕ) → j < q → at rank (at alias (at order j)) ≤ j
  pub entry_base : (j : ℕ) → j < q → at bases (at alias (at order j)) ≡ at bases (at order j)
  pub stand : (a : Assignment) (main aux : List ℕ) (v : Values) → Says s m targets challenges main aux a → Ready m challenges v
      → (j : ℕ) → j < q → Stands a m (ran plan main aux many v) (at alias (at order j)) (at order j)

-- node i's entry, where its expression is the same in every row
abbrev pub fixed_one : List ℕ → ℕ → Expression → Values → Values
fixed_one challenges i (Base w) v = (set v.0 i w, v.1)
fixed_one challenges i (Extension x) v = (v.0, put_triple v.1 i x)
fixed_one challenges i (Challenge k) v = (v.0, put_triple v.1 i (triple_at challenges k))
fixed_one challenges i (Operation o l r) v = v
fixed_one challenges i (Input q) v = v
