-- What words that are a circuit give: room for each place, nodes without fault, operands below the used count, paths that end. Assumes nothing.
use mathlib.Core.Path.{◌≡◌, sym, ap, ◌∙◌}
use mathlib.Core.Bool.{false, ◌||◌, not}
use mathlib.Core.List.{List}
use Prim.Native.Nat.{ℕ, ◌+◌, ◌<◌, ◌≤◌}
use native.Mathlib.Omega.{arith}
use lib.Dec.{ltb, leb, eqb}
use lib.ListN.{length}
use borrow.Author.Tests.{ltb-false, leb-false}
use Rattle.layout.specs.declared.node.Op.{Op}
use Rattle.layout.specs.declared.node.Expression.TheVariants.{Operation}
use Rattle.layout.specs.Lists.{any, up_to}
use Rattle.layout.specs.Words.{row_kind, used, limit, offset, word, expression_at}
use Rattle.layout.specs.NotCircuit.{bad_header, bad_node, bad_expression, cyclic, goes_on, not_circuit}
use Rattle.layout.proofs.Tests.{neither, any_at}

-- a place that is lent has its six words
pub place_fits : (m : List ℕ) (i : ℕ) → i < limit m → offset i + 6 ≤ length m
unfolding limit
place_fits m i h = omega arith

-- at most 4,096
pub limit_top : (m : List ℕ) → limit m ≤ 4096
unfolding limit
limit_top m = omega arith

-- a header without fault
pub header_room : (m : List ℕ) → bad_header m ≡ false → (2 ≤ length m) × (used m ≤ limit m)
unfolding bad_header
header_room m h =
    let a = neither (ltb (length m) 2) _ h in
    let b = neither (not (eqb (row_kind m) 1 || eqb (row_kind m) 2)) (ltb (limit m) (used m)) a.1 in
    (ltb-false (length m) 2 a.0, ltb-false (limit m) (used m) b.1)

pub header_top : (m : List ℕ) → bad_header m ≡ false → used m ≤ 4096
header_top m h = let r = (header_room m h).1 in let t = limit_top m in omega arith

-- its nodes have their six words
pub header_fits : (m : List ℕ) (i : ℕ) → bad_header m ≡ false → i < used m → offset i + 6 ≤ length m
header_fits m i h l = let r = (header_room m h).1 in place_fits m i (omega arith)

-- the operands of a node without fault are nodes
pub node_operands : (m : List ℕ) (i : ℕ) → bad_node m i ≡ false → (o : Op) (l r : ℕ) → expression_at m i ≡ Operation o l r → (l < used m) × (r < used m)
unfolding bad_node bad_expression
node_operands m i g o l r e =
    let x = (neither (ltb 1 (word m i 4)) _ (neither (ltb 8 (word m i 0)) _ g).1).1 in
    let h = neither (leb (used m) l) (leb (used m) r) (sym (ap (bad_expression m) e) ∙ x) in
    (leb-false (used m) l h.0, leb-false (used m) r h.1)

module _ (m : List ℕ) (valid : not_circuit m ≡ false) where
  pub valid_header : bad_header m ≡ false
  unfolding not_circuit
  valid_header = (neither (bad_header m) _ valid).0

  -- the used count is within the lent places
  pub valid_room : used m ≤ limit m
  valid_room = (header_room m valid_header).1

  pub valid_length : 2 ≤ length m
  valid_length = (header_room m valid_header).0

  pub valid_nodes : (any (bad_node m) (up_to (used m)) ≡ false) × (cyclic m ≡ false)
  unfolding not_circuit
  valid_nodes = neither (any (bad_node m) (up_to (used m))) (cyclic m) (neither (bad_header m) _ valid).1

  module _ (i : ℕ) (here : i < used m) where
    -- each node has its six words
    pub valid_fits : offset i + 6 ≤ length m
    valid_fits = header_fits m i valid_header here

    -- each node is without fault
    pub valid_node : bad_node m i ≡ false
    valid_node = any_at (bad_node m) (used m) i here valid_nodes.0

    -- each path from it ends
    pub valid_ends : goes_on m (used m) i ≡ false
    unfolding cyclic
    valid_ends = any_at (goes_on m (used m)) (used m) i here valid_nodes.1

    -- the operands of an operation are nodes
    pub valid_operands : (o : Op) (l r : ℕ) → expression_at m i ≡ Operation o l r → (l < used m) × (r < used m)
    valid_operands = node_operands m i valid_node
