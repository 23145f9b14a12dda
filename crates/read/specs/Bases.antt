-- Base tests in a table, as bits: 1 yes, 0 no. Assumes nothing.
use Rattle.std.specs.Prelude.{ℕ, min, List}
use Rattle.layout.specs.declared.node.Op.{Op}
use Rattle.layout.specs.declared.node.Expression.{Expression}
use Rattle.layout.specs.Lists.{bit}
use Rattle.layout.specs.Words.{expression_at}
use Rattle.layout.specs.Tree.{tree}
use Rattle.reading.specs.Readings.{leaf_is_base, is_base}
use Rattle.read.specs.Tables.{unknown, leaf_entry}

-- the base test of node i
unfoldable pub base_bit : List ℕ → ℕ → ℕ
base_bit m i = bit (is_base (tree m i))

-- what a table of base tests starts with
unfoldable pub base_entry : Expression → ℕ
base_entry e = leaf_entry (λ a. bit (leaf_is_base a)) unknown e

abbrev pub base_start : List ℕ → ℕ → ℕ
base_start m i = base_entry (expression_at m i)

-- of an operation: both operands pass
abbrev pub base_join : Op → ℕ → ℕ → ℕ
base_join o a b = min a b
