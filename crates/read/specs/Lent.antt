-- The lent tables of an evaluation: how many columns they have. Assumes nothing.
use Rattle.std.specs.Prelude.{ℕ, ◌*◌, ◌/◌, ◌%◌, ◌≤◌, ◌≡◌, Bool, false, ◌&&◌, not, List, [], ◌∷◌, length, ltb, leb, eqb, if◌then◌else◌}
use Rattle.layout.specs.declared.node.Expression.{Expression}
use Rattle.layout.specs.declared.node.Expression.TheVariants.{Base, Extension, Challenge, Operation, Input}
use Rattle.layout.specs.Words.{row_kind, used, expression_at, is_main, column}
use Rattle.layout.specs.NotCircuit.{not_circuit, bad_id}
use Rattle.circuit.specs.Rank.{at}
use Rattle.paths.specs.Counting.{PathCounts}
use Rattle.read.specs.declared.table.Columns.{Columns}

-- of one row, and of the challenge list
abbrev pub columns_of : List ℕ → List ℕ → List ℕ → List ℕ → Columns
columns_of m main aux challenges =
    record { main = length main / row_kind m; aux = length aux / (3 * row_kind m); challenges = length challenges / 3 }

-- a length not divisible as its layout needs
abbrev pub uneven : List ℕ → List ℕ → List ℕ → List ℕ → Bool
uneven m main aux challenges = not (eqb (length main % row_kind m) 0 && (eqb (length aux % (3 * row_kind m)) 0 && eqb (length challenges % 3) 0))

-- an expression reads beyond them
abbrev pub beyond : Columns → Expression → Bool
beyond c (Base w) = false
beyond c (Extension x) = false
beyond c (Challenge k) = leb c.challenges k
beyond c (Operation o l r) = false
beyond c (Input q) = leb (if is_main q then c.main else c.aux) (column q)

-- node i has a path count, and reads beyond them
unfoldable pub beyond_at : List ℕ → List ℕ → Columns → ℕ → Bool
beyond_at m counts c i = ltb 0 (at counts i) && beyond c (expression_at m i)

-- a circuit, with a path count for each node
pub record Pathed (m counts : List ℕ) : Type 0 where
  pub valid : not_circuit m ≡ false
  pub room : used m ≤ length counts

-- the path counts are those from node i
pub record PathedFrom (m counts : List ℕ) (i : ℕ) : Type 0 where
  pub valid : not_circuit m ≡ false
  pub room : used m ≤ length counts
  pub ids : bad_id m (i ∷ []) ≡ false
  pub counted : PathCounts m (i ∷ []) counts
