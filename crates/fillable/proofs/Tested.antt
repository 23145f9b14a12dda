-- TABLE, test by test. Assumes nothing.
use Prim.Native.Nat.{ℕ}
use mathlib.Core.Path.{◌≡◌, refl, ap, ◌∙◌}
use mathlib.Core.Bool.{Bool, false, ◌||◌}
use mathlib.Core.List.{List}
use lib.Dec.{ltb}
use Rattle.layout.specs.declared.node.Expression.{Expression}
use Rattle.layout.specs.declared.node.Expression.TheVariants.{Base, Extension, Challenge, Operation, Input}
use Rattle.layout.specs.Lists.{any, up_to}
use Rattle.layout.specs.Words.{used, row_kind, expression_at}
use Rattle.layout.specs.NotCircuit.{not_circuit, bad_id}
use Rattle.walking.specs.Paths.{walks}
use Rattle.paths.specs.Counting.{PathCounts}
use Rattle.paths.proofs.Lengths.{walks_append}
use Rattle.read.specs.declared.table.Columns.{Columns}
use Rattle.read.specs.Lent.{beyond_at, beyond as beyond_tables}
use Rattle.read.proofs.Lists.{any_append}
use Rattle.read.proofs.Highest.{any_below}
use Rattle.filling.specs.Refusals.{beyond, bad_rows}
use Rattle.fillable.specs.Columned.{columns_in, uneven_in, too_narrow, read_beyond}

-- a read beyond a row is one beyond the tables of an evaluation that have its columns
same_beyond : (c : Columns) (e : Expression) → beyond_tables c e ≡ beyond c.main c.aux c.challenges e
same_beyond c (Base w) = refl
same_beyond c (Extension x) = refl
same_beyond c (Challenge k) = refl
same_beyond c (Operation o l r) = refl
same_beyond c (Input q) = refl

-- looked for among the nodes that have a path count
pub counted_beyond : (m roots counts : List ℕ) (c : Columns) → not_circuit m ≡ false → bad_id m roots ≡ false → PathCounts m roots counts → any (beyond_at m counts c) (up_to (used m)) ≡ read_beyond c m roots
unfolding beyond_at read_beyond
counted_beyond m roots counts c v k p =
    any_below m roots counts v k p (λ i. beyond_tables c (expression_at m i)) (λ i. beyond c.main c.aux c.challenges (expression_at m i)) (λ i l. same_beyond c (expression_at m i))

-- the tests in the order in which they are made: the two lists one after the other
pub rows_tests : (rows main_count aux_count : ℕ) (m mains auxs main aux challenges : List ℕ) (c : Columns) → c ≡ columns_in rows main aux challenges
    → bad_rows rows main_count aux_count m mains auxs main aux challenges
    ≡ (ltb rows (row_kind m) || uneven_in rows main aux challenges || too_narrow c main_count aux_count mains auxs || (read_beyond c m mains || read_beyond c m auxs))
unfolding bad_rows read_beyond
rows_tests rows main_count aux_count m mains auxs main aux challenges c is = rw is both
  where
    given : Columns
    given = columns_in rows main aux challenges

    test : ℕ → Bool
    test i = beyond given.main given.aux given.challenges (expression_at m i)

    both : bad_rows rows main_count aux_count m mains auxs main aux challenges
        ≡ (ltb rows (row_kind m) || uneven_in rows main aux challenges || too_narrow given main_count aux_count mains auxs || (read_beyond given m mains || read_beyond given m auxs))
    both =
        ap (λ (b : Bool). ltb rows (row_kind m) || uneven_in rows main aux challenges || too_narrow given main_count aux_count mains auxs || b)
        (ap (any test) (walks_append m mains auxs) ∙ any_append test (walks m mains) (walks m auxs))
