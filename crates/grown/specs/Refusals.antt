-- "A refusal returns its number and zero elsewhere; circuit, roots, counts, lists and walk stack stay as lent": a line for each public call that can
-- refuse. Assumes nothing.
use Rattle.std.specs.Prelude.{ℕ, ◌≡◌, ◌≢◌, false, List, pos}
use Rattle.arithmetic.specs.declared.Triple.{Triple}
use Rattle.arithmetic.specs.Extension.{triple}
use Rattle.layout.specs.declared.node.RowKind.{RowKind}
use Rattle.layout.specs.declared.node.Position.{Position}
use Rattle.layout.specs.declared.node.Op.{Op}
use Rattle.layout.specs.Outcomes.{Outcome}
use Rattle.layout.specs.Calls.{no_node, start_call, read_call, used_call, free_call}
use Rattle.classes.specs.Classes.{equal_call}
use Rattle.building.specs.Calls.{input_call, challenge_call, base_call, zero_call, one_call, minus_one_call, extension_call, operation_call, subtract_call, negate_call, sum_call}
use Rattle.walking.specs.Calls.{walk_call, count_call, counts_call}
use Rattle.reading.specs.Calls.{is_zero_call, is_one_call, is_minus_one_call, degree_call, highest_call, base_test_call, evaluate_call, visible_call}
use Rattle.lowering.specs.Lowering.{Lowering}
use Rattle.lowering.specs.Calls.{lower_call}
use Rattle.filling.specs.Calls.{fill_call, fill_rows_call}

-- a call that is refused answers zeros, and leaves what was lent
abbrev pub Keeps : {A L : Type 0} → Outcome A L → A → L → Type 0
Keeps call zeros lent = call.number ≢ 0 → (call.values ≡ zeros) × (call.lent ≡ lent)

pub record Refusals : Type 0 where
  pub start : (m : List ℕ) (kind : RowKind) → Keeps (start_call m kind) tt m
  pub read : (m : List ℕ) (i : ℕ) → Keeps (read_call m i) no_node tt
  pub used : (m : List ℕ) → Keeps (used_call m) 0 tt
  pub free : (m : List ℕ) → Keeps (free_call m) 0 tt
  pub equal : (m : List ℕ) (i j : ℕ) → Keeps (equal_call m i j) false tt
  pub input : (m : List ℕ) (q : Position) → Keeps (input_call m q) 0 m
  pub challenge : (m : List ℕ) (k : ℕ) → Keeps (challenge_call m k) 0 m
  pub base_constant : (m : List ℕ) (w : ℕ) → Keeps (base_call m w) 0 m
  pub zero : (m : List ℕ) → Keeps (zero_call m) 0 m
  pub one : (m : List ℕ) → Keeps (one_call m) 0 m
  pub minus_one : (m : List ℕ) → Keeps (minus_one_call m) 0 m
  pub extension_constant : (m : List ℕ) (x : Triple) → Keeps (extension_call m x) 0 m
  pub operation : (m : List ℕ) (o : Op) (l r : ℕ) → Keeps (operation_call m o l r) 0 m
  pub subtract : (m : List ℕ) (a b : ℕ) → Keeps (subtract_call m a b) 0 m
  pub negate : (m : List ℕ) (a : ℕ) → Keeps (negate_call m a) 0 m
  pub sum : (m ids : List ℕ) → Keeps (sum_call m ids) 0 m
  pub walk : (m roots list stack : List ℕ) → Keeps (walk_call m roots list stack) 0 (list, stack)
  pub count_references : (m roots : List ℕ) → Keeps (count_call m roots) tt m
  pub distinct_counts : (m : List ℕ) (i : ℕ) (list : List ℕ) → Keeps (counts_call m i list) 0 list
  pub is_zero : (m : List ℕ) (i : ℕ) → Keeps (is_zero_call m i) false tt
  pub is_one : (m : List ℕ) (i : ℕ) → Keeps (is_one_call m i) false tt
  pub is_minus_one : (m : List ℕ) (i : ℕ) → Keeps (is_minus_one_call m i) false tt
  pub base-test : (m : List ℕ) (i : ℕ) → Keeps (base_test_call m i) false tt
  pub degree : (m : List ℕ) (i : ℕ) → Keeps (degree_call m i) (pos 0) tt
  pub highest : (m roots : List ℕ) → Keeps (highest_call m roots) (pos 0) tt
  pub evaluate : (m : List ℕ) (i : ℕ) (main aux challenges : List ℕ) → Keeps (evaluate_call m i main aux challenges) (triple 0 0 0) tt
  pub visible : (m roots : List ℕ) → Keeps (visible_call m roots) 0 tt
  pub lower : (target main_count aux_count : ℕ) (lent : Lowering) → Keeps (lower_call target main_count aux_count lent) (0, 0) lent
  pub fill : (main_count aux_count : ℕ) (m mains auxs challenges main aux : List ℕ) → Keeps (fill_call main_count aux_count m mains auxs challenges main aux) tt (main, aux)
  pub fill_rows : (main_count aux_count : ℕ) (m mains auxs challenges : List ℕ) (rows : ℕ) (main aux : List ℕ) → Keeps (fill_rows_call main_count aux_count m mains auxs challenges rows main aux) tt (main, aux)
