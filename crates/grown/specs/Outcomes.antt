-- "Each contract determines, for all inputs and refusals too, the answer and every lent word after the call": a line for each public call. A contract is
-- one equation, of what an answer and the lent words after it tell, with the call's outcome; so it can be met in one way only. Assumes nothing.
use Rattle.std.specs.Prelude.{ℕ, ◌≡◌, Bool, not, List}
use Rattle.arithmetic.specs.declared.Triple.{Triple}
use Rattle.layout.specs.declared.node.RowKind.{RowKind}
use Rattle.layout.specs.declared.node.Position.{Position}
use Rattle.layout.specs.declared.node.Op.{Op}
use Rattle.layout.specs.NotCircuit.{not_circuit}
use Rattle.layout.specs.Outcomes.{Outcome}
use Rattle.layout.specs.Answers.{told_start, told_node, told_count}
use Rattle.layout.specs.Calls.{start_call, read_call, used_call, free_call}
use Rattle.classes.specs.Classes.{equal_call}
use Rattle.classes.specs.Told.{told_equal}
use Rattle.building.specs.Told.{told_id}
use Rattle.building.specs.Calls.{input_call, challenge_call, base_call, zero_call, one_call, minus_one_call, extension_call, operation_call, subtract_call, negate_call, sum_call}
use Rattle.walking.specs.Told as paths
use Rattle.walking.specs.Calls.{walk_call, count_call, counts_call}
use Rattle.reading.specs.Answers.{told_test, told_degree, told_value}
use Rattle.reading.specs.Calls.{is_zero_call, is_one_call, is_minus_one_call, degree_call, highest_call, base_test_call, evaluate_call, visible_call}
use Rattle.lowering.specs.Lowering.{Lowering}
use Rattle.lowering.specs.Calls.{lower_call}
use Rattle.lower.specs.Told.{told_lowering}
use Rattle.filling.specs.Calls.{fill_call, fill_rows_call}
use Rattle.filling.specs.Answers.{told_fill}
use Rattle.framing.specs.States.{State}
use Rattle.framing.specs.Frames.{framed, frame_call}

-- two answers r and s, with the lent words x and y after them, that both tell the call's outcome are one answer and the same words. There is no
-- exception: no refusal has the number 0, which says that a call is accepted
abbrev pub Once : {R A L : Type 0} → (R → L → Outcome A L) → Outcome A L → Type 0
Once {R} {A} {L} told call = (r s : R) (x y : L) → told r x ≡ call → told s y ≡ call → (r ≡ s) × (x ≡ y)

-- the same where nothing is lent to be changed
abbrev pub AnswersOnce : {R A : Type 0} → (R → Outcome A (Unit {0})) → Outcome A (Unit {0}) → Type 0
AnswersOnce {R} told call = (r s : R) → told r ≡ call → told s ≡ call → r ≡ s

pub record Determined : Type 0 where
  -- circuit
  pub start : (m : List ℕ) (kind : RowKind) → Once told_start (start_call m kind)
  pub is_circuit : (m : List ℕ) (r s : Bool) → r ≡ not (not_circuit m) → s ≡ not (not_circuit m) → r ≡ s
  pub read : (m : List ℕ) (i : ℕ) → AnswersOnce told_node (read_call m i)
  pub used : (m : List ℕ) → AnswersOnce told_count (used_call m)
  pub free : (m : List ℕ) → AnswersOnce told_count (free_call m)
  pub equal : (m : List ℕ) (i j : ℕ) → AnswersOnce told_equal (equal_call m i j)
  -- building
  pub input : (m : List ℕ) (q : Position) → Once told_id (input_call m q)
  pub challenge : (m : List ℕ) (k : ℕ) → Once told_id (challenge_call m k)
  pub base_constant : (m : List ℕ) (w : ℕ) → Once told_id (base_call m w)
  pub zero : (m : List ℕ) → Once told_id (zero_call m)
  pub one : (m : List ℕ) → Once told_id (one_call m)
  pub minus_one : (m : List ℕ) → Once told_id (minus_one_call m)
  pub extension_constant : (m : List ℕ) (x : Triple) → Once told_id (extension_call m x)
  pub operation : (m : List ℕ) (o : Op) (l r : ℕ) → Once told_id (operation_call m o l r)
  pub subtract : (m : List ℕ) (a b : ℕ) → Once told_id (subtract_call m a b)
  pub negate : (m : List ℕ) (a : ℕ) → Once told_id (negate_call m a)
  pub sum : (m ids : List ℕ) → Once told_id (sum_call m ids)
  -- walking and counting
  pub walk : (m roots list stack : List ℕ) → Once paths.told_count (walk_call m roots list stack)
  pub count_references : (m roots : List ℕ) → Once paths.told_counted (count_call m roots)
  pub distinct_counts : (m : List ℕ) (i : ℕ) (list : List ℕ) → Once paths.told_count (counts_call m i list)
  -- readings
  pub is_zero : (m : List ℕ) (i : ℕ) → AnswersOnce told_test (is_zero_call m i)
  pub is_one : (m : List ℕ) (i : ℕ) → AnswersOnce told_test (is_one_call m i)
  pub is_minus_one : (m : List ℕ) (i : ℕ) → AnswersOnce told_test (is_minus_one_call m i)
  pub base-test : (m : List ℕ) (i : ℕ) → AnswersOnce told_test (base_test_call m i)
  pub degree : (m : List ℕ) (i : ℕ) → AnswersOnce told_degree (degree_call m i)
  pub highest : (m roots : List ℕ) → AnswersOnce told_degree (highest_call m roots)
  pub evaluate : (m : List ℕ) (i : ℕ) (main aux challenges : List ℕ) → AnswersOnce told_value (evaluate_call m i main aux challenges)
  pub visible : (m roots : List ℕ) → AnswersOnce told_count (visible_call m roots)
  -- lowering
  pub lower : (target main_count aux_count : ℕ) (lent : Lowering) → Once told_lowering (lower_call target main_count aux_count lent)
  -- filling
  pub fill : (main_count aux_count : ℕ) (m mains auxs challenges main aux : List ℕ) → Once told_fill (fill_call main_count aux_count m mains auxs challenges main aux)
  pub fill_rows : (main_count aux_count : ℕ) (m mains auxs challenges : List ℕ) (rows : ℕ) (main aux : List ℕ) → Once told_fill (fill_rows_call main_count aux_count m mains auxs challenges rows main aux)
  -- a line of the frame language: how many bytes its answer has, all that is kept, and the places lent for the answer
  pub frame : (s : State) (line answer : List ℕ) (n k : ℕ) (x y : State) (a b : List ℕ) → framed n x a ≡ frame_call s line answer → framed k y b ≡ frame_call s line answer → (n ≡ k) × ((x ≡ y) × (a ≡ b))
