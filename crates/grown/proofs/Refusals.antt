-- A refused call answers zeros and leaves what was lent. Assumes nothing.
use Prim.Native.Nat.{ℕ, zero, suc}
use mathlib.Core.Path.{◌≡◌, refl}
use mathlib.Core.Logic.{◌≢◌}
use mathlib.Core.Bool.{Bool}
use mathlib.Core.List.{List}
use Rattle.layout.specs.Outcomes.{refusal, numbered, outcome}
use Rattle.layout.specs.Calls.{reading, start_call, read_call, used_call, free_call}
use Rattle.classes.specs.Classes.{equal_call}
use Rattle.building.specs.Calls.{building, input_call, challenge_call, base_call, zero_call, one_call, minus_one_call, extension_call, operation_call, subtract_call, negate_call, sum_call}
use Rattle.walking.specs.Calls.{walk_call, count_call, counts_call}
use Rattle.reading.specs.Calls.{constant_call, is_zero_call, is_one_call, is_minus_one_call, degree_call, highest_call, base_test_call, evaluate_call, visible_call}
use Rattle.lowering.specs.Calls.{lower_call}
use Rattle.filling.specs.Calls.{fill_outcome, fill_call, fill_rows_call}
use Rattle.grown.specs.Refusals.{Keeps, Refusals}

-- the one form of every outcome
keeps : {A L : Type 0} (tests : List (ℕ × Bool)) (values : A) (after : L) (zeros : A) (lent : L) → Keeps (outcome tests values after zeros lent) zeros lent
unfolding outcome
keeps tests values after zeros lent = go (refusal tests)
  where
    go : (n : ℕ) → (numbered n values after zeros lent).number ≢ 0 → ((numbered n values after zeros lent).values ≡ zeros) × ((numbered n values after zeros lent).lent ≡ lent)
    go zero h = absurd (h refl)
    go (suc n) h = (refl, refl)

pub refusals : Refusals
unfolding start_call reading read_call used_call free_call equal_call building input_call challenge_call base_call zero_call one_call minus_one_call extension_call operation_call subtract_call negate_call sum_call walk_call count_call counts_call constant_call is_zero_call is_one_call is_minus_one_call degree_call highest_call base_test_call evaluate_call visible_call lower_call fill_outcome fill_call fill_rows_call
refusals =
    record {
      start = λ m kind. keeps _ _ _ _ _;
      read = λ m i. keeps _ _ _ _ _;
      used = λ m. keeps _ _ _ _ _;
      free = λ m. keeps _ _ _ _ _;
      equal = λ m i j. keeps _ _ _ _ _;
      input = λ m q. keeps _ _ _ _ _;
      challenge = λ m k. keeps _ _ _ _ _;
      base_constant = λ m w. keeps _ _ _ _ _;
      zero = λ m. keeps _ _ _ _ _;
      one = λ m. keeps _ _ _ _ _;
      minus_one = λ m. keeps _ _ _ _ _;
      extension_constant = λ m x. keeps _ _ _ _ _;
      operation = λ m o l r. keeps _ _ _ _ _;
      subtract = λ m a b. keeps _ _ _ _ _;
      negate = λ m a. keeps _ _ _ _ _;
      sum = λ m ids. keeps _ _ _ _ _;
      walk = λ m roots list stack. keeps _ _ _ _ _;
      count_references = λ m roots. keeps _ _ _ _ _;
      distinct_counts = λ m i list. keeps _ _ _ _ _;
      is_zero = λ m i. keeps _ _ _ _ _;
      is_one = λ m i. keeps _ _ _ _ _;
      is_minus_one = λ m i. keeps _ _ _ _ _;
      base-test = λ m i. keeps _ _ _ _ _;
      degree = λ m i. keeps _ _ _ _ _;
      highest = λ m roots. keeps _ _ _ _ _;
      evaluate = λ m i main aux challenges. keeps _ _ _ _ _;
      visible = λ m roots. keeps _ _ _ _ _;
      lower = λ target main_count aux_count lent. keeps _ _ _ _ _;
      fill = λ main_count aux_count m mains auxs challenges main aux. keeps _ _ _ _ _;
      fill_rows = λ main_count aux_count m mains auxs challenges rows main aux. keeps _ _ _ _ _;
    }
